use Rattle.std.proofs.Common.{◌∙◌, ap}
use Rattle.std.specs.Ordering.{is_eq}
use Rattle.std.proofs.lemmas.Map.Text.{is_eq-slice_cmp}
use Rattle.jp_strings.proofs.Runs.{equal_turned}
use Rattle.jp_strings.specs.Points.{points_of}
use Rattle.std.specs.Str.{chars}
use Rattle.jp_strings.proofs.order.spells_by_scalars.Goals as goal

pub returns : goal.returns
returns c = c.is_eq.ensures ∙ (ap is_eq c.compare_text_scalars.ensures ∙ (is_eq-slice_cmp (points_of c.args.body.now) (chars c.args.text.now) ∙ equal_turned (points_of c.args.body.now) (chars c.args.text.now)))
