use Rattle.std.proofs.Common.{◌≡◌, ap, ◌∙◌, chars}
use Rattle.jp_query.specs.Integers.{clamp}
use Rattle.jp_query.proofs.Outcomes.{read_of_scalars}
use Rattle.jp_query.proofs.RelativeOutcomes.{not_read_behind, relative_of_scalars}
use Rattle.jp_query.proofs.parser.read.Goals as goal
use Rattle.jp_syntax.specs.View.{origin_view}

pub returns-in_default : goal.returns-in_default
returns-in_default c = not_read_behind (origin_view c.args.origin) clamp c.args.text.now c.in_default.ensures

pub returns-in-Root : goal.returns-in-Root
returns-in-Root c =
    let e : c.new-parser.result.rest.now ≡ chars c.args.text.now = c.new-parser.ensures ∙ (c.deref.ensures.value ∙ (c.in_ok-scalars.ensures ∙ ap chars c.in-Ok.ensures.0)) in
    rw (c.in-Root.is, read_of_scalars clamp c.args.text.now c.in-Ok.ensures.1, ← e) c.query_segments.ensures

pub returns : goal.returns
returns c =
    let e : c.new-parser.result.rest.now ≡ chars c.args.text.now = c.new-parser.ensures ∙ (c.deref.ensures.value ∙ (c.in_ok-scalars.ensures ∙ ap chars c.in-Ok.ensures.0)) in
    rw (c.in-Current.is, relative_of_scalars clamp c.args.text.now c.in-Ok.ensures.1, ← e) c.relative_segments.ensures
