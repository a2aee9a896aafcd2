use Rattle.std.proofs.Common.{chars, ap, ◌∙◌}
use Rattle.std.proofs.lemmas.Str.{chars-nil}
use Rattle.jp_query.proofs.parser.scalars.to_text.Goals as goal

pub loop-c-init : goal.loop-c-init
loop-c-init c = ap chars c.in_ok-text.ensures.bytes ∙ chars-nil
