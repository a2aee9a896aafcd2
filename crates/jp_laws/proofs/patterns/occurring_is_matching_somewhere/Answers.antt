use Rattle.jp_laws.specs.Patterns.{somewhere}
use Rattle.jp_laws.proofs.Somewhere.{around, inside}
use Rattle.jp_laws.proofs.patterns.occurring_is_matching_somewhere.Goals as goal

pub returns : goal.returns
returns c = λ r text h. (
  λ o. (c.membership_is_decided.ensures (somewhere r) text).1 (around r text h ((c.occurrence_is_decided.ensures r text).0 o)),
  λ m. (c.occurrence_is_decided.ensures r text).1 (inside r text ((c.membership_is_decided.ensures (somewhere r) text).0 m)),
)
