use Rattle.std.proofs.Common.{ap, arith, length}
use Rattle.jp_values.proofs.members.Searched.new.Goals as goal

pub returns-clause-kept : goal.returns-clause-kept
returns-clause-kept c = λ h. let none = ap length c.new.ensures.items in absurd (omega (arith, none, h))
