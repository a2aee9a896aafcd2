-- Where a fault is told, the text is not read.
use Rattle.jp_c.proofs.Telling.{read_not_refused}
use Rattle.jp_c.proofs.jpq_fault.Goals as goal

pub returns-in-Ok-Some-clause-only : goal.returns-in-Ok-Some-clause-only
returns-in-Ok-Some-clause-only c =
    let told = rw c.in-Ok-Some.field-0-is at c.in-Ok-Some.ensures in
    λ h. absurd (read_not_refused c.args.is_condition c.args.text.now c.in-Ok-Some.found.fault h told.0)
