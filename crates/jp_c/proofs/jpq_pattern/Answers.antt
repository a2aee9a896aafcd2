-- The text is refused by the fault that is told.
use Rattle.std.proofs.Common.{subst}
use Rattle.jp_query.specs.declared.reading.Refusal.{Refusal}
use Rattle.jp_c.specs.Faults.{Tells}
use Rattle.jp_c.proofs.Telling.{told_refused}
use Rattle.jp_c.proofs.jpq_pattern.Goals as goal

pub returns-in-Err-Fault-clause-refused : goal.returns-in-Err-Fault-clause-refused
returns-in-Err-Fault-clause-refused c =
    let told = subst (λ (r : Refusal). Tells c.args.is_condition c.args.text.now r) c.in-Err-Fault.field-0-is c.in-Err-Fault.ensures.refused in
    λ _. told_refused c.args.is_condition c.args.text.now c.in-Err-Fault.field-0-0 told
