use Rattle.std.proofs.Common.{subst, sym}
use Rattle.jp_model.specs.declared.QueryFault.{QueryFault}
use Rattle.jp_query.specs.Conditions.{RefusesCondition}
use Rattle.jp_syntax.specs.Queries.{condition_view}
use Rattle.jp_query.proofs.Faults.{refuses_condition}
use Rattle.jp_query.proofs.reading.read_condition.Goals as goal

pub returns-in_ok-place_of_call-in-Err-clause-refused : goal.returns-in_ok-place_of_call-in-Err-clause-refused
returns-in_ok-place_of_call-in-Err-clause-refused c =
    let refused = refuses_condition c.args.text.now (condition_view c.in-Ok.condition) c.in-Err.fault c.in-Ok.ensures.found.0 c.in-Ok.ensures.found.1 c.in-Err.ensures.fault in
    (subst (λ (fault : QueryFault). RefusesCondition c.args.text.now fault) (sym c.in_ok-place_of_call-in-Err.ensures.fault) refused, c.in_ok-place_of_call-in-Err.ensures.place)
