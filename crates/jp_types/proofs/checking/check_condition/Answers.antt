use Rattle.std.proofs.Common.{◌≡◌, ◌∙◌, sym, ap, true, false}
use Rattle.jp_model.specs.Query.Limits.{knows_functions, logical_passes}
use Rattle.jp_model.specs.Query.Typing.{logical_typed, segments_typed}
use Rattle.jp_syntax.specs.Queries.{condition_view}
use Rattle.jp_syntax.specs.Filters.{filter_by}
use Rattle.jp_types.specs.Limits.{limit_tests}
use Rattle.jp_types.specs.declared.limits.Limit.TheVariants as limits
use Rattle.jp_types.proofs.Known.{segments_known}
use Rattle.jp_types.proofs.Faults.{filter_known, filter_typed, unknown_fault, types_fault, no_fault}
use Rattle.jp_types.proofs.checking.check_condition.Goals as goal

pub new-requires-then-logical_typed : goal.new-requires-then-logical_typed
new-requires-then-logical_typed c = sym (c.logical_typed.ensures ∙ ap logical_typed c.expression.ensures.value) ∙ c.if-logical_typed.true

pub returns-then-logical_typed-clause-fault : goal.returns-then-logical_typed-clause-fault
returns-then-logical_typed-clause-fault c =
    let l = condition_view c.args.condition in
    let t : segments_typed (filter_by l) ≡ true = filter_typed l true (sym (c.logical_typed.ensures ∙ ap logical_typed c.expression.ensures.value) ∙ c.if-logical_typed.true) in
    no_fault (filter_by l) c.expression.ensures.well_formed (segments_known (filter_by l) t) t

pub returns-then-logical_passes-clause-fault : goal.returns-then-logical_passes-clause-fault
returns-then-logical_passes-clause-fault c =
    let l = condition_view c.args.condition in
    let t : segments_typed (filter_by l) ≡ false = filter_typed l false (sym (c.logical_typed.ensures ∙ ap logical_typed c.expression.ensures.value) ∙ c.if-logical_typed.false) in
    let k : knows_functions (filter_by l) ≡ true = filter_known l true (sym (c.logical_passes.ensures ∙ ap (λ m. logical_passes m (limit_tests limits.Functions)) c.expression-2.ensures.value) ∙ c.if-logical_passes.true) in
    types_fault (filter_by l) c.expression.ensures.well_formed k t

pub returns-clause-fault : goal.returns-clause-fault
returns-clause-fault c =
    let l = condition_view c.args.condition in
    let k : knows_functions (filter_by l) ≡ false = filter_known l false (sym (c.logical_passes.ensures ∙ ap (λ m. logical_passes m (limit_tests limits.Functions)) c.expression-2.ensures.value) ∙ c.if-logical_passes.false) in
    unknown_fault (filter_by l) c.expression.ensures.well_formed k
