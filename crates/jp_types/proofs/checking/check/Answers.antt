use Rattle.std.proofs.Common.{◌≡◌, ◌∙◌, sym, ap, true, false}
use Rattle.jp_model.specs.Query.Limits.{knows_functions}
use Rattle.jp_model.specs.Query.Typing.{segments_typed}
use Rattle.jp_syntax.specs.Queries.{query_view}
use Rattle.jp_types.proofs.Known.{segments_known}
use Rattle.jp_types.proofs.Faults.{unknown_fault, types_fault, no_fault}
use Rattle.jp_types.proofs.checking.check.Goals as goal

pub new-requires-then-segments_typed : goal.new-requires-then-segments_typed
new-requires-then-segments_typed c =
    let t : segments_typed (query_view c.args.query) ≡ true = sym (c.segments_typed.ensures ∙ ap segments_typed c.segments.ensures.value) ∙ c.if-segments_typed.true in
    record { known = segments_known (query_view c.args.query) t; typed = t }

pub returns-then-segments_typed-clause-fault : goal.returns-then-segments_typed-clause-fault
returns-then-segments_typed-clause-fault c =
    let t : segments_typed (query_view c.args.query) ≡ true = sym (c.segments_typed.ensures ∙ ap segments_typed c.segments.ensures.value) ∙ c.if-segments_typed.true in
    no_fault (query_view c.args.query) c.segments.ensures.well_formed (segments_known (query_view c.args.query) t) t

pub returns-then-segments_pass-clause-fault : goal.returns-then-segments_pass-clause-fault
returns-then-segments_pass-clause-fault c =
    let t : segments_typed (query_view c.args.query) ≡ false = sym (c.segments_typed.ensures ∙ ap segments_typed c.segments.ensures.value) ∙ c.if-segments_typed.false in
    let k : knows_functions (query_view c.args.query) ≡ true = sym (c.segments_pass.ensures ∙ ap knows_functions c.segments-2.ensures.value) ∙ c.if-segments_pass.true in
    types_fault (query_view c.args.query) c.segments.ensures.well_formed k t

pub returns-clause-fault : goal.returns-clause-fault
returns-clause-fault c =
    let k : knows_functions (query_view c.args.query) ≡ false = sym (c.segments_pass.ensures ∙ ap knows_functions c.segments-2.ensures.value) ∙ c.if-segments_pass.false in
    unknown_fault (query_view c.args.query) c.segments.ensures.well_formed k
