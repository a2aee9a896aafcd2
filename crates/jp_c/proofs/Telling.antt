-- A text that is read is refused by no fault.
use Rattle.std.proofs.Common.{◌≡◌, ◌∙◌, ℕ, List, Bool, true, false, ap, sym, Option, Some, None}
use Rattle.std.specs.Prelude.{IsFalse, IsTrue, chars}
use Rattle.std.proofs.lemmas.Bool.{false≢true}
use Rattle.jp_model.specs.declared.QueryFault.{QueryFault}
use Rattle.jp_model.specs.declared.QueryFault.TheVariants as faults
use Rattle.jp_model.specs.Query.Limits.{is_oversized}
use Rattle.jp_model.specs.Query.Status.{fault_of_query, query, refused_query}
use Rattle.jp_model.specs.Query.Syntax.{Logical, Segments}
use Rattle.jp_query.proofs.Statuses.{one_tree}
use Rattle.jp_query.specs.Conditions.{ConditionHasFault, RefusesCondition}
use Rattle.jp_query.specs.Refusals.{IsConditionOf}
use Rattle.jp_query.specs.declared.parser.places.FaultPlace.{FaultPlace}
use Rattle.jp_query.specs.declared.reading.Refusal.TheVariants as refusals
use Rattle.jp_syntax.specs.Filters.{filter_by, in_filter}
use Rattle.jp_c.specs.Faults.{IsRefusedBy, IsRefusedBySome, IsTextRead, Tells}

no_status : (q : Segments) (fault : QueryFault) → query q ≡ refused_query fault → ⊥
no_status q fault e = cc

no_fault : (fault : QueryFault) → ◌≡◌ {A = Option QueryFault} None (Some fault) → ⊥
no_fault fault e = cc

both_ways : (b : Bool) → IsFalse b → IsTrue b → ⊥
both_ways b f t = false≢true (sym f ∙ t)

-- an expression has one first fault
one_fault : (text : List ℕ) (l : Logical) (fault : QueryFault) → IsConditionOf text l → ConditionHasFault text (Some fault) → ⊥
one_fault text l fault h k =
    no_fault fault (sym h.2 ∙ ap fault_of_query (one_tree (chars (in_filter text)) (filter_by l) (filter_by k.1) h.1.1 k.2.1) ∙ k.3)

condition_refused : (text : List ℕ) (l : Logical) (fault : QueryFault) → IsConditionOf text l → RefusesCondition text fault → ⊥
condition_refused text l faults.Size h k = both_ways (is_oversized (in_filter text)) h.0 k
condition_refused text l faults.Syntax h k = k.1 l h.1
condition_refused text l faults.Integer h k = one_fault text l faults.Integer h k
condition_refused text l faults.Number h k = one_fault text l faults.Number h k
condition_refused text l faults.Function h k = one_fault text l faults.Function h k
condition_refused text l faults.Types h k = one_fault text l faults.Types h k

pub read_not_refused : (is_condition : Bool) (text : List ℕ) (fault : QueryFault) → IsTextRead is_condition text → IsRefusedBy is_condition text fault → ⊥
read_not_refused false text fault h k = no_status h.0 fault (sym h.1 ∙ k)
read_not_refused true text fault h k = condition_refused text h.0 fault h.1 k

-- a fault that is told is one
pub told_refused : (is_condition : Bool) (text : List ℕ) (place : FaultPlace) → Tells is_condition text (refusals.Fault place) → IsRefusedBySome is_condition text
told_refused false text place h = (place.fault, h.0)
told_refused true text place h = (place.fault, h.0)
