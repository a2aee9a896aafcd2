-- The faults of the tree that a condition's text spells.
use Rattle.std.proofs.Common.{◌≡◌, ℕ, List, Bool, true, false, cond, not, IsFalse, Some, None, refl}
use Rattle.jp_model.specs.declared.QueryFault.{QueryFault}
use Rattle.jp_model.specs.declared.QueryFault.TheVariants as faults
use Rattle.jp_model.specs.Query.Limits.{is_oversized, has_exact_integers, has_small_exponents, knows_functions}
use Rattle.jp_model.specs.Query.Status.{fault_of_query}
use Rattle.jp_model.specs.Query.Syntax.{Logical}
use Rattle.jp_model.specs.Query.Typing.{segments_typed}
use Rattle.jp_query.specs.Conditions.{RefusesCondition}
use Rattle.jp_syntax.specs.Filters.{SpellsCondition, filter_by, in_filter}

-- a tree has no fault of the size or of the grammar of its text
module _ (fault : QueryFault) where
  tree_fault : (exact small known typed : Bool) → cond (not exact) (Some faults.Integer) (cond (not small) (Some faults.Number) (cond (not known) (Some faults.Function) (cond (not typed) (Some faults.Types) None))) ≡ Some fault
      → (fault ≡ faults.Size → ⊥) × (fault ≡ faults.Syntax → ⊥)
  tree_fault false small known typed h = ((λ e. cc), (λ e. cc))
  tree_fault true false known typed h = ((λ e. cc), (λ e. cc))
  tree_fault true true false typed h = ((λ e. cc), (λ e. cc))
  tree_fault true true true false h = ((λ e. cc), (λ e. cc))
  tree_fault true true true true h = ((λ e. cc), (λ e. cc))

-- a fault of the tree that a condition's text spells refuses the text
pub refuses_condition : (text : List ℕ) (l : Logical) (fault : QueryFault) → IsFalse (is_oversized (in_filter text)) → SpellsCondition text l → fault_of_query (filter_by l) ≡ Some fault → RefusesCondition text fault
refuses_condition text l faults.Size sized spelled h = absurd ((tree_fault faults.Size (has_exact_integers (filter_by l)) (has_small_exponents (filter_by l)) (knows_functions (filter_by l)) (segments_typed (filter_by l)) h).0 refl)
refuses_condition text l faults.Syntax sized spelled h = absurd ((tree_fault faults.Syntax (has_exact_integers (filter_by l)) (has_small_exponents (filter_by l)) (knows_functions (filter_by l)) (segments_typed (filter_by l)) h).1 refl)
refuses_condition text l faults.Integer sized spelled h = (sized, l, spelled, h)
refuses_condition text l faults.Number sized spelled h = (sized, l, spelled, h)
refuses_condition text l faults.Function sized spelled h = (sized, l, spelled, h)
refuses_condition text l faults.Types sized spelled h = (sized, l, spelled, h)
