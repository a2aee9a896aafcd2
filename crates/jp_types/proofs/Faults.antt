-- The first fault of a query that some text within the limits spells.
use Rattle.std.proofs.Common.{◌≡◌, Bool, true, false, Some, None, refl}
use Rattle.std.proofs.lemmas.Bool.{true_from_ne_false}
use Rattle.std.proofs.lemmas.Grind.{not_there}
use Rattle.jp_model.specs.declared.QueryFault.TheVariants as faults
use Rattle.jp_model.specs.Query.Limits.{has_exact_integers, has_small_exponents, knows_functions, logical_passes}
use Rattle.jp_model.specs.Query.Status.{fault_of_query}
use Rattle.jp_model.specs.Query.Syntax.{Logical, Segments}
use Rattle.jp_model.specs.Query.Typing.{logical_typed, segments_typed}
use Rattle.jp_syntax.specs.Filters.{filter_by}
use Rattle.jp_syntax.specs.WellFormed.{IsWellFormed}
use Rattle.jp_types.specs.Limits.{limit_tests}
use Rattle.jp_types.specs.declared.limits.Limit.TheVariants as limits

-- it is exact, and its exponents are small
pub exact : (q : Segments) → ∥ IsWellFormed q ∥₁ → has_exact_integers q ≡ true
exact q w = true_from_ne_false (has_exact_integers q) (λ e. not_there w (λ (f : IsWellFormed q). let h = f.exact in absurd (cc)))

pub small : (q : Segments) → ∥ IsWellFormed q ∥₁ → has_small_exponents q ≡ true
small q w = true_from_ne_false (has_small_exponents q) (λ e. not_there w (λ (f : IsWellFormed q). let h = f.small in absurd (cc)))

pub unknown_fault : (q : Segments) → ∥ IsWellFormed q ∥₁ → knows_functions q ≡ false → fault_of_query q ≡ Some faults.Function
unknown_fault q w k = rw (exact q w, small q w, k) refl

pub types_fault : (q : Segments) → ∥ IsWellFormed q ∥₁ → knows_functions q ≡ true → segments_typed q ≡ false → fault_of_query q ≡ Some faults.Types
types_fault q w k t = rw (exact q w, small q w, k, t) refl

pub no_fault : (q : Segments) → ∥ IsWellFormed q ∥₁ → knows_functions q ≡ true → segments_typed q ≡ true → fault_of_query q ≡ None
no_fault q w k t = rw (exact q w, small q w, k, t) refl

-- a query of one filter is typed, and known, as its expression is
pub filter_typed : (l : Logical) (b : Bool) → logical_typed l ≡ b → segments_typed (filter_by l) ≡ b
filter_typed l true e = rw e refl
filter_typed l false e = rw e refl

pub filter_known : (l : Logical) (b : Bool) → logical_passes l (limit_tests limits.Functions) ≡ b → knows_functions (filter_by l) ≡ b
filter_known l true e = rw e refl
filter_known l false e = rw e refl
