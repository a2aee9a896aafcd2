-- What becomes of the text of a condition, by the reader.
use Rattle.std.specs.Prelude.{◌≡◌, ℕ, true, false, List, Some, None, Result, Ok, Err}
use Rattle.jp_model.specs.declared.QueryFault.{QueryFault}
use Rattle.jp_model.specs.declared.QueryFault.TheVariants as faults
use Rattle.jp_model.specs.Query.Limits.{is_oversized, has_exact_integers, has_small_exponents}
use Rattle.jp_model.specs.Query.Syntax.{Logical}
use Rattle.jp_syntax.specs.Queries.{condition_view}
use Rattle.jp_syntax.specs.Filters.{filter_by, in_filter}
use Rattle.jp_query.specs.Integers.{clamp}
use Rattle.jp_query.specs.Status.{read_alone}
use Rattle.jp_syntax.specs.declared.condition.Condition.{Condition}
use Rattle.jp_query.specs.declared.fault.ParseFault.{ParseFault}
use Rattle.jp_query.specs.declared.fault.ParseFault.TheVariants as parse_faults

-- an expression is read from a text that is not too large
abbrev pub IsReadAlone : List ℕ → Logical → Type 0
IsReadAlone text l = (is_oversized (in_filter text) ≡ false) × (read_alone clamp text ≡ Some l)

-- the expression that is read is within its limits
abbrev pub PassesAlone : List ℕ → Logical → Type 0
PassesAlone text l = IsReadAlone text l × ((has_exact_integers (filter_by l) ≡ true) × (has_small_exponents (filter_by l) ≡ true))

-- the fault is the first that is met
abbrev pub MeetsAlone : List ℕ → QueryFault → Type 0
MeetsAlone text faults.Size = is_oversized (in_filter text) ≡ true
MeetsAlone text faults.Syntax = (is_oversized (in_filter text) ≡ false) × (read_alone clamp text ≡ None)
MeetsAlone text faults.Integer = (l : Logical) × IsReadAlone text l × (has_exact_integers (filter_by l) ≡ false)
MeetsAlone text faults.Number = (l : Logical) × IsReadAlone text l × ((has_exact_integers (filter_by l) ≡ true) × (has_small_exponents (filter_by l) ≡ false))
MeetsAlone text faults.Function = ⊥
MeetsAlone text faults.Types = ⊥

-- what is answered for a text, but where memory runs out
abbrev pub MeantAlone : List ℕ → Result Condition ParseFault → Type 0
MeantAlone text (Ok c) = PassesAlone text (condition_view c)
MeantAlone text (Err (parse_faults.Refused fault)) = MeetsAlone text fault
MeantAlone text (Err parse_faults.Memory) = Unit {0}
