-- What is answered for the text of a logical expression that stands alone.
use Rattle.std.specs.Prelude.{◌≡◌, ℕ, List, IsTrue, IsFalse, Option, Some, Result, Ok, Err}
use Rattle.jp_model.specs.declared.QueryFault.{QueryFault}
use Rattle.jp_model.specs.declared.QueryFault.TheVariants as faults
use Rattle.jp_model.specs.Query.Limits.{is_oversized}
use Rattle.jp_model.specs.Query.Status.{fault_of_query}
use Rattle.jp_model.specs.Query.Syntax.{Logical}
use Rattle.jp_query.specs.Answers.{is_early}
use Rattle.jp_syntax.specs.Filters.{SpellsCondition, filter_by, in_filter}
use Rattle.jp_syntax.specs.Queries.{condition_view}
use Rattle.jp_syntax.specs.declared.condition.Condition.{Condition}
use Rattle.jp_query.specs.declared.fault.ParseFault.{ParseFault}
use Rattle.jp_query.specs.declared.fault.ParseFault.TheVariants as parse_faults

-- the text spells an expression whose first fault is this
abbrev pub ConditionHasFault : List ℕ → Option QueryFault → Type 0
ConditionHasFault text fault = IsFalse (is_oversized (in_filter text)) × (l : Logical) × SpellsCondition text l × (fault_of_query (filter_by l) ≡ fault)

-- the fault is the first that holds of the text, as of a query's
abbrev pub RefusesCondition : List ℕ → QueryFault → Type 0
RefusesCondition text faults.Size = IsTrue (is_oversized (in_filter text))
RefusesCondition text faults.Syntax = IsFalse (is_oversized (in_filter text)) × ((l : Logical) → SpellsCondition text l → ⊥)
RefusesCondition text faults.Integer = ConditionHasFault text (Some faults.Integer)
RefusesCondition text faults.Number = ConditionHasFault text (Some faults.Number)
RefusesCondition text faults.Function = ConditionHasFault text (Some faults.Function)
RefusesCondition text faults.Types = ConditionHasFault text (Some faults.Types)

-- the condition is answered, unless memory runs out
abbrev pub GivesCondition : Logical → Result Condition ParseFault → Type 0
GivesCondition l (Ok c) = condition_view c ≡ l
GivesCondition l (Err (parse_faults.Refused fault)) = ⊥
GivesCondition l (Err parse_faults.Memory) = Unit {0}

-- a text that is refused is refused by its first fault, which comes before those of functions and types
abbrev pub IsFirstConditionFault : List ℕ → ParseFault → Type 0
IsFirstConditionFault text (parse_faults.Refused fault) = RefusesCondition text fault × IsTrue (is_early fault)
IsFirstConditionFault text parse_faults.Memory = Unit {0}
