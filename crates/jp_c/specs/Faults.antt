-- What is told of the text of a query or of a condition.
use Rattle.std.specs.Prelude.{◌≡◌, ℕ, ◌≤◌, List, length, drop, Bool, true, false, ◌⊎◌}
use Rattle.jp_model.specs.declared.QueryFault.{QueryFault}
use Rattle.jp_model.specs.declared.QueryFault.TheVariants as faults
use Rattle.jp_model.specs.Query.Status.{query, refused_query}
use Rattle.jp_model.specs.Query.Syntax.{Logical, Segments}
use Rattle.jp_query.specs.Conditions.{RefusesCondition}
use Rattle.jp_query.specs.Places.{IsPlace}
use Rattle.jp_query.specs.Refusals.{IsConditionOf, TellsConditionRefusal, TellsRefusal}
use Rattle.jp_query.specs.Status.{query_of}
use Rattle.jp_query.specs.declared.reading.Refusal.{Refusal}

-- the text is read as a query or, where that is wanted, as a condition (RFC 9535, sections 2.1 and 2.3.5)
abbrev pub IsTextRead : (is_condition : Bool) → List ℕ → Type 0
IsTextRead false text = (q : Segments) × (query_of text ≡ query q)
IsTextRead true text = (l : Logical) × IsConditionOf text l

-- the fault is the first for which it is not
abbrev pub IsRefusedBy : (is_condition : Bool) → List ℕ → QueryFault → Type 0
IsRefusedBy false text fault = query_of text ≡ refused_query fault
IsRefusedBy true text fault = RefusesCondition text fault

-- some fault is
abbrev pub IsRefusedBySome : (is_condition : Bool) → List ℕ → Type 0
IsRefusedBySome is_condition text = (fault : QueryFault) × IsRefusedBy is_condition text fault

-- what is told of it is that, and a place of the text, unless memory ran out
abbrev pub Tells : (is_condition : Bool) → List ℕ → Refusal → Type 0
Tells false text refusal = TellsRefusal text refusal
Tells true text refusal = TellsConditionRefusal text refusal

-- the number of a fault
abbrev pub number_of : QueryFault → ℕ
number_of faults.Size = 1
number_of faults.Syntax = 2
number_of faults.Integer = 3
number_of faults.Number = 4
number_of faults.Function = 5
number_of faults.Types = 6

-- The statuses: no fault; a fault; out of memory.
abbrev pub IsStatusOfFault : ℕ → Type 0
IsStatusOfFault status = (status ≡ 0) ⊎ ((fault : QueryFault) × (status ≡ number_of fault)) ⊎ (status ≡ 16)

-- A fault is told by its number and its place, and some first bytes of the room say what the grammar has there. Only a fault of the
-- syntax has such words.
pub record TellsFault (is_condition : Bool) (text : List ℕ) (status place words : ℕ) (before after : List ℕ) : Type 0 where
  pub fault : QueryFault
  pub number : status ≡ number_of fault
  pub refused : IsRefusedBy is_condition text fault
  pub place_is : IsPlace text place
  pub within : words ≤ length before
  pub others : drop words after ≡ drop words before
  pub syntax_alone : (fault ≡ faults.Syntax → ⊥) → words ≡ 0
