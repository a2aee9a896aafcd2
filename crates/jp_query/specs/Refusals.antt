-- What is told about the text of a query, of a rel-query or of a condition.
use Rattle.std.specs.Prelude.{◌≡◌, ℕ, List, IsFalse, None}
use Rattle.jp_model.specs.Query.Limits.{is_oversized}
use Rattle.jp_model.specs.Query.Status.{fault_of_query, refused_query}
use Rattle.jp_model.specs.Query.Syntax.{Logical}
use Rattle.jp_query.specs.Conditions.{RefusesCondition}
use Rattle.jp_syntax.specs.Filters.{SpellsCondition, filter_by, in_filter}
use Rattle.jp_query.specs.Places.{IsPlace}
use Rattle.jp_query.specs.Status.{query_of, relative_query_of}
use Rattle.jp_query.specs.declared.reading.Refusal.{Refusal}
use Rattle.jp_query.specs.declared.reading.Refusal.TheVariants as refusals

-- the fault is that of the text's status, at a place of the text, unless memory ran out (RFC 9535, section 2.1)
abbrev pub TellsRefusal : List ℕ → Refusal → Type 0
TellsRefusal text (refusals.Fault f) = (query_of text ≡ refused_query f.fault) × IsPlace text f.place
TellsRefusal text refusals.Memory = Unit {0}

-- the same of the text of a rel-query (section 2.3.5.1)
abbrev pub TellsRelativeRefusal : List ℕ → Refusal → Type 0
TellsRelativeRefusal text (refusals.Fault f) = (relative_query_of text ≡ refused_query f.fault) × IsPlace text f.place
TellsRelativeRefusal text refusals.Memory = Unit {0}

-- the text spells the condition, and no fault refuses it (section 2.3.5)
abbrev pub IsConditionOf : List ℕ → Logical → Type 0
IsConditionOf text l = IsFalse (is_oversized (in_filter text)) × SpellsCondition text l × (fault_of_query (filter_by l) ≡ None)

-- the fault refuses the condition, at a place of the text, unless memory ran out
abbrev pub TellsConditionRefusal : List ℕ → Refusal → Type 0
TellsConditionRefusal text (refusals.Fault f) = RefusesCondition text f.fault × IsPlace text f.place
TellsConditionRefusal text refusals.Memory = Unit {0}
