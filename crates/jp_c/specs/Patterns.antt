-- The patterns of a query or a condition that are not valid, and so match nothing (RFC 9535, sections 2.4.6 and 2.4.7).
use Rattle.std.specs.Prelude.{◌≡◌, ℕ, List, ◌++◌, Bool, true, false, Some, None, drop, encode_utf8_all, filter, length, slice_get, take, ◌⊎◌}
use Rattle.jp_model.specs.Query.Status.{query}
use Rattle.jp_model.specs.Query.Syntax.{Logical, Segments}
use Rattle.jp_patterns.specs.Patterns.{is_invalid, logical_patterns, segments_patterns}
use Rattle.jp_query.specs.Refusals.{IsConditionOf}
use Rattle.jp_query.specs.Status.{query_of}

-- the text is read as a query, or where that is wanted as a condition, and these are its patterns that are not valid
abbrev pub AreInvalid : (is_condition : Bool) → (text : List ℕ) → (patterns : List (List ℕ)) → Type 0
AreInvalid false text patterns = (q : Segments) × (query_of text ≡ query q) × (patterns ≡ filter is_invalid (segments_patterns q))
AreInvalid true text patterns = (l : Logical) × IsConditionOf text l × (patterns ≡ filter is_invalid (logical_patterns l))

-- The length is that of the pattern of a number, from 0, as UTF-8, and its first bytes are at the front of the room.
pub record IsPatternAt (number : ℕ) (patterns : List (List ℕ)) (count : ℕ) (before after : List ℕ) : Type 0 where
  pub pattern : List ℕ
  pub is : slice_get patterns number ≡ Some pattern
  pub count_is : count ≡ length (encode_utf8_all pattern)
  pub room : after ≡ take (length before) (encode_utf8_all pattern) ++ drop (length (encode_utf8_all pattern)) before

-- the pattern of a number is told
abbrev pub TellsPattern : (is_condition : Bool) → (text : List ℕ) → (number count : ℕ) → (before after : List ℕ) → Type 0
TellsPattern is_condition text number count before after = (patterns : List (List ℕ)) × AreInvalid is_condition text patterns × IsPatternAt number patterns count before after

-- there is none of this number
abbrev pub HasNoPattern : (is_condition : Bool) → (text : List ℕ) → (number : ℕ) → Type 0
HasNoPattern is_condition text number = (patterns : List (List ℕ)) × AreInvalid is_condition text patterns × (slice_get patterns number ≡ None)

-- the one or the other, and where there is none all stays as it was
abbrev pub IsToldBy : (found is_condition : Bool) → (text : List ℕ) → (number count0 count1 : ℕ) → (before after : List ℕ) → Type 0
IsToldBy true is_condition text number count0 count1 before after = TellsPattern is_condition text number count1 before after
IsToldBy false is_condition text number count0 count1 before after = HasNoPattern is_condition text number × (count1 ≡ count0) × (after ≡ before)

-- The statuses: done; refused; no such pattern; out of memory.
abbrev pub IsStatusOfPattern : ℕ → Type 0
IsStatusOfPattern status = (status ≡ 0) ⊎ (status ≡ 3) ⊎ (status ≡ 6) ⊎ (status ≡ 16)
