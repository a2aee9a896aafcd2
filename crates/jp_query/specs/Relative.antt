-- What the text of a rel-query is, which has `@` where a query has `$`: refused by its first fault, or a query (RFC 9535, section
-- 2.3.5.1).
use Rattle.std.specs.Prelude.{◌≡◌, ℕ, List, [], ◌∷◌, Option, Some, None, IsTrue, IsFalse, IsUtf8, chars}
use Rattle.jp_model.specs.declared.QueryFault.{QueryFault}
use Rattle.jp_model.specs.declared.QueryFault.TheVariants as faults
use Rattle.jp_model.specs.Query.Limits.{is_oversized}
use Rattle.jp_model.specs.Query.Spelling.{IsSegments}
use Rattle.jp_model.specs.Query.Status.{QueryStatus, refused_query, query, fault_of_query}
use Rattle.jp_model.specs.Query.Syntax.{Segments}

-- rel-query: the whole of the scalars (section 2.3.5.1)
pub data SpellsRelative : List ℕ → Segments → Type 0 where
  relative_query : {x : List ℕ} {ss : Segments} → IsSegments x [] ss → SpellsRelative (64 ∷ x) ss

-- the bytes are UTF-8, and their scalars spell the rel-query (section 2.1)
abbrev pub TextSpellsRelative : List ℕ → Segments → Type 0
TextSpellsRelative bytes q = IsUtf8 bytes × SpellsRelative (chars bytes) q

-- the text spells a rel-query whose first fault is this
abbrev pub RelativeHasFault : List ℕ → Option QueryFault → Type 0
RelativeHasFault bytes fault = IsFalse (is_oversized bytes) × (q : Segments) × TextSpellsRelative bytes q × (fault_of_query q ≡ fault)

-- the fault is the first that holds of the text, as of a query's (profile)
abbrev pub RefusesRelative : List ℕ → QueryFault → Type 0
RefusesRelative bytes faults.Size = IsTrue (is_oversized bytes)
RefusesRelative bytes faults.Syntax = IsFalse (is_oversized bytes) × ((q : Segments) → TextSpellsRelative bytes q → ⊥)
RefusesRelative bytes faults.Integer = RelativeHasFault bytes (Some faults.Integer)
RefusesRelative bytes faults.Number = RelativeHasFault bytes (Some faults.Number)
RefusesRelative bytes faults.Function = RelativeHasFault bytes (Some faults.Function)
RefusesRelative bytes faults.Types = RelativeHasFault bytes (Some faults.Types)

-- the status of a text as a rel-query (profile)
abbrev pub HasRelativeStatus : List ℕ → QueryStatus → Type 0
HasRelativeStatus bytes (refused_query fault) = RefusesRelative bytes fault
HasRelativeStatus bytes (query q) = IsFalse (is_oversized bytes) × TextSpellsRelative bytes q × (fault_of_query q ≡ None)
