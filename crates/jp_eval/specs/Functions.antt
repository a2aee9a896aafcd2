-- Texts and the patterns that they pass (RFC 9535, sections 2.4.6 and 2.4.7).
use Rattle.std.specs.Prelude.{ℕ, List, Bool, true, false, Option, Some, None}
use Rattle.jp_model.specs.Pattern.Tree.{Pattern}
use Rattle.jp_model.specs.Pattern.Membership.{is_in, occurs_in}
use Rattle.jp_model.specs.Pattern.Reading.{pattern_of}
use Rattle.jp_model.specs.Json.Tree.{Value, string}

-- all of a text is in the pattern, or a part of it
abbrev pub passing : Bool → Pattern → List ℕ → Bool
passing true = is_in
passing false = occurs_in

-- the pattern that a string spells
abbrev pub pattern_in : Option Value → Option Pattern
pattern_in (Some (string p)) = pattern_of p
pattern_in _ = None

-- the value is a string, and the test holds of it and the pattern
abbrev pub passes_as_string : (Pattern → List ℕ → Bool) → Pattern → Option Value → Bool
passes_as_string passes r (Some (string x)) = passes r x
passes_as_string passes r _ = false

-- the same of a pattern that a text spells, where it spells one
abbrev pub passes_where_read : (Pattern → List ℕ → Bool) → Option Pattern → Option Value → Bool
passes_where_read passes (Some r) v = passes_as_string passes r v
passes_where_read passes None v = false
