-- Canonical text: one text for all values that are equal (RFC 9535, section 2.3.5.2.2), in the manner of RFC 8785. Where it
-- differs from RFC 8785: numbers have all their digits, as none becomes a float, and members are ordered by the scalars of
-- their names, as RFC 9535 orders strings, not by UTF-16 code units.
use Rattle.std.specs.Prelude.{ℕ, ◌/◌, ◌%◌, ◌==◌, ◌||◌, nat_lt, List, [], ◌∷◌, ◌++◌, map, flat_map, Some, None, encode_utf8, codes, if◌then◌else◌}
use Rattle.std.specs.List.{join_with_byte}
use Rattle.jp_model.specs.Json.Spelling.{word_of, null_word, opening, closing}
use Rattle.jp_model.specs.Json.Tree.{Tree, node, Value, null, boolean, number, string, container, Container, array, object, Children, no_child, child}
use Rattle.jp_model.specs.Meaning.Compare.{text_less}
use Rattle.jp_model.specs.Meaning.Paths.{hex_digit}
use Rattle.jp_canon.specs.Layout.{number_text}

-- the shortest escape of a scalar that has to be escaped, and any other as it is (RFC 8785, section 3.2.2.2)
abbrev pub character_text : ℕ → List ℕ
character_text c =
    if c == 0x22 || c == 0x5C then 0x5C ∷ c ∷ []
    else if c == 0x08 then codes "\\b"
    else if c == 0x09 then codes "\\t"
    else if c == 0x0A then codes "\\n"
    else if c == 0x0C then codes "\\f"
    else if c == 0x0D then codes "\\r"
    else if nat_lt c 0x20 then codes "\\u00" ++ hex_digit (c / 16) ∷ hex_digit (c % 16) ∷ []
    else encode_utf8 c

-- a string between quotes (RFC 8785, section 3.2.2.2)
abbrev pub string_text : List ℕ → List ℕ
string_text points = 0x22 ∷ (flat_map character_text points ++ 0x22 ∷ [])

-- a member: the code points of its name, and its text, the name included
pub record Member : Type 0 where
  pub name : List ℕ
  pub text : List ℕ

-- a member put before the first whose name is not less
abbrev pub placed : Member → List Member → List Member
placed m [] = m ∷ []
placed m (n ∷ more) = if text_less n.name m.name then n ∷ placed m more else m ∷ n ∷ more

-- members in the order of their names (RFC 8785, section 3.2.3; RFC 9535, section 2.3.5.2.2)
abbrev pub by_name : List Member → List Member
by_name [] = []
by_name (m ∷ more) = placed m (by_name more)

-- elements or members between brackets, without blanks
abbrev pub bracketed : Container → List (List ℕ) → List ℕ
bracketed kind texts = opening kind ∷ (join_with_byte 0x2C texts ++ closing kind ∷ [])

abbrev mutual
  -- the canonical text of a tree
  pub canonical_text : Tree → List ℕ
  canonical_text (node s v) = value_text v

  -- the same of a value
  pub value_text : Value → List ℕ
  value_text null = null_word
  value_text (boolean b) = word_of b
  value_text (number m e) = number_text m e
  value_text (string points) = string_text points
  value_text (container array cs) = bracketed array (element_texts cs)
  value_text (container object cs) = bracketed object (map (λ m. m.text) (by_name (member_texts cs)))

  -- the texts of elements, in order
  pub element_texts : Children → List (List ℕ)
  element_texts no_child = []
  element_texts (child name t more) = canonical_text t ∷ element_texts more

  -- the members with their texts, in the order of the line
  pub member_texts : Children → List Member
  member_texts no_child = []
  member_texts (child None t more) = member_texts more
  member_texts (child (Some name) t more) =
      record { name = name.points; text = string_text name.points ++ 0x3A ∷ canonical_text t } ∷ member_texts more
