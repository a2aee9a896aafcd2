-- What is written for a tree is UTF-8.
use Rattle.std.proofs.Common.{◌≡◌, ℕ, ◌<◌, inl, inr, true, List, [], ◌∷◌, ◌++◌, Option, Some, None, IsUtf8, sym, subst, arith}
use Rattle.std.specs.Char as char
use Rattle.std.proofs.lemmas.Bool.Decides.{nat_tests}
use Rattle.std.proofs.lemmas.Str.{IsUtf8-append, IsUtf8-nil, IsUtf8-from_ascii, IsUtf8-encode}
use Rattle.std.proofs.lemmas.Str.Ascii.{IsAscii-nil, IsAscii-cons}
use Rattle.jp_model.specs.Characters.{is_white}
use Rattle.jp_model.specs.Json.Numbers.{numeral_bytes}
use Rattle.jp_model.specs.Json.Spelling.{opening, closing, word_of, null_word}
use Rattle.jp_model.specs.Json.Tree.{Tree, node, Value, null, boolean, number, string, container, Container, array, object, Children, no_child, child, Name}
use Rattle.jp_cut_laws.proofs.Crossing.{Each, each_digit, escape_letter}
use Rattle.jp_cut_laws.proofs.Values.{IsOfWord, null_of_word, boolean_of_word, numeral_of_word}
use Rattle.jp_cut_laws.proofs.Written.{IsWhite, IsSeparator, IsEnd, IsCharacter, AreCharacters, IsString, IsLabel, Writes, WritesValue, WritesFirst, WritesMore}

-- a byte of ASCII
abbrev IsLow : ℕ → Type 0
IsLow byte = byte < 128

-- a byte of ASCII, and UTF-8
then_utf8 : (byte : ℕ) (rest : List ℕ) → byte < 128 → IsUtf8 rest → IsUtf8 (byte ∷ rest)
then_utf8 byte rest low u = IsUtf8-append (byte ∷ []) rest (IsUtf8-from_ascii (byte ∷ []) (IsAscii-cons byte [] low IsAscii-nil)) u

low_utf8 : (bytes : List ℕ) → Each IsLow bytes → IsUtf8 bytes
low_utf8 [] h = IsUtf8-nil
low_utf8 (byte ∷ rest) h = then_utf8 byte rest h.0 (low_utf8 rest h.1)

word_utf8 : (bytes : List ℕ) → Each IsOfWord bytes → IsUtf8 bytes
word_utf8 [] h = IsUtf8-nil
word_utf8 (byte ∷ rest) h = then_utf8 byte rest h.0.low (word_utf8 rest h.1)

white_low : (b : ℕ) → is_white b ≡ true → b < 128
white_low b h = grind (arith, nat_tests, h)

pub white_utf8 : (bytes : List ℕ) → IsWhite bytes → IsUtf8 bytes
white_utf8 [] h = IsUtf8-nil
white_utf8 (byte ∷ rest) h = then_utf8 byte rest (white_low byte h.0) (white_utf8 rest h.1)

separator_utf8 : (b : ℕ) (bytes : List ℕ) → b < 128 → IsSeparator b bytes → IsUtf8 bytes
separator_utf8 b bytes low h = subst IsUtf8 (sym h.joined) (IsUtf8-append h.before (b ∷ h.after) (white_utf8 h.before h.white_before) (then_utf8 b h.after low (white_utf8 h.after h.white_after)))

closing_low : (kind : Container) → closing kind < 128
closing_low array = omega arith
closing_low object = omega arith

opening_low : (kind : Container) → opening kind < 128
opening_low array = omega arith
opening_low object = omega arith

end_utf8 : (kind : Container) (bytes : List ℕ) → IsEnd kind bytes → IsUtf8 bytes
end_utf8 kind bytes h = subst IsUtf8 (sym h.joined) (IsUtf8-append h.before (closing kind ∷ []) (white_utf8 h.before h.white) (then_utf8 (closing kind) [] (closing_low kind) IsUtf8-nil))

-- ---- strings

hex_low : (c : ℕ) → char.is_digit c 16 ≡ true → c < 128
hex_low c h = grind (arith, nat_tests, h)

character_utf8 : (bytes : List ℕ) (unit : ℕ) → IsCharacter bytes unit → IsUtf8 bytes
character_utf8 bytes unit (inl h) = subst IsUtf8 (sym h.joined) (IsUtf8-encode unit h.scalar)
character_utf8 bytes unit (inr (inl h)) = subst IsUtf8 (sym h.joined) (then_utf8 0x5C (h.letter ∷ []) (omega arith) (then_utf8 h.letter [] (escape_letter h.letter unit h.spells).1 IsUtf8-nil))
character_utf8 bytes unit (inr (inr h)) =
    subst IsUtf8 (sym h.joined) (then_utf8 0x5C (0x75 ∷ h.a ∷ h.b ∷ h.c ∷ h.d ∷ []) (omega arith) (then_utf8 0x75 (h.a ∷ h.b ∷ h.c ∷ h.d ∷ []) (omega arith) (low_utf8 (h.a ∷ h.b ∷ h.c ∷ h.d ∷ []) (each_digit IsLow hex_low h.a h.b h.c h.d unit h.spells))))

characters_utf8 : (units bytes : List ℕ) → AreCharacters bytes units → IsUtf8 bytes
characters_utf8 [] bytes h = subst IsUtf8 (sym h) IsUtf8-nil
characters_utf8 (unit ∷ units) bytes h = subst IsUtf8 (sym h.2) (IsUtf8-append h.0 h.1 (character_utf8 h.0 unit h.3) (characters_utf8 units h.1 h.4))

string_utf8 : (bytes points : List ℕ) → IsString bytes points → IsUtf8 bytes
string_utf8 bytes points h =
    subst IsUtf8 (sym h.joined) (then_utf8 0x22 (h.body ++ 0x22 ∷ []) (omega arith) (IsUtf8-append h.body (0x22 ∷ []) (characters_utf8 h.units h.body h.characters) (then_utf8 0x22 [] (omega arith) IsUtf8-nil)))

label_utf8 : (kind : Container) (bytes : List ℕ) (name : Option Name) → IsLabel kind bytes name → IsUtf8 bytes
label_utf8 array bytes None h = subst IsUtf8 (sym h) IsUtf8-nil
label_utf8 array bytes (Some name) h = absurd h
label_utf8 object bytes None h = absurd h
label_utf8 object bytes (Some name) h = subst IsUtf8 (sym h.joined) (IsUtf8-append h.name h.colon (string_utf8 h.name name.points h.quoted) (separator_utf8 0x3A h.colon (omega arith) h.separator))

-- ---- values

four_utf8 : (bytes a b c rest : List ℕ) → bytes ≡ a ++ (b ++ (c ++ rest)) → IsUtf8 a → IsUtf8 b → IsUtf8 c → IsUtf8 rest → IsUtf8 bytes
four_utf8 bytes a b c rest e p q r s = subst IsUtf8 (sym e) (IsUtf8-append a (b ++ (c ++ rest)) p (IsUtf8-append b (c ++ rest) q (IsUtf8-append c rest r s)))

mutual
  pub tree_utf8 : (t : Tree) (bytes : List ℕ) → Writes bytes t → IsUtf8 bytes
  tree_utf8 (node s v) bytes h = value_utf8 v bytes h

  value_utf8 : (v : Value) (bytes : List ℕ) → WritesValue bytes v → IsUtf8 bytes
  value_utf8 null bytes h = subst IsUtf8 (sym h) (word_utf8 null_word null_of_word)
  value_utf8 (boolean b) bytes h = subst IsUtf8 (sym h) (word_utf8 (word_of b) (boolean_of_word b))
  value_utf8 (number m e) bytes h = subst IsUtf8 h.joined (word_utf8 (numeral_bytes h.numeral) (numeral_of_word h.numeral h.correct))
  value_utf8 (string points) bytes h = string_utf8 bytes points h
  value_utf8 (container kind children) bytes h = subst IsUtf8 (sym h.1) (then_utf8 (opening kind) h.0 (opening_low kind) (first_utf8 children kind h.0 h.2))

  first_utf8 : (c : Children) (kind : Container) (bytes : List ℕ) → WritesFirst kind bytes c → IsUtf8 bytes
  first_utf8 no_child kind bytes h = end_utf8 kind bytes h
  first_utf8 (child name t more) kind bytes h = four_utf8 bytes h.0 h.1 h.2 h.3 h.4 (white_utf8 h.0 h.5) (label_utf8 kind h.1 name h.6) (tree_utf8 t h.2 h.7) (more_utf8 more kind h.3 h.8)

  more_utf8 : (c : Children) (kind : Container) (bytes : List ℕ) → WritesMore kind bytes c → IsUtf8 bytes
  more_utf8 no_child kind bytes h = end_utf8 kind bytes h
  more_utf8 (child name t more) kind bytes h = four_utf8 bytes h.0 h.1 h.2 h.3 h.4 (separator_utf8 0x2C h.0 (omega arith) h.5) (label_utf8 kind h.1 name h.6) (tree_utf8 t h.2 h.7) (more_utf8 more kind h.3 h.8)
