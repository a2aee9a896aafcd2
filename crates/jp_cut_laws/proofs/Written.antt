-- The grammar of RFC 8259 over the bytes of a text themselves: which bytes are written for a tree, wherever they stand.
use Rattle.std.proofs.Common.{◌≡◌, ℕ, true, false, List, [], ◌∷◌, ◌++◌, Option, Some, None, ℤ, encode_utf8, ◌≢◌, ◌≤◌, ◌⊎◌}
use Rattle.std.specs.Bool.{⊤}
use Rattle.std.specs.Char.{IsScalar}
use Rattle.jp_model.specs.Characters.{is_white, four_digits}
use Rattle.jp_model.specs.Json.Numbers.{Numeral, IsNumeral, numeral_bytes, is_long_exponent, mantissa, scale}
use Rattle.jp_model.specs.Json.Spelling.{opening, closing, word_of, null_word}
use Rattle.jp_model.specs.Json.Strings.{short_escape, paired}
use Rattle.jp_model.specs.Json.Tree.{Tree, node, Value, null, boolean, number, string, container, Container, array, object, Children, no_child, child, Name}

-- ws: white space alone (section 2)
abbrev pub IsWhite : List ℕ → Type 0
IsWhite [] = ⊤
IsWhite (byte ∷ rest) = (is_white byte ≡ true) × IsWhite rest

-- a byte between white space: name-separator or value-separator (section 2)
pub record IsSeparator (byte : ℕ) (bytes : List ℕ) : Type 0 where
  pub before : List ℕ
  pub after : List ℕ
  pub joined : bytes ≡ before ++ byte ∷ after
  pub white_before : IsWhite before
  pub white_after : IsWhite after

-- a closing bracket after white space
pub record IsEnd (kind : Container) (bytes : List ℕ) : Type 0 where
  pub before : List ℕ
  pub joined : bytes ≡ before ++ closing kind ∷ []
  pub white : IsWhite before

-- ---- strings (section 7)

-- a character that stands for itself
pub record IsItself (bytes : List ℕ) (unit : ℕ) : Type 0 where
  pub scalar : IsScalar unit
  pub no_control : 0x20 ≤ unit
  pub no_quote : unit ≢ 0x22
  pub no_backslash : unit ≢ 0x5C
  pub joined : bytes ≡ encode_utf8 unit

-- a backslash and a letter
pub record IsShort (bytes : List ℕ) (unit : ℕ) : Type 0 where
  pub letter : ℕ
  pub spells : short_escape letter ≡ Some unit
  pub joined : bytes ≡ 0x5C ∷ letter ∷ []

-- a backslash, u and four hexadecimal digits
pub record IsUnicode (bytes : List ℕ) (unit : ℕ) : Type 0 where
  pub a : ℕ
  pub b : ℕ
  pub c : ℕ
  pub d : ℕ
  pub spells : four_digits a b c d ≡ Some unit
  pub joined : bytes ≡ 0x5C ∷ 0x75 ∷ a ∷ b ∷ c ∷ d ∷ []

-- char
abbrev pub IsCharacter : List ℕ → ℕ → Type 0
IsCharacter bytes unit = IsItself bytes unit ⊎ (IsShort bytes unit ⊎ IsUnicode bytes unit)

-- *char
abbrev pub AreCharacters : List ℕ → List ℕ → Type 0
AreCharacters bytes [] = bytes ≡ []
AreCharacters bytes (unit ∷ units) = (first : List ℕ) × (rest : List ℕ) × (bytes ≡ first ++ rest) × IsCharacter first unit × AreCharacters rest units

-- string = quotation-mark *char quotation-mark
pub record IsString (bytes : List ℕ) (points : List ℕ) : Type 0 where
  pub body : List ℕ
  pub units : List ℕ
  pub characters : AreCharacters body units
  pub are : paired units ≡ points
  pub joined : bytes ≡ 0x22 ∷ (body ++ 0x22 ∷ [])

-- a name and its colon (section 4)
pub record IsName (bytes : List ℕ) (points : List ℕ) : Type 0 where
  pub name : List ℕ
  pub colon : List ℕ
  pub joined : bytes ≡ name ++ colon
  pub quoted : IsString name points
  pub separator : IsSeparator 0x3A colon

-- what stands before the value of an array's or an object's child
abbrev pub IsLabel : Container → List ℕ → Option Name → Type 0
IsLabel array bytes None = bytes ≡ []
IsLabel array bytes (Some name) = ⊥
IsLabel object bytes None = ⊥
IsLabel object bytes (Some name) = IsName bytes name.points

-- ---- numbers (section 6)

-- a number whose exponent is not long
pub record IsNumber (bytes : List ℕ) (m e : ℤ) : Type 0 where
  pub numeral : Numeral
  pub correct : IsNumeral numeral
  pub short : is_long_exponent numeral ≡ false
  pub joined : numeral_bytes numeral ≡ bytes
  pub is_mantissa : mantissa numeral ≡ m
  pub is_scale : scale numeral ≡ e

-- ---- values (sections 3 to 5)

abbrev mutual
  -- these bytes are written for a tree
  pub Writes : List ℕ → Tree → Type 0
  Writes bytes (node s v) = WritesValue bytes v

  -- for a value
  pub WritesValue : List ℕ → Value → Type 0
  WritesValue bytes null = bytes ≡ null_word
  WritesValue bytes (boolean b) = bytes ≡ word_of b
  WritesValue bytes (number m e) = IsNumber bytes m e
  WritesValue bytes (string points) = IsString bytes points
  WritesValue bytes (container kind children) = (inside : List ℕ) × (bytes ≡ opening kind ∷ inside) × WritesFirst kind inside children

  -- for children after the opening bracket, with the closing one
  pub WritesFirst : Container → List ℕ → Children → Type 0
  WritesFirst kind bytes no_child = IsEnd kind bytes
  WritesFirst kind bytes (child name t more) =
      (white : List ℕ) × (label : List ℕ) × (text : List ℕ) × (rest : List ℕ) × (bytes ≡ white ++ (label ++ (text ++ rest))) × IsWhite white × IsLabel kind label name × Writes text t × WritesMore kind rest more

  -- for children after a child, with the closing bracket
  pub WritesMore : Container → List ℕ → Children → Type 0
  WritesMore kind bytes no_child = IsEnd kind bytes
  WritesMore kind bytes (child name t more) =
      (comma : List ℕ) × (label : List ℕ) × (text : List ℕ) × (rest : List ℕ) × (bytes ≡ comma ++ (label ++ (text ++ rest))) × IsSeparator 0x2C comma × IsLabel kind label name × Writes text t × WritesMore kind rest more
