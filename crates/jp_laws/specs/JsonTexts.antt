-- Printers of JSON texts, to be read back: the text of a tree, and which trees have one (RFC 8259).
use Rattle.std.specs.Prelude.{ℕ, ◌/◌, ◌%◌, ◌^◌, ◌<◌, ⊤, nat_lt, ◌==◌, ◌||◌, List, [], ◌∷◌, ◌++◌, flat_map, ℤ, pos, nat_abs, int_lt, false, cond, Option, Some, None, IsTrue, encode_utf8, codes, if◌then◌else◌}
use Rattle.std.specs.Str.{all_scalars}
use Rattle.jp_canon.specs.Layout.{whole_text}
use Rattle.jp_model.specs.Json.Numbers.{Numeral, numeral_bytes, no_sign, minus_sign}
use Rattle.jp_model.specs.Json.Spelling.{word_of, null_word, opening, closing}
use Rattle.jp_model.specs.Json.Tree.{Tree, node, Value, null, boolean, number, string, container, Container, array, object, Children, no_child, child, Name}
use Rattle.jp_model.specs.Meaning.Paths.{hex_digit}

-- how a printer spells the scalars of strings, and the parts in which it spells m times ten to the e (sections 6 and 7)
pub record Printer : Type 0 where
  pub character : ℕ → List ℕ
  pub numeral : ℤ → ℤ → Numeral

-- ---- the text

-- a string between quotes (section 7)
abbrev pub string_text : Printer → List ℕ → List ℕ
string_text printer points = 0x22 ∷ (flat_map printer.character points ++ 0x22 ∷ [])

-- a member's name with its colon, and nothing before an element (sections 4 and 5)
abbrev pub label_text : Printer → Option Name → List ℕ
label_text printer None = []
label_text printer (Some name) = string_text printer name.points ++ 0x3A ∷ []

abbrev mutual
  -- the text of a tree, without white space
  pub tree_text : Printer → Tree → List ℕ
  tree_text printer (node s v) = value_text printer v

  -- the same of a value (section 3)
  pub value_text : Printer → Value → List ℕ
  value_text printer null = null_word
  value_text printer (boolean b) = word_of b
  value_text printer (number m e) = numeral_bytes (printer.numeral m e)
  value_text printer (string points) = string_text printer points
  value_text printer (container kind cs) = opening kind ∷ (first_text printer cs ++ closing kind ∷ [])

  -- some children, after the opening bracket (sections 4 and 5)
  pub first_text : Printer → Children → List ℕ
  first_text printer no_child = []
  first_text printer (child name t more) = label_text printer name ++ (tree_text printer t ++ more_text printer more)

  -- some children, after another, each with its comma
  pub more_text : Printer → Children → List ℕ
  more_text printer no_child = []
  more_text printer (child name t more) = 0x2C ∷ (label_text printer name ++ (tree_text printer t ++ more_text printer more))

-- ---- the plain printer

-- a quote, a backslash and a control character are escaped (section 7)
abbrev pub plain_character : ℕ → List ℕ
plain_character c =
    if c == 0x22 || c == 0x5C then 0x5C ∷ c ∷ []
    else if nat_lt c 0x20 then codes "\\u00" ++ hex_digit (c / 16) ∷ hex_digit (c % 16) ∷ []
    else encode_utf8 c

-- the digits of m, the letter e, and the digits of e, each with a minus where it is negative (section 6)
abbrev pub plain_numeral : ℤ → ℤ → Numeral
plain_numeral m e = record {
  negative = int_lt m (pos 0);
  int = whole_text (nat_abs m);
  fraction = [];
  exponent = Some (record { capital = false; sign = cond (int_lt e (pos 0)) minus_sign no_sign; digits = whole_text (nat_abs e) });
}

-- the plain printer, of those scalars and numerals
abbrev pub plain : Printer
plain = record { character = plain_character; numeral = plain_numeral }

-- ---- what has a text

-- members have names of scalars, and elements have none
abbrev pub CanBeLabel : Container → Option Name → Type 0
CanBeLabel array None = ⊤
CanBeLabel array (Some name) = ⊥
CanBeLabel object None = ⊥
CanBeLabel object (Some name) = IsTrue (all_scalars name.points)

-- JSON can say a tree: strings and names are scalars, and names stand in objects alone
abbrev mutual
  pub CanBeSaid : Tree → Type 0
  CanBeSaid (node s v) = CanBeValue v

  -- JSON can say a value, in the same sense
  pub CanBeValue : Value → Type 0
  CanBeValue null = ⊤
  CanBeValue (boolean b) = ⊤
  CanBeValue (number m e) = ⊤
  CanBeValue (string points) = IsTrue (all_scalars points)
  CanBeValue (container kind cs) = CanBeChildren kind cs

  -- the same of children
  pub CanBeChildren : Container → Children → Type 0
  CanBeChildren kind no_child = ⊤
  CanBeChildren kind (child name t more) = CanBeLabel kind name × CanBeSaid t × CanBeChildren kind more

abbrev mutual
  -- each number of a tree, m times ten to the e, is such a one
  pub HasNumbers : (ℤ → ℤ → Type 0) → Tree → Type 0
  HasNumbers IsSuch (node s v) = IsOfNumbers IsSuch v

  -- the same of a value
  pub IsOfNumbers : (ℤ → ℤ → Type 0) → Value → Type 0
  IsOfNumbers IsSuch (number m e) = IsSuch m e
  IsOfNumbers IsSuch (container kind cs) = HaveNumbers IsSuch cs
  IsOfNumbers IsSuch _ = ⊤

  -- the same of children
  pub HaveNumbers : (ℤ → ℤ → Type 0) → Children → Type 0
  HaveNumbers IsSuch no_child = ⊤
  HaveNumbers IsSuch (child name t more) = HasNumbers IsSuch t × HaveNumbers IsSuch more

-- each exponent is below 10^15 (profile)
abbrev pub HasShortExponents : Tree → Type 0
HasShortExponents = HasNumbers (λ m e. nat_abs e < 10 ^ 15)

-- ---- the tree alone

-- a name that stands nowhere
abbrev pub unplaced_name : Option Name → Option Name
unplaced_name None = None
unplaced_name (Some name) = Some (record { body = record { start = 0; end = 0 }; points = name.points })

-- the tree alone, without where its parts stand
abbrev mutual
  pub unplaced : Tree → Tree
  unplaced (node s v) = node (record { start = 0; end = 0 }) (unplaced_value v)

  -- the same of a value
  pub unplaced_value : Value → Value
  unplaced_value null = null
  unplaced_value (boolean b) = boolean b
  unplaced_value (number m e) = number m e
  unplaced_value (string points) = string points
  unplaced_value (container kind cs) = container kind (unplaced_children cs)

  -- the same of children
  pub unplaced_children : Children → Children
  unplaced_children no_child = no_child
  unplaced_children (child name t more) = child (unplaced_name name) (unplaced t) (unplaced_children more)
