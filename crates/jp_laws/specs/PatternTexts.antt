-- A printer of patterns, to be read back: the text of a pattern, and which patterns have one (RFC 9485, section 3).
use Rattle.std.specs.Prelude.{ℕ, ◌≤◌, ⊤, ◌==◌, true, false, List, [], ◌∷◌, ◌++◌, flat_map, Option, Some, None, codes, if◌then◌else◌}
use Rattle.ucd_category.specs.declared.GeneralCategory.{GeneralCategory}
use Rattle.ucd_category.specs.declared.GeneralCategory.TheVariants.{UppercaseLetter, LowercaseLetter, TitlecaseLetter, ModifierLetter, OtherLetter, NonspacingMark, SpacingMark, EnclosingMark, DecimalNumber, LetterNumber, OtherNumber, ConnectorPunctuation, DashPunctuation, OpenPunctuation, ClosePunctuation, InitialPunctuation, FinalPunctuation, OtherPunctuation, MathSymbol, CurrencySymbol, ModifierSymbol, OtherSymbol, SpaceSeparator, LineSeparator, ParagraphSeparator, Control, Format, Surrogate, PrivateUse, Unassigned}
use Rattle.ucd_category.specs.declared.GeneralCategoryGroup.{GeneralCategoryGroup}
use Rattle.ucd_category.specs.declared.GeneralCategoryGroup.TheVariants.{Other, Letter, CasedLetter, Mark, Number, Punctuation, Symbol, Separator}
use Rattle.jp_model.specs.Pattern.Classes.{among}
use Rattle.jp_model.specs.Pattern.Spelling.{Token, class_token, open_token, close_token, bar_token, count_token}
use Rattle.jp_model.specs.Pattern.Tree.{Property, category_group, one_category, Item, range, with_property, without_property, CharClass, dot, members, Pattern, one_of, empty, followed_by, never, either_of, times}
use Rattle.jp_canon.specs.Layout.{whole_text}

-- ---- the text

-- the scalars that a backslash stands before
abbrev pub escaped_scalars : List ℕ
escaped_scalars = codes "()*+-.?[]^{|}" ++ 0x5C ∷ []

-- a scalar in a class
abbrev pub scalar_text : ℕ → List ℕ
scalar_text c = if among escaped_scalars c then 0x5C ∷ c ∷ [] else c ∷ []

-- the letter of a group of general categories (Unicode)
abbrev pub group_letter : GeneralCategoryGroup → List ℕ
group_letter Letter = codes "L"
group_letter CasedLetter = []
group_letter Mark = codes "M"
group_letter Number = codes "N"
group_letter Punctuation = codes "P"
group_letter Symbol = codes "S"
group_letter Separator = codes "Z"
group_letter Other = codes "C"

-- the two letters of a general category (Unicode)
abbrev pub category_letters : GeneralCategory → List ℕ
category_letters UppercaseLetter = codes "Lu"
category_letters LowercaseLetter = codes "Ll"
category_letters TitlecaseLetter = codes "Lt"
category_letters ModifierLetter = codes "Lm"
category_letters OtherLetter = codes "Lo"
category_letters NonspacingMark = codes "Mn"
category_letters SpacingMark = codes "Mc"
category_letters EnclosingMark = codes "Me"
category_letters DecimalNumber = codes "Nd"
category_letters LetterNumber = codes "Nl"
category_letters OtherNumber = codes "No"
category_letters ConnectorPunctuation = codes "Pc"
category_letters DashPunctuation = codes "Pd"
category_letters OpenPunctuation = codes "Ps"
category_letters ClosePunctuation = codes "Pe"
category_letters InitialPunctuation = codes "Pi"
category_letters FinalPunctuation = codes "Pf"
category_letters OtherPunctuation = codes "Po"
category_letters MathSymbol = codes "Sm"
category_letters CurrencySymbol = codes "Sc"
category_letters ModifierSymbol = codes "Sk"
category_letters OtherSymbol = codes "So"
category_letters SpaceSeparator = codes "Zs"
category_letters LineSeparator = codes "Zl"
category_letters ParagraphSeparator = codes "Zp"
category_letters Control = codes "Cc"
category_letters Format = codes "Cf"
category_letters Surrogate = []
category_letters PrivateUse = codes "Co"
category_letters Unassigned = codes "Cn"

-- the name of a property
abbrev pub property_text : Property → List ℕ
property_text (category_group group) = group_letter group
property_text (one_category category) = category_letters category

-- CCE1
abbrev pub item_text : Item → List ℕ
item_text (range first last) = if first == last then scalar_text first else scalar_text first ++ 0x2D ∷ scalar_text last
item_text (with_property property) = codes "\\p{" ++ property_text property ++ codes "}"
item_text (without_property property) = codes "\\P{" ++ property_text property ++ codes "}"

-- charClass
abbrev pub class_text : CharClass → List ℕ
class_text dot = codes "."
class_text (members false items) = 0x5B ∷ (flat_map item_text items ++ 0x5D ∷ [])
class_text (members true items) = 0x5B ∷ 0x5E ∷ (flat_map item_text items ++ 0x5D ∷ [])

-- quantifier
abbrev pub count_text : ℕ → Option ℕ → List ℕ
count_text least None = 0x7B ∷ (whole_text least ++ 0x2C ∷ 0x7D ∷ [])
count_text least (Some most) = 0x7B ∷ (whole_text least ++ 0x2C ∷ (whole_text most ++ 0x7D ∷ []))

-- one token
abbrev pub token_text : Token → List ℕ
token_text (class_token c) = class_text c
token_text open_token = codes "("
token_text close_token = codes ")"
token_text bar_token = codes "|"
token_text (count_token least most) = count_text least most

-- branches that are an atom stand between parentheses
abbrev pub grouped : Pattern → List Token → List Token
grouped (either_of first rest) tokens = open_token ∷ (tokens ++ close_token ∷ [])
grouped _ tokens = tokens

-- a bar stands before each branch but the first
abbrev pub barred : Pattern → List Token → List Token
barred never tokens = []
barred _ tokens = bar_token ∷ tokens

-- the tokens of a pattern
abbrev pub pattern_tokens : Pattern → List Token
pattern_tokens (one_of c) = class_token c ∷ []
pattern_tokens empty = []
pattern_tokens (followed_by first rest) = grouped first (pattern_tokens first) ++ pattern_tokens rest
pattern_tokens never = []
pattern_tokens (either_of first rest) = pattern_tokens first ++ barred rest (pattern_tokens rest)
pattern_tokens (times body least most) = grouped body (pattern_tokens body) ++ count_token least most ∷ []

-- the text of a pattern
abbrev pub pattern_text : Pattern → List ℕ
pattern_text r = flat_map token_text (pattern_tokens r)

-- ---- which patterns have one

-- a property of the standard: no surrogates, and no cased letters
abbrev pub CanBeNamed : Property → Type 0
CanBeNamed (category_group CasedLetter) = ⊥
CanBeNamed (category_group group) = ⊤
CanBeNamed (one_category Surrogate) = ⊥
CanBeNamed (one_category category) = ⊤

-- no range is reversed
abbrev pub CanBeItem : Item → Type 0
CanBeItem (range first last) = first ≤ last
CanBeItem (with_property property) = CanBeNamed property
CanBeItem (without_property property) = CanBeNamed property

-- the same of each
abbrev pub CanBeItems : List Item → Type 0
CanBeItems [] = ⊤
CanBeItems (item ∷ items) = CanBeItem item × CanBeItems items

-- no class is empty
abbrev pub CanBeClass : CharClass → Type 0
CanBeClass dot = ⊤
CanBeClass (members negated []) = ⊥
CanBeClass (members negated (item ∷ items)) = CanBeItem item × CanBeItems items

-- no bound is above the limit, and no count is reversed (profile)
abbrev pub CanBeCount : ℕ → Option ℕ → Type 0
CanBeCount least None = least ≤ 999999999
CanBeCount least (Some most) = (least ≤ most) × (most ≤ 999999999)

-- i-regexp, branch, piece and atom, as patterns say them
abbrev mutual
  -- a branch, and more
  pub IsRegexp : Pattern → Type 0
  IsRegexp (either_of first rest) = IsBranch first × IsMore rest
  IsRegexp _ = ⊥

  -- the branches after one, which `never` ends
  pub IsMore : Pattern → Type 0
  IsMore never = ⊤
  IsMore (either_of first rest) = IsBranch first × IsMore rest
  IsMore _ = ⊥

  -- pieces, which `empty` ends
  pub IsBranch : Pattern → Type 0
  IsBranch empty = ⊤
  IsBranch (followed_by first rest) = IsPiece first × IsBranch rest
  IsBranch _ = ⊥

  -- an atom, with a quantifier or without
  pub IsPiece : Pattern → Type 0
  IsPiece (one_of c) = CanBeClass c
  IsPiece (either_of first rest) = IsBranch first × IsMore rest
  IsPiece (times body least most) = IsAtom body × CanBeCount least most
  IsPiece _ = ⊥

  -- a class, or a group
  pub IsAtom : Pattern → Type 0
  IsAtom (one_of c) = CanBeClass c
  IsAtom (either_of first rest) = IsBranch first × IsMore rest
  IsAtom _ = ⊥
