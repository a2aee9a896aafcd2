-- What a cell between commas has is known from its quotes and its text.
use Rattle.std.proofs.Common.{inl, inr, ◌⊎◌, ◌≡◌, ◌∙◌, ◌++◌, ◌∷◌, ◌==◌, ◌&&◌, ◌||◌, [], ℕ, List, Bool, true, false, cond, length, refl, sym, ap, ap₂, subst, arith, Option, Some, None}
use Rattle.std.specs.Prelude.{bytes_eq, if◌then◌else◌}
use Rattle.std.specs.List.{list_all, list_any}
use Rattle.std.proofs.lemmas.Bool.{and_parts, ne_eqb}
use Rattle.std.proofs.lemmas.Bool.Decides.{nat_tests}
use Rattle.std.proofs.lemmas.List.Folds.{list_any-append}
use Rattle.std.proofs.lemmas.Slice.Eq.{bytes_eq-Decides}
use Rattle.jp_model.specs.Characters.{is_digit}
use Rattle.jp_model.specs.Json.Numbers.{Exponent, Numeral, Sign, no_sign, plus_sign, minus_sign, exponent_bytes, fraction_bytes, minus_bytes, numeral_bytes, numeral_of, sign_bytes}
use Rattle.jp_model.specs.Json.Reader.{is_exponent, is_int, is_numeral}
use Rattle.jp_model.specs.Json.Spelling.{null_word, word_of}
use Rattle.jp_form.specs.declared.form.Table.TheVariants as tables
use Rattle.jp_table.specs.Cells.{Cell, begins_structure, wants_quotes}
use Rattle.jp_table.specs.Literals.{is_literal, is_number}
use Rattle.jp_table.specs.ReadBack.{HasText, as_read, kind_kept, kind_read}
use Rattle.jp_table.specs.declared.cell.CellKind.{CellKind}
use Rattle.jp_table.specs.declared.cell.CellKind.TheVariants as kinds

-- ---- a literal has no byte for which a cell is quoted

digit_plain : (d : ℕ) → is_digit d ≡ true → wants_quotes d ≡ false
digit_plain d h = grind (arith, nat_tests, h)

digits_plain : (ds : List ℕ) → list_all is_digit ds ≡ true → list_any wants_quotes ds ≡ false
digits_plain [] h = refl
digits_plain (d ∷ ds) h =
    let p = and_parts _ _ h in
    ap₂ (λ (a b : Bool). a || b) (digit_plain d p.0) (digits_plain ds p.1)

int_plain : (ds : List ℕ) → is_int ds ≡ true → list_any wants_quotes ds ≡ false
int_plain [] h = refl
int_plain (d ∷ []) h = ap (λ (a : Bool). a || false) (digit_plain d h)
int_plain (d ∷ e ∷ ds) h =
    let p = and_parts _ _ h in
    ap₂ (λ (a b : Bool). a || b) (digit_plain d p.0) (digits_plain (e ∷ ds) (and_parts _ _ p.1).1)

parts_plain : (a b : List ℕ) → list_any wants_quotes a ≡ false → list_any wants_quotes b ≡ false → list_any wants_quotes (a ++ b) ≡ false
parts_plain a b p q = list_any-append wants_quotes a b ∙ ap₂ (λ (x y : Bool). x || y) p q

minus_plain : (negative : Bool) → list_any wants_quotes (minus_bytes negative) ≡ false
minus_plain true = refl
minus_plain false = refl

fraction_plain : (ds : List ℕ) → list_all is_digit ds ≡ true → list_any wants_quotes (fraction_bytes ds) ≡ false
fraction_plain [] h = refl
fraction_plain (d ∷ ds) h = digits_plain (d ∷ ds) h

sign_plain : (sign : Sign) → list_any wants_quotes (sign_bytes sign) ≡ false
sign_plain no_sign = refl
sign_plain plus_sign = refl
sign_plain minus_sign = refl

letter_plain : (capital : Bool) → wants_quotes (cond capital 0x45 0x65) ≡ false
letter_plain true = refl
letter_plain false = refl

exponent_plain : (e : Option Exponent) → is_exponent e ≡ true → list_any wants_quotes (exponent_bytes e) ≡ false
exponent_plain None h = refl
exponent_plain (Some e) h =
    ap₂ (λ (a b : Bool). a || b) (letter_plain e.capital) (parts_plain (sign_bytes e.sign) e.digits (sign_plain e.sign) (digits_plain e.digits (and_parts _ _ h).1))

numeral_plain : (n : Numeral) → is_numeral n ≡ true → list_any wants_quotes (numeral_bytes n) ≡ false
numeral_plain n h =
    let p = and_parts _ _ h in
    let q = and_parts _ _ p.1 in
    parts_plain (minus_bytes n.negative) (n.int ++ (fraction_bytes n.fraction ++ exponent_bytes n.exponent)) (minus_plain n.negative)
    (parts_plain n.int (fraction_bytes n.fraction ++ exponent_bytes n.exponent) (int_plain n.int p.0)
    (parts_plain (fraction_bytes n.fraction) (exponent_bytes n.exponent) (fraction_plain n.fraction q.0) (exponent_plain n.exponent q.1)))

number_plain : (text : List ℕ) → is_number text ≡ true → list_any wants_quotes text ≡ false
unfolding is_number
number_plain text h =
    let p = and_parts _ _ h in
    ap (list_any wants_quotes) (sym ((bytes_eq-Decides (numeral_bytes (numeral_of text)) text).0 p.1)) ∙ numeral_plain (numeral_of text) p.0

word_plain : (text word : List ℕ) → bytes_eq text word ≡ true → list_any wants_quotes word ≡ false → list_any wants_quotes text ≡ false
word_plain text word h plain = ap (list_any wants_quotes) ((bytes_eq-Decides text word).0 h) ∙ plain

one_of : (a b : Bool) → (a || b) ≡ true → (a ≡ true) ⊎ (b ≡ true)
one_of true b e = inl refl
one_of false b e = inr e

literal_plain : (text : List ℕ) → is_literal text ≡ true → list_any wants_quotes text ≡ false
literal_plain text h = elim (one_of ((bytes_eq text null_word || bytes_eq text (word_of true)) || bytes_eq text (word_of false)) (is_number text) h) [
  | inr e ↦ number_plain text e
  | inl words ↦ elim (one_of (bytes_eq text null_word || bytes_eq text (word_of true)) (bytes_eq text (word_of false)) words) [
    | inr e ↦ word_plain text (word_of false) e refl
    | inl words ↦ elim (one_of (bytes_eq text null_word) (bytes_eq text (word_of true)) words) [
      | inl e ↦ word_plain text null_word e refl
      | inr e ↦ word_plain text (word_of true) e refl
    ]
  ]
]

-- a literal has some bytes
number_some : is_number [] ≡ false
unfolding is_number
number_some = refl

literal_some : (text : List ℕ) → is_literal text ≡ true → (length text == 0) ≡ false
literal_some [] h = absurd (apart (sym h ∙ number_some))
  where
    apart : true ≡ false → ⊥
    apart e = cc
literal_some (byte ∷ text) h = ne_eqb (length (byte ∷ text)) 0 (λ e. omega (arith, e))

-- ---- what a cell has

abbrev read_by : (quoted empty literal structure : Bool) → CellKind
read_by quoted empty literal structure =
    if quoted then (if structure then kinds.Structure else kinds.Text)
    else if empty then kinds.Nothing
    else if literal then kinds.Bare
    else kinds.Text

bare_read : (text : List ℕ) → is_literal text ≡ true → kind_read (as_read tables.Commas (record { kind = kinds.Bare; text = text })) ≡ kind_kept (record { kind = kinds.Bare; text = text })
bare_read text h =
    let plain = literal_plain text h in
    let some = literal_some text h in
    ap (λ (quoted : Bool). read_by quoted (length text == 0) (is_literal text) (begins_structure text)) plain
    ∙ ap₂ (λ (empty literal : Bool). read_by false empty literal (begins_structure text)) some h
    ∙ sym (ap (λ (quoted : Bool). if quoted && begins_structure text then kinds.Structure else kinds.Bare) plain)

text_by : (empty literal wants structure : Bool) → read_by ((empty || literal) || wants) empty literal structure
    ≡ (if ((empty || literal) || wants) && structure then kinds.Structure else kinds.Text)
text_by true literal wants true = refl
text_by true literal wants false = refl
text_by false true wants true = refl
text_by false true wants false = refl
text_by false false true true = refl
text_by false false true false = refl
text_by false false false structure = refl

pub kind_leads_back : (cell : Cell) → HasText cell.kind cell.text → kind_read (as_read tables.Commas cell) ≡ kind_kept cell
kind_leads_back cell has = by cell.kind cell.text has
  where
    by : (kind : CellKind) (text : List ℕ) → HasText kind text → kind_read (as_read tables.Commas (record { kind = kind; text = text })) ≡ kind_kept (record { kind = kind; text = text })
    by kinds.Nothing text has = subst (λ (l : List ℕ). kind_read (as_read tables.Commas (record { kind = kinds.Nothing; text = l })) ≡ kind_kept (record { kind = kinds.Nothing; text = l })) (sym has) refl
    by kinds.Bare text has = bare_read text has
    by kinds.Text text has = text_by (length text == 0) (is_literal text) (list_any wants_quotes text) (begins_structure text)
    by kinds.Structure text has = ap (λ (structure : Bool). if structure then kinds.Structure else kinds.Text) has ∙ sym (ap (λ (structure : Bool). if structure then kinds.Structure else kinds.Structure) has)
