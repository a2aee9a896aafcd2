-- Where the source of a value is its canonical text.
use Rattle.std.proofs.Common.{◌≡◌, ◌∙◌, ◌≢◌, ℕ, suc, ◌+◌, ◌-◌, ◌<◌, ◌≤◌, Bool, true, false, List, [], ◌∷◌, ◌++◌, length, get_or, take, drop, cond, eqb, refl, sym, ap, ap₂, subst, arith, append-nil, length-drop, pos, ◌+ℤ◌, None}
use Rattle.std.specs.List.{flat_map, list_all}
use Rattle.std.proofs.lemmas.Bool.{and_parts, eqb-true, le-leb}
use Rattle.std.proofs.lemmas.Bool.Decides.{nat_tests}
use Rattle.std.proofs.lemmas.Int.{ints}
use Rattle.std.proofs.lemmas.List.{drop_all, get_or-drop}
use Rattle.std.proofs.Math.Seq.{drop-cons, take-suc}
use Rattle.jp_canon.specs.Canonical.{character_text, value_text}
use Rattle.jp_canon.specs.Layout.{number_text, size_text, with_point, without_trailing_zeros, zeros}
use Rattle.jp_canon.proofs.Characters.{plain_characters}
use Rattle.jp_canon.proofs.Numbers.{text_above, value_some, whole_digits}
use Rattle.jp_model.specs.Characters.{is_digit, digits_value}
use Rattle.jp_model.specs.Json.Faults.{has_surrogate}
use Rattle.jp_model.specs.Json.Numbers.{Numeral, SpellsNumber, leading_digits, mantissa, minus_bytes, numeral_of, parts_behind_int, parts_behind_minus, scale}
use Rattle.jp_model.specs.Json.Places.{Has, bytes_between}
use Rattle.jp_model.specs.Json.Spelling.{Spells, SpellsString, SpellsValue}
use Rattle.jp_model.specs.Json.Tree.{Tree, Value, node, span, value_of}
use Rattle.jp_model.specs.Rows.{source as source_of}
use Rattle.jp_model.proofs.Reader.Numbers.{parts_read}
use Rattle.jp_nodes.specs.Kinds.{kind_of}
use Rattle.jp_nodes.specs.declared.Kind.TheVariants as kinds
use Rattle.jp_nodes.proofs.Contents.{number_kind, string_body, text_kind}
use Rattle.jp_strings.specs.Plain.{ArePlain}

-- ---- strings

-- what stands between two quotes, with them
pub quoted : (line : List ℕ) (from last : ℕ) → Has line from 0x22 → Has line last 0x22 → from + 1 ≤ last
    → bytes_between line from (last + 1) ≡ 0x22 ∷ (bytes_between line (from + 1) last ++ 0x22 ∷ [])
quoted line from last opens closes order =
    let n = last - (from + 1) in
    let rest : List ℕ = drop (from + 1) line in
    let long : n < length rest = omega (arith, length-drop (from + 1) line, closes.inside) in
    let size : last + 1 - from ≡ suc (suc n) = omega (arith, order) in
    let front : drop from line ≡ 0x22 ∷ rest = drop-cons line from 0 opens.inside ∙ ap₂ (λ b k. b ∷ drop k line) opens.is (let e : suc from ≡ from + 1 = omega arith in e) in
    let place : from + 1 + n ≡ last = omega (arith, order) in
    let end : get_or rest n 0 ≡ 0x22 = get_or-drop (from + 1) line n 0 ∙ (ap (λ k. get_or line k 0) place ∙ closes.is) in
    ap₂ (λ k l. take k l) size front ∙ ap (λ l. 0x22 ∷ l) (take-suc rest n 0 long ∙ ap (λ b. take n rest ++ b ∷ []) end)

-- the source of a string is its canonical text where each character stands for itself
pub plain_text : (line : List ℕ) (t : Tree) → kind_of (value_of t) ≡ kinds.Text → (span t).end ≤ length line → Spells line t → has_surrogate t ≡ false
    → ArePlain (bytes_between line ((span t).start + 1) ((span t).end - 1)) 0 (length (bytes_between line ((span t).start + 1) ((span t).end - 1)))
    → source_of line t ≡ value_text (value_of t)
plain_text line (node s v) kind within spells whole plain =
    let is = text_kind v kind in
    let body = string_body line (node s v) is.0 is.1 within spells whole in
    let string_spelled : SpellsString line s.start s.end is.0 = subst (λ (w : Value). SpellsValue line s w) is.1 spells in
    let last : string_spelled.last ≡ s.end - 1 = omega (arith, string_spelled.end) in
    let source : source_of line (node s v) ≡ 0x22 ∷ (bytes_between line (s.start + 1) (s.end - 1) ++ 0x22 ∷ []) =
    ap (bytes_between line s.start) string_spelled.end ∙ quoted line s.start string_spelled.last string_spelled.opens string_spelled.closes string_spelled.body.order
    ∙ ap (λ k. 0x22 ∷ (bytes_between line (s.start + 1) k ++ 0x22 ∷ [])) last in
    let text : flat_map character_text is.0 ≡ bytes_between line (s.start + 1) (s.end - 1) = ap (flat_map character_text) (sym body.points_are) ∙ plain_characters _ body.text plain in
    source ∙ (ap (λ l. 0x22 ∷ (l ++ 0x22 ∷ [])) (sym text) ∙ ap value_text (sym is.1))

-- ---- numbers

all_digits : (ds : List ℕ) → list_all is_digit ds ≡ true → leading_digits ds ≡ ds
all_digits [] a = refl
all_digits (d ∷ ds) a =
    let parts = and_parts (is_digit d) (list_all is_digit ds) a in
    rw parts.0 (ap (λ l. d ∷ l) (all_digits ds parts.1))

only_zeros : (ds : List ℕ) → list_all (λ digit. eqb digit 0x30) ds ≡ true → zeros (length ds) ≡ ds
only_zeros [] a = refl
only_zeros (d ∷ ds) a =
    let parts = and_parts (eqb d 0x30) (list_all (λ digit. eqb digit 0x30) ds) a in
    ap₂ (λ (b : ℕ) (l : List ℕ). b ∷ l) (sym (eqb-true d 0x30 parts.0)) (only_zeros ds parts.1)

-- some digits with zeros put after them are others
abbrev IsFilled : (few all : List ℕ) → Type 0
IsFilled few all = (length few ≤ length all) × (few ++ zeros (length all - length few) ≡ all)

-- the zeros after the last other digit taken away, and put back
zeros_back : (ds : List ℕ) → IsFilled (without_trailing_zeros ds) ds
zeros_back [] = (omega arith, refl)
zeros_back (d ∷ ds) = pick (zeros_back ds) (list_all (λ digit. eqb digit 0x30) (d ∷ ds)) refl
  where
    pick : IsFilled (without_trailing_zeros ds) ds → (b : Bool) → list_all (λ digit. eqb digit 0x30) (d ∷ ds) ≡ b → IsFilled (cond b [] (d ∷ without_trailing_zeros ds)) (d ∷ ds)
    pick rest true e = (omega arith, ap zeros (let all : suc (length ds) - 0 ≡ suc (length ds) = omega arith in all) ∙ only_zeros (d ∷ ds) e)
    pick rest false e =
        let less : suc (length ds) - suc (length (without_trailing_zeros ds)) ≡ length ds - length (without_trailing_zeros ds) = omega arith in
        (omega (arith, rest.0), ap (λ l. d ∷ l) (ap (λ n. without_trailing_zeros ds ++ zeros n) less ∙ rest.1))

-- a whole number with few digits is written by its digits
whole_point : (s : List ℕ) (n : ℕ) → length s ≤ n → n ≤ 21 → with_point s (pos n) ≡ s ++ zeros (n - length s)
whole_point s n low high = rw (le-leb (length s) n low, le-leb n 21 high) refl

pub whole_number : (ds : List ℕ) → list_all is_digit ds ≡ true → get_or ds 0 0x30 ≢ 0x30 → length ds ≤ 21 → number_text (pos (digits_value ds)) (pos 0) ≡ ds
whole_number ds a first few =
    let back = zeros_back ds in
    let text : size_text (digits_value ds) (pos 0) ≡ ds = ap (λ l. with_point (without_trailing_zeros l) (pos (length l) +ℤ pos 0)) (whole_digits ds a first)
    ∙ (ap (with_point (without_trailing_zeros ds)) (let e : pos (length ds) +ℤ pos 0 ≡ pos (length ds) = omega (arith, ints) in e) ∙ (whole_point (without_trailing_zeros ds) (length ds) back.0 few ∙ back.1)) in
    sym (text_above (digits_value ds) (pos 0) (value_some ds a first)) ∙ text

-- digits alone are read as a whole number
abbrev whole_numeral : List ℕ → Numeral
whole_numeral ds = record { negative = false; int = ds; fraction = []; exponent = None }

no_minus : (d : ℕ) → is_digit d ≡ true → eqb d 0x2D ≡ false
no_minus d h = grind (arith, nat_tests, h)

digits_numeral : (ds : List ℕ) → list_all is_digit ds ≡ true → get_or ds 0 0x30 ≢ 0x30 → numeral_of ds ≡ whole_numeral ds
digits_numeral [] a first = absurd (first refl)
digits_numeral (d ∷ ds) a first =
    let unsigned = no_minus d (and_parts (is_digit d) (list_all is_digit ds) a).0 in
    ap (λ b. parts_behind_minus b (drop (length (minus_bytes b)) (d ∷ ds))) unsigned
    ∙ (ap (λ l. parts_behind_int false l (drop (length l) (d ∷ ds))) (all_digits (d ∷ ds) a)
    ∙ ap (parts_behind_int false (d ∷ ds)) (drop_all (length (d ∷ ds)) (d ∷ ds) (omega arith)))

digits_are : (line : List ℕ) (t : Tree) → kind_of (value_of t) ≡ kinds.Number → Spells line t
    → list_all is_digit (source_of line t) ≡ true → get_or (source_of line t) 0 0x30 ≢ 0x30 → length (source_of line t) ≤ 21 → source_of line t ≡ value_text (value_of t)
digits_are line (node s v) kind spells a first few =
    let is = number_kind v kind in
    let number_spelled : SpellsNumber line s.start s.end is.0 is.1 = subst (λ (w : Value). SpellsValue line s w) is.2 spells in
    let ds : List ℕ = bytes_between line s.start s.end in
    let same : number_spelled.numeral ≡ whole_numeral ds = sym (parts_read number_spelled.numeral number_spelled.correct) ∙ (ap numeral_of (sym number_spelled.bytes.are) ∙ digits_numeral ds a first) in
    let m : pos (digits_value ds) ≡ is.0 = ap (λ l. pos (digits_value l)) (sym (append-nil ds)) ∙ (sym (ap mantissa same) ∙ number_spelled.is_mantissa) in
    let e : pos 0 ≡ is.1 = sym (ap scale same) ∙ number_spelled.is_scale in
    sym (whole_number ds a first few) ∙ (ap₂ number_text m e ∙ ap value_text (sym is.2))

-- the source of a number is its canonical text where it has a few digits and nothing else
pub digits_text : (line source : List ℕ) (t : Tree) → source ≡ source_of line t → kind_of (value_of t) ≡ kinds.Number → Spells line t
    → list_all is_digit source ≡ true → get_or source 0 0x30 ≢ 0x30 → length source ≤ 21 → source ≡ value_text (value_of t)
digits_text line source t is kind spells a first few =
    is ∙ digits_are line t kind spells (subst (λ (s : List ℕ). list_all is_digit s ≡ true) is a) (subst (λ (s : List ℕ). get_or s 0 0x30 ≢ 0x30) is first) (subst (λ (s : List ℕ). length s ≤ 21) is few)
