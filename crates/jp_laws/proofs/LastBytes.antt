-- A tree does not end with white space.
use Rattle.std.proofs.Common.{◌≡◌, ℕ, zero, suc, ◌+◌, ◌-◌, ◌<◌, Bool, true, false, cond, List, [], ◌∷◌, ◌++◌, length, drop, get_or, Option, Some, None, refl, sym, ap, ◌∙◌, arith, get_or-take, get_or-drop}
use Rattle.std.proofs.lemmas.Bool.{both_ways, false_from_ne_true}
use Rattle.jp_model.proofs.Reader.Lexical.{reads_end, white_no_digit}
use Rattle.jp_model.proofs.Reader.Numbers.{digit_in_number, int_digits, some_digits}
use Rattle.jp_model.proofs.Reader.Whole.{int_long}
use Rattle.jp_model.proofs.Reader.Words.{in_number}
use Rattle.jp_model.specs.declared.Span.{Span}
use Rattle.jp_model.specs.Characters.{is_white}
use Rattle.jp_model.specs.Json.Numbers.{AreDigits, Sign, no_sign, plus_sign, minus_sign, Exponent, IsExponent, Numeral, IsNumeral, minus_bytes, fraction_bytes, sign_bytes, exponent_bytes, numeral_bytes}
use Rattle.jp_model.specs.Json.Places.{byte_at, Reads}
use Rattle.jp_model.specs.Json.Spelling.{Spells, SpellsValue, SpellsFirst, SpellsMore, Closes, null_word}
use Rattle.jp_model.specs.Json.Tree.{Tree, node, Value, null, boolean, number, string, container, Container, array, object, Children, no_child, child, span}
use Rattle.jp_laws.proofs.Reached.{Each, each_append}

-- ---- the bytes of a number

abbrev InNumber : ℕ → Type 0
InNumber b = in_number b ≡ true

digits_in : (ds : List ℕ) → AreDigits ds → Each InNumber ds
digits_in [] a = tt
digits_in (d ∷ ds) a = (digit_in_number d a.0, digits_in ds a.1)

minus_in : (b : Bool) → Each InNumber (minus_bytes b)
minus_in true = (refl, tt)
minus_in false = tt

fraction_in : (ds : List ℕ) → AreDigits ds → Each InNumber (fraction_bytes ds)
fraction_in [] a = tt
fraction_in (d ∷ ds) a = (refl, digits_in (d ∷ ds) a)

sign_in : (s : Sign) → Each InNumber (sign_bytes s)
sign_in no_sign = tt
sign_in plus_sign = (refl, tt)
sign_in minus_sign = (refl, tt)

exponent_in : (e : Option Exponent) → IsExponent e → Each InNumber (exponent_bytes e)
exponent_in None h = tt
exponent_in (Some e) h = (letter e.capital, each_append InNumber (sign_bytes e.sign) e.digits (sign_in e.sign) (digits_in e.digits (some_digits e.digits h)))
  where
    letter : (b : Bool) → InNumber (cond b 0x45 0x65)
    letter true = refl
    letter false = refl

numeral_in : (n : Numeral) → IsNumeral n → Each InNumber (numeral_bytes n)
numeral_in n h =
    each_append InNumber (minus_bytes n.negative) _ (minus_in n.negative)
    (each_append InNumber n.int _ (digits_in n.int (int_digits n.int h.int)) (each_append InNumber (fraction_bytes n.fraction) (exponent_bytes n.exponent) (fraction_in n.fraction h.fraction) (exponent_in n.exponent h.exponent)))

each_at : (P : ℕ → Type 0) (xs : List ℕ) (k : ℕ) → k < length xs → Each P xs → P (get_or xs k 0)
each_at P [] k l a = absurd (omega arith)
each_at P (x ∷ xs) zero l a = a.0
each_at P (x ∷ xs) (suc k) l a = each_at P xs k (omega arith) a.1

-- ---- last bytes

module _ (line : List ℕ) where
  nth_read : (i j k : ℕ) (bytes : List ℕ) → Reads line i j bytes → k < length bytes → byte_at line (i + k) ≡ get_or bytes k 0
  nth_read i j k bytes r l = let e = reads_end line i j bytes r in sym (get_or-drop i line k 0) ∙ (sym (get_or-take (j - i) (drop i line) k 0 (omega arith)) ∙ ap (λ xs. get_or xs k 0) r.are)

  -- the byte before a place is no white space
  abbrev pub EndsStopped : ℕ → Type 0
  EndsStopped j = (k : ℕ) → k + 1 ≡ j → is_white (byte_at line k) ≡ false

  stopped_by : (j k b : ℕ) → j ≡ k + 1 → byte_at line k ≡ b → is_white b ≡ false → EndsStopped j
  stopped_by j k b e h w = λ n f. ap (λ m. is_white (byte_at line m)) (let g : n ≡ k = omega arith in g) ∙ (ap is_white h ∙ w)

  closes_stopped : (kind : Container) (i j : ℕ) → Closes line kind i j → EndsStopped j
  closes_stopped array i j h = stopped_by j h.place 0x5D h.end h.bracket.is refl
  closes_stopped object i j h = stopped_by j h.place 0x7D h.end h.bracket.is refl

  more_stopped : (kind : Container) (i j : ℕ) (cs : Children) → SpellsMore line kind i j cs → EndsStopped j
  more_stopped kind i j no_child h = closes_stopped kind i j h
  more_stopped kind i j (child name t more) h = more_stopped kind (span t).end j more h.4

  first_stopped : (kind : Container) (i j : ℕ) (cs : Children) → SpellsFirst line kind i j cs → EndsStopped j
  first_stopped kind i j no_child h = closes_stopped kind i j h
  first_stopped kind i j (child name t more) h = more_stopped kind (span t).end j more h.4

  number_no_white : (b : ℕ) → InNumber b → is_white b ≡ false
  number_no_white b h = false_from_ne_true (is_white b) (λ w. both_ways (in_number b) (white_no_digit b w) h)

  number_stopped : (i j : ℕ) (n : Numeral) → IsNumeral n → Reads line i j (numeral_bytes n) → EndsStopped j
  number_stopped i j n c r =
      let e = reads_end line i j (numeral_bytes n) r in
      let l = int_long n.negative n.int (fraction_bytes n.fraction ++ exponent_bytes n.exponent) c.int in
      let last : ℕ = length (numeral_bytes n) - 1 in
      stopped_by j (i + last) (get_or (numeral_bytes n) last 0) (omega arith) (nth_read i j last (numeral_bytes n) r (omega arith)) (number_no_white (get_or (numeral_bytes n) last 0) (each_at InNumber (numeral_bytes n) last (omega arith) (numeral_in n c)))

  value_stopped : (s : Span) (v : Value) → SpellsValue line s v → EndsStopped s.end
  value_stopped s null h = let e = reads_end line s.start s.end null_word h in stopped_by s.end (s.start + 3) 0x6C (omega arith) (nth_read s.start s.end 3 null_word h (omega arith)) refl
  value_stopped s (boolean true) h = let e = reads_end line s.start s.end _ h in stopped_by s.end (s.start + 3) 0x65 (omega arith) (nth_read s.start s.end 3 _ h (omega arith)) refl
  value_stopped s (boolean false) h = let e = reads_end line s.start s.end _ h in stopped_by s.end (s.start + 4) 0x65 (omega arith) (nth_read s.start s.end 4 _ h (omega arith)) refl
  value_stopped s (number m e) h = number_stopped s.start s.end h.numeral h.correct h.bytes
  value_stopped s (string x) h = stopped_by s.end h.last 0x22 h.end h.closes.is refl
  value_stopped s (container kind cs) h = first_stopped kind (s.start + 1) s.end cs h.1

  pub tree_stopped : (t : Tree) → Spells line t → EndsStopped (span t).end
  tree_stopped (node s v) h = value_stopped s v h
