-- Numbers without an exponent, put together from their parts where these stand.
use Rattle.std.proofs.Common.{◌≡◌, ℕ, ◌+◌, ◌-◌, ◌<◌, ◌≤◌, Bool, true, false, not, List, [], ◌∷◌, ◌++◌, length, take, drop, get_or, sym, ◌∙◌, ap, ap₂, refl, arith, Option, None, add-zero, append-nil, ℤ}
use Rattle.std.proofs.Math.Seq.{take-add}
use Rattle.std.proofs.lemmas.List.{drop-drop}
use Rattle.std.proofs.lemmas.List.Edits.{between_none, between_more, length-between}
use Rattle.jp_model.specs.Characters.{is_digit}
use Rattle.jp_model.specs.Json.Places.{byte_at, bytes_between, Has, Reads}
use Rattle.jp_model.specs.Json.Numbers.{Numeral, AreDigits, IsInt, IsNumeral, minus_bytes, fraction_bytes, numeral_of, is_long_exponent, SpellsNumber}
use Rattle.jp_lanes.specs.First.{is_other}
use Rattle.std.specs.Option.{IfSome}
use Rattle.std.proofs.lemmas.Option.{IfSome_then}
use Rattle.jp_tape.specs.Ahead.{IsSolid}
use Rattle.jp_tape.specs.Places.{Ended}
use Rattle.jp_tape.specs.Parts.{HasParts}
use Rattle.jp_tape.proofs.Ahead.{number_solid}
use Rattle.jp_tape.proofs.NumberEnds.{byte_between, inside, all_digits, int_of, number_there}

joined : (line : List ℕ) (a b c : ℕ) → a ≤ b → b ≤ c → bytes_between line a c ≡ bytes_between line a b ++ bytes_between line b c
joined line a b c l m =
    let size : c - a ≡ (b - a) + (c - b) = omega arith in
    let place : a + (b - a) ≡ b = omega arith in
    ap (λ n. take n (drop a line)) size ∙ (take-add (b - a) (c - b) (drop a line) ∙ ap (λ xs. take (b - a) (drop a line) ++ take (c - b) xs) (drop-drop (b - a) a line ∙ ap (λ n. drop n line) place))

-- bytes, and others after them
then_reads : (line : List ℕ) (a b c : ℕ) (xs ys : List ℕ) → Reads line a b xs → Reads line b c ys → Reads line a c (xs ++ ys)
then_reads line a b c xs ys r s =
    let o = r.order in
    let p = s.order in
    record { order = omega (arith, o, p); within = s.within; are = joined line a b c o p ∙ ap₂ (λ (u v : List ℕ). u ++ v) r.are s.are }

-- one byte
pub reads_one : (line : List ℕ) (i b : ℕ) → i < length line → byte_at line i ≡ b → Reads line i (i + 1) (b ∷ [])
reads_one line i b l h = record {
  order = omega arith;
  within = omega (arith, l);
  are = between_more line i i 0 (omega arith) l ∙ ap₂ (λ (xs : List ℕ) (x : ℕ). xs ++ x ∷ []) (between_none line i) h;
}

-- ---- digits

digits_between : (line : List ℕ) (from to : ℕ) → to ≤ length line → ((k : ℕ) → from ≤ k → k < to → is_digit (byte_at line k) ≡ true) → AreDigits (bytes_between line from to)
digits_between line from to w h =
    let size : length (bytes_between line from to) ≡ to - from = length-between line from to w in
    all_digits (bytes_between line from to) (λ k b. ap is_digit (byte_between line from to k (omega (arith, size, b))) ∙ h (from + k) (omega arith) (omega (arith, size, b)))

-- digits that are an int
pub int_read : (line : List ℕ) (from to : ℕ) → from < to → to ≤ length line → ((k : ℕ) → from ≤ k → k < to → is_digit (byte_at line k) ≡ true) → (byte_at line from ≡ 0x30 → to ≡ from + 1) →
    (digits : List ℕ) × IsInt digits × Reads line from to digits
int_read line from to l w h z =
    let digits = bytes_between line from to in
    let size : length digits ≡ to - from = length-between line from to w in
    let first : get_or digits 0 0 ≡ byte_at line from = byte_between line from to 0 (omega (arith, l)) ∙ ap (byte_at line) (add-zero from) in
    (digits, int_of digits (omega (arith, size, l)) (digits_between line from to w h) (λ e. omega (arith, size, z (sym first ∙ e))), record { order = omega (arith, l); within = w; are = refl })

point_bytes : (line : List ℕ) (i j : ℕ) (digits : List ℕ) → 0 < length digits → Reads line i j (0x2E ∷ digits) → Reads line i j (fraction_bytes digits)
point_bytes line i j [] l r = absurd (omega (arith, l))
point_bytes line i j (d ∷ ds) l r = r

-- a point and some digits
pub fraction_read : (line : List ℕ) (from to : ℕ) → Has line from 0x2E → from + 1 < to → to ≤ length line → ((k : ℕ) → from + 1 ≤ k → k < to → is_digit (byte_at line k) ≡ true) →
    (digits : List ℕ) × AreDigits digits × Reads line from to (fraction_bytes digits)
fraction_read line from to p l w h =
    let digits = bytes_between line (from + 1) to in
    let size : length digits ≡ to - (from + 1) = length-between line (from + 1) to w in
    let behind : Reads line (from + 1) to digits = record { order = omega (arith, l); within = w; are = refl } in
    (digits, digits_between line (from + 1) to w h, point_bytes line from to digits (omega (arith, size, l)) (then_reads line from (from + 1) to (0x2E ∷ []) digits (reads_one line from 0x2E p.inside p.is) behind))

-- ---- both

digit_of : (b : Bool) → not b ≡ false → b ≡ true
digit_of true e = refl
digit_of false e = absurd (cc)

-- a byte that is not among those that are no digits
pub digit_there : (line : List ℕ) (k : ℕ) → is_other (byte_at line k) ≡ false → is_digit (byte_at line k) ≡ true
digit_there line k e = digit_of (is_digit (byte_at line k)) e

pub int_alone : (line : List ℕ) (from point : ℕ) (int : List ℕ) → IsInt int → from < point → Reads line from point int → Ended line point → HasParts line from point
int_alone line from point int i l r d = record {
  point = point;
  int = int;
  fraction = [];
  is_int = i;
  some = l;
  int_read = r;
  are_digits = tt;
  fraction_read = record { order = omega arith; within = r.within; are = between_none line point };
  ended = d;
}

pub int_and_fraction : (line : List ℕ) (from point next : ℕ) (int : List ℕ) → IsInt int → from < point → Reads line from point int → byte_at line point ≡ 0x2E → point + 1 < next → next < length line → ((k : ℕ) → point + 1 ≤ k → k < next → is_digit (byte_at line k) ≡ true) → Ended line next → HasParts line from next
int_and_fraction line from point next int i l r p m w h d =
    let f = fraction_read line point next (record { inside = omega (arith, m, w); is = p }) m (omega (arith, w)) h in
    record { point = point; int = int; fraction = f.0; is_int = i; some = l; int_read = r; are_digits = f.1; fraction_read = f.2; ended = d }

-- ---- the number

-- a sign, an int and a fraction part are a number
parts_there : (line : List ℕ) (from start point to : ℕ) (negative : Bool) (int fraction : List ℕ) → Reads line from start (minus_bytes negative) → IsInt int → Reads line start point int → AreDigits fraction → Reads line point to (fraction_bytes fraction) → Ended line to →
    (m e : ℤ) × SpellsNumber line from to m e × Ended line to × (is_long_exponent (numeral_of (bytes_between line from to)) ≡ false)
parts_there line from start point to negative int fraction s i r f q d =
    let whole = then_reads line from start to (minus_bytes negative) (int ++ fraction_bytes fraction) s (then_reads line start point to int (fraction_bytes fraction) r q) in
    let n : Numeral = record { negative = negative; int = int; fraction = fraction; exponent = None } in
    let correct : IsNumeral n = record { int = i; fraction = f; exponent = tt } in
    number_there line from to false n whole.order whole.within d correct (ap (λ (xs : List ℕ). minus_bytes negative ++ (int ++ xs)) (append-nil (fraction_bytes fraction)) ∙ sym whole.are) refl

-- a number without an exponent that ends
abbrev IsPlain : List ℕ → ℕ → ℕ → Type 0
IsPlain line from to = (m e : ℤ) × SpellsNumber line from to m e × Ended line to × (is_long_exponent (numeral_of (bytes_between line from to)) ≡ false)

-- so are the parts that stand behind a sign
pub signed_parts : (line : List ℕ) (from start : ℕ) (negative : Bool) → Reads line from start (minus_bytes negative) → (r : Option ℕ) → IfSome r (λ to. HasParts line start to) → IfSome r (IsPlain line from)
signed_parts line from start negative s r h =
    IfSome_then r {P = λ (to : ℕ). HasParts line start to} {Q = IsPlain line from} h (λ to p. parts_there line from start p.point to negative p.int p.fraction s p.is_int p.int_read p.are_digits p.fraction_read p.ended)

pub signed_solid : (line : List ℕ) (from : ℕ) (r : Option ℕ) → IfSome r (IsPlain line from) → IfSome r (λ to. IsSolid line from to)
signed_solid line from r h = IfSome_then r {P = IsPlain line from} {Q = λ (to : ℕ). IsSolid line from to} h (λ to n. number_solid line from to (λ k a b. inside line from to k n.0 n.1 n.2 a b))
