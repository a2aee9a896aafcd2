-- The bits of a word, through each operation.
use Rattle.std.proofs.Common.{◌≡◌, ℕ, zero, suc, ◌+◌, ◌-◌, ◌*◌, ◌/◌, ◌%◌, ◌^◌, ◌<◌, ◌≤◌, min, Bool, true, false, not, ◌&&◌, ◌||◌, ◌==◌, refl, sym, ap, ap₂, ◌∙◌, arith, w64, pow_pos, mod-lt}
use Rattle.std.specs.Int.{bit_at}
use Rattle.std.proofs.lemmas.Nat.Bits.{bit_at_and, bit_at_xor, bit_at_not, bit_at-lt, bit_at_cat_low, bit_at_cat_high, bit_at-zero, bit_at-suc, bit_at_ones}
use mir.Val.{bool_byte}
use Rattle.jp_masks.specs.Runs.{carried}
use lib.Bits.{bit_and, bit_or, bit_xor}
use Rattle.jp_lanes.specs.Word.{bit, Says}
use Rattle.jp_lanes.proofs.Words.{at_digit, at_digits, bit-or}
use Rattle.jp_masks.specs.Machine.{xor}

pub bit-and : (a b i : ℕ) → bit (bit_and a b) i ≡ (bit a i && bit b i)
unfolding bit
bit-and a b i = ap (λ n. n == 1) (bit_at_and a b i) ∙ at_digits (λ x y. (min x y == 1) ≡ ((x == 1) && (y == 1))) refl refl refl refl a b i

pub bit-xor : (a b i : ℕ) → bit (bit_xor a b) i ≡ xor (bit a i) (bit b i)
unfolding bit
bit-xor a b i = ap (λ n. n == 1) (bit_at_xor a b i) ∙ at_digits (λ x y. ((x + y) % 2 == 1) ≡ xor (x == 1) (y == 1)) refl refl refl refl a b i

-- `!a`
abbrev pub flipped : ℕ → ℕ
flipped a = 2 ^ 64 - 1 - a

pub bit-not : (a i : ℕ) → a < 2 ^ 64 → i < 64 → bit (flipped a) i ≡ not (bit a i)
unfolding bit
bit-not a i small within = ap (λ n. n == 1) (bit_at_not w64 a i small within) ∙ at_digit (λ x. ((1 - x) == 1) ≡ not (x == 1)) refl refl (bit_at a i) (bit_at-lt a i)

pub bit-mod : (a i : ℕ) → i < 64 → bit (a % 2 ^ 64) i ≡ bit a i
unfolding bit
bit-mod a i within =
    let parts : a ≡ a / 2 ^ 64 * 2 ^ 64 + a % 2 ^ 64 = omega arith in
    ap (λ n. n == 1) (sym (bit_at_cat_low (a / 2 ^ 64) 64 (a % 2 ^ 64) i within) ∙ ap (λ n. bit_at n i) (sym parts))

-- `a << k`
abbrev pub shifted : ℕ → ℕ → ℕ
shifted k a = a * 2 ^ k % 2 ^ 64

pub shifted_lt : (k a : ℕ) → shifted k a < 2 ^ 64
shifted_lt k a = mod-lt (a * 2 ^ k) (pow_pos 64)

pub bit-shifted_low : (k a i : ℕ) → i < k → i < 64 → bit (shifted k a) i ≡ false
unfolding bit
bit-shifted_low k a i low within =
    let whole : a * 2 ^ k ≡ a * 2 ^ k + 0 = omega arith in
    bit-mod (a * 2 ^ k) i within ∙ ap (λ n. bit n i) whole ∙ ap (λ n. n == 1) (bit_at_cat_low a k 0 i low ∙ bit_at-zero i)

pub bit-shifted_high : (k a i : ℕ) → k ≤ i → i < 64 → bit (shifted k a) i ≡ bit a (i - k)
unfolding bit
bit-shifted_high k a i high within =
    let whole : a * 2 ^ k ≡ a * 2 ^ k + 0 = omega arith in
    bit-mod (a * 2 ^ k) i within ∙ ap (λ n. bit n i) whole ∙ ap (λ n. n == 1) (bit_at_cat_high a k 0 i (pow_pos k) high)

pub says_and : (a b : ℕ) (p q : ℕ → Bool) → Says a p → Says b q → Says (bit_and a b) (λ i. p i && q i)
says_and a b p q sa sb i within = bit-and a b i ∙ ap₂ (λ x y. x && y) (sa i within) (sb i within)

pub says_xor : (a b : ℕ) (p q : ℕ → Bool) → Says a p → Says b q → Says (bit_xor a b) (λ i. xor (p i) (q i))
says_xor a b p q sa sb i within = bit-xor a b i ∙ ap₂ xor (sa i within) (sb i within)

pub says_not : (a : ℕ) (p : ℕ → Bool) → a < 2 ^ 64 → Says a p → Says (flipped a) (λ i. not (p i))
says_not a p small sa i within = bit-not a i small within ∙ ap not (sa i within)

-- `flag as u64`
pub bit_of_flag_first : (flag : Bool) → bit (bool_byte flag) 0 ≡ flag
unfolding bit
bit_of_flag_first true = refl
bit_of_flag_first false = refl

pub bit_of_flag_above : (flag : Bool) (i : ℕ) → bit (bool_byte flag) (suc i) ≡ false
unfolding bit
bit_of_flag_above true i = ap (λ n. n == 1) (bit_at-suc 1 i ∙ bit_at-zero i)
bit_of_flag_above false i = ap (λ n. n == 1) (bit_at-zero (suc i))

pub flag_small : (flag : Bool) → bool_byte flag < 2 ^ 64
flag_small true = omega arith
flag_small false = omega arith

pub bit_zero : (i : ℕ) → bit 0 i ≡ false
unfolding bit
bit_zero i = ap (λ n. n == 1) (bit_at-zero i)

pub bit_ones : (i : ℕ) → i < 64 → bit (2 ^ 64 - 1) i ≡ true
unfolding bit
bit_ones i within = ap (λ n. n == 1) (bit_at_ones 64 i within)

or-false : (a : Bool) → (a || false) ≡ a
or-false true = refl
or-false false = refl

-- `(a << 1) | flag as u64`
pub says_carried : (a : ℕ) (flag : Bool) → Says (bit_or (shifted 1 a) (bool_byte flag)) (carried a flag)
says_carried a flag zero within = bit-or (shifted 1 a) (bool_byte flag) 0 ∙ ap₂ (λ x y. x || y) (bit-shifted_low 1 a 0 (omega arith) within) (bit_of_flag_first flag)
says_carried a flag (suc i) within =
    let down : suc i - 1 ≡ i = omega arith in
    bit-or (shifted 1 a) (bool_byte flag) (suc i) ∙ ap₂ (λ x y. x || y) (bit-shifted_high 1 a (suc i) (omega arith) within ∙ ap (bit a) down) (bit_of_flag_above flag i) ∙ or-false (bit a i)

-- `a >> 63 == 1`
pub top_bit_lem : (a : ℕ) → a < 2 ^ 64 → (a / 2 ^ 63 == 1) ≡ bit a 63
unfolding bit
top_bit_lem a small =
    let same : a / 2 ^ 63 ≡ a / 2 ^ 63 % 2 = omega arith in
    ap (λ n. n == 1) same
