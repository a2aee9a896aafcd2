-- The bits of a word, through "or" and from the tests of lanes.
use Rattle.std.proofs.Common.{◌≡◌, ℕ, zero, suc, ◌+◌, ◌<◌, max, Bool, true, false, ◌||◌, ◌==◌, List, get_or, cond, refl, ap, ap₂, ◌∙◌, arith}
use Rattle.std.specs.Int.{bit_at}
use Rattle.std.proofs.lemmas.Nat.Bits.{bit_at_or, bit_at-lt}
use Rattle.std.proofs.lemmas.Simd.{bit_mask_l}
use lib.Bits.{bit_or}
use lib.Lanes.{mask_l}
use Rattle.jp_lanes.specs.Word.{bit, Says}

-- what holds at the digits 0 and 1 holds at each digit below 2
pub at_digit : (P : ℕ → Type 0) → P 0 → P 1 → (n : ℕ) → n < 2 → P n
at_digit P none one zero small = none
at_digit P none one (suc zero) small = one
at_digit P none one (suc (suc n)) small = absurd (let no : n + 2 < 2 = omega arith in let bad : ⊥ = omega arith in bad)

pub at_digits : (P : ℕ → ℕ → Type 0) → P 0 0 → P 0 1 → P 1 0 → P 1 1 → (a b i : ℕ) → P (bit_at a i) (bit_at b i)
at_digits P p q r s a b i =
    at_digit (λ x. P x (bit_at b i)) (at_digit (P 0) p q (bit_at b i) (bit_at-lt b i)) (at_digit (P 1) r s (bit_at b i) (bit_at-lt b i)) (bit_at a i) (bit_at-lt a i)

pub bit-or : (a b i : ℕ) → bit (bit_or a b) i ≡ (bit a i || bit b i)
unfolding bit
bit-or a b i = ap (λ n. n == 1) (bit_at_or a b i) ∙ at_digits (λ x y. (max x y == 1) ≡ ((x == 1) || (y == 1))) refl refl refl refl a b i

pub says_or : (a b : ℕ) (p q : ℕ → Bool) → Says a p → Says b q → Says (bit_or a b) (λ i. p i || q i)
says_or a b p q sa sb i within = bit-or a b i ∙ ap₂ (λ x y. x || y) (sa i within) (sb i within)

pub says_mask : (tests : List Bool) → Says (mask_l tests) (λ i. get_or tests i false)
unfolding bit
says_mask tests i within = ap (λ n. n == 1) (bit_mask_l tests i) ∙ back (get_or tests i false)
  where
    back : (b : Bool) → (cond b 1 0 == 1) ≡ b
    back true = refl
    back false = refl
