-- The lowest bit of a word that is set, and the word without it.
use Rattle.std.proofs.Common.{◌≡◌, ℕ, zero, suc, ◌-◌, ◌/◌, ◌%◌, ◌^◌, ◌<◌, ◌≤◌, ◌⊎◌, inl, inr, w64, sym, ap, ◌∙◌, arith}
use Rattle.std.specs.Int.{bit_at, trailing_zeros}
use lib.Bits.{bit_and}
use Rattle.std.proofs.lemmas.Bool.{cases_lt}
use Rattle.std.proofs.lemmas.Nat.Bits.{bit_at-trailing_zeros, bit_at_and, bit_at_lowest, bit_at-suc}

-- one less has the bits of n above its lowest one, at k, and not that one
abbrev LessHas : ℕ → ℕ → Type 0
LessHas k n = ((i : ℕ) → k < i → bit_at (n - 1) i ≡ bit_at n i) × (bit_at (n - 1) k ≡ 0)

at_first : (n : ℕ) → n % 2 ≡ 1 → (i : ℕ) → 0 < i → bit_at (n - 1) i ≡ bit_at n i
at_first n odd zero high = absurd (omega arith)
at_first n odd (suc i) high =
    let halves : (n - 1) / 2 ≡ n / 2 = omega (arith, odd) in
    bit_at-suc (n - 1) i ∙ ap (λ m. bit_at m i) halves ∙ sym (bit_at-suc n i)

at_later : (k n : ℕ) → (n - 1) / 2 ≡ n / 2 - 1 → LessHas k (n / 2) → (i : ℕ) → suc k < i → bit_at (n - 1) i ≡ bit_at n i
at_later k n halves half zero high = absurd (omega arith)
at_later k n halves half (suc i) high = bit_at-suc (n - 1) i ∙ ap (λ m. bit_at m i) halves ∙ half.0 i (omega arith) ∙ sym (bit_at-suc n i)

one_less : (k n : ℕ) → bit_at n k ≡ 1 → ((i : ℕ) → i < k → bit_at n i ≡ 0) → LessHas k n
one_less zero n set clear =
    let odd : n % 2 ≡ 1 = sym (bit_at_lowest n) ∙ set in
    (at_first n odd, bit_at_lowest (n - 1) ∙ omega (arith, odd))
one_less (suc k) n set clear =
    let half = one_less k (n / 2) (sym (bit_at-suc n k) ∙ set) (λ i low. sym (bit_at-suc n i) ∙ clear (suc i) (omega arith)) in
    let even : n % 2 ≡ 0 = sym (bit_at_lowest n) ∙ clear 0 (omega arith) in
    let halves : (n - 1) / 2 ≡ n / 2 - 1 = omega (arith, even) in
    (at_later k n halves half, bit_at-suc (n - 1) k ∙ ap (λ m. bit_at m k) halves ∙ half.1)

module _ (word : ℕ) (some : 0 < word) (small : word < 2 ^ 64) where
  pub lowest : (trailing_zeros w64 word < 64) × (bit_at word (trailing_zeros w64 word) ≡ 1) × ((i : ℕ) → i < trailing_zeros w64 word → bit_at word i ≡ 0)
  lowest = bit_at-trailing_zeros w64 word some small

  less_has : LessHas (trailing_zeros w64 word) word
  less_has = one_less (trailing_zeros w64 word) word lowest.1 lowest.2

  -- the lowest bit is gone
  pub is_cleared : bit_at (bit_and word (word - 1)) (trailing_zeros w64 word) ≡ 0
  is_cleared = let less = less_has in omega (arith, bit_at_and word (word - 1) (trailing_zeros w64 word), less.1)

  stays : (i : ℕ) → (i < trailing_zeros w64 word) ⊎ (trailing_zeros w64 word < i) → bit_at (bit_and word (word - 1)) i ≡ bit_at word i
  stays i (inl low) = omega (arith, bit_at_and word (word - 1) i, lowest.2 i low)
  stays i (inr high) = omega (arith, bit_at_and word (word - 1) i, less_has.0 i high)

  apart : (i k : ℕ) → (i ≡ k → ⊥) → (i < k) ⊎ (k < i)
  apart i k other = go (cases_lt i k) (cases_lt k i)
    where
      go : (i < k) ⊎ (k ≤ i) → (k < i) ⊎ (i ≤ k) → (i < k) ⊎ (k < i)
      go (inl low) c = inl low
      go (inr high) (inl above) = inr above
      go (inr high) (inr low) = absurd (other (omega arith))

  -- every other bit stays
  pub is_kept : (i : ℕ) → (i ≡ trailing_zeros w64 word → ⊥) → bit_at (bit_and word (word - 1)) i ≡ bit_at word i
  is_kept i other = stays i (apart i (trailing_zeros w64 word) other)
