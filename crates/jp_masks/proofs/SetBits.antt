-- Each position of a word's set bits is below 64, and its bit is set.
use Rattle.std.proofs.Common.{◌≡◌, ℕ, zero, suc, ◌+◌, ◌<◌, Bool, true, false, cond, List, ◌∷◌, length, get_or, refl, sym, arith, subst}
use Rattle.std.specs.List.{filter, range_with_len}
use Rattle.jp_lanes.specs.Word.{bit}
use Rattle.jp_masks.specs.Positions.{set_bits}

filter_at : (p : ℕ → Bool) (a n k : ℕ) → k < length (filter p (range_with_len a n)) → (get_or (filter p (range_with_len a n)) k 0 < a + n) × (p (get_or (filter p (range_with_len a n)) k 0) ≡ true)
filter_at p a zero k within = let none : ⊥ = omega arith in absurd none
filter_at p a (suc n) k within = go (p a) refl k within (λ j short. filter_at p (a + 1) n j short)
  where
    go : (b : Bool) → p a ≡ b → (j : ℕ) → j < length (cond b (a ∷ filter p (range_with_len (a + 1) n)) (filter p (range_with_len (a + 1) n)))
        → ((i : ℕ) → i < length (filter p (range_with_len (a + 1) n)) → (get_or (filter p (range_with_len (a + 1) n)) i 0 < a + 1 + n) × (p (get_or (filter p (range_with_len (a + 1) n)) i 0) ≡ true))
        → (get_or (cond b (a ∷ filter p (range_with_len (a + 1) n)) (filter p (range_with_len (a + 1) n))) j 0 < a + suc n) × (p (get_or (cond b (a ∷ filter p (range_with_len (a + 1) n)) (filter p (range_with_len (a + 1) n))) j 0) ≡ true)
    go true set zero short below = (omega arith, set)
    go true set (suc j) short below = let there = below j (omega arith) in (omega (arith, there.0), there.1)
    go false set j short below = let there = below j short in (omega (arith, there.0), there.1)

set_bits_at : (word k : ℕ) → k < length (set_bits word) → (get_or (set_bits word) k 0 < 64) × (bit word (get_or (set_bits word) k 0) ≡ true)
unfolding set_bits
set_bits_at word k within = let there = filter_at (bit word) 0 64 k within in (omega (arith, there.0), there.1)

-- the same of a list that has them
pub marked : (word k : ℕ) (items : List ℕ) → items ≡ set_bits word → k < length items → (get_or items k 0 < 64) × (bit word (get_or items k 0) ≡ true)
marked word k items same within = subst (λ l. (get_or l k 0 < 64) × (bit word (get_or l k 0) ≡ true)) (sym same) (set_bits_at word k (subst (λ l. k < length l) same within))
