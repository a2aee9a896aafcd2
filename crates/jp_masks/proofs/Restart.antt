-- A word that is flipped from a position on.
use Rattle.std.proofs.Common.{◌≡◌, ℕ, zero, suc, ◌-◌, ◌^◌, ◌<◌, ◌≤◌, ◌==◌, Bool, true, false, not, ◌&&◌, refl, sym, ap, ap₂, ◌∙◌, arith, w64, ◌⊎◌, inl, inr}
use Rattle.std.proofs.lemmas.Bool.{cases_lt, false≢true}
use Rattle.std.proofs.lemmas.Nat.Bits.{bit_at_mask_inside, bit_at_mask_below, bit_at-zero, bit_at-trailing_zeros}
use Rattle.std.specs.Int.{trailing_zeros}
use lib.Count.{count_trailing_zeros}
use lib.Bits.{bit_and, bit_xor}
use Rattle.jp_lanes.specs.Word.{bit, Says}
use Rattle.jp_masks.specs.Machine.{xor}
use Rattle.jp_masks.specs.Runs.{restarted}
use Rattle.jp_masks.proofs.Bits.{bit-and, bit-xor}

-- how bit i differs from the bit below it
abbrev pub change : ℕ → ℕ → Bool
change word zero = bit word 0
change word (suc i) = xor (bit word i) (bit word (suc i))

-- away from `ends` the two words change at the same positions
abbrev pub SameChanges : ℕ → ℕ → ℕ → Type 0
SameChanges ends word kept = (i : ℕ) → i < 64 → bit ends i ≡ false → change kept i ≡ change word i

xor-true : (a : Bool) → xor a true ≡ not a
xor-true true = refl
xor-true false = refl

xor-false : (a : Bool) → xor a false ≡ a
xor-false true = refl
xor-false false = refl

xor_nots : (a b : Bool) → xor (not a) (not b) ≡ xor a b
xor_nots true true = refl
xor_nots true false = refl
xor_nots false true = refl
xor_nots false false = refl

-- `MAX << position`
abbrev pub from_position : ℕ → ℕ
from_position position = 2 ^ 64 - 2 ^ position

bit_above : (word position i : ℕ) → position ≤ i → i < 64 → bit (bit_xor word (from_position position)) i ≡ not (bit word i)
unfolding bit
bit_above word position i above within =
    bit-xor word (from_position position) i ∙ ap (λ n. xor (bit word i) (n == 1)) (bit_at_mask_inside position 64 i above within) ∙ xor-true (bit word i)

bit_below : (word position i : ℕ) → i < position → bit (bit_xor word (from_position position)) i ≡ bit word i
unfolding bit
bit_below word position i below =
    bit-xor word (from_position position) i ∙ ap (λ n. xor (bit word i) (n == 1)) (bit_at_mask_below position 64 i below) ∙ xor-false (bit word i)

pub flip_keeps : (ends word kept position : ℕ) → position < 64 → bit ends position ≡ true → SameChanges ends word kept → SameChanges ends word (bit_xor kept (from_position position))
flip_keeps ends word kept position room end same i within no_end = go i within no_end (cases_lt i position) ∙ same i within no_end
  where
    go : (j : ℕ) → j < 64 → bit ends j ≡ false → (j < position) ⊎ (position ≤ j) → change (bit_xor kept (from_position position)) j ≡ change kept j
    go zero w clear (inl below) = bit_below kept position 0 below
    go zero w clear (inr above) =
        let here : position ≡ 0 = omega arith in
        absurd (false≢true (sym clear ∙ ap (bit ends) (sym here) ∙ end))
    go (suc j) w clear (inl below) = ap₂ xor (bit_below kept position j (omega arith)) (bit_below kept position (suc j) below)
    go (suc j) w clear (inr above) = split (cases_lt j position)
      where
        split : (j < position) ⊎ (position ≤ j) → change (bit_xor kept (from_position position)) (suc j) ≡ change kept (suc j)
        split (inl below) =
            let here : position ≡ suc j = omega arith in
            absurd (false≢true (sym clear ∙ ap (bit ends) (sym here) ∙ end))
        split (inr over) = ap₂ xor (bit_above kept position j over (omega arith)) (bit_above kept position (suc j) above w) ∙ xor_nots (bit kept j) (bit kept (suc j))

xor_back : (a b : Bool) → xor a (xor a b) ≡ b
xor_back true true = refl
xor_back true false = refl
xor_back false b = refl

-- a bit that is clear at an end, and else has the change that is wanted
settled : (e k below wanted : Bool) → (k && e) ≡ false → (e ≡ false → xor below k ≡ wanted) → k ≡ (not e && xor below wanted)
settled true true below wanted clear same = absurd (false≢true (sym clear))
settled true false below wanted clear same = refl
settled false k below wanted clear same = sym (xor_back below k) ∙ ap (xor below) (same refl)

settled_first : (e k wanted : Bool) → (k && e) ≡ false → (e ≡ false → k ≡ wanted) → k ≡ (not e && wanted)
settled_first true true wanted clear same = absurd (false≢true (sym clear))
settled_first true false wanted clear same = refl
settled_first false k wanted clear same = same refl

-- none of the positions that end is set any more
pub restart_done : (ends word kept : ℕ) → SameChanges ends word kept → ((i : ℕ) → i < 64 → (bit kept i && bit ends i) ≡ false) → Says kept (restarted word ends)
unfolding restarted
restart_done ends word kept same none zero within = settled_first (bit ends 0) (bit kept 0) (bit word 0) (none 0 within) (same 0 within)
restart_done ends word kept same none (suc i) within =
    settled (bit ends (suc i)) (bit kept (suc i)) (bit kept i) (xor (bit word i) (bit word (suc i))) (none (suc i) within) (same (suc i) within)
    ∙ ap (λ x. not (bit ends (suc i)) && xor x (xor (bit word i) (bit word (suc i)))) (restart_done ends word kept same none i (omega arith))

pub none_found : (kept ends : ℕ) → bit_and kept ends ≡ 0 → (i : ℕ) → i < 64 → (bit kept i && bit ends i) ≡ false
unfolding bit
none_found kept ends nothing i within = sym (bit-and kept ends i) ∙ ap (λ n. bit n i) nothing ∙ ap (λ n. n == 1) (bit_at-zero i)

and_both : (a b : Bool) → (a && b) ≡ true → (a ≡ true) × (b ≡ true)
and_both true b both = (refl, both)
and_both false b both = absurd (false≢true both)

-- the lowest position that is set in a word and at an end
module _ (kept ends found : ℕ) (is : found ≡ bit_and kept ends) (small : found < 2 ^ 64) (some : 0 < found) where
  abbrev position : ℕ
  position = trailing_zeros w64 found

  pub position_room : position < 64
  position_room = (bit_at-trailing_zeros w64 found some small).0

  bit_found : (i : ℕ) → bit found i ≡ (bit kept i && bit ends i)
  bit_found i = ap (λ n. bit n i) is ∙ bit-and kept ends i

  set_there : (bit kept position && bit ends position) ≡ true
  unfolding bit
  set_there = sym (bit_found position) ∙ ap (λ n. n == 1) (bit_at-trailing_zeros w64 found some small).1

  pub position_ends : bit ends position ≡ true
  position_ends = (and_both (bit kept position) (bit ends position) set_there).1

  clear_below : (i : ℕ) → i < position → (bit kept i && bit ends i) ≡ false
  unfolding bit
  clear_below i below = sym (bit_found i) ∙ ap (λ n. n == 1) ((bit_at-trailing_zeros w64 found some small).2 i below)

  abbrev next : ℕ
  next = bit_and (bit_xor kept (from_position position)) ends

  next_clear : (i : ℕ) → i ≤ position → bit next i ≡ false
  next_clear i low = bit-and (bit_xor kept (from_position position)) ends i ∙ go (cases_lt i position)
    where
      go : (i < position) ⊎ (position ≤ i) → (bit (bit_xor kept (from_position position)) i && bit ends i) ≡ false
      go (inl below) = ap (λ x. x && bit ends i) (bit_below kept position i below) ∙ clear_below i below
      go (inr above) =
          let here : i ≡ position = omega arith in
          ap (λ x. x && bit ends i) (bit_above kept position i above (omega (arith, position_room)) ∙ ap (λ j. not (bit kept j)) here ∙ ap not (and_both (bit kept position) (bit ends position) set_there).0)

  -- the next lowest position is higher
  pub position_rises : next < 2 ^ 64 → 64 - trailing_zeros w64 next < 64 - position
  unfolding bit count_trailing_zeros
  position_rises fits = go (cases_lt 0 next)
    where
      go : (0 < next) ⊎ (next ≤ 0) → 64 - trailing_zeros w64 next < 64 - position
      go (inr nothing) =
          let none : next ≡ 0 = omega arith in
          let all : trailing_zeros w64 next ≡ 64 = ap (trailing_zeros w64) none in
          omega (arith, position_room, all)
      go (inl more) = higher (cases_lt position (trailing_zeros w64 next))
        where
          higher : (position < trailing_zeros w64 next) ⊎ (trailing_zeros w64 next ≤ position) → 64 - trailing_zeros w64 next < 64 - position
          higher (inl rises) = omega (arith, position_room)
          higher (inr low) =
              absurd (false≢true (sym (next_clear (trailing_zeros w64 next) low) ∙ ap (λ n. n == 1) (bit_at-trailing_zeros w64 next more fits).1))
