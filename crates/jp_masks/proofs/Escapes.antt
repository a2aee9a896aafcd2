-- Escaped bytes, by odd runs of the backslashes that are not escaped themselves.
use Rattle.std.proofs.Common.{◌≡◌, ℕ, zero, suc, ◌<◌, Bool, true, false, not, ◌&&◌, ◌||◌, refl, sym, ap, ap₂, ◌∙◌, arith}
use lib.Bits.{bit_and, bit_or}
use mir.Val.{bool_byte}
use Rattle.jp_lanes.specs.Word.{bit, Says}
use Rattle.jp_masks.specs.Runs.{odd_run, escaped_at}
use Rattle.jp_lanes.proofs.Words.{bit-or}
use Rattle.jp_masks.proofs.Bits.{bit-and, bit-not, flipped, flag_small, bit_of_flag_first, bit_of_flag_above, bit_zero}

and-true : (a : Bool) → (a && true) ≡ a
and-true true = refl
and-true false = refl

or-false : (a : Bool) → (a || false) ≡ a
or-false true = refl
or-false false = refl

module _ (backslash : ℕ) (first : Bool) where
  -- the backslashes that are not escaped by one before the block
  abbrev live : ℕ
  live = bit_and backslash (flipped (bool_byte first))

  live_first : bit live 0 ≡ (bit backslash 0 && not first)
  live_first = bit-and backslash (flipped (bool_byte first)) 0 ∙ ap (λ x. bit backslash 0 && x) (bit-not (bool_byte first) 0 (flag_small first) (omega arith) ∙ ap not (bit_of_flag_first first))

  live_above : (i : ℕ) → suc i < 64 → bit live (suc i) ≡ bit backslash (suc i)
  live_above i within =
      bit-and backslash (flipped (bool_byte first)) (suc i) ∙ ap (λ x. bit backslash (suc i) && x) (bit-not (bool_byte first) (suc i) (flag_small first) within ∙ ap not (bit_of_flag_above first i))
      ∙ and-true (bit backslash (suc i))

  escaped_above : (i : ℕ) → i < 64 → odd_run live (suc i) ≡ escaped_at backslash first (suc i)
  unfolding odd_run escaped_at
  escaped_above zero within = ap (λ x. x && true) live_first ∙ and-true (bit backslash 0 && not first)
  escaped_above (suc i) within = ap₂ (λ x y. x && not y) (live_above i within) (escaped_above i (omega arith))

  pub escaped_says : (runs : ℕ) → Says runs (odd_run live) → Says (bit_or runs (bool_byte first)) (escaped_at backslash first)
  unfolding odd_run escaped_at
  escaped_says runs says zero within = bit-or runs (bool_byte first) 0 ∙ ap₂ (λ x y. x || y) (says 0 within) (bit_of_flag_first first)
  escaped_says runs says (suc i) within =
      bit-or runs (bool_byte first) (suc i) ∙ ap₂ (λ x y. x || y) (says (suc i) within) (bit_of_flag_above first i) ∙ or-false (odd_run live (suc i)) ∙ escaped_above i (omega arith)

-- where the block has no backslash
pub none_escaped : (first : Bool) → Says (bool_byte first) (escaped_at 0 first)
unfolding escaped_at
none_escaped first zero within = bit_of_flag_first first
none_escaped first (suc i) within = bit_of_flag_above first i ∙ ap (λ x. x && not (escaped_at 0 first i)) (sym (bit_zero i))
