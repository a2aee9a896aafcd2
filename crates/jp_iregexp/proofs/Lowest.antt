-- The lowest bit of a set.
use Rattle.std.proofs.Common.{◌≡◌, ℕ, ◌-◌, ◌^◌, ◌<◌, ◌⊎◌, inl, inr, IsTrue, List, Some, bit_or, w64, refl, sym, subst, ◌∙◌}
use Rattle.std.specs.Int.{trailing_zeros}
use lib.Bits.{bit_and}
use Rattle.jp_model.proofs.LowestBit.{lowest, is_kept}
use Rattle.jp_model.specs.Pattern.Classes.{in_class}
use Rattle.jp_iregexp.specs.States.{State, HasState, state_at, Passes, IsPassed}
use Rattle.jp_iregexp.proofs.Bits.{same_or_not}
use Rattle.jp_iregexp.proofs.Sums.{holds_either, holds_left, holds_right, some_same}

module _ (word : ℕ) (some : 0 < word) (small : word < 2 ^ 64) where
  pub lowest_in : HasState word (trailing_zeros w64 word)
  lowest_in = (lowest word some small).1

  pub was_there : (i : ℕ) → HasState (bit_and word (word - 1)) i → HasState word i
  was_there i h =
      elim (same_or_not i (trailing_zeros w64 word)) [
        | inl e ↦ subst (HasState word) (sym e) lowest_in
        | inr d ↦ sym (is_kept word some small i d) ∙ h
      ]

-- what was found so far, and what is left to ask
pub record IsPartStep (states : List State) (set scalar rest next : ℕ) : Type 0 where
  pub sound : (q : ℕ) → HasState next q → Passes states set scalar (λ behind. HasState behind q)
  pub left : (p : ℕ) → HasState rest p → HasState set p
  pub complete : (q : ℕ) → Passes states set scalar (λ behind. HasState behind q) → HasState next q ⊎ Passes states rest scalar (λ behind. HasState behind q)

module _ (states : List State) (set scalar rest next : ℕ) (some : 0 < rest) (small : rest < 2 ^ 64) (s : IsPartStep states set scalar rest next) where
  moved : (q : ℕ) (r : Passes states rest scalar (λ behind. HasState behind q)) → (r.number ≡ trailing_zeros w64 rest → ⊥) → Passes states (bit_and rest (rest - 1)) scalar (λ behind. HasState behind q)
  moved q r other = record { number = r.number; state = r.state; is = r.is; waits = is_kept rest some small r.number other ∙ r.waits; has = r.has; rest = r.rest }

  -- the lowest state does not pass
  pub skip_step : ((w : State) → state_at states (trailing_zeros w64 rest) ≡ Some w → IsTrue (in_class w.class scalar) → ⊥) → IsPartStep states set scalar (bit_and rest (rest - 1)) next
  skip_step not = record {
    sound = s.sound;
    left = λ p h. s.left p (was_there rest some small p h);
    complete = λ q h. elim (s.complete q h) [
      | inl i ↦ inl i
      | inr r ↦ inr (moved q r (λ e. not r.state (subst (λ n. state_at states n ≡ Some r.state) e r.is) r.has))
    ];
  }

  -- the lowest state passes
  pub take_step : (w : State) → state_at states (trailing_zeros w64 rest) ≡ Some w → IsTrue (in_class w.class scalar) → IsPartStep states set scalar (bit_and rest (rest - 1)) (bit_or next w.behind)
  take_step w is has = record {
    sound = λ q h. elim (holds_either next w.behind q h) [
      | inl i ↦ s.sound q i
      | inr i ↦ record { number = trailing_zeros w64 rest; state = w; is = is; waits = s.left (trailing_zeros w64 rest) (lowest_in rest some small); has = has; rest = i }
    ];
    left = λ p h. s.left p (was_there rest some small p h);
    complete = λ q h. elim (s.complete q h) [
      | inl i ↦ inl (holds_left next w.behind q i)
      | inr r ↦ elim (same_or_not r.number (trailing_zeros w64 rest)) [
        | inl e ↦ inl (holds_right next w.behind q (subst (λ (v : State). HasState v.behind q) (some_same (sym (subst (λ n. state_at states n ≡ Some r.state) e r.is) ∙ is)) r.rest))
        | inr d ↦ inr (moved q r d)
      ]
    ];
  }

pub take_passed : (states : List State) (set scalar rest next behind : ℕ) → 0 < rest → rest < 2 ^ 64 → IsPartStep states set scalar rest next → IsPassed states (trailing_zeros w64 rest) scalar behind → IsPartStep states set scalar (bit_and rest (rest - 1)) (bit_or next behind)
take_passed states set scalar rest next behind some small s p =
    subst (λ b. IsPartStep states set scalar (bit_and rest (rest - 1)) (bit_or next b)) p.gives (take_step states set scalar rest next some small s p.state p.is p.has)

pub skip_passed : (states : List State) (set scalar rest next : ℕ) → 0 < rest → rest < 2 ^ 64 → IsPartStep states set scalar rest next → ((behind : ℕ) → IsPassed states (trailing_zeros w64 rest) scalar behind → ⊥) → IsPartStep states set scalar (bit_and rest (rest - 1)) next
skip_passed states set scalar rest next some small s not =
    skip_step states set scalar rest next some small s (λ w is has. not w.behind (record { state = w; is = is; has = has; gives = refl }))
