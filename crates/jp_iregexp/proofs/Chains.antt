-- States after which only the next one waits: those that are ready move on at once.
use Rattle.std.proofs.Common.{◌≡◌, ℕ, zero, suc, ◌*◌, ◌/◌, ◌%◌, ◌+◌, ◌^◌, ◌<◌, ◌≤◌, ◌↔◌, inl, inr, IsTrue, List, length, map, bit_or, bit_and, w64, arith, sym, ◌∙◌, ap, subst}
use Rattle.std.proofs.lemmas.Bool.{eqb-true}
use Rattle.std.proofs.lemmas.Nat.Bits.{bit_at_above, bit_at-suc, bit_at-zero, bit_at_lowest, bit_at_cat_low, bit_at-pow_same, bit_at-pow_other}
use Rattle.std.specs.Int.{bit_at, bit_not}
use Rattle.jp_iregexp.specs.States.{HasState, WaitsAfter, is_chained, set_after}
use Rattle.jp_iregexp.specs.Layouts.{state_of}
use Rattle.jp_iregexp.specs.declared.automaton.State.{State as ProgramState}
use Rattle.jp_iregexp.proofs.Bits.{same_or_not, left_or}
use Rattle.jp_iregexp.proofs.Masks.{both, both_left, both_right, below_or_past, after_past}
use Rattle.jp_iregexp.proofs.Sums.{holds_either, holds_left, holds_right}

-- after the last state there is none
pub past_chained : (ps : List ProgramState) (p : ℕ) → length ps ≤ p → IsTrue (is_chained (map state_of ps) p) → ⊥
past_chained ps p l h = (let some = bit_at-pow_same (suc p) in let none = bit_at-zero (suc p) in absurd (omega (arith, none, subst (λ n. HasState n (suc p)) (sym (eqb-true _ _ h) ∙ after_past ps p l) some)))

-- each bit of a word, moved on by one
moved_bit : (word q : ℕ) → suc q < 64 → bit_at (word * 2 % 18446744073709551616) (suc q) ≡ bit_at word q
moved_bit word q l =
    let whole : (word * 2 / 18446744073709551616) * 2 ^ 64 + word * 2 % 18446744073709551616 ≡ word * 2 = omega arith in
    let half : word * 2 / 2 ≡ word = omega arith in
    sym (bit_at_cat_low (word * 2 / 18446744073709551616) 64 (word * 2 % 18446744073709551616) (suc q) l) ∙ ap (λ n. bit_at n (suc q)) whole ∙ bit_at-suc (word * 2) q ∙ ap (λ n. bit_at n q) half

module _ (ps : List ProgramState) (ready chained : ℕ) (few : length ps ≤ 63) (links : (p : ℕ) → HasState chained p ↔ IsTrue (is_chained (map state_of ps) p)) where
  abbrev Moved : ℕ
  Moved = bit_and ready chained * 2 % 18446744073709551616

  next_one : (p : ℕ) → HasState chained p → set_after (map state_of ps) p ≡ 2 ^ suc p
  next_one p h = eqb-true _ _ ((links p).0 h)

  chained_below : (p : ℕ) → HasState chained p → suc p < 64
  chained_below p h = elim (below_or_past p (length ps)) [ inl l ↦ omega (arith, l, few) | inr l ↦ absurd (past_chained ps p l ((links p).0 h)) ]

  moved_waits : (q : ℕ) → HasState Moved q → WaitsAfter (map state_of ps) ready q
  moved_waits zero h = absurd (let low = bit_at_lowest Moved in omega (arith, low, h))
  moved_waits (suc q) h = elim (below_or_past (suc q) 64) [
    | inr l ↦ absurd (let none = bit_at_above Moved 64 (suc q) (omega arith) l in omega (arith, none, h))
    | inl l ↦
        (let there : HasState (bit_and ready chained) q = sym (moved_bit (bit_and ready chained) q l) ∙ h in
        record {
          number = q;
          is_ready = both_left ready chained q there;
          waits = subst (λ n. HasState n (suc q)) (sym (next_one q (both_right ready chained q there))) (bit_at-pow_same (suc q));
        })
  ]

  waits_moved : (p q : ℕ) → HasState ready p → HasState chained p → HasState (set_after (map state_of ps) p) q → HasState Moved q
  waits_moved p q here chain waits = elim (same_or_not q (suc p)) [
    | inl e ↦ subst (HasState Moved) (sym e) (moved_bit (bit_and ready chained) p (chained_below p chain) ∙ both ready chained p here chain)
    | inr d ↦ absurd (let none = bit_at-pow_other (suc p) q d in let some = subst (λ n. HasState n q) (next_one p chain) waits in omega (arith, none, some))
  ]

  -- what the chained states and the others lead to
  pub moved_on : (next : ℕ) → ready < 2 ^ 64 → chained < 2 ^ 64 → ((q : ℕ) → HasState next q ↔ WaitsAfter (map state_of ps) (bit_and ready (bit_not w64 chained)) q)
      → (q : ℕ) → HasState (bit_or Moved next) q ↔ WaitsAfter (map state_of ps) ready q
  moved_on next fits small others q = (
    (λ h. elim (holds_either Moved next q h) [
      | inl i ↦ moved_waits q i
      | inr i ↦ (let w = (others q).0 i in record { number = w.number; is_ready = both_left ready (bit_not w64 chained) w.number w.is_ready; waits = w.waits })
    ]),
    (λ w.
        let below : w.number < 64 = elim (below_or_past w.number 64) [
          | inl l ↦ l
          | inr l ↦ absurd (let none = bit_at_above ready 64 w.number fits l in let some = w.is_ready in omega (arith, none, some))
        ] in
        elim (left_or ready chained w.number small below w.is_ready) [
          | inl i ↦ holds_right Moved next q ((others q).1 (record { number = w.number; is_ready = i; waits = w.waits }))
          | inr i ↦ holds_left Moved next q (waits_moved w.number q w.is_ready i w.waits)
        ]),
  )
