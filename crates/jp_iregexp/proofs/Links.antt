-- The loop over the last states.
use Rattle.std.proofs.Common.{◌≡◌, ℕ, zero, suc, ◌-◌, ◌^◌, ◌<◌, ◌≤◌, inl, inr, List, [], ◌∷◌, length, map, get_or, slice_set, Some, bit_or, bit_and, w64, arith, refl, sym, ◌∙◌, ap, subst}
use Rattle.std.specs.Int.{trailing_zeros}
use Rattle.std.proofs.lemmas.Nat.Bits.{bit_at-zero, bit_at-pow_same}
use Rattle.jp_model.proofs.LowestBit.{is_kept, is_cleared}
use Rattle.jp_iregexp.specs.States.{State, HasState, state_at}
use Rattle.jp_iregexp.specs.declared.automaton.State.{State as ProgramState}
use Rattle.jp_iregexp.specs.Layouts.{state_of, linked, AreLinked}
use Rattle.jp_iregexp.proofs.Bits.{same_or_not}
use Rattle.jp_iregexp.proofs.Sums.{only_one, some_same}
use Rattle.jp_iregexp.proofs.Lowest.{lowest_in, was_there}
use Rattle.jp_iregexp.proofs.Layouts.{length_mapped, linked_last, linked_other, linked_same, state_here}
use Rattle.jp_iregexp.proofs.Leading.{inside}

-- where the states of the rest are linked too, all of them are
pub record IsLeftToLink (last first rest : ℕ) (old now : List State) : Type 0 where
  pub size : length now ≡ length old
  pub left : (new : List State) → AreLinked rest first now new → AreLinked last first old new

pub link_start : (last first : ℕ) (old : List State) → IsLeftToLink last first last old old
link_start last first old = record { size = refl; left = λ new j. j }

pub link_end : (last first : ℕ) (old now : List State) → IsLeftToLink last first 0 old now → AreLinked last first old now
link_end last first old now i = i.left now (record { size = refl; each = λ p w is. is ∙ ap Some (sym (linked_other 0 first p w (λ h. let z = bit_at-zero p in omega (arith, z, h)))) })

module _ (last first rest : ℕ) (old now next : List State) (some : 0 < rest) (small : rest < 2 ^ 64) where
  -- the lowest state of the rest, and then the others
  both_linked : (p : ℕ) (w : State) → linked (bit_and rest (rest - 1)) first p (linked (2 ^ trailing_zeros w64 rest) first p w) ≡ linked rest first p w
  both_linked p w = elim (same_or_not p (trailing_zeros w64 rest)) [
    | inl e ↦
        linked_other (bit_and rest (rest - 1)) first p (linked (2 ^ trailing_zeros w64 rest) first p w) (λ h. let z = is_cleared rest some small in let k = subst (HasState (bit_and rest (rest - 1))) e h in omega (arith, z, k))
        ∙ linked_same (2 ^ trailing_zeros w64 rest) rest first p w (λ h. subst (HasState rest) (sym e) (lowest_in rest some small)) (λ h. subst (HasState (2 ^ trailing_zeros w64 rest)) (sym e) (bit_at-pow_same (trailing_zeros w64 rest)))
    | inr d ↦
        ap (linked (bit_and rest (rest - 1)) first p) (linked_other (2 ^ trailing_zeros w64 rest) first p w (λ h. d (only_one (trailing_zeros w64 rest) p h)))
        ∙ linked_same (bit_and rest (rest - 1)) rest first p w (was_there rest some small p) (λ h. is_kept rest some small p d ∙ h)
  ]

  pub link_step : IsLeftToLink last first rest old now → AreLinked (2 ^ trailing_zeros w64 rest) first now next → IsLeftToLink last first (bit_and rest (rest - 1)) old next
  link_step i j = record {
    size = j.size ∙ i.size;
    left = λ new k. i.left new (record { size = k.size ∙ j.size; each = λ p w is. k.each p (linked (2 ^ trailing_zeros w64 rest) first p w) (j.each p w is) ∙ ap Some (both_linked p w) });
  }

-- ---- one state

set_here : (ps : List ProgramState) (k : ℕ) (p : ProgramState) → k < length ps → state_at (map state_of (slice_set ps k p)) k ≡ Some (state_of p)
set_here [] k p l = absurd (omega arith)
set_here (q ∷ ps) zero p l = refl
set_here (q ∷ ps) (suc k) p l = set_here ps k p (omega arith)

set_there : (ps : List ProgramState) (k : ℕ) (p : ProgramState) (n : ℕ) → (n ≡ k → ⊥) → state_at (map state_of (slice_set ps k p)) n ≡ state_at (map state_of ps) n
set_there [] k p n d = refl
set_there (q ∷ ps) zero p zero d = absurd (d refl)
set_there (q ∷ ps) zero p (suc n) d = refl
set_there (q ∷ ps) (suc k) p zero d = refl
set_there (q ∷ ps) (suc k) p (suc n) d = set_there ps k p n (λ e. d (ap suc e))

set_size : (ps : List ProgramState) (k : ℕ) (p : ProgramState) → length (slice_set ps k p) ≡ length ps
set_size [] k p = refl
set_size (q ∷ ps) zero p = refl
set_size (q ∷ ps) (suc k) p = ap suc (set_size ps k p)

pub one_linked : (ps : List ProgramState) (k first : ℕ) (p : ProgramState) → k < length ps → p ≡ get_or ps k p
    → AreLinked (2 ^ k) first (map state_of ps) (map state_of (slice_set ps k (record { class = p.class; after = bit_or p.after first })))
one_linked ps k first p l at =
    let next : ProgramState = record { class = p.class; after = bit_or p.after first } in
    record {
      size = length_mapped state_of (slice_set ps k next) ∙ set_size ps k next ∙ sym (length_mapped state_of ps);
      each = λ n w is. elim (same_or_not n k) [
        | inl e ↦
            (let here : state_of p ≡ w = some_same (sym (state_here ps k p l at) ∙ ap (state_at (map state_of ps)) (sym e) ∙ is) in
            ap (state_at (map state_of (slice_set ps k next))) e ∙ set_here ps k next l
            ∙ ap Some (sym (linked_last (2 ^ k) first k (state_of p) (bit_at-pow_same k)) ∙ (λ i. linked (2 ^ k) first (sym e i) (here i))))
        | inr d ↦ set_there ps k next n d ∙ is ∙ ap Some (sym (linked_other (2 ^ k) first n w (λ h. d (only_one k n h))))
      ];
    }

-- where no state has the number
pub none_linked : (states : List State) (k first : ℕ) → length states ≤ k → AreLinked (2 ^ k) first states states
none_linked states k first l = record {
  size = refl;
  each = λ n w is. is ∙ ap Some (sym (linked_other (2 ^ k) first n w (λ h. let e = only_one k n h in let i = inside states n w is in omega (arith, e, i, l))));
}
