-- Steps by the masks of the scalars.
use Rattle.std.proofs.Common.{◌≡◌, ◌≢◌, ℕ, zero, suc, ◌+◌, ◌-◌, ◌*◌, ◌%◌, ◌^◌, ◌<◌, ◌≤◌, ◌⊎◌, inl, inr, ◌↔◌, IsTrue, List, [], ◌∷◌, ◌++◌, length, map, get_or, Some, bit_or, bit_and, Bool, w64, arith, refl, sym, ◌∙◌, ap, subst}
use Rattle.std.specs.Int.{trailing_zeros, Width}
use mir.Val.{bits}
use Rattle.std.proofs.lemmas.List.{get_or_append_left, get_or_push, length_push}
use Rattle.std.proofs.Math.ListN.{get_or-eq_default}
use Rattle.std.proofs.lemmas.Nat.Bits.{bit_at_and, bit_at-lt, bit_at-zero, bit_at_set_same, bit_at_set_other}
use Rattle.jp_model.proofs.LowestBit.{is_kept}
use Rattle.jp_model.specs.Pattern.Classes.{in_class}
use Rattle.jp_iregexp.specs.declared.automaton.State.{State as ProgramState}
use Rattle.jp_iregexp.specs.States.{State, HasState, state_at, IsStep, waits_for, AreMasks, AreCodes, AreSets, WaitsAfter, set_after}
use Rattle.jp_iregexp.specs.Layouts.{state_of}
use Rattle.jp_iregexp.proofs.Bits.{same_or_not}
use Rattle.jp_iregexp.proofs.Sums.{holds_either, holds_left, holds_right}
use Rattle.jp_iregexp.proofs.Lowest.{lowest_in, was_there}

-- ---- what waits after the states that are ready

-- what was found so far, and what is left
pub record IsPartAfter (states : List State) (ready rest next : ℕ) : Type 0 where
  pub sound : (q : ℕ) → HasState next q → WaitsAfter states ready q
  pub left : (p : ℕ) → HasState rest p → HasState ready p
  pub complete : (q : ℕ) → WaitsAfter states ready q → HasState next q ⊎ WaitsAfter states rest q

no_bit : (p : ℕ) → HasState 0 p → ⊥
no_bit p h = (let z = bit_at-zero p in omega (arith, z, h))

pub start_after : (states : List State) (ready : ℕ) → IsPartAfter states ready ready 0
start_after states ready = record { sound = λ q h. absurd (no_bit q h); left = λ p h. h; complete = λ q h. inr h }

pub end_after : (states : List State) (ready next : ℕ) → IsPartAfter states ready 0 next → (q : ℕ) → HasState next q ↔ WaitsAfter states ready q
end_after states ready next s q = (s.sound q, λ h. elim (s.complete q h) [ inl i ↦ i | inr r ↦ absurd (no_bit r.number r.is_ready) ])

pub take_after : (states : List State) (ready rest next word : ℕ) → 0 < rest → rest < 2 ^ 64 → IsPartAfter states ready rest next → word ≡ set_after states (trailing_zeros w64 rest) → IsPartAfter states ready (bit_and rest (rest - 1)) (bit_or next word)
take_after states ready rest next word some small s is = record {
  sound = λ q h. elim (holds_either next word q h) [
    | inl i ↦ s.sound q i
    | inr i ↦ record { number = trailing_zeros w64 rest; is_ready = s.left (trailing_zeros w64 rest) (lowest_in rest some small); waits = subst (λ n. HasState n q) is i }
  ];
  left = λ p h. s.left p (was_there rest some small p h);
  complete = λ q h. elim (s.complete q h) [
    | inl i ↦ inl (holds_left next word q i)
    | inr r ↦ elim (same_or_not r.number (trailing_zeros w64 rest)) [
      | inl e ↦ inl (holds_right next word q (subst (λ n. HasState n q) (ap (set_after states) e ∙ sym is) r.waits))
      | inr d ↦ inr (record { number = r.number; is_ready = is_kept rest some small r.number d ∙ r.is_ready; waits = r.waits })
    ]
  ];
}

-- ---- a state by its number

after_at : (states : List State) (n : ℕ) (w : State) → state_at states n ≡ Some w → set_after states n ≡ w.behind
after_at [] n w is = absurd (cc)
after_at (x ∷ states) zero w is = (let e : x ≡ w = cc in ap (λ (v : State). v.behind) e)
after_at (x ∷ states) (suc n) w is = after_at states n w is

pub after_here : (ps : List ProgramState) (n : ℕ) (p : ProgramState) → n < length ps → p ≡ get_or ps n p → set_after (map state_of ps) n ≡ p.after
after_here [] n p l is = absurd (omega arith)
after_here (x ∷ ps) zero p l is = ap (λ (y : ProgramState). y.after) (sym is)
after_here (x ∷ ps) (suc n) p l is = after_here ps n p (omega arith) is

pub after_past : (ps : List ProgramState) (n : ℕ) → length ps ≤ n → set_after (map state_of ps) n ≡ 0
after_past [] n l = refl
after_past (x ∷ ps) zero l = absurd (omega arith)
after_past (x ∷ ps) (suc n) l = after_past ps n (omega arith)

-- a state that waits for the scalar
record IsWaiting (states : List State) (number scalar : ℕ) : Type 0 where
  pub state : State
  pub is : state_at states number ≡ Some state
  pub has : IsTrue (in_class state.class scalar)

waiting_here : (states : List State) (number scalar : ℕ) → IsTrue (waits_for states number scalar) → IsWaiting states number scalar
waiting_here [] number scalar h = absurd (cc)
waiting_here (w ∷ states) zero scalar h = record { state = w; is = refl; has = h }
waiting_here (w ∷ states) (suc number) scalar h = (let r = waiting_here states number scalar h in record { state = r.state; is = r.is; has = r.has })

here_waiting : (states : List State) (number scalar : ℕ) (w : State) → state_at states number ≡ Some w → IsTrue (in_class w.class scalar) → IsTrue (waits_for states number scalar)
here_waiting [] number scalar w is h = absurd (cc)
here_waiting (x ∷ states) zero scalar w is h = (let e : x ≡ w = cc in subst (λ (v : State). IsTrue (in_class v.class scalar)) (sym e) h)
here_waiting (x ∷ states) (suc number) scalar w is h = here_waiting states number scalar w is h

pub both_left : (a b p : ℕ) → HasState (bit_and a b) p → HasState a p
both_left a b p h = omega (arith, h, bit_at_and a b p, bit_at-lt a p, bit_at-lt b p)

pub both_right : (a b p : ℕ) → HasState (bit_and a b) p → HasState b p
both_right a b p h = omega (arith, h, bit_at_and a b p, bit_at-lt a p, bit_at-lt b p)

pub both : (a b p : ℕ) → HasState a p → HasState b p → HasState (bit_and a b) p
both a b p h i = omega (arith, h, i, bit_at_and a b p)

-- after the states that wait, and whose class has the scalar
pub masked_step : (states : List State) (masks : List ℕ) (set scalar next : ℕ) → AreMasks states masks → scalar < length masks
    → ((q : ℕ) → HasState next q ↔ WaitsAfter states (bit_and set (get_or masks scalar 0)) q) → IsStep states set scalar next
masked_step states masks set scalar next masked inside step = λ q. (
  (λ h. let b = (step q).0 h in
      let r = waiting_here states b.number scalar ((masked scalar b.number inside).0 (both_right set (get_or masks scalar 0) b.number b.is_ready)) in
      record {
        number = b.number;
        state = r.state;
        is = r.is;
        waits = both_left set (get_or masks scalar 0) b.number b.is_ready;
        has = r.has;
        rest = subst (λ n. HasState n q) (after_at states b.number r.state r.is) b.waits;
      }),
  (λ h. (step q).1 (record {
    number = h.number;
    is_ready = both set (get_or masks scalar 0) h.number h.waits ((masked scalar h.number inside).1 (here_waiting states h.number scalar h.state h.is h.has));
    waits = subst (λ n. HasState n q) (sym (after_at states h.number h.state h.is)) h.rest;
  })),
)

-- ---- the mask of a scalar

-- the word has the numbers below this one that pass the test, and no others
pub record IsMaskBelow (test : ℕ → Bool) (below mask : ℕ) : Type 0 where
  pub sound : (p : ℕ) → HasState mask p → IsTrue (test p)
  pub complete : (p : ℕ) → p < below → IsTrue (test p) → HasState mask p

pub no_mask : (test : ℕ → Bool) → IsMaskBelow test 0 0
no_mask test = record { sound = λ p h. absurd (no_bit p h); complete = λ p l h. absurd (omega arith) }

below_or_same : (p n : ℕ) → p < n + 1 → (p < n) ⊎ (p ≡ n)
below_or_same p n l = elim (same_or_not p n) [ inl e ↦ inr e | inr d ↦ inl (let f : p ≢ n = d in omega (arith, f)) ]

pub take_mask : (w : Width) (test : ℕ → Bool) (n mask : ℕ) → n < bits w → IsMaskBelow test n mask → IsTrue (test n) → IsMaskBelow test (n + 1) (bit_or mask (1 * 2 ^ n % 2 ^ bits w))
take_mask w test n mask few m passes = record {
  sound = λ p h. elim (same_or_not p n) [
    | inl e ↦ subst (λ k. IsTrue (test k)) (sym e) passes
    | inr d ↦ m.sound p (sym (bit_at_set_other w mask n few p d) ∙ h)
  ];
  complete = λ p l h. elim (same_or_not p n) [
    | inl e ↦ subst (λ k. HasState (bit_or mask (1 * 2 ^ n % 2 ^ bits w)) k) (sym e) (bit_at_set_same w mask n few)
    | inr d ↦ bit_at_set_other w mask n few p d ∙ m.complete p (let f : p ≢ n = d in omega (arith, f)) h
  ];
}

pub skip_mask : (test : ℕ → Bool) (n mask : ℕ) → IsMaskBelow test n mask → (IsTrue (test n) → ⊥) → IsMaskBelow test (n + 1) mask
skip_mask test n mask m passed = record {
  sound = m.sound;
  complete = λ p l h. elim (below_or_same p n l) [ inl i ↦ m.complete p i h | inr e ↦ absurd (passed (subst (λ k. IsTrue (test k)) e h)) ];
}

past_all : (states : List State) (p scalar : ℕ) → length states ≤ p → IsTrue (waits_for states p scalar) → ⊥
past_all [] p scalar l h = cc
past_all (w ∷ states) zero scalar l h = omega arith
past_all (w ∷ states) (suc p) scalar l h = past_all states p scalar (omega arith) h

pub below_or_past : (p n : ℕ) → (p < n) ⊎ (n ≤ p)
below_or_past p zero = inr (omega arith)
below_or_past zero (suc n) = inl (omega arith)
below_or_past (suc p) (suc n) = elim (below_or_past p n) [ inl i ↦ inl (omega arith) | inr i ↦ inr (omega arith) ]

-- by state the scalars that it waits for are bits; of a state that is not there, none
pub waiting_bits : (states : List State) (sets : List ℕ) (scalar : ℕ) → AreSets states sets → scalar < 128 → (p : ℕ) → HasState (get_or sets p 0) scalar ↔ IsTrue (waits_for states p scalar)
waiting_bits states sets scalar s few p = elim (below_or_past p (length sets)) [
  | inl i ↦ s.each p i scalar few
  | inr i ↦ (let same = s.size in ((λ h. absurd (no_bit scalar (subst (λ n. HasState n scalar) (get_or-eq_default sets 0 i) h))), (λ h. absurd (past_all states p scalar (omega (arith, i, same)) h))))
]

pub waits_at : (ps : List ProgramState) (k scalar : ℕ) (p : ProgramState) → k < length ps → p ≡ get_or ps k p → waits_for (map state_of ps) k scalar ≡ in_class (state_of p).class scalar
waits_at [] k scalar p l is = absurd (omega arith)
waits_at (x ∷ ps) zero scalar p l is = ap (λ (y : ProgramState). in_class (state_of y).class scalar) (sym is)
waits_at (x ∷ ps) (suc k) scalar p l is = waits_at ps k scalar p (omega arith) is

-- one set more
pub set_more : (states : List State) (sets more : List ℕ) (set n : ℕ) → more ≡ sets ++ set ∷ [] → n ≡ length sets → AreCodes (waits_for states n) set
    → ((k : ℕ) → k < length sets → AreCodes (waits_for states k) (get_or sets k 0)) → (k : ℕ) → k < length more → AreCodes (waits_for states k) (get_or more k 0)
set_more states sets more set n is at s all = subst (λ ws. (k : ℕ) → k < length ws → AreCodes (waits_for states k) (get_or ws k 0)) (sym is) (λ k l. elim (same_or_not k n) [
  | inl e ↦ subst (AreCodes (waits_for states k)) (sym (get_or_push sets set 0 k (sym (e ∙ at)))) (subst (λ j. AreCodes (waits_for states j) set) (sym e) s)
  | inr d ↦ (let f : k ≢ n = d in let less : k < length sets = (let z = length_push sets set in omega (arith, z, f)) in subst (AreCodes (waits_for states k)) (sym (get_or_append_left sets (set ∷ []) 0 k less)) (all k less))
])

-- one mask more
pub mask_more : (states : List State) (masks more : List ℕ) (mask scalar : ℕ) → more ≡ masks ++ mask ∷ [] → scalar ≡ length masks → ((p : ℕ) → HasState mask p ↔ IsTrue (waits_for states p scalar)) → AreMasks states masks → AreMasks states more
mask_more states masks more mask scalar is at m all = subst (AreMasks states) (sym is) (λ c p l. elim (same_or_not c scalar) [
  | inl e ↦ subst (λ w. HasState w p ↔ IsTrue (waits_for states p c)) (sym (get_or_push masks mask 0 c (sym (e ∙ at)))) (subst (λ k. HasState mask p ↔ IsTrue (waits_for states p k)) (sym e) (m p))
  | inr d ↦ (let f : c ≢ scalar = d in let less : c < length masks = (let s = length_push masks mask in omega (arith, s, f)) in subst (λ w. HasState w p ↔ IsTrue (waits_for states p c)) (sym (get_or_append_left masks (mask ∷ []) 0 c less)) (all c p less))
])
