-- The steps of the layout.
use Rattle.std.proofs.Common.{◌≡◌, ℕ, zero, suc, ◌+◌, ◌-◌, ◌*◌, ◌%◌, ◌^◌, ◌<◌, ◌≤◌, ◌⊎◌, inl, inr, Bool, true, false, ◌&&◌, ◌||◌, ◌==◌, List, [], ◌∷◌, ◌++◌, length, map, get_or, Option, Some, None, bit_or, arith, refl, sym, ◌∙◌, ap, subst, append-nil, length-append}
use Rattle.std.proofs.lemmas.Nat.{one_shl, or_comm}
use Rattle.std.proofs.lemmas.Nat.Bits.{bit_at_or, bit_at-pow_same, same_from_bits}
use Rattle.std.proofs.lemmas.Bool.{eqb-true, eq-eqb, false_from_ne_true}
use Rattle.std.specs.Int.{bit_at}
use Rattle.std.specs.Int.Bits.{or_zero_l}
use Rattle.std.specs.Option.{IfSome}
use Rattle.jp_model.specs.Pattern.Tree.{CharClass, one_of}
use Rattle.jp_model.specs.Pattern.Language.{Language, Splits, RepeatsWithin}
use Rattle.jp_iregexp.specs.declared.automaton.State.{State as ProgramState}
use Rattle.jp_iregexp.specs.States.{State, HasState, IsLaidOut, Leads, through, state_at}
use Rattle.jp_iregexp.specs.Layouts.{state_of, linked, AreLinked, LaidOnto}
use Rattle.jp_iregexp.specs.Nodes.{class_of}
use Rattle.jp_iregexp.proofs.Bits.{same_or_not}
use Rattle.jp_iregexp.proofs.Sums.{one, chained, either, any, once_or_more, same, holds_either, holds_left, holds_right, only_one, some_same}
use Rattle.jp_iregexp.proofs.Leading.{inside, leads_nowhere}

-- ---- linked states

pub linked_last : (last set p : ℕ) (w : State) → HasState last p → linked last set p w ≡ record { class = w.class; behind = bit_or w.behind set }
linked_last last set p w h = rw (eq-eqb (bit_at last p) 1 h) refl

pub linked_other : (last set p : ℕ) (w : State) → (HasState last p → ⊥) → linked last set p w ≡ w
linked_other last set p w d = rw (false_from_ne_true (bit_at last p == 1) (λ e. d (eqb-true (bit_at last p) 1 e))) refl

holds_or_not : (set p : ℕ) → HasState set p ⊎ (HasState set p → ⊥)
holds_or_not set p = same_or_not (bit_at set p) 1

-- by what is last here
pub linked_same : (a b set p : ℕ) (w : State) → (HasState a p → HasState b p) → (HasState b p → HasState a p) → linked a set p w ≡ linked b set p w
linked_same a b set p w to from = elim (holds_or_not a p) [
  | inl h ↦ linked_last a set p w h ∙ sym (linked_last b set p w (to h))
  | inr d ↦ linked_other a set p w d ∙ sym (linked_other b set p w (λ h. d (from h)))
]

or_three : (a b c : ℕ) → bit_or (bit_or a b) c ≡ bit_or a (bit_or b c)
or_three a b c = same_from_bits (bit_or (bit_or a b) c) (bit_or a (bit_or b c)) (λ i. omega (arith, bit_at_or (bit_or a b) c i, bit_at_or a b i, bit_at_or a (bit_or b c) i, bit_at_or b c i))

-- two sets that wait after the same states are one
linked_twice : (last first behind p : ℕ) (w : State) → linked last behind p (linked last first p w) ≡ linked last (bit_or first behind) p w
linked_twice last first behind p w = elim (holds_or_not last p) [
  | inl h ↦ ap (linked last behind p) (linked_last last first p w h) ∙ linked_last last behind p _ h
      ∙ ap (λ (n : ℕ). (let v : State = record { class = w.class; behind = n } in v)) (or_three w.behind first behind) ∙ sym (linked_last last (bit_or first behind) p w h)
  | inr d ↦ linked_other last behind p (linked last first p w) d ∙ linked_other last first p w d ∙ sym (linked_other last (bit_or first behind) p w d)
]

through_other : (e : Bool) (one other p : ℕ) → (HasState one p → ⊥) → HasState (through e other one) p → HasState other p
through_other false one other p none h = h
through_other true one other p none h = elim (holds_either other one p h) [ inl i ↦ i | inr i ↦ absurd (none i) ]

other_through : (e : Bool) (one other p : ℕ) → HasState other p → HasState (through e other one) p
other_through false one other p h = h
other_through true one other p h = holds_left other one p h

-- after a state of the one part, where the other follows it
linked_through : (e : Bool) (one other first behind p : ℕ) (w : State) → (HasState other p → ⊥) → linked (through e other one) behind p (linked one first p w) ≡ linked one (through e first behind) p w
linked_through false one other first behind p w none = linked_other other behind p (linked one first p w) none
linked_through true one other first behind p w none =
    linked_same (bit_or other one) one behind p (linked one first p w) (λ h. elim (holds_either other one p h) [ inl i ↦ absurd (none i) | inr i ↦ i ]) (λ h. holds_right other one p h)
    ∙ linked_twice one first behind p w

-- ---- parts

pub laid_same : (old new : List State) (Member Other : List ℕ → Type 0) (first last : ℕ) (e : Bool) → ((text : List ℕ) → Member text → Other text) → ((text : List ℕ) → Other text → Member text) → LaidOnto old new Member first last e → LaidOnto old new Other first last e
laid_same old new Member Other first last e to from a = record { longer = a.longer; kept = a.kept; own = a.own; laid = λ states behind h. same states Member Other behind first e to from (a.laid states behind h) }

-- with the empty text too
pub with_empty : (old new : List State) (Member : List ℕ → Type 0) (first last : ℕ) (e : Bool) → LaidOnto old new Member first last e → LaidOnto old new (λ x. Member x ⊎ (x ≡ [])) first last true
with_empty old new Member first last e a = record {
  longer = a.longer;
  kept = a.kept;
  own = a.own;
  laid = λ states behind h. (let l = a.laid states behind h in record {
    sound = λ c text h. (let s = l.sound c text h in record { front = s.front; rest = s.rest; is = s.is; first = inl s.first; second = s.second });
    complete = λ c text s. l.complete c text (record { front = s.front; rest = s.rest; is = s.is; first = elim s.first [ inl i ↦ i | inr i ↦ absurd (cc) ]; second = s.second });
    no_end = l.no_end;
    empty = λ h. inr refl;
    nonempty = λ h. refl;
  });
}

pub length_mapped : {A B : Type 0} (f : A → B) (xs : List A) → length (map f xs) ≡ length xs
length_mapped f [] = refl
length_mapped f (x ∷ xs) = ap suc (length_mapped f xs)

-- a state more
pub laid_one : (ps more : List ProgramState) (p : ProgramState) (class : CharClass) (k : ℕ) → more ≡ ps ++ p ∷ [] → class_of p.class ≡ class → p.after ≡ 0 → k ≡ length ps → k < 63
    → LaidOnto (map state_of ps) (map state_of more) (Language (one_of class)) (1 * 2 ^ k % 18446744073709551616) (1 * 2 ^ k % 18446744073709551616) false
laid_one ps more p class k is c none len few =
    let bit : 1 * 2 ^ k % 18446744073709551616 ≡ 2 ^ k = one_shl k 64 (omega arith) in
    let sizes : length more ≡ length ps + 1 = ap length is ∙ length-append ps (p ∷ []) in
    subst (λ n. LaidOnto (map state_of ps) (map state_of more) (Language (one_of class)) n n false) (sym bit) (record {
      longer = omega (arith, sizes, length_mapped state_of ps, length_mapped state_of more);
      kept = λ n w at. subst (λ (l : List ProgramState). state_at (map state_of l) n ≡ Some w) (sym is) (state_earlier ps p n w at);
      own = λ n h. (let e = only_one k n h in (omega (arith, e, len, length_mapped state_of ps), omega (arith, e, len, sizes, length_mapped state_of more)));
      laid = λ states behind h.
          (let at : state_at (map state_of more) k ≡ Some (state_of p) = subst (λ (l : List ProgramState). state_at (map state_of l) k ≡ Some (state_of p)) (sym is) (state_latest ps p k len) in
          let here = h k (state_of p) (omega (arith, len, length_mapped state_of ps)) at in
          let state : linked (2 ^ k) behind k (state_of p) ≡ record { class = class; behind = behind } =
          linked_last (2 ^ k) behind k (state_of p) (bit_at-pow_same k) ∙ (λ i. record { class = c i; behind = (ap (λ n. bit_or n behind) none ∙ or_zero_l behind) i }) in
          one states class behind k (here ∙ ap Some state) few);
    })
  where
    state_latest : (ps : List ProgramState) (p : ProgramState) (k : ℕ) → k ≡ length ps → state_at (map state_of (ps ++ p ∷ [])) k ≡ Some (state_of p)
    state_latest [] p zero e = refl
    state_latest [] p (suc k) e = absurd (omega arith)
    state_latest (q ∷ ps) p zero e = absurd (omega arith)
    state_latest (q ∷ ps) p (suc k) e = state_latest ps p k (omega arith)

    state_earlier : (ps : List ProgramState) (p : ProgramState) (n : ℕ) (w : State) → state_at (map state_of ps) n ≡ Some w → state_at (map state_of (ps ++ p ∷ [])) n ≡ Some w
    state_earlier [] p n w is = absurd (cc)
    state_earlier (q ∷ ps) p zero w is = is
    state_earlier (q ∷ ps) p (suc n) w is = state_earlier ps p n w is

-- the one part and then the other, which is linked to it
pub laid_then : (old mid new all : List State) (First Second : List ℕ → Type 0) (f g l m : ℕ) (d e : Bool) → LaidOnto old mid First f l d → LaidOnto mid new Second g m e → AreLinked l g new all → LaidOnto old all (Splits First Second) (through d f g) (through e m l) (d && e)
laid_then old mid new all First Second f g l m d e a b j =
    let size = j.size in
    let low = a.longer in
    let high = b.longer in
    let apart : (p : ℕ) → HasState m p → HasState l p → ⊥ = λ p h i. (let x = b.own p h in let y = a.own p i in omega (arith, x, y)) in
    let other : (p : ℕ) (w : State) → (HasState l p → ⊥) → state_at new p ≡ Some w → state_at all p ≡ Some w = λ p w d is. j.each p w is ∙ ap Some (linked_other l g p w d) in
    let ours : (p : ℕ) → HasState (through e m l) p → HasState m p ⊎ HasState l p = λ p h. either_of_both e p h in
    record {
      longer = omega (arith, size, low, high);
      kept = λ p w is. other p w (λ h. (let x = a.own p h in let y = inside old p w is in omega (arith, x, y))) (b.kept p w (a.kept p w is));
      own = λ p h. elim (ours p h) [
        | inl i ↦ (let x = b.own p i in (omega (arith, x, low), omega (arith, x, size)))
        | inr i ↦ (let x = a.own p i in (omega (arith, x), omega (arith, x, high, size)))
      ];
      laid = λ states behind h.
          chained states First Second behind f g d e
          (a.laid states (through e g behind) (λ p w from is.
          let within = inside mid p w is in
          h p (linked l g p w) from (j.each p w (b.kept p w is)) ∙ ap Some (linked_through e l m g behind p w (λ i. let x = b.own p i in omega (arith, x, within)))))
          (b.laid states behind (λ p w from is.
          let none : HasState l p → ⊥ = λ i. (let x = a.own p i in omega (arith, x, from)) in
          h p w (omega (arith, from, low)) (other p w none is) ∙ ap Some (linked_same (through e m l) m behind p w (through_other e l m p none) (other_through e l m p))));
    }
  where
    either_of_both : (e : Bool) (p : ℕ) → HasState (through e m l) p → HasState m p ⊎ HasState l p
    either_of_both false p h = inl h
    either_of_both true p h = holds_either m l p h

pub laid_either : (old mid new : List State) (First Second : List ℕ → Type 0) (f g l m : ℕ) (d e : Bool) → LaidOnto old mid First f l d → LaidOnto mid new Second g m e → LaidOnto old new (λ x. First x ⊎ Second x) (bit_or f g) (bit_or l m) (d || e)
laid_either old mid new First Second f g l m d e a b =
    let low = a.longer in
    let high = b.longer in
    record {
      longer = omega (arith, low, high);
      kept = λ p w is. b.kept p w (a.kept p w is);
      own = λ p h. elim (holds_either l m p h) [
        | inl i ↦ (let x = a.own p i in (omega (arith, x), omega (arith, x, high)))
        | inr i ↦ (let x = b.own p i in (omega (arith, x, low), omega (arith, x)))
      ];
      laid = λ states behind h.
          either states First Second behind f g d e
          (a.laid states behind (λ p w from is.
          let within = inside mid p w is in
          let none : HasState m p → ⊥ = λ i. (let x = b.own p i in omega (arith, x, within)) in
          h p w from (b.kept p w is) ∙ ap Some (linked_same (bit_or l m) l behind p w (λ i. elim (holds_either l m p i) [ inl k ↦ k | inr k ↦ absurd (none k) ]) (λ i. holds_left l m p i))))
          (b.laid states behind (λ p w from is.
          let none : HasState l p → ⊥ = λ i. (let x = a.own p i in omega (arith, x, from)) in
          h p w (omega (arith, from, low)) is ∙ ap Some (linked_same (bit_or l m) m behind p w (λ i. elim (holds_either l m p i) [ inl k ↦ absurd (none k) | inr k ↦ k ]) (λ i. holds_right l m p i))));
    }

-- the states of a part after which its first ones wait again
module _ (old new all : List State) (Member : List ℕ → Type 0) (first last : ℕ) (e : Bool) (a : LaidOnto old new Member first last e) (j : AreLinked last first new all) where
  again : (states : List State) (behind : ℕ) → ((p : ℕ) (w : State) → length old ≤ p → state_at all p ≡ Some w → state_at states p ≡ Some (linked last behind p w)) → IsLaidOut states Member (bit_or behind first) first e
  again states behind h =
      subst (λ n. IsLaidOut states Member n first e) (or_comm first behind)
      (a.laid states (bit_or first behind) (λ p w from is. h p (linked last first p w) from (j.each p w is) ∙ ap Some (linked_twice last first behind p w)))

  kept_again : (p : ℕ) (w : State) → state_at old p ≡ Some w → state_at all p ≡ Some w
  kept_again p w is = j.each p w (a.kept p w is) ∙ ap Some (linked_other last first p w (λ h. (let x = a.own p h in let y = inside old p w is in omega (arith, x, y))))

  laid_again : (Many : List ℕ → Type 0) (k : Bool) → ((states : List State) (behind : ℕ) → IsLaidOut states Member (bit_or behind first) first e → IsLaidOut states Many behind first k) → LaidOnto old all Many first last k
  laid_again Many k more = record {
    longer = (let x = a.longer in let y = j.size in omega (arith, x, y));
    kept = kept_again;
    own = λ p h. (let x = a.own p h in let y = j.size in (omega (arith, x), omega (arith, x, y)));
    laid = λ states behind h. more states behind (again states behind h);
  }

  -- any number of times, or once at least
  pub laid_any : (least : ℕ) (k : Bool) → k ≡ (e || (least == 0)) → LaidOnto old all (RepeatsWithin Member (least - (least - 1)) None) first last k
  laid_any zero k is = subst (LaidOnto old all (RepeatsWithin Member 0 None) first last) (sym (is ∙ or_true e)) (laid_again (RepeatsWithin Member 0 None) true (λ states behind l. any states Member behind first e l))
    where
      or_true : (b : Bool) → (b || true) ≡ true
      or_true true = refl
      or_true false = refl
  laid_any (suc n) k is =
      let one : suc n - (suc n - 1) ≡ 1 = omega arith in
      let some : (suc n == 0) ≡ false = false_from_ne_true (suc n == 0) (λ h. let z = eqb-true (suc n) 0 h in omega (arith, z)) in
      subst (λ m. LaidOnto old all (RepeatsWithin Member m None) first last k) (sym one)
      (subst (LaidOnto old all (RepeatsWithin Member 1 None) first last) (sym (is ∙ ap (λ b. e || b) some ∙ or_false e)) (laid_again (RepeatsWithin Member 1 None) e (λ states behind l. once_or_more states Member behind first e l)))
    where
      or_false : (b : Bool) → (b || false) ≡ b
      or_false true = refl
      or_false false = refl

-- ---- a part without states

-- all states, linked
abbrev all_linked : (last set n : ℕ) → List State → List State
all_linked last set n [] = []
all_linked last set n (w ∷ states) = linked last set n w ∷ all_linked last set (suc n) states

all_linked_at : (last set n : ℕ) (states : List State) (p : ℕ) (w : State) → state_at states p ≡ Some w → state_at (all_linked last set n states) p ≡ Some (linked last set (p + n) w)
all_linked_at last set n [] p w is = absurd (cc)
all_linked_at last set n (x ∷ states) zero w is = (let same : x ≡ w = some_same is in let here : n ≡ 0 + n = omega arith in ap (λ (v : State). Some (linked last set n v)) same ∙ ap (λ k. Some (linked last set k w)) here)
all_linked_at last set n (x ∷ states) (suc p) w is = (let here : p + suc n ≡ suc p + n = omega arith in all_linked_at last set (suc n) states p w is ∙ ap (λ k. Some (linked last set k w)) here)

-- no text but the empty one leads through a part that has no first state
pub only_empty : (old new : List State) (Member : List ℕ → Type 0) (first last : ℕ) (e : Bool) → first ≡ 0 → LaidOnto old new Member first last e → (x : List ℕ) → Member x → x ≡ []
only_empty old new Member first last e none a [] m = refl
only_empty old new Member first last e none a (c ∷ x) m =
    let states = all_linked last (2 ^ 63) 0 new in
    let l = a.laid states (2 ^ 63) (λ p w from is. let here : p + 0 ≡ p = omega arith in all_linked_at last (2 ^ 63) 0 new p w is ∙ ap (λ k. Some (linked last (2 ^ 63) k w)) here) in
    absurd (leads_nowhere states (c ∷ x) (subst (λ n. Leads states n (c ∷ x)) none (l.complete c x (record { front = x; rest = []; is = sym (append-nil x); first = m; second = bit_at-pow_same 63 }))))

-- the states of a part that is not taken are left
pub laid_left : (old mid new : List State) (Member Other : List ℕ → Type 0) (f g l m : ℕ) (d e : Bool) → LaidOnto old mid Member f l d → LaidOnto mid new Other g m e → LaidOnto old new Member f l d
laid_left old mid new Member Other f g l m d e a b =
    let low = a.longer in
    let high = b.longer in
    record {
      longer = omega (arith, low, high);
      kept = λ p w is. b.kept p w (a.kept p w is);
      own = λ p h. (let x = a.own p h in (omega (arith, x), omega (arith, x, high)));
      laid = λ states behind h. a.laid states behind (λ p w from is. h p w from (b.kept p w is));
    }

-- the same, where the values have names of their own
pub laid_as : (old new : List State) (Member : List ℕ → Type 0) (f g l m : ℕ) (d e : Bool) → g ≡ f → m ≡ l → e ≡ d → LaidOnto old new Member f l d → LaidOnto old new Member g m e
laid_as old new Member f g l m d e i j k a =
    subst (λ n. LaidOnto old new Member n m e) (sym i) (subst (λ n. LaidOnto old new Member f n e) (sym j) (subst (LaidOnto old new Member f l) (sym k) a))

pub some_of : {A : Type 0} (P : A → Type 0) (o : Option A) (x : A) → o ≡ Some x → IfSome o P → P x
some_of P o x is h = subst (λ o. IfSome o P) is h

-- ---- a state by its number

pub state_here : (ps : List ProgramState) (k : ℕ) (p : ProgramState) → k < length ps → p ≡ get_or ps k p → state_at (map state_of ps) k ≡ Some (state_of p)
state_here [] k p l is = absurd (omega arith)
state_here (x ∷ ps) zero p l is = ap (λ y. Some (state_of y)) (sym is)
state_here (x ∷ ps) (suc k) p l is = state_here ps k p (omega arith) is

pub no_state : (ps : List ProgramState) (k : ℕ) (w : State) → length ps ≤ k → state_at (map state_of ps) k ≡ Some w → ⊥
no_state [] k w l is = cc
no_state (x ∷ ps) zero w l is = absurd (omega arith)
no_state (x ∷ ps) (suc k) w l is = no_state ps k w (omega arith) is
