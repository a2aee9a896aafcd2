-- Sets of states that wait, with their marks.
use Rattle.std.proofs.Common.{◌≡◌, ℕ, zero, suc, ◌+◌, ◌<◌, inl, inr, Bool, true, false, not, cond, List, [], ◌∷◌, ◌++◌, length, set, get_or, slice_index, count_by, arith, refl, sym, ◌∙◌, ap, subst, length-append, length-set, get_or-set_other, get_or-set_same}
use Rattle.std.specs.List.{Contains}
use Rattle.std.proofs.lemmas.List.Sums.{sum_by-set}
use Rattle.std.proofs.lemmas.List.Elements.{Contains-push, Contains-push_cases, Contains-append_left}
use Rattle.jp_iregexp.specs.declared.waiting.Waiting.{Waiting}
use Rattle.jp_iregexp.specs.Waiting.{IsMarked, absent, Adds}
use Rattle.jp_iregexp.proofs.Bits.{same_or_not}
use Rattle.jp_iregexp.proofs.Entering.{one_in, only_in}

-- nothing is added: each of the states is there, or is no state
pub adds_none : (states : List ℕ) (w : Waiting) → IsMarked w → ((s : ℕ) → Contains states s → s < length w.has.items → Contains w.list.items s) → Adds states w w
adds_none states w marked all = record { marked = marked; size = refl; longer = omega arith; before = λ i l. refl; kept = λ s h. h; all = all; only = λ s h. inl h; count = refl }

marked_more : (old new : Waiting) (state : ℕ) → IsMarked old → state < length old.has.items → new.list.items ≡ old.list.items ++ state ∷ [] → new.has.items ≡ set old.has.items state true → IsMarked new
marked_more old new state marked inside list has = λ s. (to s, from s)
  where
    here : get_or new.has.items state false ≡ true
    here = ap (λ h. get_or h state false) has ∙ get_or-set_same old.has.items state true false inside

    there : (s : ℕ) → (s ≡ state → ⊥) → get_or new.has.items s false ≡ get_or old.has.items s false
    there s other = ap (λ h. get_or h s false) has ∙ get_or-set_other old.has.items state s true false other

    to : (s : ℕ) → get_or new.has.items s false ≡ true → Contains new.list.items s
    to s h = elim (same_or_not s state) [
      | inl e ↦ subst (λ l. Contains l s) (sym list) (subst (Contains (old.list.items ++ state ∷ [])) (sym e) (Contains-push old.list.items state))
      | inr d ↦ subst (λ l. Contains l s) (sym list) (Contains-append_left old.list.items (state ∷ []) s ((marked s).0 (sym (there s d) ∙ h)))
    ]

    from : (s : ℕ) → Contains new.list.items s → get_or new.has.items s false ≡ true
    from s h = elim (same_or_not s state) [
      | inl e ↦ subst (λ t. get_or new.has.items t false ≡ true) (sym e) here
      | inr d ↦ elim (Contains-push_cases old.list.items state s (subst (λ l. Contains l s) list h)) [
        | inl i ↦ there s d ∙ (marked s).1 i
        | inr e ↦ absurd (d (sym e))
      ]
    ]

-- what a mark counts for
abbrev absence : Bool → ℕ
absence b = cond (not b) 1 0

-- the state is added
pub adds_one : (old new : Waiting) (state : ℕ) → IsMarked old → state < length old.has.items → get_or old.has.items state false ≡ false → new.list.items ≡ old.list.items ++ state ∷ [] → new.has.items ≡ set old.has.items state true → Adds (state ∷ []) old new
adds_one old new state marked inside not_yet list has = record {
  marked = marked_more old new state marked inside list has;
  size = ap length has ∙ length-set old.has.items state true;
  longer = omega (arith, size);
  before = λ i l. ap (λ x. slice_index x i) list ∙ front old.list.items (state ∷ []) i l;
  kept = λ s h. subst (λ x. Contains x s) (sym list) (Contains-append_left old.list.items (state ∷ []) s h);
  all = λ s h l. subst (λ x. Contains x s) (sym list) (subst (Contains (old.list.items ++ state ∷ [])) (only_in state s h) (Contains-push old.list.items state));
  only = λ s h. elim (Contains-push_cases old.list.items state s (subst (λ x. Contains x s) list h)) [ inl i ↦ inl i | inr e ↦ inr (subst (Contains (state ∷ [])) e (one_in state)) ];
  count =
      (let less = sum_by-set absence old.has.items state true false inside in
      let one : absence (get_or old.has.items state false) ≡ 1 = ap absence not_yet in
      let same : absent new ≡ count_by not (set old.has.items state true) = ap (count_by not) has in
      omega (arith, less, one, same, size));
}
  where
    size : length new.list.items ≡ length old.list.items + 1
    size = ap length list ∙ length-append old.list.items (state ∷ [])

    front : (xs ys : List ℕ) (i : ℕ) → i < length xs → slice_index (xs ++ ys) i ≡ slice_index xs i
    front [] ys i l = absurd (omega arith)
    front (x ∷ xs) ys zero l = refl
    front (x ∷ xs) ys (suc i) l = front xs ys i (omega arith)

pub adds_more : (states : List ℕ) (old mid new : Waiting) (state : ℕ) → Adds states old mid → Adds (state ∷ []) mid new → Adds (states ++ state ∷ []) old new
adds_more states old mid new state a b =
    let x = a.longer in
    let y = b.longer in
    let p = a.count in
    let q = b.count in
    record {
      marked = b.marked;
      size = b.size ∙ a.size;
      longer = omega (arith, x, y);
      before = λ i l. b.before i (omega (arith, l, x)) ∙ a.before i l;
      kept = λ s h. b.kept s (a.kept s h);
      all = λ s h l. elim (Contains-push_cases states state s h) [
        | inl i ↦ b.kept s (a.all s i l)
        | inr e ↦ b.all s (subst (Contains (state ∷ [])) e (one_in state)) (let z = a.size in omega (arith, l, z))
      ];
      only = λ s h. elim (b.only s h) [
        | inl i ↦ elim (a.only s i) [ inl k ↦ inl k | inr k ↦ inr (Contains-append_left states (state ∷ []) s k) ]
        | inr i ↦ inr (subst (Contains (states ++ state ∷ [])) (only_in state s i) (Contains-push states state))
      ];
      count = omega (arith, p, q);
    }

-- ---- marks that are taken away

-- the marks that are left are those of before, and of none of these states
abbrev pub IsUnmarked : List ℕ → List Bool → List Bool → Type 0
IsUnmarked states old new = (s : ℕ) → get_or new s false ≡ true → (get_or old s false ≡ true) × (Contains states s → ⊥)

pub unmarked_more : (states : List ℕ) (state : ℕ) (old mid new : List Bool) → IsUnmarked states old mid → ((s : ℕ) → get_or new s false ≡ true → (get_or mid s false ≡ true) × (s ≡ state → ⊥)) → IsUnmarked (states ++ state ∷ []) old new
unmarked_more states state old mid new a b = λ s h.
    (let x = b s h in
    let y = a s x.0 in
    (y.0, λ i. elim (Contains-push_cases states state s i) [ inl k ↦ y.1 k | inr e ↦ x.1 (sym e) ]))

pub unmarked_one : (state : ℕ) (old new : List Bool) → new ≡ set old state false → state < length old → (s : ℕ) → get_or new s false ≡ true → (get_or old s false ≡ true) × (s ≡ state → ⊥)
unmarked_one state old new is inside s h =
    elim (same_or_not s state) [
      | inl e ↦ absurd (let no : get_or new s false ≡ false = ap (λ k. get_or new k false) e ∙ here in cc)
      | inr d ↦ (sym (get_or-set_other old state s false false d) ∙ ap (λ l. get_or l s false) (sym is) ∙ h, d)
    ]
  where
    here : get_or new state false ≡ false
    here = ap (λ l. get_or l state false) is ∙ get_or-set_same old state false false inside
