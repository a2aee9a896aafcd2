-- The turns of a class, in one pass.
use Rattle.std.proofs.Common.{◌≡◌, ℕ, zero, suc, ◌+◌, ◌-◌, ◌<◌, ◌≤◌, ◌⊎◌, inl, inr, Bool, true, false, List, [], ◌++◌, length, get_or, IsTrue, arith, refl, sym, ◌∙◌, ap, subst, append-nil, Some}
use Rattle.jp_iregexp.proofs.Bits.{below_or_not}
use Rattle.jp_iregexp.proofs.Reaching.{AreSame, same_over, nothing_reach, nothing_only, one_reach, one_only, joined, between, reach_map, repeats_join, repeats_split}
use Rattle.jp_iregexp.specs.declared.positions.PositionSet.{PositionSet}
use Rattle.jp_iregexp.specs.Positions.{Has, IsSetOver, Reach, ReachFrom, AreEnds}
use Rattle.jp_model.specs.Pattern.Classes.{in_class}
use Rattle.jp_model.specs.Pattern.Language.{IsOne, Repeats, RepeatsWithin}
use Rattle.jp_model.specs.Pattern.Tree.{CharClass}

-- ---- scalars of the class one after another

-- one scalar, after the others
record LastOne (P : ℕ → Type 0) (text : List ℕ) (m p n : ℕ) : Type 0 where
  passes : P (get_or text n 0)
  before : Reach (Repeats (IsOne P) m) text p n

once : (P : ℕ → Type 0) (x : List ℕ) → Repeats (IsOne P) 1 x → IsOne P x
once P x r =
    let whole : x ≡ r.front = r.is ∙ ap (λ y. r.front ++ y) r.second ∙ append-nil r.front in
    subst (IsOne P) (sym whole) r.first

last_one : (P : ℕ → Type 0) (text : List ℕ) (m p n : ℕ) → Reach (Repeats (IsOne P) (suc m)) text p (n + 1) → LastOne P text m p n
last_one P text m p n r =
    let b = between text p (n + 1) (reach_map (λ x h. repeats_split (IsOne P) m 1 (suc m) (omega arith) x h) text p (n + 1) r) in
    let o = one_only P text b.middle (n + 1) (reach_map (once P) text b.middle (n + 1) b.second) in
    let same : b.middle ≡ n = (let e = o.next in omega (arith, e)) in
    record { passes = subst (λ k. P (get_or text k 0)) same o.passes; before = subst (Reach (Repeats (IsOne P) m) text p) same b.first }

one_later : (P : ℕ → Type 0) (text : List ℕ) (m p n : ℕ) → n < length text → P (get_or text n 0) → Reach (Repeats (IsOne P) m) text p n → Reach (Repeats (IsOne P) (suc m)) text p (n + 1)
one_later P text m p n inside passes r =
    reach_map (λ x s. repeats_join (IsOne P) m 1 (suc m) (omega arith) x s) text p (n + 1)
    (joined text p n (n + 1) r (reach_map (λ x o. record { front = x; rest = []; is = sym (append-nil x); first = o; second = refl }) text n (n + 1) (one_reach P text n inside passes)))

-- `c` scalars end `c` positions later
ones_length : (P : ℕ → Type 0) (text : List ℕ) (c p q : ℕ) → Reach (Repeats (IsOne P) c) text p q → q ≡ p + c
ones_length P text zero p q r = (let e = nothing_only text p q r in omega (arith, e))
ones_length P text (suc c) p q r =
    let b = between text p q r in
    let o = one_only P text p b.middle b.first in
    let i = ones_length P text c b.middle q b.second in
    let e = o.next in
    omega (arith, i, e)

-- and they lead over each position between
ones_between : (P : ℕ → Type 0) (text : List ℕ) (c p n q : ℕ) → p ≤ n → n ≤ q → Reach (Repeats (IsOne P) c) text p q → Reach (Repeats (IsOne P) (n - p)) text p n
ones_between P text c p n q low high r =
    let whole = ones_length P text c p q r in
    let b = between text p q (reach_map (λ x h. repeats_split (IsOne P) (n - p) (q - n) c (omega (arith, whole, low, high)) x h) text p q r) in
    let at = ones_length P text (n - p) p b.middle b.first in
    let same : b.middle ≡ n = omega (arith, at, low) in
    subst (Reach (Repeats (IsOne P) (n - p)) text p) same b.first

-- ---- where they begin

-- from `begin` on all scalars up to `n` are in the class, and from no start before it
pub record IsBegin (P : ℕ → Type 0) (text : List ℕ) (starts : PositionSet) (n begin : ℕ) : Type 0 where
  pub ordered : begin ≤ n
  pub covers : (p : ℕ) → begin ≤ p → p ≤ n → Reach (Repeats (IsOne P) (n - p)) text p n
  pub lowest : (p c : ℕ) → Has starts p → Reach (Repeats (IsOne P) c) text p n → begin ≤ p

nothing_yet : (P : ℕ → Type 0) (text : List ℕ) (n p : ℕ) → n ≤ length text → p ≡ n → Reach (Repeats (IsOne P) (n - p)) text p n
nothing_yet P text n p within e =
    let none : 0 ≡ n - p = omega (arith, e) in
    subst (λ k. Reach (Repeats (IsOne P) k) text p n) none (subst (λ k. Reach (Repeats (IsOne P) 0) text k n) (sym e) (nothing_reach text n within))

first_begin : (P : ℕ → Type 0) (text : List ℕ) (starts : PositionSet) (n : ℕ) → n ≤ length text → ((p : ℕ) → Has starts p → n ≤ p) → IsBegin P text starts n n
first_begin P text starts n within low = record {
  ordered = omega arith;
  covers = λ p l k. nothing_yet P text n p within (omega (arith, l, k));
  lowest = λ p c h r. low p h;
}

begin_stays : (P : ℕ → Type 0) (text : List ℕ) (starts : PositionSet) (n begin : ℕ) → n < length text → P (get_or text n 0) → IsBegin P text starts n begin → IsBegin P text starts (n + 1) begin
begin_stays P text starts n begin inside passes i = record {
  ordered = (let o = i.ordered in omega (arith, o));
  covers = λ p l k. elim (below_or_not n p) [
    | inl after ↦ nothing_yet P text (n + 1) p (omega (arith, inside)) (omega (arith, k, after))
    | inr before ↦
        (let longer : suc (n - p) ≡ n + 1 - p = omega (arith, before) in
        subst (λ c. Reach (Repeats (IsOne P) c) text p (n + 1)) longer (one_later P text (n - p) p n inside passes (i.covers p l before)))
  ];
  lowest = λ p c h r. lowest c p h r;
}
  where
    lowest : (c p : ℕ) → Has starts p → Reach (Repeats (IsOne P) c) text p (n + 1) → begin ≤ p
    lowest zero p h r = (let e = nothing_only text p (n + 1) r in let o = i.ordered in omega (arith, e, o))
    lowest (suc c) p h r = i.lowest p c h (last_one P text c p n r).before

begin_moves : (P : ℕ → Type 0) (text : List ℕ) (starts : PositionSet) (n : ℕ) → n < length text → (P (get_or text n 0) → ⊥) → IsBegin P text starts (n + 1) (n + 1)
begin_moves P text starts n inside fails = record {
  ordered = omega arith;
  covers = λ p l k. nothing_yet P text (n + 1) p (omega (arith, inside)) (omega (arith, l, k));
  lowest = λ p c h r. lowest c p r;
}
  where
    lowest : (c p : ℕ) → Reach (Repeats (IsOne P) c) text p (n + 1) → n + 1 ≤ p
    lowest zero p r = (let e = nothing_only text p (n + 1) r in omega (arith, e))
    lowest (suc c) p r = absurd (fails (last_one P text c p n r).passes)

begin_on : (P : ℕ → Type 0) (text : List ℕ) (starts : PositionSet) (n begin next : ℕ) (passes : Bool) → n < length text → (passes ≡ true → P (get_or text n 0)) → (passes ≡ false → P (get_or text n 0) → ⊥)
    → (passes ≡ true → next ≡ begin) → (passes ≡ false → next ≡ n + 1) → IsBegin P text starts n begin → IsBegin P text starts (n + 1) next
begin_on P text starts n begin next true inside holds fails stays moves i = subst (IsBegin P text starts (n + 1)) (sym (stays refl)) (begin_stays P text starts n begin inside (holds refl) i)
begin_on P text starts n begin next false inside holds fails stays moves i = subst (IsBegin P text starts (n + 1)) (sym (moves refl)) (begin_moves P text starts n inside (fails refl))

-- the same where the scalar is read and asked for
pub begin_read : (class : CharClass) (text : List ℕ) (starts : PositionSet) (n begin next scalar : ℕ) (passes : Bool) → n < length text → scalar ≡ get_or text n 0 → passes ≡ in_class class scalar
    → (passes ≡ true → next ≡ begin) → (passes ≡ false → next ≡ n + 1) → IsBegin (λ s. IsTrue (in_class class s)) text starts n begin → IsBegin (λ s. IsTrue (in_class class s)) text starts (n + 1) next
begin_read class text starts n begin next scalar passes inside read asked stays moves i =
    let tested : passes ≡ in_class class (get_or text n 0) = asked ∙ ap (in_class class) read in
    begin_on (λ s. IsTrue (in_class class s)) text starts n begin next passes inside (λ t. sym tested ∙ t) (λ f h. let t : passes ≡ true = tested ∙ h in cc) stays moves i

-- ---- the ends

-- the bounds of the counts, and the earliest start that leads to a position within them
pub record RunsBelow (P : ℕ → Type 0) (text : List ℕ) (starts ends : PositionSet) (least most n begin start : ℕ) : Type 0 where
  pub over : IsSetOver (length text) ends
  pub begin_is : IsBegin P text starts n begin
  pub has : Has starts start
  pub earliest : (p : ℕ) → Has starts p → begin ≤ p → n ≤ p + most → start ≤ p
  pub sound : (q : ℕ) → Has ends q → ReachFrom (RepeatsWithin (IsOne P) least (Some most)) text starts q
  pub complete : (q p c : ℕ) → q ≤ n → Has starts p → least ≤ c → c ≤ most → Reach (Repeats (IsOne P) c) text p q → Has ends q

up_to_next : (q n : ℕ) → q ≤ n + 1 → (q ≤ n) ⊎ (q ≡ n + 1)
up_to_next q n l = elim (below_or_not n q) [ inl after ↦ inr (omega (arith, after, l)) | inr before ↦ inl before ]

-- the first start
module _ (P : ℕ → Type 0) (text : List ℕ) (starts ends : PositionSet) (least most first : ℕ) (over : IsSetOver (length text) starts) (has : Has starts first) (low : (p : ℕ) → Has starts p → first ≤ p) where
  -- no scalar is wanted, so each start is an end
  pub runs_start_same : least ≡ 0 → AreSame ends starts → RunsBelow P text starts ends least most first first first
  runs_start_same none e = record {
    over = same_over (length text) starts ends e over;
    begin_is = first_begin P text starts first (over.within first has) low;
    has = has;
    earliest = λ p h l k. l;
    sound = λ q h. (let at : Has starts q = (e q).0 h in
        record { start = q; has = at; reach = reach_map (λ x m. record { count = 0; enough = omega (arith, none); few = omega arith; repeats = m }) text q q (nothing_reach text q (over.within q at)) });
    complete = λ q p c l h enough few r. (let same : p ≡ q = (let o = r.ordered in let k = low p h in omega (arith, o, l, k)) in (e q).1 (subst (Has starts) same h));
  }

  pub runs_start_none : 0 < least → ((q : ℕ) → ¬ (Has ends q)) → RunsBelow P text starts ends least most first first first
  runs_start_none some none = record {
    over = record { within = λ q h. absurd (none q h) };
    begin_is = first_begin P text starts first (over.within first has) low;
    has = has;
    earliest = λ p h l k. l;
    sound = λ q h. absurd (none q h);
    complete = λ q p c l h enough few r. absurd (let e = ones_length P text c p q r in let k = low p h in omega (arith, e, l, k, enough, some));
  }

-- the next position: where the class's scalars begin, and the earliest start from there on
module _ (P : ℕ → Type 0) (text : List ℕ) (starts ends : PositionSet) (least most n begin next_begin start : ℕ) (inside : n < length text) (w : RunsBelow P text starts ends least most n begin start)
    (b : IsBegin P text starts (n + 1) next_begin) where
  -- what is before the next position, as seen from there
  still : (p : ℕ) → Has starts p → next_begin ≤ p → begin ≤ p
  still p h l = elim (below_or_not n p) [
    | inl after ↦ (let o = w.begin_is.ordered in omega (arith, o, after))
    | inr before ↦
        (let r = ones_between P text (n + 1 - p) p n (n + 1) before (omega arith) (b.covers p l (omega (arith, before))) in
        w.begin_is.lowest p (n - p) h r)
  ]

  module _ (next : ℕ) (has : Has starts next) (late : next_begin ≤ next) (near : n + 1 ≤ next + most) (first : (p : ℕ) → start ≤ p → next_begin ≤ p → n + 1 ≤ p + most → Has starts p → next ≤ p) where
    earliest : (p : ℕ) → Has starts p → next_begin ≤ p → n + 1 ≤ p + most → next ≤ p
    earliest p h l k = first p (w.earliest p h (still p h l) (omega (arith, k))) l k h

    pub runs_insert : (more : PositionSet) → next + least ≤ n + 1 → Has more (n + 1) → ((q : ℕ) → Has ends q → Has more q) → ((q : ℕ) → Has more q → (q ≡ n + 1) ⊎ Has ends q) → RunsBelow P text starts more least most (n + 1) next_begin next
    runs_insert more enough same old new = record {
      over = record { within = λ q h. elim (new q h) [ inl e ↦ omega (arith, e, inside) | inr g ↦ w.over.within q g ] };
      begin_is = b;
      has = has;
      earliest = earliest;
      sound = λ q h. elim (new q h) [
        | inl e ↦
            (let r = b.covers next late (omega (arith, enough)) in
            let here : ReachFrom (RepeatsWithin (IsOne P) least (Some most)) text starts (n + 1) =
            record { start = next; has = has; reach = reach_map (λ x m. record { count = n + 1 - next; enough = omega (arith, enough); few = omega (arith, near); repeats = m }) text next (n + 1) r } in
            subst (ReachFrom (RepeatsWithin (IsOne P) least (Some most)) text starts) (sym e) here)
        | inr g ↦ w.sound q g
      ];
      complete = λ q p c l h many few r. elim (up_to_next q n l) [ inl k ↦ old q (w.complete q p c k h many few r) | inr e ↦ subst (Has more) (sym e) same ];
    }

    pub runs_skip : n + 1 < next + least → RunsBelow P text starts ends least most (n + 1) next_begin next
    runs_skip short = record {
      over = w.over;
      begin_is = b;
      has = has;
      earliest = earliest;
      sound = w.sound;
      complete = λ q p c l h many few r. elim (up_to_next q n l) [
        | inl k ↦ w.complete q p c k h many few r
        | inr e ↦
            absurd (let here = subst (Reach (Repeats (IsOne P) c) text p) e r in
            let far = ones_length P text c p (n + 1) here in
            let late = earliest p h (b.lowest p c h here) (omega (arith, far, few)) in
            omega (arith, late, far, many, short))
      ];
    }

  -- no start is left
  pub runs_past : ((p : ℕ) → next_begin ≤ p → n + 1 ≤ p + most → Has starts p → ⊥) → (q p c : ℕ) → n < q → Has starts p → c ≤ most → Reach (Repeats (IsOne P) c) text p q → ⊥
  runs_past none q p c later h few r =
      let far = ones_length P text c p q r in
      let begins : next_begin ≤ p = elim (below_or_not (n + 1) p) [
        | inl after ↦ (let o = b.ordered in omega (arith, o, after))
        | inr before ↦ b.lowest p (n + 1 - p) h (ones_between P text c p (n + 1) q before (omega (arith, later)) r)
      ] in
      none p begins (omega (arith, far, few, later)) h

-- the text ends here
pub runs_end : (P : ℕ → Type 0) (text : List ℕ) (n : ℕ) → length text ≤ n → (q p c : ℕ) → n < q → Reach (Repeats (IsOne P) c) text p q → ⊥
runs_end P text n l q p c later r = absurd (let w = r.within in omega (arith, w, l, later))

pub runs_all : (P : ℕ → Type 0) (text : List ℕ) (starts ends : PositionSet) (least most greatest n begin start : ℕ) → most ≤ greatest → ((c : ℕ) → c ≤ greatest → c ≤ length text → c ≤ most)
    → ((q p c : ℕ) → n < q → Has starts p → c ≤ most → Reach (Repeats (IsOne P) c) text p q → ⊥) → RunsBelow P text starts ends least most n begin start → AreEnds (RepeatsWithin (IsOne P) least (Some greatest)) text starts ends
runs_all P text starts ends least most greatest n begin start small enough past w = record {
  over = w.over;
  sound = λ q h. (let s = w.sound q h in record { start = s.start; has = s.has; reach = reach_map (λ x m. record { count = m.count; enough = m.enough; few = (let few = m.few in omega (arith, few, small)); repeats = m.repeats }) text s.start q s.reach });
  complete = λ p q h r.
      (let m = r.member in
      let ones : Reach (Repeats (IsOne P) m.count) text p q = record { inside = r.inside; ordered = r.ordered; within = r.within; is = r.is; member = m.repeats } in
      let far = ones_length P text m.count p q ones in
      let within = r.within in
      let few = enough m.count m.few (omega (arith, far, within)) in
      elim (below_or_not n q) [ inl l ↦ absurd (past q p m.count l h few ones) | inr l ↦ w.complete q p m.count l h m.enough few ones ]);
}
