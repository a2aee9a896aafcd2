-- What is reached by one set of texts after another.
use Rattle.std.proofs.Common.{◌≡◌, ℕ, zero, suc, ◌+◌, ◌-◌, ◌<◌, ◌≤◌, ◌⊎◌, ◌↔◌, inl, inr, List, [], ◌∷◌, ◌++◌, length, drop, get_or, arith, refl, sym, ◌∙◌, ap, subst, append_assoc, append-nil, length-append, length-drop, add-one, drop-cons, Option, Some, None}
use Rattle.std.proofs.lemmas.List.{drop-drop}
use Rattle.jp_iregexp.proofs.Bits.{below_or_not}
use Rattle.jp_iregexp.specs.declared.positions.PositionSet.{PositionSet}
use Rattle.jp_iregexp.specs.Positions.{Has, IsSetOver, Reach, ReachFrom, AreEnds}
use Rattle.jp_model.specs.Pattern.Language.{IsOne, Splits, Repeats, RepeatsWithin, AtMost}

-- after the front of a list stands the rest
pub drop_front : (front rest : List ℕ) → drop (length front) (front ++ rest) ≡ rest
drop_front [] rest = refl
drop_front (c ∷ front) rest = drop_front front rest

-- ---- one scalar

pub one_reach : (P : ℕ → Type 0) (text : List ℕ) (p : ℕ) → p < length text → P (get_or text p 0) → Reach (IsOne P) text p (p + 1)
one_reach P text p inside holds = record {
  inside = get_or text p 0 ∷ [];
  ordered = omega arith;
  within = omega arith;
  is = rw add-one (drop-cons text p 0 inside);
  member = record { scalar = get_or text p 0; is = refl; passes = holds };
}

pub record OneOnly (P : ℕ → Type 0) (text : List ℕ) (p q : ℕ) : Type 0 where
  pub next : q ≡ p + 1
  pub inside : p < length text
  pub passes : P (get_or text p 0)

head_of : (text : List ℕ) (p c : ℕ) (rest : List ℕ) → drop p text ≡ c ∷ rest → get_or text p 0 ≡ c
head_of [] zero c rest e = cc
head_of [] (suc p) c rest e = cc
head_of (t ∷ text) zero c rest e = cc
head_of (t ∷ text) (suc p) c rest e = head_of text p c rest e

pub one_only : (P : ℕ → Type 0) (text : List ℕ) (p q : ℕ) → Reach (IsOne P) text p q → OneOnly P text p q
one_only P text p q r =
    let m = r.member in
    let o = r.ordered in
    let w = r.within in
    let e : drop p text ≡ m.scalar ∷ drop q text = r.is ∙ ap (λ x. x ++ drop q text) m.is in
    let lengths : length text - p ≡ suc (length text - q) = sym (length-drop p text) ∙ ap length e ∙ ap suc (length-drop q text) in
    record { next = omega arith; inside = omega arith; passes = subst P (sym (head_of text p m.scalar (drop q text) e)) m.passes }

-- ---- no scalar

pub nothing_reach : (text : List ℕ) (p : ℕ) → p ≤ length text → Reach (λ x. x ≡ []) text p p
nothing_reach text p w = record { inside = []; ordered = omega arith; within = w; is = refl; member = refl }

pub nothing_only : (text : List ℕ) (p q : ℕ) → Reach (λ x. x ≡ []) text p q → p ≡ q
nothing_only text p q r =
    let o = r.ordered in
    let w = r.within in
    let e : drop p text ≡ drop q text = r.is ∙ ap (λ x. x ++ drop q text) r.member in
    let lengths : length text - p ≡ length text - q = sym (length-drop p text) ∙ ap length e ∙ length-drop q text in
    omega arith

-- ---- first one, then the other

pub joined : {First Second : List ℕ → Type 0} (text : List ℕ) (p m q : ℕ) → Reach First text p m → Reach Second text m q → Reach (Splits First Second) text p q
joined text p m q a b = record {
  inside = a.inside ++ b.inside;
  ordered = (let l = a.ordered in let k = b.ordered in omega arith);
  within = b.within;
  is = a.is ∙ ap (λ x. a.inside ++ x) b.is ∙ sym (append_assoc a.inside b.inside (drop q text));
  member = record { front = a.inside; rest = b.inside; is = refl; first = a.member; second = b.member };
}

-- a position between the two
pub record Between (First Second : List ℕ → Type 0) (text : List ℕ) (p q : ℕ) : Type 0 where
  pub middle : ℕ
  pub first : Reach First text p middle
  pub second : Reach Second text middle q

record SplitAt (text front rest : List ℕ) (p q : ℕ) : Type 0 where
  ordered : p + length front ≤ q
  before : drop p text ≡ front ++ drop (p + length front) text
  behind : drop (p + length front) text ≡ rest ++ drop q text

split_at : (text inside front rest : List ℕ) (p q : ℕ) → p ≤ q → q ≤ length text → drop p text ≡ inside ++ drop q text → inside ≡ front ++ rest → SplitAt text front rest p q
split_at text inside front rest p q o w e i =
    let whole : drop p text ≡ front ++ (rest ++ drop q text) = e ∙ ap (λ x. x ++ drop q text) i ∙ append_assoc front rest (drop q text) in
    let behind : drop (p + length front) text ≡ rest ++ drop q text = sym (drop-drop (length front) p text) ∙ ap (λ x. drop (length front) x) whole ∙ drop_front front (rest ++ drop q text) in
    let lengths : length text - p ≡ length front + (length rest + (length text - q)) = sym (length-drop p text) ∙ ap length whole ∙ simp (length-append, length-drop) in
    record { ordered = omega arith; before = whole ∙ ap (λ x. front ++ x) (sym behind); behind = behind }

pub between : {First Second : List ℕ → Type 0} (text : List ℕ) (p q : ℕ) → Reach (Splits First Second) text p q → Between First Second text p q
between text p q r =
    let s = r.member in
    let at = split_at text r.inside s.front s.rest p q r.ordered r.within r.is s.is in
    let o = at.ordered in
    let w = r.within in
    record {
      middle = p + length s.front;
      first = record { inside = s.front; ordered = omega arith; within = omega arith; is = at.before; member = s.first };
      second = record { inside = s.rest; ordered = o; within = w; is = at.behind; member = s.second };
    }

-- the same for a larger set of texts
pub reach_map : {Small Large : List ℕ → Type 0} → ((x : List ℕ) → Small x → Large x) → (text : List ℕ) (p q : ℕ) → Reach Small text p q → Reach Large text p q
reach_map f text p q r = record { inside = r.inside; ordered = r.ordered; within = r.within; is = r.is; member = f r.inside r.member }

-- what is said of the texts that are no longer than the whole
pub reach_map_short : {Small Large : List ℕ → Type 0} (text : List ℕ) (p q : ℕ) → ((x : List ℕ) → length x ≤ length text → Small x → Large x) → Reach Small text p q → Reach Large text p q
reach_map_short text p q f r =
    let lengths : length text - p ≡ length r.inside + (length text - q) = sym (length-drop p text) ∙ ap length r.is ∙ simp (length-append, length-drop) in
    let o = r.ordered in
    let w = r.within in
    record { inside = r.inside; ordered = r.ordered; within = r.within; is = r.is; member = f r.inside (omega arith) r.member }

-- ---- sets of ends

pub ends_nothing : (text : List ℕ) (set : PositionSet) → IsSetOver (length text) set → AreEnds (λ x. x ≡ []) text set set
ends_nothing text set over = record {
  over = over;
  sound = λ q h. record { start = q; has = h; reach = nothing_reach text q (over.within q h) };
  complete = λ p q h r. subst (λ x. Has set x) (nothing_only text p q r) h;
}

pub ends_none : (Member : List ℕ → Type 0) (text : List ℕ) (starts ends : PositionSet) → ((p : ℕ) → ¬ (Has starts p)) → ((q : ℕ) → ¬ (Has ends q)) → AreEnds Member text starts ends
ends_none Member text starts ends none out = record {
  over = record { within = λ q h. absurd (out q h) };
  sound = λ q h. absurd (out q h);
  complete = λ p q h r. absurd (none p h);
}

pub ends_then : {First Second : List ℕ → Type 0} (text : List ℕ) (starts middle ends : PositionSet) → AreEnds First text starts middle → AreEnds Second text middle ends → AreEnds (Splits First Second) text starts ends
ends_then {First} {Second} text starts middle ends a b = record {
  over = b.over;
  sound = λ q h.
      (let s = b.sound q h in
      let f = a.sound s.start s.has in
      record { start = f.start; has = f.has; reach = joined text f.start s.start q f.reach s.reach });
  complete = λ p q h r.
      (let m = between text p q r in
      b.complete m.middle q (a.complete p m.middle h m.first) m.second);
}

-- the same ends for the same set of texts
pub ends_same : {First Second : List ℕ → Type 0} (text : List ℕ) (starts ends : PositionSet) → ((x : List ℕ) → First x → Second x) → ((x : List ℕ) → length x ≤ length text → Second x → First x) → AreEnds First text starts ends → AreEnds Second text starts ends
ends_same {First} {Second} text starts ends to from a = record {
  over = a.over;
  sound = λ q h. (let s = a.sound q h in record { start = s.start; has = s.has; reach = reach_map to text s.start q s.reach });
  complete = λ p q h r. a.complete p q h (reach_map_short text p q from r);
}

-- the sets hold the same positions
abbrev pub AreSame : PositionSet → PositionSet → Type 0
AreSame one other = (p : ℕ) → Has one p ↔ Has other p

pub same_over : (len : ℕ) (starts reached : PositionSet) → AreSame reached starts → IsSetOver len starts → IsSetOver len reached
same_over len starts reached same over = record { within = λ p h. over.within p ((same p).0 h) }

pub same_ends : {Member : List ℕ → Type 0} (text : List ℕ) (starts ends both : PositionSet) → AreSame both ends → AreEnds Member text starts ends → AreEnds Member text starts both
same_ends text starts ends both same a = record {
  over = same_over (length text) ends both same a.over;
  sound = λ q h. a.sound q ((same q).0 h);
  complete = λ p q h r. (same q).1 (a.complete p q h r);
}

pub same_starts : {Member : List ℕ → Type 0} (text : List ℕ) (starts reached ends : PositionSet) → AreSame reached starts → AreEnds Member text reached ends → AreEnds Member text starts ends
same_starts text starts reached ends same a = record {
  over = a.over;
  sound = λ q h. (let s = a.sound q h in record { start = s.start; has = (same s.start).0 s.has; reach = s.reach });
  complete = λ p q h r. a.complete p q ((same p).1 h) r;
}

-- ---- one scalar, start by start

-- the set holds the ends of those members that begin before n
pub record EndsBelow (n : ℕ) (Member : List ℕ → Type 0) (text : List ℕ) (starts ends : PositionSet) : Type 0 where
  pub over : IsSetOver (length text) ends
  pub sound : (q : ℕ) → Has ends q → ReachFrom Member text starts q
  pub complete : (p q : ℕ) → p < n → Has starts p → Reach Member text p q → Has ends q

-- n is no later than any start
pub below_none : (Member : List ℕ → Type 0) (text : List ℕ) (starts ends : PositionSet) (n : ℕ) → ((p : ℕ) → Has starts p → n ≤ p) → ((q : ℕ) → ¬ (Has ends q)) → EndsBelow n Member text starts ends
below_none Member text starts ends n low none = record {
  over = record { within = λ q h. absurd (none q h) };
  sound = λ q h. absurd (none q h);
  complete = λ p q l h r. absurd (let k = low p h in omega (arith, k, l));
}

pub below_skip : (P : ℕ → Type 0) (text : List ℕ) (starts ends : PositionSet) (n : ℕ) → EndsBelow n (IsOne P) text starts ends → (Has starts n → P (get_or text n 0) → ⊥) → EndsBelow (n + 1) (IsOne P) text starts ends
below_skip P text starts ends n e not = record {
  over = e.over;
  sound = e.sound;
  complete = λ p q l h r.
      elim (below_or_not p n) [
        | inl k ↦ e.complete p q k h r
        | inr k ↦ (let same : p ≡ n = omega arith in
            absurd (not (subst (λ x. Has starts x) same h) (subst (λ x. P (get_or text x 0)) same (one_only P text p q r).passes)))
      ];
}

pub below_insert : (P : ℕ → Type 0) (text : List ℕ) (starts ends more : PositionSet) (n : ℕ) → EndsBelow n (IsOne P) text starts ends → n < length text → Has starts n → P (get_or text n 0) → Has more (n + 1) → ((q : ℕ) → Has ends q → Has more q) → ((q : ℕ) → Has more q → (q ≡ n + 1) ⊎ Has ends q) → EndsBelow (n + 1) (IsOne P) text starts more
below_insert P text starts ends more n e inside has holds same old new = record {
  over = record { within = λ q h. elim (new q h) [ inl i ↦ omega (arith, i) | inr g ↦ e.over.within q g ] };
  sound = λ q h.
      elim (new q h) [
        | inl i ↦ (let t : ReachFrom (IsOne P) text starts q = record { start = n; has = has; reach = subst (λ x. Reach (IsOne P) text n x) (sym i) (one_reach P text n inside holds) } in t)
        | inr g ↦ e.sound q g
      ];
  complete = λ p q l h r.
      elim (below_or_not p n) [
        | inl k ↦ old q (e.complete p q k h r)
        | inr k ↦ (let o = one_only P text p q r in
            let next : q ≡ n + 1 = (let i = o.next in omega arith) in
            subst (λ x. Has more x) (sym next) same)
      ];
}

-- no start before the end of the text is left
pub below_all : (P : ℕ → Type 0) (text : List ℕ) (starts ends : PositionSet) (n : ℕ) → ((p : ℕ) → Has starts p → p < length text → p < n) → EndsBelow n (IsOne P) text starts ends → AreEnds (IsOne P) text starts ends
below_all P text starts ends n past e = record { over = e.over; sound = e.sound; complete = λ p q h r. e.complete p q (past p h (one_only P text p q r).inside) h r }

-- ---- repeats

-- a set that a member does not leave is not left by any number of members
pub ends_repeats_closed : {Member : List ℕ → Type 0} (text : List ℕ) (set : PositionSet) → AreEnds Member text set set → (count : ℕ) → AreEnds (Repeats Member count) text set set
ends_repeats_closed text set a zero = ends_nothing text set a.over
ends_repeats_closed text set a (suc count) = ends_then text set set set a (ends_repeats_closed text set a count)

pub closed_under : {Member : List ℕ → Type 0} (text : List ℕ) (set : PositionSet) → ((p q : ℕ) → Has set p → Reach Member text p q → Has set q) → (count p q : ℕ) → Has set p → Reach (Repeats Member count) text p q → Has set q
closed_under text set keeps zero p q h r = subst (λ x. Has set x) (nothing_only text p q r) h
closed_under {Member} text set keeps (suc count) p q h r =
    let m : Between Member (Repeats Member count) text p q = between text p q r in
    closed_under text set keeps count m.middle q (keeps p m.middle h m.first) m.second

pub ends_within_closed : {Member : List ℕ → Type 0} (text : List ℕ) (set : PositionSet) (most : ℕ) → IsSetOver (length text) set → ((p q : ℕ) → Has set p → Reach Member text p q → Has set q) → AreEnds (RepeatsWithin Member 0 (Some most)) text set set
ends_within_closed {Member} text set most over keeps = record {
  over = over;
  sound = λ q h. record { start = q; has = h; reach = reach_map (λ x e. record { count = 0; enough = omega arith; few = omega arith; repeats = e }) text q q (nothing_reach text q (over.within q h)) };
  complete = λ p q h r.
      closed_under text set keeps r.member.count p q h (record { inside = r.inside; ordered = r.ordered; within = r.within; is = r.is; member = r.member.repeats });
}

-- ---- none or one

-- a text that is one member, and the empty text
pub one_member : {Member : List ℕ → Type 0} (x : List ℕ) → Member x → RepeatsWithin Member 0 (Some 1) x
one_member x m = record { count = 1; enough = omega arith; few = omega arith; repeats = record { front = x; rest = []; is = sym (append-nil x); first = m; second = refl } }

pub no_member : {Member : List ℕ → Type 0} (most : ℕ) (x : List ℕ) → x ≡ [] → RepeatsWithin Member 0 (Some most) x
no_member most x e = record { count = 0; enough = omega arith; few = omega arith; repeats = e }

single : {Member : List ℕ → Type 0} (x : List ℕ) → Splits Member (λ y. y ≡ []) x → Member x
single {Member} x s = subst Member (sym (s.is ∙ ap (λ y. s.front ++ y) s.second ∙ append-nil s.front)) s.first

none_or_one : (Member : List ℕ → Type 0) (count : ℕ) (x : List ℕ) → count ≤ 1 → Repeats Member count x → (x ≡ []) ⊎ Member x
none_or_one Member zero x l r = inl r
none_or_one Member (suc zero) x l r = inr (single x r)
none_or_one Member (suc (suc n)) x l r = absurd (omega arith)

reach_either : {First Second : List ℕ → Type 0} (text : List ℕ) (p q : ℕ) → Reach (λ x. First x ⊎ Second x) text p q → Reach First text p q ⊎ Reach Second text p q
reach_either {First} {Second} text p q r =
    elim r.member [
      | inl a ↦ inl (let t : Reach First text p q = record { inside = r.inside; ordered = r.ordered; within = r.within; is = r.is; member = a } in t)
      | inr b ↦ inr (let t : Reach Second text p q = record { inside = r.inside; ordered = r.ordered; within = r.within; is = r.is; member = b } in t)
    ]

-- whatever follows a position that is reached is reached too, but for what follows the frontier
pub record Fronts (Member : List ℕ → Type 0) (text : List ℕ) (reached frontier : PositionSet) : Type 0 where
  pub inside : (p : ℕ) → Has frontier p → Has reached p
  pub closed : (p q : ℕ) → Has reached p → Reach Member text p q → Has frontier p ⊎ Has reached q

-- the ends from the frontier and what was reached are the ends of none or one
pub ends_up_to_one : {Member : List ℕ → Type 0} (text : List ℕ) (reached frontier ends both : PositionSet) → IsSetOver (length text) reached → Fronts Member text reached frontier → AreEnds Member text frontier ends → ((q : ℕ) → Has ends q → Has both q) → ((q : ℕ) → Has reached q → Has both q) → ((q : ℕ) → Has both q → Has ends q ⊎ Has reached q) → AreEnds (RepeatsWithin Member 0 (Some 1)) text reached both
ends_up_to_one {Member} text reached frontier ends both over f a left right either = record {
  over = record { within = λ p h. elim (either p h) [ inl e ↦ a.over.within p e | inr e ↦ over.within p e ] };
  sound = λ q h. elim (either q h) [
    | inl e ↦ (let s = a.sound q e in let t : ReachFrom (RepeatsWithin Member 0 (Some 1)) text reached q = record { start = s.start; has = f.inside s.start s.has; reach = reach_map one_member text s.start q s.reach } in t)
    | inr e ↦ (let t : ReachFrom (RepeatsWithin Member 0 (Some 1)) text reached q = record { start = q; has = e; reach = reach_map (no_member 1) text q q (nothing_reach text q (over.within q e)) } in t)
  ];
  complete = λ p q h r.
      (let g : (x : List ℕ) → RepeatsWithin Member 0 (Some 1) x → (x ≡ []) ⊎ Member x = λ x w. none_or_one Member w.count x w.few w.repeats in
      elim (reach_either text p q (reach_map g text p q r)) [
        | inl e ↦ subst (λ x. Has both x) (nothing_only text p q e) (right p h)
        | inr m ↦ elim (f.closed p q h m) [ inl i ↦ left q (a.complete p q i m) | inr i ↦ right q i ]
      ]);
}

-- ---- none or one, and then up to `most`, is up to `most + 1`

pub one_more : {Member : List ℕ → Type 0} (most : ℕ) (x : List ℕ) → Splits (RepeatsWithin Member 0 (Some 1)) (RepeatsWithin Member 0 (Some most)) x → RepeatsWithin Member 0 (Some (suc most)) x
one_more {Member} most x s =
    let w = s.second in
    let few : w.count ≤ most = w.few in
    elim (none_or_one Member s.first.count s.front s.first.few s.first.repeats) [
      | inl e ↦ (let same : x ≡ s.rest = s.is ∙ ap (λ y. y ++ s.rest) e in
          let t : RepeatsWithin Member 0 (Some (suc most)) x = record { count = w.count; enough = omega arith; few = omega arith; repeats = subst (Repeats Member w.count) (sym same) w.repeats } in t)
      | inr m ↦ (let t : RepeatsWithin Member 0 (Some (suc most)) x = record { count = suc w.count; enough = omega arith; few = omega arith; repeats = record { front = s.front; rest = s.rest; is = s.is; first = m; second = w.repeats } } in t)
    ]

fewer : {Member : List ℕ → Type 0} (most count : ℕ) (x : List ℕ) → count ≤ suc most → Repeats Member count x → Splits (RepeatsWithin Member 0 (Some 1)) (RepeatsWithin Member 0 (Some most)) x
fewer most zero x l e = record { front = []; rest = x; is = refl; first = no_member 1 [] refl; second = no_member most x e }
fewer most (suc count) x l s = record { front = s.front; rest = s.rest; is = s.is; first = one_member s.front s.first; second = record { count = count; enough = omega arith; few = omega arith; repeats = s.second } }

pub one_fewer : {Member : List ℕ → Type 0} (most : ℕ) (x : List ℕ) → RepeatsWithin Member 0 (Some (suc most)) x → Splits (RepeatsWithin Member 0 (Some 1)) (RepeatsWithin Member 0 (Some most)) x
one_fewer most x r = fewer most r.count x r.few r.repeats

-- ---- no text needs more members that are not empty than it has scalars

short_step : {Member : List ℕ → Type 0} (front rest x : List ℕ) → x ≡ front ++ rest → Member front → RepeatsWithin Member 0 (Some (length rest)) rest → RepeatsWithin Member 0 (Some (length x)) x
short_step {Member} [] rest x e m r = subst (λ y. RepeatsWithin Member 0 (Some (length y)) y) (sym e) r
short_step {Member} (c ∷ front) rest x e m r =
    let lengths : length x ≡ suc (length front + length rest) = ap length e ∙ ap suc (length-append front rest) in
    let few : r.count ≤ length rest = r.few in
    record { count = suc r.count; enough = omega arith; few = omega arith; repeats = record { front = c ∷ front; rest = rest; is = e; first = m; second = r.repeats } }

pub shortened : {Member : List ℕ → Type 0} (count : ℕ) (x : List ℕ) → Repeats Member count x → RepeatsWithin Member 0 (Some (length x)) x
shortened zero x e = no_member (length x) x e
shortened {Member} (suc count) x s = short_step s.front s.rest x s.is s.first (shortened count s.rest s.second)

-- so as many turns as the text has scalars are as good as any number
pub cut : {Member : List ℕ → Type 0} (n : ℕ) (x : List ℕ) → length x ≤ n → RepeatsWithin Member 0 None x → RepeatsWithin Member 0 (Some n) x
cut n x l r =
    let w = shortened r.count x r.repeats in
    let few : w.count ≤ length x = w.few in
    record { count = w.count; enough = omega arith; few = omega arith; repeats = w.repeats }

-- ---- the least number, and then further ones

pub repeats_join : (Member : List ℕ → Type 0) (a b n : ℕ) → n ≡ a + b → (x : List ℕ) → Splits (Repeats Member a) (Repeats Member b) x → Repeats Member n x
repeats_join Member zero b n e x s =
    let same : x ≡ s.rest = s.is ∙ ap (λ y. y ++ s.rest) s.first in
    let count : b ≡ n = omega arith in
    subst (λ k. Repeats Member k x) count (subst (Repeats Member b) (sym same) s.second)
repeats_join Member (suc a) b zero e x s = absurd (omega arith)
repeats_join Member (suc a) b (suc n) e x s =
    let f = s.first in
    record {
      front = f.front;
      rest = f.rest ++ s.rest;
      is = s.is ∙ ap (λ y. y ++ s.rest) f.is ∙ append_assoc f.front f.rest s.rest;
      first = f.first;
      second = repeats_join Member a b n (omega arith) (f.rest ++ s.rest) (record { front = f.rest; rest = s.rest; is = refl; first = f.second; second = s.second });
    }

pub repeats_split : (Member : List ℕ → Type 0) (a b n : ℕ) → n ≡ a + b → (x : List ℕ) → Repeats Member n x → Splits (Repeats Member a) (Repeats Member b) x
repeats_split Member zero b n e x r =
    let count : n ≡ b = omega arith in
    record { front = []; rest = x; is = refl; first = refl; second = subst (λ k. Repeats Member k x) count r }
repeats_split Member (suc a) b zero e x r = absurd (omega arith)
repeats_split Member (suc a) b (suc n) e x r =
    let s : Splits (Repeats Member a) (Repeats Member b) r.rest = repeats_split Member a b n (omega arith) r.rest r.second in
    record {
      front = r.front ++ s.front;
      rest = s.rest;
      is = r.is ∙ ap (λ y. r.front ++ y) s.is ∙ sym (append_assoc r.front s.front s.rest);
      first = record { front = r.front; rest = s.front; is = refl; first = r.first; second = s.first };
      second = s.second;
    }

-- what may follow the least number
abbrev pub further : ℕ → Option ℕ → Option ℕ
further least None = None
further least (Some most) = Some (most - least)

few_join : (least count : ℕ) (most : Option ℕ) → AtMost least most → AtMost count (further least most) → AtMost (least + count) most
few_join least count None l f = tt
few_join least count (Some most) l f = omega (arith, l, f)

few_split : (least count : ℕ) (most : Option ℕ) → AtMost count most → AtMost (count - least) (further least most)
few_split least count None f = tt
few_split least count (Some most) f = omega (arith, f)

pub within_join : {Member : List ℕ → Type 0} (least : ℕ) (most : Option ℕ) → AtMost least most → (x : List ℕ) → Splits (Repeats Member least) (RepeatsWithin Member 0 (further least most)) x → RepeatsWithin Member least most x
within_join {Member} least most l x s =
    let w = s.second in
    record { count = least + w.count; enough = omega arith; few = few_join least w.count most l w.few; repeats = repeats_join Member least w.count (least + w.count) refl x (record { front = s.front; rest = s.rest; is = s.is; first = s.first; second = w.repeats }) }

pub within_split : {Member : List ℕ → Type 0} (least : ℕ) (most : Option ℕ) → (x : List ℕ) → RepeatsWithin Member least most x → Splits (Repeats Member least) (RepeatsWithin Member 0 (further least most)) x
within_split {Member} least most x r =
    let enough = r.enough in
    let s : Splits (Repeats Member least) (Repeats Member (r.count - least)) x = repeats_split Member least (r.count - least) r.count (omega arith) x r.repeats in
    record { front = s.front; rest = s.rest; is = s.is; first = s.first; second = record { count = r.count - least; enough = omega arith; few = few_split least r.count most r.few; repeats = s.second } }
