-- A slice, element by element, and the loop that counts its indexes.
use Rattle.std.proofs.Common.{unwrap_or, neg_ℤ, div-add-mod', ◌/◌, pos_of_ne-zero, ◌≤ℤ◌, ◌≡◌, ℕ, zero, suc, ◌+◌, ◌-◌, ◌*◌, ◌%◌, ◌<◌, ◌≤◌, inl, inr, ℤ, pos, negsuc, ◌+ℤ◌, ◌-ℤ◌, int_lt, int_le, int_rem, IsTrue, List, [], ◌∷◌, ◌++◌, map, filter, length, reverse, flat_map, Bool, true, false, cond, ◌&&◌, Option, Some, None, refl, sym, ap, ap₂, subst, ◌∙◌, arith, append-nil}
use Rattle.std.proofs.lemmas.Bool.{and_from, and_left, and_right, le-leb, lt-leb, le-ltb, lt-ltb, ltb-true, cases_lt}
use Rattle.std.proofs.lemmas.Int.{ints, clamps}
use Rattle.std.proofs.lemmas.List.{length-map, map-append, reverse-append}
use Rattle.std.proofs.Math.Nat.{mul-mod_left}
use Rattle.std.proofs.lemmas.Nat.{mod-mul-add}
use Rattle.std.proofs.lemmas.List.Concat.{flat_map-append}
use Rattle.jp_laws.specs.Slices.{normalize, lower, upper, SelectsUp, SelectsDown}
use Rattle.jp_model.proofs.Steps.{int_same}
use Rattle.jp_model.specs.Json.Tree.{value_of, Tree, Value, null, boolean, number, string, container, Children, no_child, child}
use Rattle.jp_model.specs.Meaning.Nodes.{Node, child_of, child_count, children_where, steps_from, steps_in}
use Rattle.jp_model.specs.Meaning.Slices.{is_index, indexed, sliced, clamped, normal, on_stride, upward, downward}
use Rattle.jp_model.specs.Steps.{Step, index_step, same_int}

-- ---- the elements whose index passes, index by index

abbrev passing : (ℤ → Bool) → Step × Tree → Bool
passing P p = is_index P p.0

abbrev hit : ℤ → Step × Tree → Bool
hit i = passing (same_int i)

-- the indexes that pass, ascending
abbrev pub select_up : (ℤ → Bool) → ℕ → ℕ → List ℤ
select_up P p zero = []
select_up P p (suc n) = cond (P (pos p)) (pos p ∷ select_up P (p + 1) n) (select_up P (p + 1) n)

-- the indexes below n that pass, descending
abbrev pub select_down : (ℤ → Bool) → ℕ → List ℤ
select_down P zero = []
select_down P (suc n) = cond (P (pos n)) (pos n ∷ select_down P n) (select_down P n)

same_self : (a : ℕ) → same_int (pos a) (pos a) ≡ true
same_self a = and_from _ _ (le-leb a a (omega arith)) (le-leb a a (omega arith))

same_apart : (a b : ℕ) → a < b → same_int (pos a) (pos b) ≡ false
same_apart a b h = and_right _ _ (lt-leb b a h)

apart_same : (a b : ℕ) → b < a → same_int (pos a) (pos b) ≡ false
apart_same a b h = and_left _ _ (lt-leb a b h)

none_before : (k p : ℕ) (cs : Children) → k < p → filter (hit (pos k)) (steps_from p cs) ≡ []
none_before k p no_child h = refl
none_before k p (child None t more) h = rw (same_apart k p h) (none_before k (p + 1) more (omega arith))
none_before k p (child (Some name) t more) h = none_before k (p + 1) more (omega arith)

abbrev StepList : Type 0
StepList = List (Step × Tree)

onwards : (P : ℤ → Bool) (q n p : ℕ) (t : Tree) (L : StepList) → p < q
    → flat_map (λ i. filter (hit i) ((index_step (pos p), t) ∷ L)) (select_up P q n) ≡ flat_map (λ i. filter (hit i) L) (select_up P q n)
onwards P q zero p t L h = refl
onwards P q (suc n) p t L h = step (P (pos q)) (onwards P (q + 1) n p t L (omega arith))
  where
    step : (b : Bool) → flat_map (λ i. filter (hit i) ((index_step (pos p), t) ∷ L)) (select_up P (q + 1) n) ≡ flat_map (λ i. filter (hit i) L) (select_up P (q + 1) n)
        → flat_map (λ i. filter (hit i) ((index_step (pos p), t) ∷ L)) (cond b (pos q ∷ select_up P (q + 1) n) (select_up P (q + 1) n)) ≡ flat_map (λ i. filter (hit i) L) (cond b (pos q ∷ select_up P (q + 1) n) (select_up P (q + 1) n))
    step true again = rw (apart_same q p h) (ap (λ l. filter (hit (pos q)) L ++ l) again)
    step false again = again

by_indexes : (P : ℤ → Bool) (p : ℕ) (cs : Children) → filter (passing P) (steps_from p cs) ≡ flat_map (λ i. filter (hit i) (steps_from p cs)) (select_up P p (length (steps_from p cs)))
by_indexes P p no_child = refl
by_indexes P p (child None t more) = step (P (pos p)) refl (by_indexes P (p + 1) more)
  where
    L : StepList
    L = steps_from (p + 1) more

    S : List ℤ
    S = select_up P (p + 1) (length L)

    step : (b : Bool) → P (pos p) ≡ b → filter (passing P) L ≡ flat_map (λ i. filter (hit i) L) S
        → cond b ((index_step (pos p), t) ∷ filter (passing P) L) (filter (passing P) L) ≡ flat_map (λ i. filter (hit i) ((index_step (pos p), t) ∷ L)) (cond b (pos p ∷ S) S)
    step true e again =
        rw (same_self p, none_before p (p + 1) more (omega arith)) (ap (λ l. (index_step (pos p), t) ∷ l) (again ∙ sym (onwards P (p + 1) (length L) p t L (omega arith))))
    step false e again = again ∙ sym (onwards P (p + 1) (length L) p t L (omega arith))
by_indexes P p (child (Some name) t more) = step (P (pos p)) (by_indexes P (p + 1) more)
  where
    L : StepList
    L = steps_from (p + 1) more

    S : List ℤ
    S = select_up P (p + 1) (length L)

    step : (b : Bool) → filter (passing P) L ≡ flat_map (λ i. filter (hit i) L) S → filter (passing P) L ≡ flat_map (λ i. filter (hit i) L) (cond b (pos p ∷ S) S)
    step true again = rw (none_before p (p + 1) more (omega arith)) again
    step false again = again

mapped : (n : Node) (L : StepList) (is : List ℤ) → map (child_of n) (flat_map (λ i. filter (hit i) L) is) ≡ flat_map (λ i. map (child_of n) (filter (hit i) L)) is
mapped n L [] = refl
mapped n L (i ∷ is) = map-append (child_of n) (filter (hit i) L) (flat_map (λ j. filter (hit j) L) is) ∙ ap (λ l. map (child_of n) (filter (hit i) L) ++ l) (mapped n L is)

by_steps : (P : ℤ → Bool) (v : Value) → filter (passing P) (steps_in v) ≡ flat_map (λ i. filter (hit i) (steps_in v)) (select_up P 0 (length (steps_in v)))
by_steps P null = refl
by_steps P (boolean b) = refl
by_steps P (number m e) = refl
by_steps P (string x) = refl
by_steps P (container kind cs) = by_indexes P 0 cs

abbrev at_index : Node → ℤ → List Node
at_index n i = children_where (is_index (same_int i)) n

pub by_nodes : (P : ℤ → Bool) (n : Node) → children_where (is_index P) n ≡ flat_map (at_index n) (select_up P 0 (child_count n))
by_nodes P n = ap (map (child_of n)) (by_steps P (value_of n.tree)) ∙ mapped n (steps_in (value_of n.tree)) (select_up P 0 (child_count n))

-- the index selector on an index that is not negative
pub indexed_is : (n : Node) (k : ℕ) → at_index n (pos k) ≡ indexed (pos k) n
indexed_is n k = rw (le-ltb k 0 (omega arith)) refl

up_indexed : (P : ℤ → Bool) (n : Node) (p m : ℕ) → flat_map (at_index n) (select_up P p m) ≡ flat_map (λ i. indexed i n) (select_up P p m)
up_indexed P n p zero = refl
up_indexed P n p (suc m) = step (P (pos p)) (up_indexed P n (p + 1) m)
  where
    step : (b : Bool) → flat_map (at_index n) (select_up P (p + 1) m) ≡ flat_map (λ i. indexed i n) (select_up P (p + 1) m)
        → flat_map (at_index n) (cond b (pos p ∷ select_up P (p + 1) m) (select_up P (p + 1) m)) ≡ flat_map (λ i. indexed i n) (cond b (pos p ∷ select_up P (p + 1) m) (select_up P (p + 1) m))
    step true again = ap₂ (λ x y. x ++ y) (indexed_is n p) again
    step false again = again

down_indexed : (P : ℤ → Bool) (n : Node) (m : ℕ) → flat_map (at_index n) (select_down P m) ≡ flat_map (λ i. indexed i n) (select_down P m)
down_indexed P n zero = refl
down_indexed P n (suc m) = step (P (pos m)) (down_indexed P n m)
  where
    step : (b : Bool) → flat_map (at_index n) (select_down P m) ≡ flat_map (λ i. indexed i n) (select_down P m)
        → flat_map (at_index n) (cond b (pos m ∷ select_down P m) (select_down P m)) ≡ flat_map (λ i. indexed i n) (cond b (pos m ∷ select_down P m) (select_down P m))
    step true again = ap₂ (λ x y. x ++ y) (indexed_is n m) again
    step false again = again

-- ---- backwards

abbrev last_up : (ℤ → Bool) → ℕ → List ℤ
last_up P k = cond (P (pos k)) (pos k ∷ []) []

select_up_more : (P : ℤ → Bool) (p n : ℕ) → select_up P p (suc n) ≡ select_up P p n ++ last_up P (p + n)
select_up_more P p zero = ap (last_up P) (let e : p ≡ p + 0 = omega arith in e)
select_up_more P p (suc n) = step (P (pos p)) (select_up_more P (p + 1) n ∙ ap (λ k. select_up P (p + 1) n ++ last_up P k) (let e : p + 1 + n ≡ p + suc n = omega arith in e))
  where
    step : (b : Bool) → select_up P (p + 1) (suc n) ≡ select_up P (p + 1) n ++ last_up P (p + suc n)
        → cond b (pos p ∷ select_up P (p + 1) (suc n)) (select_up P (p + 1) (suc n)) ≡ cond b (pos p ∷ select_up P (p + 1) n) (select_up P (p + 1) n) ++ last_up P (p + suc n)
    step true again = ap (λ l. pos p ∷ l) again
    step false again = again

down_is_reversed : (P : ℤ → Bool) (n : ℕ) → reverse (select_up P 0 n) ≡ select_down P n
down_is_reversed P zero = refl
down_is_reversed P (suc n) =
    ap reverse (select_up_more P 0 n ∙ ap (λ k. select_up P 0 n ++ last_up P k) (let e : 0 + n ≡ n = omega arith in e))
    ∙ (reverse-append (select_up P 0 n) (last_up P n) ∙ (ap (λ l. reverse (last_up P n) ++ l) (down_is_reversed P n) ∙ step (P (pos n))))
  where
    step : (b : Bool) → reverse (cond b (pos n ∷ []) []) ++ select_down P n ≡ cond b (pos n ∷ select_down P n) (select_down P n)
    step true = refl
    step false = refl

-- at most one child has an index
pub one_step_at_most : (i : ℤ) (p : ℕ) (cs : Children) → length (filter (hit i) (steps_from p cs)) ≤ 1
one_step_at_most i p no_child = omega arith
one_step_at_most i p (child None t more) = step (same_int i (pos p)) refl (one_step_at_most i (p + 1) more)
  where
    step : (b : Bool) → same_int i (pos p) ≡ b → length (filter (hit i) (steps_from (p + 1) more)) ≤ 1
        → length (cond b ((index_step (pos p), t) ∷ filter (hit i) (steps_from (p + 1) more)) (filter (hit i) (steps_from (p + 1) more))) ≤ 1
    step true e again =
        let none : filter (hit i) (steps_from (p + 1) more) ≡ [] = subst (λ j. filter (hit j) (steps_from (p + 1) more) ≡ []) (sym (int_same i (pos p) e)) (none_before p (p + 1) more (omega arith)) in
        rw none (omega arith)
    step false e again = again
one_step_at_most i p (child (Some name) t more) = one_step_at_most i (p + 1) more

one_of_value : (i : ℤ) (v : Value) → length (filter (hit i) (steps_in v)) ≤ 1
one_of_value i null = omega arith
one_of_value i (boolean b) = omega arith
one_of_value i (number m e) = omega arith
one_of_value i (string x) = omega arith
one_of_value i (container kind cs) = one_step_at_most i 0 cs

pub one_at_most : (n : Node) (i : ℤ) → length (at_index n i) ≤ 1
one_at_most n i = rw (length-map (filter (hit i) (steps_in (value_of n.tree))) (child_of n)) (one_of_value i (value_of n.tree))

reverse_few : {X : Type 0} (l : List X) → length l ≤ 1 → reverse l ≡ l
reverse_few [] h = refl
reverse_few (x ∷ []) h = refl
reverse_few (x ∷ y ∷ l) h = absurd (omega arith)

reversed : (n : Node) (is : List ℤ) → reverse (flat_map (at_index n) is) ≡ flat_map (at_index n) (reverse is)
reversed n [] = refl
reversed n (i ∷ is) =
    reverse-append (at_index n i) (flat_map (at_index n) is) ∙ (ap₂ (λ x y. x ++ y) (reversed n is) (reverse_few (at_index n i) (one_at_most n i) ∙ sym (append-nil (at_index n i)))
    ∙ (sym (flat_map-append (at_index n) (reverse is) (i ∷ [])) ∙ ap (flat_map (at_index n)) (sym (reverse-append (i ∷ []) is))))

-- ---- the loop up

two_true : (a b c : Bool) → a ≡ true → b ≡ true → c ≡ true → (a && b && c) ≡ true
two_true a b c p q r = rw (p, q, r) refl

first_false : (a b c : Bool) → a ≡ false → (a && b && c) ≡ false
first_false a b c p = rw p refl

second_false : (a b c : Bool) → b ≡ false → (a && b && c) ≡ false
second_false true b c p = rw p refl
second_false false b c p = refl

third_false : (a b c : Bool) → c ≡ false → (a && b && c) ≡ false
third_false true true c p = rw p refl
third_false true false c p = refl
third_false false b c p = refl

no_rest : (m s d : ℕ) → d ≡ m * suc s → d % suc s ≡ 0
no_rest m s d e = ap (λ x. x % suc s) e ∙ mul-mod_left m (suc s)

some_rest : (m s d r : ℕ) → d + suc r ≡ m * suc s → suc r ≤ s → d % suc s ≡ 0 → ⊥
some_rest m s d r e h z =
    let whole : d / suc s * suc s + d % suc s ≡ d = div-add-mod' d (suc s) in
    let parts : d / suc s * suc s + suc r ≡ m * suc s = omega arith in
    let rest : suc r ≡ 0 = sym (mod-mul-add (d / suc s) (suc s) (suc r) (omega arith)) ∙ (ap (λ x. x % suc s) parts ∙ mul-mod_left m (suc s)) in
    absurd (omega arith)

above : (l q : ℕ) → l ≤ q → pos q -ℤ pos l ≡ pos (q - l)
above l q h = omega (arith, ints)

on_up : (l s q m : ℕ) → l ≤ q → q - l ≡ m * suc s → on_stride (pos l) (pos (suc s)) (pos q) ≡ true
on_up l s q m h e = rw (above l q h, no_rest m s (q - l) e) refl

off_up : (l s q r m : ℕ) → l ≤ q → q - l + suc r ≡ m * suc s → suc r ≤ s → on_stride (pos l) (pos (suc s)) (pos q) ≡ false
off_up l s q r m h e k = rw (above l q h) (and_left _ _ (lt-leb ((q - l) % suc s) 0 (pos_of_ne-zero (some_rest m s (q - l) r e k))))

abbrev up_test : ℕ → ℕ → ℕ → ℤ → Bool
up_test l h s i = int_le (pos l) i && int_lt i (pos h) && on_stride (pos l) (pos (suc s)) i

up_passes : (l h s q m : ℕ) → l ≤ q → q < h → q - l ≡ m * suc s → up_test l h s (pos q) ≡ true
up_passes l h s q m a b e = two_true _ _ _ (le-leb l q a) (lt-ltb q h b) (on_up l s q m a e)

up_below : (l h s q : ℕ) → q < l → up_test l h s (pos q) ≡ false
up_below l h s q a = first_false _ _ _ (lt-leb l q a)

up_past : (l h s q : ℕ) → h ≤ q → up_test l h s (pos q) ≡ false
up_past l h s q a = second_false (int_le (pos l) (pos q)) _ _ (le-ltb q h a)

up_between : (l h s q r m : ℕ) → l ≤ q → q - l + suc r ≡ m * suc s → suc r ≤ s → up_test l h s (pos q) ≡ false
up_between l h s q r m a e k = third_false (int_le (pos l) (pos q)) (int_lt (pos q) (pos h)) _ (off_up l s q r m a e k)

none_past : (l h s n q : ℕ) → h ≤ q → select_up (up_test l h s) q n ≡ []
none_past l h s zero q a = refl
none_past l h s (suc n) q a = rw (up_past l h s q a) (none_past l h s n (q + 1) (omega arith))

from_stride : (l h s n q r m : ℕ) → l ≤ q → q - l + r ≡ m * suc s → r ≤ s → h ≤ q + n → SelectsUp (pos (suc s)) (pos h) (pos (q + r)) (select_up (up_test l h s) q n)
from_stride l h s zero q r m a e k b = le-ltb (q + r) h (omega arith)
from_stride l h s (suc n) q zero m a e k b =
    elim (cases_lt q h) [
      | inl c ↦
          let next : pos (q + 1 + s) ≡ pos (q + 0) +ℤ pos (suc s) = ap pos (let f : q + 1 + s ≡ q + 0 + suc s = omega arith in f) in
          let here : pos q ≡ pos (q + 0) = ap pos (let f : q ≡ q + 0 = omega arith in f) in
          rw (up_passes l h s q m a c (omega arith))
          (lt-ltb (q + 0) h (omega arith), here, subst (λ i. SelectsUp (pos (suc s)) (pos h) i (select_up (up_test l h s) (q + 1) n)) next (from_stride l h s n (q + 1) s (m + 1) (omega arith) (omega arith) (omega arith) (omega arith)))
      | inr c ↦ rw (up_past l h s q c, none_past l h s n (q + 1) (omega arith)) (le-ltb (q + 0) h (omega arith))
    ]
from_stride l h s (suc n) q (suc r) m a e k b =
    rw (up_between l h s q r m a e k)
    (subst (λ j. SelectsUp (pos (suc s)) (pos h) (pos j) (select_up (up_test l h s) (q + 1) n)) (let f : q + 1 + r ≡ q + suc r = omega arith in f) (from_stride l h s n (q + 1) r m (omega arith) (omega arith) (omega arith) (omega arith)))

to_stride : (l h s n q : ℕ) → q ≤ l → h ≤ q + n → SelectsUp (pos (suc s)) (pos h) (pos l) (select_up (up_test l h s) q n)
to_stride l h s zero q a b = le-ltb l h (omega arith)
to_stride l h s (suc n) q a b =
    elim (cases_lt q l) [
      | inl c ↦ rw (up_below l h s q c) (to_stride l h s n (q + 1) (omega arith) (omega arith))
      | inr c ↦ subst (λ j. SelectsUp (pos (suc s)) (pos h) (pos j) (select_up (up_test l h s) q (suc n))) (let f : q + 0 ≡ l = omega arith in f) (from_stride l h s (suc n) q 0 0 c (omega arith) (omega arith) b)
    ]

norm_same : (len : ℕ) (i : ℤ) → normalize i (pos len) ≡ normal len i
norm_same len (pos a) = rw (le-leb 0 a (omega arith), le-ltb a 0 (omega arith)) refl
norm_same len (negsuc a) = refl

natural : (z : ℤ) → pos 0 ≤ℤ z → (k : ℕ) × (z ≡ pos k)
natural (pos k) h = (k, refl)
natural (negsuc k) h = absurd (omega (arith, ints))

clamped_up : (len : ℕ) (x : ℤ) → (k : ℕ) × (clamped (pos 0) (pos len) x ≡ pos k) × (k ≤ len)
clamped_up len x =
    let least : pos 0 ≤ℤ clamped (pos 0) (pos len) x = omega (arith, ints, clamps) in
    let most : clamped (pos 0) (pos len) x ≤ℤ pos len = omega (arith, ints, clamps) in
    let n = natural (clamped (pos 0) (pos len) x) least in
    (n.0, n.1, let f : pos n.0 ≤ℤ pos len = subst (λ z. z ≤ℤ pos len) n.1 most in omega (arith, ints))

abbrev Looped : Option ℤ → Option ℤ → ℤ → Node → Type 0
Looped first last step n = (indexes : List ℤ) × SelectsUp step (upper first last step (pos (child_count n))) (lower first last step (pos (child_count n))) indexes × (sliced first last step n ≡ flat_map (λ i. indexed i n) indexes)

lower_up : (first last : Option ℤ) (s len : ℕ) → lower first last (pos (suc s)) (pos len) ≡ clamped (pos 0) (pos len) (normal len (unwrap_or first (pos 0)))
lower_up first last s len = rw (le-leb 0 (suc s) (omega arith)) (ap (clamped (pos 0) (pos len)) (norm_same len (unwrap_or first (pos 0))))

upper_up : (first last : Option ℤ) (s len : ℕ) → upper first last (pos (suc s)) (pos len) ≡ clamped (pos 0) (pos len) (normal len (unwrap_or last (pos len)))
upper_up first last s len = rw (le-leb 0 (suc s) (omega arith)) (ap (clamped (pos 0) (pos len)) (norm_same len (unwrap_or last (pos len))))

selects_up : (s len : ℕ) (lo hi low high : ℤ) (l h : ℕ) → lo ≡ low → hi ≡ high → low ≡ pos l → high ≡ pos h → h ≤ len
    → SelectsUp (pos (suc s)) hi lo (select_up (λ i. int_le low i && int_lt i high && on_stride low (pos (suc s)) i) 0 len)
selects_up s len lo hi low high l h a b e f k = rw (a, b, e, f) (to_stride l h s len 0 (omega arith) (omega arith))

sliced_up : (first last : Option ℤ) (s : ℕ) (n : Node) → sliced first last (pos (suc s)) n ≡ flat_map (λ i. indexed i n) (select_up (upward (child_count n) first last (pos (suc s))) 0 (child_count n))
sliced_up first last s n = rw (lt-ltb 0 (suc s) (omega arith)) (by_nodes (upward (child_count n) first last (pos (suc s))) n ∙ up_indexed (upward (child_count n) first last (pos (suc s))) n 0 (child_count n))

pub loop_up : (first last : Option ℤ) (step : ℤ) (n : Node) → IsTrue (int_lt (pos 0) step) → Looped first last step n
loop_up first last (pos zero) n h = absurd (omega (arith, ltb-true 0 0 h))
loop_up first last (negsuc s) n h = absurd (cc)
loop_up first last (pos (suc s)) n h =
    let low = clamped_up (child_count n) (normal (child_count n) (unwrap_or first (pos 0))) in
    let high = clamped_up (child_count n) (normal (child_count n) (unwrap_or last (pos (child_count n)))) in (
      select_up (upward (child_count n) first last (pos (suc s))) 0 (child_count n),
      selects_up s (child_count n) _ _ _ _ low.0 high.0 (lower_up first last s (child_count n)) (upper_up first last s (child_count n)) low.1 high.1 high.2,
      sliced_up first last s n,
    )

-- ---- the loop down

abbrev before : ℕ → ℤ
before k = pos k -ℤ pos 1

abbrev down_test : ℕ → ℕ → ℕ → ℤ → Bool
down_test l h s i = int_lt (before l) i && int_le i (before h) && on_stride (before h) (negsuc s) i

reached : (l q : ℕ) → l ≤ q → int_lt (before l) (pos q) ≡ true
reached l q a = grind (arith, ints)

not_reached : (l q : ℕ) → q < l → int_lt (before l) (pos q) ≡ false
not_reached l q a = grind (arith, ints)

within : (h q : ℕ) → q < h → int_le (pos q) (before h) ≡ true
within h q a = grind (arith, ints)

not_within : (h q : ℕ) → h ≤ q → int_le (pos q) (before h) ≡ false
not_within h q a = grind (arith, ints)

below_start : (h q d : ℕ) → h ≡ q + 1 + d → pos q -ℤ before h ≡ neg_ℤ (pos d)
below_start h q d e = omega (arith, ints)

rest_down : (d s : ℕ) → int_rem (neg_ℤ (pos d)) (negsuc s) ≡ neg_ℤ (pos (d % suc s))
rest_down zero s = let z : 0 % suc s ≡ 0 = no_rest 0 s 0 (omega arith) in rw z refl
rest_down (suc d) s = refl

nothing_left : (x : ℕ) → x ≡ 0 → same_int (neg_ℤ (pos x)) (pos 0) ≡ true
nothing_left x e = rw e refl

something_left : (x : ℕ) → (x ≡ 0 → ⊥) → same_int (neg_ℤ (pos x)) (pos 0) ≡ false
something_left zero h = absurd (h refl)
something_left (suc x) h = refl

on_down : (h s q d m : ℕ) → h ≡ q + 1 + d → d ≡ m * suc s → on_stride (before h) (negsuc s) (pos q) ≡ true
on_down h s q d m a e = rw (below_start h q d a, rest_down d s) (nothing_left (d % suc s) (no_rest m s d e))

off_down : (h s q d r m : ℕ) → h ≡ q + 1 + d → d + suc r ≡ m * suc s → suc r ≤ s → on_stride (before h) (negsuc s) (pos q) ≡ false
off_down h s q d r m a e k = rw (below_start h q d a, rest_down d s) (something_left (d % suc s) (some_rest m s d r e k))

none_under : (l h s n : ℕ) → n ≤ l → select_down (down_test l h s) n ≡ []
none_under l h s zero a = refl
none_under l h s (suc n) a = rw (first_false _ (int_le (pos n) (before h)) (on_stride (before h) (negsuc s) (pos n)) (not_reached l n (omega arith))) (none_under l h s n (omega arith))

past_end : (l r : ℕ) → int_lt (before l) (pos 0 -ℤ pos (suc r)) ≡ false
past_end l r = grind (arith, ints)

stops : (l n : ℕ) → n < l → int_lt (before l) (before (suc n)) ≡ false
stops l n h = grind (arith, ints)

goes_on : (l n : ℕ) → l ≤ n → int_lt (before l) (before (suc n)) ≡ true
goes_on l n h = grind (arith, ints)

here : (n : ℕ) → pos n ≡ before (suc n)
here n = omega (arith, ints)

one_down : (n s : ℕ) → pos n -ℤ pos (suc s) ≡ before (suc n) +ℤ negsuc s
one_down n s = omega (arith, ints)

same_index : (n r : ℕ) → pos n -ℤ pos (suc r) ≡ pos (suc n) -ℤ pos (suc (suc r))
same_index n r = omega (arith, ints)

from_top : (l h s n r d m : ℕ) → h ≡ n + d → d + r ≡ m * suc s → r ≤ s → SelectsDown (negsuc s) (before l) (pos n -ℤ pos (suc r)) (select_down (down_test l h s) n)
from_top l h s zero r d m a e k = past_end l r
from_top l h s (suc n) zero d m a e k =
    elim (cases_lt n l) [
      | inl c ↦ rw (first_false _ (int_le (pos n) (before h)) (on_stride (before h) (negsuc s) (pos n)) (not_reached l n c), none_under l h s n (omega arith)) (stops l n c)
      | inr c ↦
          rw (two_true _ _ _ (reached l n c) (within h n (omega arith)) (on_down h s n d m (omega arith) (omega arith)))
          (goes_on l n c, here n, subst (λ i. SelectsDown (negsuc s) (before l) i (select_down (down_test l h s) n)) (one_down n s) (from_top l h s n s (suc d) (m + 1) (omega arith) (omega arith) (omega arith)))
    ]
from_top l h s (suc n) (suc r) d m a e k =
    rw (third_false (int_lt (before l) (pos n)) (int_le (pos n) (before h)) _ (off_down h s n d r m (omega arith) e k))
    (subst (λ i. SelectsDown (negsuc s) (before l) i (select_down (down_test l h s) n)) (same_index n r) (from_top l h s n r (suc d) m (omega arith) (omega arith) (omega arith)))

to_top : (l h s n : ℕ) → h ≤ n → SelectsDown (negsuc s) (before l) (before h) (select_down (down_test l h s) n)
to_top l h s zero a = subst (λ k. SelectsDown (negsuc s) (before l) (before k) (select_down (down_test l h s) 0)) (let e : 0 ≡ h = omega arith in e) (past_end l 0)
to_top l h s (suc n) a =
    elim (cases_lt n h) [
      | inl c ↦ subst (λ k. SelectsDown (negsuc s) (before l) (before k) (select_down (down_test l h s) (suc n))) (let e : suc n ≡ h = omega arith in e) (from_top l h s (suc n) 0 0 0 (omega arith) (omega arith) (omega arith))
      | inr c ↦ rw (second_false (int_lt (before l) (pos n)) _ (on_stride (before h) (negsuc s) (pos n)) (not_within h n c)) (to_top l h s n c)
    ]

one_above : (z : ℤ) → (pos 0 -ℤ pos 1) ≤ℤ z → (k : ℕ) × (z ≡ before k)
one_above z h = let n = natural (z +ℤ pos 1) (omega (arith, ints)) in (n.0, let e : z +ℤ pos 1 ≡ pos n.0 = n.1 in omega (arith, ints))

clamped_down : (len : ℕ) (x : ℤ) → (k : ℕ) × (clamped (pos 0 -ℤ pos 1) (pos len -ℤ pos 1) x ≡ before k) × (k ≤ len)
clamped_down len x =
    let least : (pos 0 -ℤ pos 1) ≤ℤ clamped (pos 0 -ℤ pos 1) (pos len -ℤ pos 1) x = omega (arith, ints, clamps) in
    let most : clamped (pos 0 -ℤ pos 1) (pos len -ℤ pos 1) x ≤ℤ before len = omega (arith, ints, clamps) in
    let n = one_above (clamped (pos 0 -ℤ pos 1) (pos len -ℤ pos 1) x) least in
    (n.0, n.1, let f : before n.0 ≤ℤ before len = subst (λ z. z ≤ℤ before len) n.1 most in omega (arith, ints))

upper_down : (first last : Option ℤ) (s len : ℕ) → upper first last (negsuc s) (pos len) ≡ clamped (pos 0 -ℤ pos 1) (pos len -ℤ pos 1) (normal len (unwrap_or first (pos len -ℤ pos 1)))
upper_down first last s len = ap (clamped (pos 0 -ℤ pos 1) (pos len -ℤ pos 1)) (norm_same len (unwrap_or first (pos len -ℤ pos 1)))

lower_down : (first last : Option ℤ) (s len : ℕ) → lower first last (negsuc s) (pos len) ≡ clamped (pos 0 -ℤ pos 1) (pos len -ℤ pos 1) (normal len (unwrap_or last (pos 0 -ℤ pos len -ℤ pos 1)))
lower_down first last s len = ap (clamped (pos 0 -ℤ pos 1) (pos len -ℤ pos 1)) (norm_same len (unwrap_or last (pos 0 -ℤ pos len -ℤ pos 1)))

selects_down : (s len : ℕ) (lo hi low high : ℤ) (l h : ℕ) → lo ≡ low → hi ≡ high → low ≡ before l → high ≡ before h → h ≤ len
    → SelectsDown (negsuc s) lo hi (select_down (λ i. int_lt low i && int_le i high && on_stride high (negsuc s) i) len)
selects_down s len lo hi low high l h a b e f k = rw (a, b, e, f) (to_top l h s len k)

sliced_down : (first last : Option ℤ) (s : ℕ) (n : Node) → sliced first last (negsuc s) n ≡ flat_map (λ i. indexed i n) (select_down (downward (child_count n) first last (negsuc s)) (child_count n))
sliced_down first last s n =
    let P : ℤ → Bool = downward (child_count n) first last (negsuc s) in
    ap reverse (by_nodes P n) ∙ (reversed n (select_up P 0 (child_count n)) ∙ (ap (flat_map (at_index n)) (down_is_reversed P (child_count n)) ∙ down_indexed P n (child_count n)))

abbrev LoopedDown : Option ℤ → Option ℤ → ℤ → Node → Type 0
LoopedDown first last step n = (indexes : List ℤ) × SelectsDown step (lower first last step (pos (child_count n))) (upper first last step (pos (child_count n))) indexes × (sliced first last step n ≡ flat_map (λ i. indexed i n) indexes)

pub loop_down : (first last : Option ℤ) (step : ℤ) (n : Node) → IsTrue (int_lt step (pos 0)) → LoopedDown first last step n
loop_down first last (pos s) n h = absurd (omega (arith, ltb-true s 0 h))
loop_down first last (negsuc s) n h =
    let low = clamped_down (child_count n) (normal (child_count n) (unwrap_or last (pos 0 -ℤ pos (child_count n) -ℤ pos 1))) in
    let high = clamped_down (child_count n) (normal (child_count n) (unwrap_or first (pos (child_count n) -ℤ pos 1))) in (
      select_down (downward (child_count n) first last (negsuc s)) (child_count n),
      selects_down s (child_count n) _ _ _ _ low.0 high.0 (lower_down first last s (child_count n)) (upper_down first last s (child_count n)) low.1 high.1 high.2,
      sliced_down first last s n,
    )
