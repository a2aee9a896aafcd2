-- Equality of values is an equivalence.
use Rattle.std.proofs.Common.{◌≡◌, ℕ, suc, ◌+◌, ◌≤◌, nat_eq, List, [], ◌∷◌, length, Bool, true, false, cond, ◌||◌, Option, Some, None, bytes_eq, refl, sym, ap, subst, ◌∙◌, ◌⊎◌, inl, inr, ⊎_elim, arith}
use Rattle.std.specs.List.{list_any}
use Rattle.std.proofs.lemmas.Bool.{and_parts, and_from, or_parts, or_cases, or_left, or_right, not-true, eqb-true, eq-eqb, false_from_ne_true, both_ways}
use Rattle.std.proofs.lemmas.Slice.Eq.{bytes_eq-Decides}
use Rattle.std.specs.Cmp.{IsTotalOrder}
use Rattle.jp_decimal.specs.Values.{order}
use Rattle.jp_model.specs.declared.Span.{Span}
use Rattle.jp_model.specs.Json.Faults.{names, has_repeated, value_has_duplicate, children_have_duplicate}
use Rattle.jp_model.specs.Json.Spelling.{Spells, SpellsValue, SpellsFirst, SpellsMore}
use Rattle.jp_model.specs.Json.Tree.{Tree, node, Value, null, boolean, number, string, container, Container, array, object, Children, no_child, child, Name, value_of, joined, count_children, span}
use Rattle.jp_model.specs.Meaning.Compare.{compared, boolean_equal, member_passes, values_equal, elements_equal, members_within, is_less}
use Rattle.jp_model.specs.Query.Syntax.{equal, less_equal, greater_equal}
use Rattle.jp_laws.specs.Values.{are_members, has_members, each_has_members, is_plain}
use Rattle.jp_laws.proofs.NumberOrder.{number_itself, number_back, numbers_same}

-- ---- names

pub unsome : {A : Type 0} {a b : A} → Some a ≡ Some b → a ≡ b
unsome h = cc

pub text_itself : (x : List ℕ) → bytes_eq x x ≡ true
text_itself x = (bytes_eq-Decides x x).1 refl

pub text_same : (x y : List ℕ) → bytes_eq x y ≡ true → x ≡ y
text_same x y h = (bytes_eq-Decides x y).0 h

abbrev pub among : List ℕ → List (List ℕ) → Bool
among k ns = list_any (bytes_eq k) ns

without : List ℕ → List (List ℕ) → List (List ℕ)
without a [] = []
without a (b ∷ bs) = cond (bytes_eq a b) bs (b ∷ without a bs)

without_length : (a : List ℕ) (bs : List (List ℕ)) → among a bs ≡ true → length bs ≡ suc (length (without a bs))
unfolding without
without_length a [] h = absurd (cc)
without_length a (b ∷ bs) h = step (bytes_eq a b) refl (without_length a bs)
  where
    step : (t : Bool) → bytes_eq a b ≡ t → (among a bs ≡ true → length bs ≡ suc (length (without a bs))) → suc (length bs) ≡ suc (length (cond t bs (b ∷ without a bs)))
    step true e again = refl
    step false e again = ap suc (again (⊎_elim (λ l. absurd (cc)) (λ l. l) (or_cases (bytes_eq a b) (among a bs) h)))

still_among : (a k : List ℕ) (bs : List (List ℕ)) → (k ≡ a → ⊥) → among k bs ≡ true → among k (without a bs) ≡ true
unfolding without
still_among a k [] n h = absurd (cc)
still_among a k (b ∷ bs) n h = step (bytes_eq a b) refl (still_among a k bs n)
  where
    parts : (bytes_eq k b ≡ true) ⊎ (among k bs ≡ true)
    parts = or_cases (bytes_eq k b) (among k bs) h

    step : (t : Bool) → bytes_eq a b ≡ t → (among k bs ≡ true → among k (without a bs) ≡ true) → among k (cond t bs (b ∷ without a bs)) ≡ true
    step true e again = ⊎_elim (λ l. absurd (n (text_same k b l ∙ sym (text_same a b e)))) (λ l. l) parts
    step false e again = ⊎_elim (λ l. or_left _ _ l) (λ l. or_right (bytes_eq k b) _ (again l)) parts

was_among : (a k : List ℕ) (bs : List (List ℕ)) → among k bs ≡ true → (bytes_eq k a ≡ true) ⊎ (among k (without a bs) ≡ true)
was_among a k bs h = step (bytes_eq k a) refl
  where
    step : (t : Bool) → bytes_eq k a ≡ t → (bytes_eq k a ≡ true) ⊎ (among k (without a bs) ≡ true)
    step true e = inl e
    step false e = inr (still_among a k bs (λ s. both_ways (bytes_eq k a) e (subst (λ z. bytes_eq z a ≡ true) (sym s) (text_itself a))) h)

-- distinct names, all among others that are no more: then the others are among them
all_among : (xs ys : List (List ℕ)) → has_repeated xs ≡ false → ((k : List ℕ) → among k xs ≡ true → among k ys ≡ true) → length ys ≤ length xs → (k : List ℕ) → among k ys ≡ true → among k xs ≡ true
all_among [] [] d within shorter k h = h
all_among [] (y ∷ ys) d within shorter k h = absurd (omega arith)
all_among (x ∷ xs) ys d within shorter k h =
    let p = or_parts (among x xs) (has_repeated xs) d in
    let first : among x ys ≡ true = within x (or_left _ _ (text_itself x)) in
    let count : length ys ≡ suc (length (without x ys)) = without_length x ys first in
    let rest : (j : List ℕ) → among j xs ≡ true → among j (without x ys) ≡ true =
    λ j g. still_among x j ys (λ s. both_ways (among x xs) p.0 (subst (λ z. among z xs ≡ true) s g)) (within j (or_right (bytes_eq j x) _ g)) in
    ⊎_elim (λ l. or_left _ _ l) (λ l. or_right (bytes_eq k x) _ (all_among xs (without x ys) p.1 rest (omega arith) k l)) (was_among x k ys h)

-- ---- the value of a member

abbrev pub found : List ℕ → Children → Option Value
found k no_child = None
found k (child None t more) = found k more
found k (child (Some name) (node s v) more) = cond (bytes_eq k name.points) (Some v) (found k more)

passes_found : (k : List ℕ) (passes : Value → Bool) (cs : Children) → member_passes k passes cs ≡ true → (v : Value) × (found k cs ≡ Some v) × (passes v ≡ true)
passes_found k passes no_child h = absurd (cc)
passes_found k passes (child None t more) h = passes_found k passes more h
passes_found k passes (child (Some name) (node s v) more) h = step (bytes_eq k name.points) h (passes_found k passes more)
  where
    step : (t : Bool) → cond t (passes v) (member_passes k passes more) ≡ true → (member_passes k passes more ≡ true → (w : Value) × (found k more ≡ Some w) × (passes w ≡ true)) → (w : Value) × (cond t (Some v) (found k more) ≡ Some w) × (passes w ≡ true)
    step true g again = (v, refl, g)
    step false g again = again g

found_passes : (k : List ℕ) (passes : Value → Bool) (cs : Children) (v : Value) → found k cs ≡ Some v → passes v ≡ true → member_passes k passes cs ≡ true
found_passes k passes no_child v f h = absurd (cc)
found_passes k passes (child None t more) v f h = found_passes k passes more v f h
found_passes k passes (child (Some name) (node s w) more) v f h = step (bytes_eq k name.points) f (λ g. found_passes k passes more v g h)
  where
    step : (t : Bool) → cond t (Some w) (found k more) ≡ Some v → (found k more ≡ Some v → member_passes k passes more ≡ true) → cond t (passes w) (member_passes k passes more) ≡ true
    step true g again = ap passes (unsome g) ∙ h
    step false g again = again g

pub found_named : (k : List ℕ) (cs : Children) (v : Value) → found k cs ≡ Some v → among k (names cs) ≡ true
found_named k no_child v f = absurd (cc)
found_named k (child None t more) v f = found_named k more v f
found_named k (child (Some name) (node s w) more) v f = step (bytes_eq k name.points) f (found_named k more v)
  where
    step : (t : Bool) → cond t (Some w) (found k more) ≡ Some v → (found k more ≡ Some v → among k (names more) ≡ true) → (t || among k (names more)) ≡ true
    step true g again = refl
    step false g again = again g

named_found : (k : List ℕ) (cs : Children) → among k (names cs) ≡ true → (v : Value) × (found k cs ≡ Some v)
named_found k no_child h = absurd (cc)
named_found k (child None t more) h = named_found k more h
named_found k (child (Some name) (node s w) more) h = step (bytes_eq k name.points) h (named_found k more)
  where
    step : (t : Bool) → (t || among k (names more)) ≡ true → (among k (names more) ≡ true → (v : Value) × (found k more ≡ Some v)) → (v : Value) × (cond t (Some w) (found k more) ≡ Some v)
    step true g again = (w, refl)
    step false g again = again g

-- ---- objects, by their look-ups

abbrev pub Matched : Children → Children → Type 0
Matched xs ys = (k : List ℕ) (v : Value) → found k xs ≡ Some v → (w : Value) × (found k ys ≡ Some w) × (values_equal v w ≡ true)

pub within_matched : (xs ys : Children) → members_within xs ys ≡ true → Matched xs ys
within_matched no_child ys h k v f = absurd (cc)
within_matched (child None (node s x) xs) ys h k v f = within_matched xs ys h k v f
within_matched (child (Some name) (node s x) xs) ys h k v f = step (bytes_eq k name.points) refl f (within_matched xs ys p.1 k v)
  where
    p : (member_passes name.points (λ y. values_equal x y) ys ≡ true) × (members_within xs ys ≡ true)
    p = and_parts _ _ h

    step : (t : Bool) → bytes_eq k name.points ≡ t → cond t (Some x) (found k xs) ≡ Some v → (found k xs ≡ Some v → (w : Value) × (found k ys ≡ Some w) × (values_equal v w ≡ true)) → (w : Value) × (found k ys ≡ Some w) × (values_equal v w ≡ true)
    step true e g again =
        let q = passes_found name.points (λ y. values_equal x y) ys p.0 in
        (q.0, subst (λ z. found z ys ≡ Some q.0) (sym (text_same k name.points e)) q.1, subst (λ z. values_equal z q.0 ≡ true) (unsome g) q.2)
    step false e g again = again g

pub matched_within : (xs ys : Children) → has_repeated (names xs) ≡ false → Matched xs ys → members_within xs ys ≡ true
matched_within no_child ys d m = refl
matched_within (child None (node s x) xs) ys d m = matched_within xs ys d m
matched_within (child (Some name) (node s x) xs) ys d m =
    let p = or_parts (among name.points (names xs)) (has_repeated (names xs)) d in
    let first = m name.points x (rw (text_itself name.points) refl) in
    let rest : Matched xs ys = λ k v f. m k v (rw (false_from_ne_true (bytes_eq k name.points) (λ e. both_ways _ p.0 (subst (λ z. among z (names xs) ≡ true) (text_same k name.points e) (found_named k xs v f)))) f) in
    and_from _ _ (found_passes name.points (λ y. values_equal x y) ys first.0 first.1 first.2) (matched_within xs ys p.1 rest)

-- what holds of each value of some children
abbrev pub OfEachChild : (Value → Type 0) → Children → Type 0
OfEachChild P no_child = Unit {0}
OfEachChild P (child name (node s v) more) = P v × OfEachChild P more

pub each_found : (P : Value → Type 0) (k : List ℕ) (cs : Children) (v : Value) → OfEachChild P cs → found k cs ≡ Some v → P v
each_found P k no_child v a f = absurd (cc)
each_found P k (child None (node s w) more) v a f = each_found P k more v a.1 f
each_found P k (child (Some name) (node s w) more) v a f = step (bytes_eq k name.points) f (each_found P k more v a.1)
  where
    step : (t : Bool) → cond t (Some w) (found k more) ≡ Some v → (found k more ≡ Some v → P v) → P v
    step true g again = subst P (unsome g) a.0
    step false g again = again g

-- ---- reflexive

abbrev Itself : Value → Type 0
Itself v = value_has_duplicate v ≡ false → values_equal v v ≡ true

elements_itself : (cs : Children) → OfEachChild Itself cs → children_have_duplicate cs ≡ false → elements_equal cs cs ≡ true
elements_itself no_child a d = refl
elements_itself (child name (node s v) more) a d = let p = or_parts (value_has_duplicate v) (children_have_duplicate more) d in and_from _ _ (a.0 p.0) (elements_itself more a.1 p.1)

distinct_each : (cs : Children) → children_have_duplicate cs ≡ false → OfEachChild (λ v. value_has_duplicate v ≡ false) cs
distinct_each no_child d = tt
distinct_each (child name (node s v) more) d = let p = or_parts (value_has_duplicate v) (children_have_duplicate more) d in (p.0, distinct_each more p.1)

members_itself : (cs : Children) → OfEachChild Itself cs → has_repeated (names cs) ≡ false → children_have_duplicate cs ≡ false → members_within cs cs ≡ true
members_itself cs a r d = matched_within cs cs r (λ k v f. (v, f, each_found Itself k cs v a f (each_found (λ w. value_has_duplicate w ≡ false) k cs v (distinct_each cs d) f)))

pub boolean_itself : (b : Bool) → boolean_equal b b ≡ true
boolean_itself true = refl
boolean_itself false = refl

pub record Plain (v : Value) : Type 0 where
  pub distinct : value_has_duplicate v ≡ false
  pub members : has_members v ≡ true

pub plain_each : (cs : Children) → children_have_duplicate cs ≡ false → each_has_members cs ≡ true → OfEachChild Plain cs
plain_each no_child d m = tt
plain_each (child name (node s v) more) d m =
    let p = or_parts (value_has_duplicate v) (children_have_duplicate more) d in
    let q = and_parts _ _ m in
    (record { distinct = p.0; members = q.0 }, plain_each more p.1 q.1)

pub swap_by : (p q : Bool) (v w : Value) (rest : Option Value) → (p ≡ true → q ≡ true → ⊥) → cond p (Some v) (cond q (Some w) rest) ≡ cond q (Some w) (cond p (Some v) rest)
swap_by true true v w rest h = absurd (h refl refl)
swap_by true false v w rest h = refl
swap_by false true v w rest h = refl
swap_by false false v w rest h = refl

pub alike : (a b : Bool) → (a ≡ true → b ≡ true) → (b ≡ true → a ≡ true) → a ≡ b
alike true b f g = sym (f refl)
alike false true f g = g refl
alike false false f g = refl

-- ---- by the law that the order of numbers is total

module _ (order_total : IsTotalOrder order) where
  mutual
    pub itself : (v : Value) → Itself v
    itself null d = refl
    itself (boolean b) d = boolean_itself b
    itself (number m e) d = number_itself order_total m e
    itself (string x) d = text_itself x
    itself (container array cs) d = elements_itself cs (each_itself cs) (or_parts (has_repeated (names cs)) (children_have_duplicate cs) d).1
    itself (container object cs) d =
        let p = or_parts (has_repeated (names cs)) (children_have_duplicate cs) d in
        and_from _ _ (eq-eqb (count_children cs) (count_children cs) refl) (members_itself cs (each_itself cs) p.0 p.1)

    each_itself : (cs : Children) → OfEachChild Itself cs
    each_itself no_child = tt
    each_itself (child name (node s v) more) = (itself v, each_itself more)

  -- ---- symmetric

  abbrev Back : Value → Type 0
  Back v = (w : Value) → Plain v → Plain w → values_equal v w ≡ true → values_equal w v ≡ true

  pub boolean_same : (a b : Bool) → boolean_equal a b ≡ true → a ≡ b
  boolean_same true b h = sym h
  boolean_same false true h = absurd (cc)
  boolean_same false false h = refl

  elements_back : (xs ys : Children) → OfEachChild Back xs → OfEachChild Plain xs → OfEachChild Plain ys → elements_equal xs ys ≡ true → elements_equal ys xs ≡ true
  elements_back no_child no_child a p q h = refl
  elements_back no_child (child b (node t y) ys) a p q h = absurd (cc)
  elements_back (child n (node s x) xs) no_child a p q h = absurd (cc)
  elements_back (child n (node s x) xs) (child b (node t y) ys) a p q h =
      let e = and_parts (values_equal x y) (elements_equal xs ys) h in
      and_from _ _ (a.0 y p.0 q.0 e.0) (elements_back xs ys a.1 p.1 q.1 e.1)

  names_counted : (cs : Children) → length (names cs) ≤ count_children cs
  names_counted no_child = omega arith
  names_counted (child None t more) = let h = names_counted more in omega arith
  names_counted (child (Some name) t more) = let h = names_counted more in omega arith

  members_counted : (cs : Children) → are_members cs ≡ true → count_children cs ≡ length (names cs)
  members_counted no_child m = refl
  members_counted (child None t more) m = absurd (cc)
  members_counted (child (Some name) t more) m = ap suc (members_counted more m)

  members_back : (xs ys : Children) → OfEachChild Back xs → OfEachChild Plain xs → OfEachChild Plain ys → has_repeated (names xs) ≡ false → has_repeated (names ys) ≡ false → are_members xs ≡ true → count_children xs ≡ count_children ys
      → members_within xs ys ≡ true → members_within ys xs ≡ true
  members_back xs ys a p q r u m c h =
      let there : Matched xs ys = within_matched xs ys h in
      let within : (k : List ℕ) → among k (names xs) ≡ true → among k (names ys) ≡ true =
      λ k g. let f = named_found k xs g in let w = there k f.0 f.1 in found_named k ys w.0 w.1 in
      let shorter : length (names ys) ≤ length (names xs) = let i = names_counted ys in let j = members_counted xs m in omega arith in
      matched_within ys xs u (λ k w f.
      let g = named_found k xs (all_among (names xs) (names ys) r within shorter k (found_named k ys w f)) in
      let e = there k g.0 g.1 in
      let same : e.0 ≡ w = unsome (sym e.1 ∙ f) in
      let forth : values_equal g.0 w ≡ true = subst (λ z. values_equal g.0 z ≡ true) same e.2 in
      (g.0, g.1, each_found Back k xs g.0 a g.1 w (each_found Plain k xs g.0 p g.1) (each_found Plain k ys w q f) forth))

  mutual
    pub back : (v : Value) → Back v
    back null null p q h = refl
    back null w p q h = absurd (cc)
    back (boolean a) (boolean b) p q h = rw (boolean_same a b h) (boolean_itself b)
    back (boolean a) w p q h = absurd (cc)
    back (number m e) (number n f) p q h = number_back order_total m e n f h
    back (number m e) w p q h = absurd (cc)
    back (string x) (string y) p q h = rw (text_same x y h) (text_itself y)
    back (string x) w p q h = absurd (cc)
    back (container array xs) (container array ys) p q h = elements_back xs ys (each_back xs)
        (plain_each xs (or_parts (has_repeated (names xs)) _ p.distinct).1 p.members) (plain_each ys (or_parts (has_repeated (names ys)) _ q.distinct).1 q.members) h
    back (container array xs) w p q h = absurd (cc)
    back (container object xs) (container object ys) p q h =
        let d = or_parts (has_repeated (names xs)) (children_have_duplicate xs) p.distinct in
        let e = or_parts (has_repeated (names ys)) (children_have_duplicate ys) q.distinct in
        let m = and_parts (are_members xs) (each_has_members xs) p.members in
        let n = and_parts (are_members ys) (each_has_members ys) q.members in
        let g = and_parts (nat_eq (count_children xs) (count_children ys)) (members_within xs ys) h in
        let c : count_children xs ≡ count_children ys = eqb-true _ _ g.0 in
        and_from _ _ (eq-eqb (count_children ys) (count_children xs) (sym c)) (members_back xs ys (each_back xs) (plain_each xs d.1 m.1) (plain_each ys e.1 n.1) d.0 e.0 m.0 c g.1)
    back (container object xs) w p q h = absurd (cc)

    each_back : (cs : Children) → OfEachChild Back cs
    each_back no_child = tt
    each_back (child name (node s v) more) = (back v, each_back more)

  -- ---- transitive

  abbrev On : Value → Type 0
  On v = (w u : Value) → values_equal v w ≡ true → values_equal w u ≡ true → values_equal v u ≡ true

  elements_on : (xs ys zs : Children) → OfEachChild On xs → elements_equal xs ys ≡ true → elements_equal ys zs ≡ true → elements_equal xs zs ≡ true
  elements_on no_child no_child zs a h g = g
  elements_on no_child (child b (node t y) ys) zs a h g = absurd (cc)
  elements_on (child n (node s x) xs) no_child zs a h g = absurd (cc)
  elements_on (child n (node s x) xs) (child b (node t y) ys) no_child a h g = absurd (cc)
  elements_on (child n (node s x) xs) (child b (node t y) ys) (child c (node u z) zs) a h g =
      let p = and_parts (values_equal x y) (elements_equal xs ys) h in
      let q = and_parts (values_equal y z) (elements_equal ys zs) g in
      and_from _ _ (a.0 y z p.0 q.0) (elements_on xs ys zs a.1 p.1 q.1)

  members_on : (xs ys zs : Children) → OfEachChild On xs → members_within xs ys ≡ true → Matched ys zs → members_within xs zs ≡ true
  members_on no_child ys zs a h g = refl
  members_on (child None (node s x) xs) ys zs a h g = members_on xs ys zs a.1 h g
  members_on (child (Some name) (node s x) xs) ys zs a h g =
      let p = and_parts (member_passes name.points (λ y. values_equal x y) ys) (members_within xs ys) h in
      let f = passes_found name.points (λ y. values_equal x y) ys p.0 in
      let e = g name.points f.0 f.1 in
      and_from _ _ (found_passes name.points (λ z. values_equal x z) zs e.0 e.1 (a.0 f.0 e.0 f.2 e.2)) (members_on xs ys zs a.1 p.1 g)

  mutual
    pub on : (v : Value) → On v
    on null null u h g = g
    on null w u h g = absurd (cc)
    on (boolean a) (boolean b) u h g = subst (λ z. values_equal (boolean z) u ≡ true) (sym (boolean_same a b h)) g
    on (boolean a) w u h g = absurd (cc)
    on (number m e) (number n f) (number k i) h g = numbers_same order_total m e n f k i h g
    on (number m e) (number n f) u h g = absurd (cc)
    on (number m e) w u h g = absurd (cc)
    on (string x) (string y) u h g = subst (λ z. values_equal (string z) u ≡ true) (sym (text_same x y h)) g
    on (string x) w u h g = absurd (cc)
    on (container array xs) (container array ys) (container array zs) h g = elements_on xs ys zs (each_on xs) h g
    on (container array xs) (container array ys) u h g = absurd (cc)
    on (container array xs) w u h g = absurd (cc)
    on (container object xs) (container object ys) (container object zs) h g =
        let p = and_parts (nat_eq (count_children xs) (count_children ys)) (members_within xs ys) h in
        let q = and_parts (nat_eq (count_children ys) (count_children zs)) (members_within ys zs) g in
        and_from _ _ (eq-eqb (count_children xs) (count_children zs) (eqb-true _ _ p.0 ∙ eqb-true _ _ q.0)) (members_on xs ys zs (each_on xs) p.1 (within_matched ys zs q.1))
    on (container object xs) (container object ys) u h g = absurd (cc)
    on (container object xs) w u h g = absurd (cc)

    each_on : (cs : Children) → OfEachChild On cs
    each_on no_child = tt
    each_on (child name (node s v) more) = (on v, each_on more)

  -- ---- members in another order

  found_swapped : (k : List ℕ) (front rest : Children) (a b : Name) (x y : Tree) → bytes_eq a.points b.points ≡ false
      → found k (joined front (child (Some a) x (child (Some b) y rest))) ≡ found k (joined front (child (Some b) y (child (Some a) x rest)))
  found_swapped k no_child rest a b (node s v) (node t w) d =
      swap_by (bytes_eq k a.points) (bytes_eq k b.points) v w (found k rest) (λ p q. both_ways (bytes_eq a.points b.points) d ((bytes_eq-Decides a.points b.points).1 (sym (text_same k a.points p) ∙ text_same k b.points q)))
  found_swapped k (child None t more) rest a b x y d = found_swapped k more rest a b x y d
  found_swapped k (child (Some name) (node s v) more) rest a b x y d = ap (cond (bytes_eq k name.points) (Some v)) (found_swapped k more rest a b x y d)

  neighbours_differ : (front rest : Children) (a b : Name) (x y : Tree) → has_repeated (names (joined front (child (Some a) x (child (Some b) y rest)))) ≡ false → bytes_eq a.points b.points ≡ false
  neighbours_differ no_child rest a b x y h =
      let p = or_parts (among a.points (b.points ∷ names rest)) (has_repeated (b.points ∷ names rest)) h in
      (or_parts (bytes_eq a.points b.points) (among a.points (names rest)) p.0).0
  neighbours_differ (child None t more) rest a b x y h = neighbours_differ more rest a b x y h
  neighbours_differ (child (Some name) t more) rest a b x y h = neighbours_differ more rest a b x y (or_parts (among name.points (names (joined more (child (Some a) x (child (Some b) y rest))))) (has_repeated (names (joined more (child (Some a) x (child (Some b) y rest))))) h).1

  swapped_count : (front rest : Children) (a b : Name) (x y : Tree) → count_children (joined front (child (Some a) x (child (Some b) y rest))) ≡ count_children (joined front (child (Some b) y (child (Some a) x rest)))
  swapped_count no_child rest a b x y = refl
  swapped_count (child name t more) rest a b x y = ap suc (swapped_count more rest a b x y)

  -- ---- sides of comparisons

  pub plain_value : (v : Value) → is_plain (Some v) ≡ true → Plain v
  plain_value v h = let p = and_parts _ _ h in record { distinct = not-true _ p.0; members = p.1 }

  pub reflexive : (x : Option Value) → is_plain x ≡ true → compared equal x x ≡ true
  reflexive None h = refl
  reflexive (Some v) h = itself v (plain_value v h).distinct

  pub symmetric : (x y : Option Value) → is_plain x ≡ true → is_plain y ≡ true → compared equal x y ≡ compared equal y x
  symmetric None None h g = refl
  symmetric None (Some w) h g = refl
  symmetric (Some v) None h g = refl
  symmetric (Some v) (Some w) h g = alike _ _ (back v w (plain_value v h) (plain_value w g)) (back w v (plain_value w g) (plain_value v h))

  pub transitive : (x y z : Option Value) → compared equal x y ≡ true → compared equal y z ≡ true → compared equal x z ≡ true
  transitive None None z h g = g
  transitive None (Some w) z h g = absurd (cc)
  transitive (Some v) None z h g = absurd (cc)
  transitive (Some v) (Some w) None h g = absurd (cc)
  transitive (Some v) (Some w) (Some u) h g = on v w u h g

  pub in_any_order : (front rest : Children) (a b : Name) (x y : Tree) → is_plain (Some (container object (joined front (child (Some a) x (child (Some b) y rest))))) ≡ true
      → compared equal (Some (container object (joined front (child (Some a) x (child (Some b) y rest))))) (Some (container object (joined front (child (Some b) y (child (Some a) x rest))))) ≡ true
  in_any_order front rest a b x y h =
      let cs : Children = joined front (child (Some a) x (child (Some b) y rest)) in
      let ds : Children = joined front (child (Some b) y (child (Some a) x rest)) in
      let p = or_parts (has_repeated (names cs)) (children_have_duplicate cs) (plain_value (container object cs) h).distinct in
      let same : Matched cs ds = λ k v f. (v, sym (found_swapped k front rest a b x y (neighbours_differ front rest a b x y p.0)) ∙ f, each_found Itself k cs v (each_itself cs) f (each_found (λ w. value_has_duplicate w ≡ false) k cs v (distinct_each cs p.1) f)) in
      and_from _ _ (eq-eqb (count_children cs) (count_children ds) (swapped_count front rest a b x y)) (matched_within cs ds p.0 same)

  pub turned : (x y : Option Value) → is_plain x ≡ true → is_plain y ≡ true → compared greater_equal x y ≡ compared less_equal y x
  turned x y h g = ap (λ b. is_less y x || b) (symmetric x y h g)

-- ---- members have names

mutual
  pub tree_members : (line : List ℕ) (t : Tree) → Spells line t → has_members (value_of t) ≡ true
  tree_members line (node s v) h = value_members line s v h

  value_members : (line : List ℕ) (s : Span) (v : Value) → SpellsValue line s v → has_members v ≡ true
  value_members line s null h = refl
  value_members line s (boolean b) h = refl
  value_members line s (number m e) h = refl
  value_members line s (string x) h = refl
  value_members line s (container array cs) h = first_below line array (s.start + 1) s.end cs h.1
  value_members line s (container object cs) h = and_from _ _ (first_named line (s.start + 1) s.end cs h.1) (first_below line object (s.start + 1) s.end cs h.1)

  first_below : (line : List ℕ) (kind : Container) (from to : ℕ) (cs : Children) → SpellsFirst line kind from to cs → each_has_members cs ≡ true
  first_below line kind from to no_child h = refl
  first_below line kind from to (child name (node s v) more) h = and_from _ _ (value_members line s v h.3) (more_below line kind s.end to more h.4)

  more_below : (line : List ℕ) (kind : Container) (from to : ℕ) (cs : Children) → SpellsMore line kind from to cs → each_has_members cs ≡ true
  more_below line kind from to no_child h = refl
  more_below line kind from to (child name (node s v) more) h = and_from _ _ (value_members line s v h.3) (more_below line kind s.end to more h.4)

  first_named : (line : List ℕ) (from to : ℕ) (cs : Children) → SpellsFirst line object from to cs → are_members cs ≡ true
  first_named line from to no_child h = refl
  first_named line from to (child None t more) h = absurd h.2
  first_named line from to (child (Some name) t more) h = more_named line (span t).end to more h.4

  more_named : (line : List ℕ) (from to : ℕ) (cs : Children) → SpellsMore line object from to cs → are_members cs ≡ true
  more_named line from to no_child h = refl
  more_named line from to (child None t more) h = absurd h.2
  more_named line from to (child (Some name) t more) h = more_named line (span t).end to more h.4
