-- Values that are the same but for the order of members are equal, and compare alike.
use Rattle.std.proofs.Common.{◌≡◌, ℕ, suc, List, Bool, true, false, cond, Option, Some, None, bytes_eq, refl, sym, ap, subst, ◌∙◌}
use Rattle.std.specs.Cmp.{IsTotalOrder}
use Rattle.std.proofs.lemmas.Bool.{and_parts, and_from, or_parts, or_from, eq-eqb, cond-true, cond-false}
use Rattle.jp_decimal.specs.Values.{order}
use Rattle.jp_model.specs.declared.Span.{Span}
use Rattle.jp_model.specs.Json.Faults.{names, has_repeated, has_duplicate, value_has_duplicate, children_have_duplicate}
use Rattle.jp_model.specs.Json.Tree.{Tree, node, Value, Children, no_child, child, Name, joined, count_children, value_of}
use Rattle.jp_model.specs.Meaning.Compare.{compared, values_equal, elements_equal, value_less}
use Rattle.jp_model.specs.Query.Syntax.{CompareOp}
use Rattle.jp_laws.specs.Reordered.{ReorderedTrees, reordered_trees, ReorderedValues, same_null, same_boolean, same_number, same_string, same_array, same_object, ReorderedElements, no_element, next_element, ReorderedMembers, no_member, member_among}
use Rattle.jp_laws.specs.Values.{are_members, has_members, each_has_members}
use Rattle.jp_laws.proofs.NumberOrder.{number_itself}
use Rattle.jp_laws.proofs.Sides.{Sides, sides_compared}
use Rattle.jp_laws.proofs.ValueEquality.{Plain, Matched, among, found, alike, back, boolean_itself, matched_within, on, swap_by, text_itself, text_same, unsome}

-- ---- one child taken out

pub taken_duplicate : (front rest : Children) (name : Option Name) (u : Tree) → children_have_duplicate (joined front (child name u rest)) ≡ false → (has_duplicate u ≡ false) × (children_have_duplicate (joined front rest) ≡ false)
taken_duplicate no_child rest name u h = or_parts (has_duplicate u) (children_have_duplicate rest) h
taken_duplicate (child n t more) rest name u h =
    let p = or_parts (has_duplicate t) (children_have_duplicate (joined more (child name u rest))) h in
    let q = taken_duplicate more rest name u p.1 in
    (q.0, or_from _ _ p.0 q.1)

taken_among : (k : List ℕ) (front rest : Children) (b : Name) (u : Tree) → among k (names (joined front (child (Some b) u rest))) ≡ false → (bytes_eq k b.points ≡ false) × (among k (names (joined front rest)) ≡ false)
taken_among k no_child rest b u h = or_parts (bytes_eq k b.points) (among k (names rest)) h
taken_among k (child None t more) rest b u h = taken_among k more rest b u h
taken_among k (child (Some c) t more) rest b u h =
    let p = or_parts (bytes_eq k c.points) (among k (names (joined more (child (Some b) u rest)))) h in
    let q = taken_among k more rest b u p.1 in
    (q.0, or_from _ _ p.0 q.1)

taken_repeated : (front rest : Children) (b : Name) (u : Tree) → has_repeated (names (joined front (child (Some b) u rest))) ≡ false → has_repeated (names (joined front rest)) ≡ false
taken_repeated no_child rest b u h = (or_parts (among b.points (names rest)) (has_repeated (names rest)) h).1
taken_repeated (child None t more) rest b u h = taken_repeated more rest b u h
taken_repeated (child (Some c) t more) rest b u h =
    let p = or_parts (among c.points (names (joined more (child (Some b) u rest)))) (has_repeated (names (joined more (child (Some b) u rest)))) h in
    or_from _ _ (taken_among c.points more rest b u p.0).1 (taken_repeated more rest b u p.1)

pub taken_count : (front rest : Children) (name : Option Name) (u : Tree) → count_children (joined front (child name u rest)) ≡ suc (count_children (joined front rest))
taken_count no_child rest name u = refl
taken_count (child n t more) rest name u = ap suc (taken_count more rest name u)

-- where names are different, a look-up finds the child wherever it stands
found_taken : (k : List ℕ) (front rest : Children) (b : Name) (s : Span) (y : Value) → has_repeated (names (joined front (child (Some b) (node s y) rest))) ≡ false
    → found k (joined front (child (Some b) (node s y) rest)) ≡ cond (bytes_eq k b.points) (Some y) (found k (joined front rest))
found_taken k no_child rest b s y h = refl
found_taken k (child None t more) rest b s y h = found_taken k more rest b s y h
found_taken k (child (Some c) (node r z) more) rest b s y h =
    let p = or_parts (among c.points (names (joined more (child (Some b) (node s y) rest)))) (has_repeated (names (joined more (child (Some b) (node s y) rest)))) h in
    let d = (taken_among c.points more rest b (node s y) p.0).0 in
    ap (cond (bytes_eq k c.points) (Some z)) (found_taken k more rest b s y p.1)
    ∙ swap_by (bytes_eq k c.points) (bytes_eq k b.points) z y (found k (joined more rest)) (λ e f. different d (sym (text_same k c.points e) ∙ text_same k b.points f))
  where
    different : bytes_eq c.points b.points ≡ false → c.points ≡ b.points → ⊥
    different d e = let g : bytes_eq c.points b.points ≡ true = subst (λ x. bytes_eq c.points x ≡ true) e (text_itself c.points) in absurd (cc)

-- ---- counts and names

pub elements_count : {cs ds : Children} → ReorderedElements cs ds → count_children cs ≡ count_children ds
elements_count no_element = refl
elements_count (next_element t a) = ap suc (elements_count a)

pub members_count : {cs ds : Children} → ReorderedMembers cs ds → count_children cs ≡ count_children ds
members_count no_member = refl
members_count (member_among a b {u = u} front rest e t more) = ap suc (members_count more) ∙ sym (taken_count front rest (Some b) u)

pub left_named : {cs ds : Children} → ReorderedMembers cs ds → are_members cs ≡ true
left_named no_member = refl
left_named (member_among a b front rest e t more) = left_named more

put_named : (front rest : Children) (b : Name) (u : Tree) → are_members (joined front rest) ≡ true → are_members (joined front (child (Some b) u rest)) ≡ true
put_named no_child rest b u h = h
put_named (child None t more) rest b u h = absurd (cc)
put_named (child (Some c) t more) rest b u h = put_named more rest b u h

pub right_named : {cs ds : Children} → ReorderedMembers cs ds → are_members ds ≡ true
right_named no_member = refl
right_named (member_among a b {u = u} front rest e t more) = put_named front rest b u (right_named more)

put_members : (front rest : Children) (name : Option Name) (u : Tree) → has_members (value_of u) ≡ true → each_has_members (joined front rest) ≡ true → each_has_members (joined front (child name u rest)) ≡ true
put_members no_child rest name (node s v) h g = and_from _ _ h g
put_members (child n (node r w) more) rest name u h g = let p = and_parts (has_members w) (each_has_members (joined more rest)) g in and_from _ _ p.0 (put_members more rest name u h p.1)

mutual
  pub value_left : {v w : Value} → ReorderedValues v w → has_members v ≡ true
  value_left same_null = refl
  value_left same_boolean = refl
  value_left same_number = refl
  value_left same_string = refl
  value_left (same_array a) = elements_left a
  value_left (same_object a) = and_from _ _ (left_named a) (members_left a)

  elements_left : {cs ds : Children} → ReorderedElements cs ds → each_has_members cs ≡ true
  elements_left no_element = refl
  elements_left (next_element (reordered_trees h) a) = and_from _ _ (value_left h) (elements_left a)

  members_left : {cs ds : Children} → ReorderedMembers cs ds → each_has_members cs ≡ true
  members_left no_member = refl
  members_left (member_among a b front rest e (reordered_trees h) more) = and_from _ _ (value_left h) (members_left more)

mutual
  tree_right : {t u : Tree} → ReorderedTrees t u → has_members (value_of u) ≡ true
  tree_right (reordered_trees h) = value_right h

  pub value_right : {v w : Value} → ReorderedValues v w → has_members w ≡ true
  value_right same_null = refl
  value_right same_boolean = refl
  value_right same_number = refl
  value_right same_string = refl
  value_right (same_array a) = elements_right a
  value_right (same_object a) = and_from _ _ (right_named a) (members_right a)

  elements_right : {cs ds : Children} → ReorderedElements cs ds → each_has_members ds ≡ true
  elements_right no_element = refl
  elements_right (next_element (reordered_trees h) a) = and_from _ _ (value_right h) (elements_right a)

  members_right : {cs ds : Children} → ReorderedMembers cs ds → each_has_members ds ≡ true
  members_right no_member = refl
  members_right (member_among a b {u = u} front rest e h more) = put_members front rest (Some b) u (tree_right h) (members_right more)

-- values that are the same so, and have no equal names
abbrev pub Reordered : Value → Value → Type 0
Reordered v w = ReorderedValues v w × (value_has_duplicate v ≡ false) × (value_has_duplicate w ≡ false)

same_less : {x y v w : Value} → ReorderedValues x y → ReorderedValues v w → value_less x v ≡ value_less y w
same_less same_null b = refl
same_less same_boolean b = refl
same_less same_number same_number = refl
same_less same_string same_string = refl
same_less a b = refl

-- ---- equality

member_matched : (front rest cs : Children) (a b : Name) (r s : Span) (x y : Value) → a.points ≡ b.points → has_repeated (names (joined front (child (Some b) (node s y) rest))) ≡ false → values_equal x y ≡ true → Matched cs (joined front rest)
    → Matched (child (Some a) (node r x) cs) (joined front (child (Some b) (node s y) rest))
member_matched front rest cs a b r s x y same distinct equal again = λ k v f. step k v (bytes_eq k a.points) refl f
  where
    step : (k : List ℕ) (v : Value) (t : Bool) → bytes_eq k a.points ≡ t → cond t (Some x) (found k cs) ≡ Some v → (w : Value) × (found k (joined front (child (Some b) (node s y) rest)) ≡ Some w) × (values_equal v w ≡ true)
    step k v true e g = (y, found_taken k front rest b s y distinct ∙ cond-true _ _ _ (subst (λ z. bytes_eq k z ≡ true) same e), subst (λ z. values_equal z y ≡ true) (unsome g) equal)
    step k v false e g = let m = again k v g in (m.0, found_taken k front rest b s y distinct ∙ (cond-false _ _ _ (subst (λ z. bytes_eq k z ≡ false) same e) ∙ m.1), m.2)

module _ (order_total : IsTotalOrder order) where
  mutual
    pub equal_values : {v w : Value} → ReorderedValues v w → value_has_duplicate v ≡ false → value_has_duplicate w ≡ false → values_equal v w ≡ true
    equal_values same_null d f = refl
    equal_values (same_boolean {b = b}) d f = boolean_itself b
    equal_values (same_number {m = m} {e = e}) d f = number_itself order_total m e
    equal_values (same_string {x = x}) d f = text_itself x
    equal_values (same_array {cs = cs} {ds = ds} a) d f = equal_elements a (or_parts (has_repeated (names cs)) (children_have_duplicate cs) d).1 (or_parts (has_repeated (names ds)) (children_have_duplicate ds) f).1
    equal_values (same_object {cs = cs} {ds = ds} a) d f =
        let p = or_parts (has_repeated (names cs)) (children_have_duplicate cs) d in
        let q = or_parts (has_repeated (names ds)) (children_have_duplicate ds) f in
        and_from _ _ (eq-eqb (count_children cs) (count_children ds) (members_count a)) (matched_within cs ds p.0 (matched_members a q.0 p.1 q.1))

    equal_elements : {cs ds : Children} → ReorderedElements cs ds → children_have_duplicate cs ≡ false → children_have_duplicate ds ≡ false → elements_equal cs ds ≡ true
    equal_elements no_element d f = refl
    equal_elements (next_element {cs = cs} {ds = ds} (reordered_trees {v = v} {w = w} h) a) d f =
        let p = or_parts (value_has_duplicate v) (children_have_duplicate cs) d in
        let q = or_parts (value_has_duplicate w) (children_have_duplicate ds) f in
        and_from _ _ (equal_values h p.0 q.0) (equal_elements a p.1 q.1)

    matched_members : {cs ds : Children} → ReorderedMembers cs ds → has_repeated (names ds) ≡ false → children_have_duplicate cs ≡ false → children_have_duplicate ds ≡ false → Matched cs ds
    matched_members no_member r d f = λ k v g. absurd (cc)
    matched_members (member_among a b {cs = cs} front rest e (reordered_trees {s = i} {r = s} {v = x} {w = y} h) more) r d f =
        let p = or_parts (value_has_duplicate x) (children_have_duplicate cs) d in
        let q = taken_duplicate front rest (Some b) (node s y) f in
        member_matched front rest cs a b i s x y e r (equal_values h p.0 q.0) (matched_members more (taken_repeated front rest b (node s y) r) p.1 q.1)

  -- ---- comparisons

  same_equal : (x y v w : Value) → Reordered x y → Reordered v w → values_equal x v ≡ values_equal y w
  same_equal x y v w a b =
      let p : Plain x = record { distinct = a.1; members = value_left a.0 } in
      let q : Plain y = record { distinct = a.2; members = value_right a.0 } in
      let r : Plain v = record { distinct = b.1; members = value_left b.0 } in
      let s : Plain w = record { distinct = b.2; members = value_right b.0 } in
      let e = equal_values a.0 a.1 a.2 in
      let f = equal_values b.0 b.1 b.2 in
      alike _ _ (λ h. on order_total y x w (back order_total x y p q e) (on order_total x v w h f)) (λ h. on order_total x y v e (on order_total y w v h (back order_total v w r s f)))

  pub reordered_compared : (op : CompareOp) (x y v w : Option Value) → Sides Reordered x y → Sides Reordered v w → compared op x v ≡ compared op y w
  reordered_compared = sides_compared Reordered same_equal (λ x y v w a b. same_less a.0 b.0)
