-- What a tree has, the tree with its members in order has.
use Rattle.std.proofs.Common.{◌≡◌, ℕ, ◌≤◌, List, true, false, bytes_eq, Some, None, refl, sym, subst, ℤ, arith}
use Rattle.std.proofs.lemmas.Bool.{both_ways, cond_both, false_from_ne_true, or_from, or_parts}
use Rattle.jp_model.specs.Json.Faults.{depth, value_depth, greatest_depth, names, has_repeated, has_duplicate, value_has_duplicate, children_have_duplicate}
use Rattle.jp_model.specs.Json.Tree.{Tree, node, Value, null, boolean, number, string, container, array, object, Children, no_child, child, Name}
use Rattle.jp_model.specs.Meaning.Compare.{text_less}
use Rattle.jp_laws.specs.JsonTexts.{CanBeSaid, CanBeValue, CanBeChildren, HasNumbers, IsOfNumbers, HaveNumbers}
use Rattle.jp_laws.proofs.CanonicalTrees.{put, sorted, sorted_value, sorted_elements, sorted_members}
use Rattle.jp_laws.proofs.ValueEquality.{among, text_itself, text_same}

-- what holds of children holds of them with one more, wherever that is put
pub put_has : (Holds : Children → Type 0) (a : Name) (t : Tree) → ((u : Children) → Holds u → Holds (child (Some a) t u)) → ((b : Name) (u : Tree) (more : Children) → (Holds more → Holds (put a t more)) → Holds (child (Some b) u more) → Holds (child (Some b) u (put a t more)))
    → ((u : Tree) (more : Children) → (Holds more → Holds (put a t more)) → Holds (child None u more) → Holds (child None u (put a t more))) → (cs : Children) → Holds cs → Holds (put a t cs)
put_has Holds a t here later unnamed no_child h = here no_child h
put_has Holds a t here later unnamed (child None u more) h = unnamed u more (put_has Holds a t here later unnamed more) h
put_has Holds a t here later unnamed (child (Some b) u more) h =
    cond_both (text_less b.points a.points) _ _ Holds (λ _. later b u more (put_has Holds a t here later unnamed more) h) (λ _. here (child (Some b) u more) h)

-- ---- strings, names and numbers

mutual
  pub tree_said : (t : Tree) → CanBeSaid t → CanBeSaid (sorted t)
  tree_said (node s v) h = value_said v h

  value_said : (v : Value) → CanBeValue v → CanBeValue (sorted_value v)
  value_said null h = tt
  value_said (boolean b) h = tt
  value_said (number m e) h = tt
  value_said (string x) h = h
  value_said (container array cs) h = elements_said cs h
  value_said (container object cs) h = members_said cs h

  elements_said : (cs : Children) → CanBeChildren array cs → CanBeChildren array (sorted_elements cs)
  elements_said no_child h = tt
  elements_said (child name t more) h = (tt, tree_said t h.1, elements_said more h.2)

  members_said : (cs : Children) → CanBeChildren object cs → CanBeChildren object (sorted_members cs)
  members_said no_child h = tt
  members_said (child None t more) h = members_said more h.2
  members_said (child (Some name) t more) h =
      put_has (CanBeChildren object) name (sorted t) (λ u g. (h.0, tree_said t h.1, g)) (λ b u rest again g. (g.0, g.1, again g.2)) (λ u rest again g. (g.0, g.1, again g.2)) (sorted_members more) (members_said more h.2)

module _ (IsSuch : ℤ → ℤ → Type 0) where
  mutual
    pub tree_numbers : (t : Tree) → HasNumbers IsSuch t → HasNumbers IsSuch (sorted t)
    tree_numbers (node s v) h = value_numbers v h

    value_numbers : (v : Value) → IsOfNumbers IsSuch v → IsOfNumbers IsSuch (sorted_value v)
    value_numbers null h = tt
    value_numbers (boolean b) h = tt
    value_numbers (number m e) h = h
    value_numbers (string x) h = tt
    value_numbers (container array cs) h = elements_numbers cs h
    value_numbers (container object cs) h = members_numbers cs h

    elements_numbers : (cs : Children) → HaveNumbers IsSuch cs → HaveNumbers IsSuch (sorted_elements cs)
    elements_numbers no_child h = tt
    elements_numbers (child name t more) h = (tree_numbers t h.0, elements_numbers more h.1)

    members_numbers : (cs : Children) → HaveNumbers IsSuch cs → HaveNumbers IsSuch (sorted_members cs)
    members_numbers no_child h = tt
    members_numbers (child None t more) h = members_numbers more h.1
    members_numbers (child (Some name) t more) h =
        put_has (HaveNumbers IsSuch) name (sorted t) (λ u g. (tree_numbers t h.0, g)) (λ b u rest again g. (g.0, again g.1)) (λ u rest again g. (g.0, again g.1)) (sorted_members more) (members_numbers more h.1)

-- ---- depth

mutual
  pub tree_depth : (t : Tree) → depth (sorted t) ≤ depth t
  tree_depth (node s v) = depth_of v

  depth_of : (v : Value) → value_depth (sorted_value v) ≤ value_depth v
  depth_of null = omega arith
  depth_of (boolean b) = omega arith
  depth_of (number m e) = omega arith
  depth_of (string x) = omega arith
  depth_of (container array cs) = let h = elements_depth cs in omega arith
  depth_of (container object cs) = let h = members_depth cs (greatest_depth cs) (omega arith) in omega arith

  elements_depth : (cs : Children) → greatest_depth (sorted_elements cs) ≤ greatest_depth cs
  elements_depth no_child = omega arith
  elements_depth (child name t more) = let h = tree_depth t in let g = elements_depth more in omega arith

  members_depth : (cs : Children) (most : ℕ) → greatest_depth cs ≤ most → greatest_depth (sorted_members cs) ≤ most
  members_depth no_child most l = omega arith
  members_depth (child None t more) most l = members_depth more most (omega arith)
  members_depth (child (Some name) t more) most l =
      let h = tree_depth t in
      put_has (λ cs. greatest_depth cs ≤ most) name (sorted t) (λ u g. omega arith) (λ b u rest again g. let k = again (omega arith) in omega arith) (λ u rest again g. let k = again (omega arith) in omega arith) (sorted_members more)
      (members_depth more most (omega arith))

-- ---- names

other_way : (x y : List ℕ) → bytes_eq x y ≡ false → bytes_eq y x ≡ false
other_way x y h = false_from_ne_true (bytes_eq y x) (λ e. both_ways _ h (subst (λ z. bytes_eq x z ≡ true) (sym (text_same y x e)) (text_itself x)))

not_put : (k : List ℕ) (a : Name) (t : Tree) (cs : Children) → bytes_eq k a.points ≡ false → among k (names cs) ≡ false → among k (names (put a t cs)) ≡ false
not_put k a t cs d h =
    put_has (λ cs. among k (names cs) ≡ false) a t (λ u g. or_from _ _ d g) (λ b u rest again g. let p = or_parts (bytes_eq k b.points) (among k (names rest)) g in or_from _ _ p.0 (again p.1)) (λ u rest again g. again g) cs h

not_sorted : (k : List ℕ) (cs : Children) → among k (names cs) ≡ false → among k (names (sorted_members cs)) ≡ false
not_sorted k no_child h = refl
not_sorted k (child None t more) h = not_sorted k more h
not_sorted k (child (Some name) t more) h = let p = or_parts (bytes_eq k name.points) (among k (names more)) h in not_put k name (sorted t) (sorted_members more) p.0 (not_sorted k more p.1)

put_distinct : (a : Name) (t : Tree) (cs : Children) → among a.points (names cs) ≡ false → has_repeated (names cs) ≡ false → has_repeated (names (put a t cs)) ≡ false
put_distinct a t no_child h d = refl
put_distinct a t (child None u more) h d = put_distinct a t more h d
put_distinct a t (child (Some b) u more) h d =
    let p = or_parts (bytes_eq a.points b.points) (among a.points (names more)) h in
    let q = or_parts (among b.points (names more)) (has_repeated (names more)) d in
    cond_both (text_less b.points a.points) _ _ (λ (cs : Children). has_repeated (names cs) ≡ false) (λ _. or_from _ _ (not_put b.points a t more (other_way a.points b.points p.0) q.0) (put_distinct a t more p.1 q.1)) (λ _. or_from _ _ h d)

sorted_distinct : (cs : Children) → has_repeated (names cs) ≡ false → has_repeated (names (sorted_members cs)) ≡ false
sorted_distinct no_child d = refl
sorted_distinct (child None t more) d = sorted_distinct more d
sorted_distinct (child (Some name) t more) d =
    let p = or_parts (among name.points (names more)) (has_repeated (names more)) d in
    put_distinct name (sorted t) (sorted_members more) (not_sorted name.points more p.0) (sorted_distinct more p.1)

elements_unnamed : (cs : Children) → has_repeated (names (sorted_elements cs)) ≡ false
elements_unnamed no_child = refl
elements_unnamed (child name t more) = elements_unnamed more

mutual
  pub tree_duplicate : (t : Tree) → has_duplicate t ≡ false → has_duplicate (sorted t) ≡ false
  tree_duplicate (node s v) d = value_duplicate v d

  pub value_duplicate : (v : Value) → value_has_duplicate v ≡ false → value_has_duplicate (sorted_value v) ≡ false
  value_duplicate null d = refl
  value_duplicate (boolean b) d = refl
  value_duplicate (number m e) d = refl
  value_duplicate (string x) d = refl
  value_duplicate (container array cs) d = let p = or_parts (has_repeated (names cs)) (children_have_duplicate cs) d in or_from _ _ (elements_unnamed cs) (elements_duplicate cs p.1)
  value_duplicate (container object cs) d = let p = or_parts (has_repeated (names cs)) (children_have_duplicate cs) d in or_from _ _ (sorted_distinct cs p.0) (members_duplicate cs p.1)

  elements_duplicate : (cs : Children) → children_have_duplicate cs ≡ false → children_have_duplicate (sorted_elements cs) ≡ false
  elements_duplicate no_child d = refl
  elements_duplicate (child name t more) d = let p = or_parts (has_duplicate t) (children_have_duplicate more) d in or_from _ _ (tree_duplicate t p.0) (elements_duplicate more p.1)

  members_duplicate : (cs : Children) → children_have_duplicate cs ≡ false → children_have_duplicate (sorted_members cs) ≡ false
  members_duplicate no_child d = refl
  members_duplicate (child None t more) d = members_duplicate more (or_parts (has_duplicate t) (children_have_duplicate more) d).1
  members_duplicate (child (Some name) t more) d =
      let p = or_parts (has_duplicate t) (children_have_duplicate more) d in
      put_has (λ cs. children_have_duplicate cs ≡ false) name (sorted t) (λ u g. or_from _ _ (tree_duplicate t p.0) g)
      (λ b u rest again g. let q = or_parts (has_duplicate u) (children_have_duplicate rest) g in or_from _ _ q.0 (again q.1))
      (λ u rest again g. let q = or_parts (has_duplicate u) (children_have_duplicate rest) g in or_from _ _ q.0 (again q.1)) (sorted_members more) (members_duplicate more p.1)
