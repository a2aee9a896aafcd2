-- Each node but the root is a child of the one at its parent's place.
use Rattle.std.proofs.Common.{◌≡◌, ℕ, zero, suc, ◌+◌, ◌<◌, List, [], ◌∷◌, ◌++◌, length, drop, get_or, slice_get, sym, ◌∙◌, ap, subst, refl, arith, Option, Some, append_assoc, append-nil, drop-drop, add-zero}
use Rattle.std.specs.Prelude.{option_map}
use Rattle.std.proofs.lemmas.List.{drop_at, length-drop, length-map}
use Rattle.std.proofs.lemmas.Option.{slice_get-map, slice_get_within}
use Rattle.jp_model.specs.Steps.{Step}
use Rattle.jp_model.specs.Json.Tree.{Tree, node, null, boolean, number, string, container, Children, no_child, child, Name, value_of}
use Rattle.jp_model.specs.Meaning.Nodes.{Node, child_of, step_to, steps_from, steps_in, children}
use Rattle.jp_nodes.specs.Words.{node_count}
use Rattle.jp_nodes.specs.Spots.{Spot, child_spot, root_spot, spots_below, spots_from, spots, spot_at, nodes_at, nodes_behind}
use Rattle.jp_nodes.proofs.Spots.{length-below, length-subtree, spot-is}
use Rattle.jp_nodes.proofs.Places as places

-- a spot at a place of a tree's, and the one at its parent's place
pub record HasParent (t : Tree) (place : ℕ) (s : Spot) : Type 0 where
  pub before : s.up < place
  pub location : s.node.location ≡ (spot_at t s.up).node.location ++ step_to s.index s.name ∷ []
  pub child : slice_get (children (spot_at t s.up).node) s.index ≡ Some s.node
  pub siblings : length (children (spot_at t s.up).node) ≡ s.index + suc (length (nodes_behind s))

-- the same of each of some spots, the first of which is at this place
abbrev HaveParents : Tree → ℕ → List Spot → Type 0
HaveParents t place [] = Unit {0}
HaveParents t place (s ∷ ss) = HasParent t place s × HaveParents t (place + 1) ss

each-append : (t : Tree) (place : ℕ) (xs ys : List Spot) → HaveParents t place xs → HaveParents t (place + length xs) ys → HaveParents t place (xs ++ ys)
each-append t place [] ys p q = subst (λ n. HaveParents t n ys) (add-zero place) q
each-append t place (x ∷ xs) ys p q = (p.0, each-append t (place + 1) xs ys p.1 (subst (λ n. HaveParents t n ys) (let e : place + suc (length xs) ≡ place + 1 + length xs = omega arith in e) q))

each-at : (t : Tree) (place : ℕ) (xs : List Spot) (i : ℕ) (d : Spot) → i < length xs → HaveParents t place xs → HasParent t (place + i) (get_or xs i d)
each-at t place [] i d h p = absurd (omega arith)
each-at t place (x ∷ xs) zero d h p = subst (λ n. HasParent t n x) (sym (add-zero place)) p.0
each-at t place (x ∷ xs) (suc i) d h p =
    subst (λ n. HasParent t n (get_or xs i d)) (let e : place + 1 + i ≡ place + suc i = omega arith in e) (each-at t (place + 1) xs i d (omega arith) p.1)

first_behind : {A : Type 0} (xs : List A) (index : ℕ) (x : A) (rest : List A) → drop index xs ≡ x ∷ rest → slice_get xs index ≡ Some x
first_behind [] zero x rest e = let n = ap length e in absurd (omega (arith, n))
first_behind [] (suc i) x rest e = let n = ap length e in absurd (omega (arith, n))
first_behind {A} (y ∷ ys) zero x rest e = ap (λ (zs : List A). slice_get zs 0) e
first_behind (y ∷ ys) (suc i) x rest e = first_behind ys i x rest e

-- the first of the children from an index on
child_at : (n : Node) (index : ℕ) (step : Step) (u : Tree) (rest : List (Step × Tree)) → drop index (steps_in (value_of n.tree)) ≡ (step, u) ∷ rest → slice_get (children n) index ≡ Some (child_of n (step, u))
child_at n index step u rest e =
    slice_get-map (child_of n) (steps_in (value_of n.tree)) index
    ∙ ap (option_map (child_of n)) (first_behind (steps_in (value_of n.tree)) index (step, u) rest e)

-- how many there are, by the first of those from an index on
siblings_of : (n : Node) (index : ℕ) (name : Option Name) (u : Tree) (more : Children) → drop index (steps_in (value_of n.tree)) ≡ steps_from index (child name u more) → length (children n) ≡ index + suc (length (nodes_at n.location (index + 1) more))
siblings_of n index name u more e =
    let a = length-map (steps_in (value_of n.tree)) (child_of n) in
    let b = length-drop index (steps_in (value_of n.tree)) in
    let c = ap (λ (xs : List (Step × Tree)). length xs) e in
    let d = length-map {B = Node} (steps_from (index + 1) more) (λ (p : Step × Tree). record { location = n.location ++ p.0 ∷ []; tree = p.1 }) in
    omega (arith, a, b, c, d)

mutual
  -- below a node that stands at this place of the tree
  below_parents : (t u : Tree) (location : List Step) (place : ℕ) (rest : List Spot) → (spot_at t place).node ≡ record { location = location; tree = u } → drop (place + 1) (spots t) ≡ spots_below location place u ++ rest →
      HaveParents t (place + 1) (spots_below location place u)
  below_parents t (node s null) location place rest n e = tt
  below_parents t (node s (boolean b)) location place rest n e = tt
  below_parents t (node s (number m f)) location place rest n e = tt
  below_parents t (node s (string points)) location place rest n e = tt
  below_parents t (node s (container kind children)) location place rest n e =
      from_parents t children (record { location = location; tree = node s (container kind children) }) place 0 (place + 1) rest n refl e (omega arith)

  -- children of it from an index on
  from_parents : (t : Tree) (children : Children) (parent : Node) (up index place : ℕ) (rest : List Spot) → (spot_at t up).node ≡ parent → drop index (steps_in (value_of parent.tree)) ≡ steps_from index children →
      drop place (spots t) ≡ spots_from parent.location up index place children ++ rest → up < place → HaveParents t place (spots_from parent.location up index place children)
  from_parents t no_child parent up index place rest n d e l = tt
  from_parents t (child name u more) parent up index place rest n d e l =
      let s : Spot = child_spot parent.location up index name u more in
      let inside : List Spot = spots_below s.node.location place u in
      let others : List Spot = spots_from parent.location up (index + 1) (place + node_count u) more in
      let counted : suc (length inside) ≡ node_count u = length-below s.node.location place u in
      let all : drop place (spots t) ≡ s ∷ (inside ++ (others ++ rest)) = e ∙ ap (λ (x : List Spot). s ∷ x) (append_assoc inside others rest) in
      let at : spot_at t place ≡ s = spot-is t place s _ all in
      let behind : drop (place + 1) (spots t) ≡ inside ++ (others ++ rest) = sym (drop-drop 1 place (spots t)) ∙ ap (drop 1) all in
      let next : place + 1 + length inside ≡ place + node_count u = omega (arith, counted) in
      let later : drop (place + node_count u) (spots t) ≡ others ++ rest =
      ap (λ k. drop k (spots t)) (sym next) ∙ (sym (drop-drop (length inside) (place + 1) (spots t)) ∙ (ap (drop (length inside)) behind ∙ drop_at inside (others ++ rest) (length inside) refl)) in
      let steps : drop (index + 1) (steps_in (value_of parent.tree)) ≡ steps_from (index + 1) more = sym (drop-drop 1 index (steps_in (value_of parent.tree))) ∙ ap (drop 1) d in (
        record {
          before = l;
          location = ap (λ (x : Node). x.location ++ step_to index name ∷ []) (sym n);
          child = ap (λ (x : Node). slice_get (children x) index) n ∙ child_at parent index (step_to index name) u _ d;
          siblings = ap (λ (x : Node). length (children x)) n ∙ siblings_of parent index name u more d;
        },
        each-append t (place + 1) inside others (below_parents t u s.node.location place (others ++ rest) (ap (λ (x : Spot). x.node) at) behind)
            (subst (λ k. HaveParents t k others) (sym next) (from_parents t more parent up (index + 1) (place + node_count u) rest n steps later (omega (arith, l, counted)))),
      )

pub has_parent : (t : Tree) (place : ℕ) → 0 < place → place < node_count t → HasParent t place (spot_at t place)
has_parent t zero l h = absurd (omega (arith, l))
has_parent t (suc i) l h =
    let n = length-below [] 0 t in
    let all = below_parents t t [] 0 [] refl (sym (append-nil (spots_below [] 0 t))) in
    subst (λ k. HasParent t k (spot_at t (suc i))) (let e : 0 + 1 + i ≡ suc i = omega arith in e) (each-at t (0 + 1) (spots_below [] 0 t) i (root_spot t) (omega (arith, n, h)) all)

-- ---- the place of a parent, and the number of siblings before, are fewer than the nodes

pub up_inside : (t : Tree) (place : ℕ) → place < node_count t → (spot_at t place).up < node_count t
up_inside t zero h = h
up_inside t (suc i) h = let b = (has_parent t (suc i) (omega arith) h).before in omega (arith, b, h)

pub index_inside : (t : Tree) (place : ℕ) → place < node_count t → (spot_at t place).index < node_count t
index_inside t zero h = h
index_inside t (suc j) h =
    let r = has_parent t (suc j) (omega arith) h in
    let b = r.before in
    let parent : Node = (spot_at t (spot_at t (suc j)).up).node in
    let i = slice_get_within (children parent) (spot_at t (suc j)).index (spot_at t (suc j)).node r.child in
    let k = places.few_children parent in
    let m = places.count-in parent.tree in
    let s = length-subtree parent in
    let a = places.after_within t (spot_at t (suc j)).up (omega (arith, b, h)) in
    omega (arith, i, k, m, s, a)
