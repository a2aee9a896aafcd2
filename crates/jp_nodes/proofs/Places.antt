-- From the place of a node to those of its first child and of its next sibling, and to the place after its subtree.
use Rattle.std.proofs.Common.{◌≡◌, ℕ, suc, ◌+◌, ◌-◌, ◌<◌, ◌≤◌, List, [], ◌∷◌, ◌++◌, length, map, take, drop, slice_get, slice_range, sym, ◌∙◌, ap, refl, arith, Some, length-append, drop-drop}
use Rattle.std.proofs.lemmas.List.{map-append, drop_at, take_at, length-drop, length-map, drop-map}
use Rattle.std.proofs.lemmas.Option.{slice_get-map, slice_get-get_or}
use Rattle.std.specs.Prelude.{option_map}
use Rattle.jp_model.specs.Steps.{Step}
use Rattle.jp_model.specs.Json.Tree.{Tree, node, null, boolean, number, string, container, Children, no_child, child, value_of, count_children}
use Rattle.jp_model.specs.Meaning.Nodes.{Node, root_node, children, steps_from, subtree}
use Rattle.jp_nodes.specs.Words.{node_count, children_node_count, nodes_below}
use Rattle.jp_nodes.specs.Spots.{Spot, root_spot, spots_below, spots_from, spots, spot_at, children_in, nodes_at, nodes_behind}
use Rattle.jp_nodes.proofs.Spots.{length-below, length-from, length-spots, nodes-below, nodes-spots, length-subtree, children-nodes, Climbs, sits_at, heads, climbs-at}

-- a tree has at least its root
pub some_node : (t : Tree) → 0 < node_count t
some_node t = let h = length-below [] 0 t in omega (arith, h)

pub length-tree : (t : Tree) → length (subtree (root_node t)) ≡ node_count t
length-tree t = length-subtree (root_node t)

pub no_more : (children : Children) → children_node_count children ≡ 0 → children ≡ no_child
no_more no_child h = refl
no_more (child name t more) h = let s = some_node t in absurd (omega (arith, s, h))

pub count-in : (t : Tree) → node_count t ≡ 1 + children_node_count (children_in (value_of t))
count-in (node s null) = refl
count-in (node s (boolean b)) = refl
count-in (node s (number m e)) = refl
count-in (node s (string points)) = refl
count-in (node s (container kind children)) = refl

pub count-below : (t : Tree) → node_count t ≡ 1 + nodes_below (value_of t)
count-below (node s null) = refl
count-below (node s (boolean b)) = refl
count-below (node s (number m e)) = refl
count-below (node s (string points)) = refl
count-below (node s (container kind children)) = refl

pub below-from : (location : List Step) (place : ℕ) (t : Tree) → spots_below location place t ≡ spots_from location place 0 (place + 1) (children_in (value_of t))
below-from location place (node s null) = refl
below-from location place (node s (boolean b)) = refl
below-from location place (node s (number m e)) = refl
below-from location place (node s (string points)) = refl
below-from location place (node s (container kind children)) = refl

count_few : (children : Children) → count_children children ≤ children_node_count children
count_few no_child = omega arith
count_few (child name t more) = let s = some_node t in let h = count_few more in omega (arith, s, h)

steps_count : (index : ℕ) (children : Children) → length (steps_from index children) ≡ count_children children
steps_count index no_child = refl
steps_count index (child name t more) = ap suc (steps_count (index + 1) more)

pub length-children : (n : Node) → length (children n) ≡ count_children (children_in (value_of n.tree))
length-children n =
    ap length (children-nodes n) ∙ (length-map (steps_from 0 (children_in (value_of n.tree))) (λ (p : Step × Tree). record { location = n.location ++ p.0 ∷ []; tree = p.1 }) ∙ steps_count 0 (children_in (value_of n.tree)))

pub few_children : (n : Node) → length (children n) ≤ children_node_count (children_in (value_of n.tree))
few_children n = let a = length-children n in let b = count_few (children_in (value_of n.tree)) in omega (arith, a, b)

-- ---- the node at a place

pub node_at : (t : Tree) (place : ℕ) → place < node_count t → slice_get (subtree (root_node t)) place ≡ Some (spot_at t place).node
node_at t place h =
    let l = length-spots t in
    ap (λ x. slice_get x place) (sym (nodes-spots t))
    ∙ (slice_get-map (λ (s : Spot). s.node) (spots t) place ∙ ap (option_map (λ (s : Spot). s.node)) (slice_get-get_or (spots t) place (root_spot t) (omega (arith, l, h))))

-- ---- the place after the subtree

pub after_within : (t : Tree) (place : ℕ) → place < node_count t → place + length (subtree (spot_at t place).node) ≤ node_count t
after_within t place h =
    let s : Spot = spot_at t place in
    let r = sits_at t place h in
    let others : List Spot = spots_from s.parent s.up (s.index + 1) (place + node_count s.node.tree) s.behind ++ r.rest in
    let a = length-spots t in
    let b = length-drop place (spots t) in
    let c = ap length r.from_here in
    let d = length-append (spots_below s.node.location place s.node.tree) others in
    let e = length-below s.node.location place s.node.tree in
    let f = length-subtree s.node in
    omega (arith, a, b, c, d, e, f)

pub subtree-range : (t : Tree) (place : ℕ) → place < node_count t → slice_range (subtree (root_node t)) place (place + length (subtree (spot_at t place).node)) ≡ subtree (spot_at t place).node
subtree-range t place h =
    let s : Spot = spot_at t place in
    let r = sits_at t place h in
    let others : List Spot = spots_from s.parent s.up (s.index + 1) (place + node_count s.node.tree) s.behind ++ r.rest in
    let n : ℕ = length (subtree s.node) in
    let own : subtree s.node ≡ map (λ (x : Spot). x.node) (s ∷ spots_below s.node.location place s.node.tree) = sym (nodes-below s.node.location place s.node.tree) in
    let e : (place + n) - place ≡ n = omega arith in
    let parts : drop place (subtree (root_node t)) ≡ subtree s.node ++ map (λ (x : Spot). x.node) others =
    ap (drop place) (sym (nodes-spots t))
    ∙ (drop-map (λ (x : Spot). x.node) place (spots t)
    ∙ (ap (map (λ (x : Spot). x.node)) r.from_here
    ∙ (map-append (λ (x : Spot). x.node) (s ∷ spots_below s.node.location place s.node.tree) others
    ∙ ap (λ x. x ++ map (λ (x : Spot). x.node) others) (sym own)))) in
    ap (λ k. take k (drop place (subtree (root_node t)))) e ∙ (ap (take n) parts ∙ take_at (subtree s.node) (map (λ (x : Spot). x.node) others) n refl)

-- ---- the first child

pub first_child : (t : Tree) (place : ℕ) → place < node_count t → 1 < length (subtree (spot_at t place).node) →
    let s = spot_at t place in
    let c = spot_at t (place + 1) in
    (c.node ∷ nodes_behind c ≡ children s.node) × (child c.name c.node.tree c.behind ≡ children_in (value_of s.node.tree))
first_child t place h more =
    let s : Spot = spot_at t place in
    let r = sits_at t place h in
    let others : List Spot = spots_from s.parent s.up (s.index + 1) (place + node_count s.node.tree) s.behind ++ r.rest in
    let from : drop (place + 1) (spots t) ≡ spots_from s.node.location place 0 (place + 1) (children_in (value_of s.node.tree)) ++ others =
    sym (drop-drop 1 place (spots t)) ∙ (ap (drop 1) r.from_here ∙ ap (λ x. x ++ others) (below-from s.node.location place s.node.tree)) in
    let a = length-subtree s.node in
    let b = count-in s.node.tree in
    let found = heads t (place + 1) s.node.location place 0 (place + 1) (children_in (value_of s.node.tree)) others from (omega (arith, a, b, more)) in
    (found.0 ∙ sym (children-nodes s.node), found.1)

pub no_first_child : (n : Node) → length (subtree n) ≤ 1 → (children n ≡ []) × (children_in (value_of n.tree) ≡ no_child)
no_first_child n h =
    let a = length-subtree n in
    let b = count-in n.tree in
    let e : children_in (value_of n.tree) ≡ no_child = no_more (children_in (value_of n.tree)) (omega (arith, a, b, h)) in
    (children-nodes n ∙ ap (nodes_at n.location 0) e, e)

-- ---- the next sibling

behind_from : (t : Tree) (place : ℕ) (h : place < node_count t) →
    let s = spot_at t place in
    (rest : List Spot) × (drop (place + length (subtree s.node)) (spots t) ≡ spots_from s.parent s.up (s.index + 1) (place + node_count s.node.tree) s.behind ++ rest) × Climbs s.up rest
behind_from t place h =
    let s : Spot = spot_at t place in
    let r = sits_at t place h in
    let others : List Spot = spots_from s.parent s.up (s.index + 1) (place + node_count s.node.tree) s.behind ++ r.rest in
    let a = length-subtree s.node in
    let b = length-below s.node.location place s.node.tree in
    let e : length (s ∷ spots_below s.node.location place s.node.tree) ≡ length (subtree s.node) = omega (arith, a, b) in (
      r.rest,
      sym (drop-drop (length (subtree s.node)) place (spots t)) ∙ (ap (drop (length (subtree s.node))) r.from_here ∙ drop_at (s ∷ spots_below s.node.location place s.node.tree) others (length (subtree s.node)) e),
      r.climbs,
    )

pub next_sibling : (t : Tree) (place : ℕ) → place < node_count t → 0 < children_node_count (spot_at t place).behind →
    let s = spot_at t place in
    let after = place + length (subtree s.node) in
    let c = spot_at t after in
    (after < node_count t) × (c.node ∷ nodes_behind c ≡ nodes_behind s) × (child c.name c.node.tree c.behind ≡ s.behind) × (c.up ≡ s.up)
next_sibling t place h more =
    let s : Spot = spot_at t place in
    let after : ℕ = place + length (subtree s.node) in
    let r = behind_from t place h in
    let a = length-spots t in
    let b = length-drop after (spots t) in
    let c = ap length r.1 in
    let from : ℕ = place + node_count s.node.tree in
    let d = length-append (spots_from s.parent s.up (s.index + 1) from s.behind) r.0 in
    let e = length-from s.parent s.up (s.index + 1) from s.behind in
    let found = heads t after s.parent s.up (s.index + 1) from s.behind r.0 r.1 more in
    (omega (arith, a, b, c, d, e, more), found.0, found.1, found.2)

-- the node after the last of some siblings is a child of a node before their parent
pub behind_last : (t : Tree) (place : ℕ) → place < node_count t → (spot_at t place).behind ≡ no_child →
    let s = spot_at t place in
    let after = place + length (subtree s.node) in
    after < node_count t → (spot_at t after).up < s.up
behind_last t place h none l =
    let s : Spot = spot_at t place in
    let after : ℕ = place + length (subtree s.node) in
    let r = behind_from t place h in
    climbs-at t after s.up r.0 (r.1 ∙ ap (λ x. spots_from s.parent s.up (s.index + 1) (place + node_count s.node.tree) x ++ r.0) none) l r.2
