-- The node at a place of a node's subtree.
use Rattle.std.proofs.Common.{◌≡◌, ℕ, ◌+◌, ◌-◌, ◌<◌, ◌≤◌, List, ◌∷◌, length, take, drop, get_or, sym, ◌∙◌, ap, subst, arith}
use Rattle.std.proofs.lemmas.List.{get_or-take, get_or-drop}
use Rattle.std.proofs.lemmas.Option.{get_or_from_slice_get}
use Rattle.jp_model.specs.Meaning.Nodes.{Node, root_node, subtree}
use Rattle.jp_nodes.specs.declared.cursor.Cursor.{Cursor}
use Rattle.jp_nodes.specs.Tapes.{spelled}
use Rattle.jp_nodes.specs.Cursors.{line_of, place_of, root_of, node_of}
use Rattle.jp_nodes.proofs.Cursors.{node_at, subtree-range, at_root}
use Rattle.jp_eval.proofs.Lists.{item_at}

node_in : (a c : Cursor) → line_of a ≡ line_of c → place_of a ≤ place_of c → place_of c < place_of a + length (subtree (node_of a)) → get_or (subtree (node_of a)) (place_of c - place_of a) (node_of c) ≡ node_of c
node_in a c l low high =
    let whole : List Node = subtree (root_node (root_of a)) in
    let n : ℕ = length (subtree (node_of a)) in
    let k : ℕ = place_of c - place_of a in
    let own : take ((place_of a + n) - place_of a) (drop (place_of a) whole) ≡ subtree (node_of a) = subtree-range a in
    let here = subst (λ (x : List ℕ). get_or (subtree (root_node (spelled x))) (place_of c) (node_of c) ≡ node_of c) (sym l) (get_or_from_slice_get (subtree (root_node (root_of c))) (place_of c) (node_of c) (node_of c) (node_at c)) in
    ap (λ (ns : List Node). get_or ns k (node_of c)) (sym own)
    ∙ (get_or-take ((place_of a + n) - place_of a) (drop (place_of a) whole) k (node_of c) (omega (arith, low, high))
    ∙ (get_or-drop (place_of a) whole k (node_of c)
    ∙ (ap (λ (i : ℕ). get_or whole i (node_of c)) (let e : place_of a + (place_of c - place_of a) ≡ place_of c = omega (arith, low) in e) ∙ here)))

-- the subtree from a place on begins with the node there
pub below_at : (a d : Cursor) (place : ℕ) → line_of d ≡ line_of a → place_of d ≡ place → place_of a ≤ place → place < place_of a + length (subtree (node_of a))
    → drop (place - place_of a) (subtree (node_of a)) ≡ node_of d ∷ drop (place + 1 - place_of a) (subtree (node_of a))
below_at a d place l p low high =
    let e : place_of d - place_of a ≡ place - place_of a = omega (arith, p) in
    let f : place - place_of a + 1 ≡ place + 1 - place_of a = omega (arith, low) in
    let here = node_in a d (sym l) (omega (arith, p, low)) (omega (arith, p, high)) in
    let is_d : node_of d ≡ get_or (subtree (node_of a)) (place - place_of a) (node_of d) = sym (ap (λ (i : ℕ). get_or (subtree (node_of a)) i (node_of d)) (sym e) ∙ here) in
    item_at (subtree (node_of a)) (place - place_of a) (node_of d) (omega (arith, low, high)) is_d ∙ ap (λ (i : ℕ). node_of d ∷ drop i (subtree (node_of a))) f

-- the node at the first place is the root
pub root_is : (c : Cursor) → place_of c ≡ 0 → root_node (node_of c).tree ≡ node_of c
root_is c e = ap (λ (n : Node). root_node n.tree) (at_root c e) ∙ sym (at_root c e)
