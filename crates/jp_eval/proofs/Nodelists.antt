-- The nodelist from several nodes is that of each, one after another.
use Rattle.std.proofs.Common.{◌≡◌, ◌+◌, ℕ, List, [], ◌∷◌, ◌++◌, flat_map, map, ◌∙◌, ap, refl, append-nil}
use Rattle.std.proofs.lemmas.List.Concat.{flat_map-append}
use Rattle.jp_model.specs.Json.Tree.{Tree, node, Value, null, boolean, number, string, container, Children, no_child, child}
use Rattle.jp_model.specs.declared.Span.{Span}
use Rattle.jp_model.specs.Steps.{Step}
use Rattle.jp_model.specs.Meaning.Nodes.{Node, below, below_from, child_of, children, step_to, steps_from, subtree, subtree_at}
use Rattle.jp_model.specs.Meaning.Selecting.{nodes, segment_nodes, selected}
use Rattle.jp_model.specs.Query.Syntax.{Segment, Segments, Selectors, descendant_segment, no_segments, segment}

pub nodes-append : (ss : Segments) (a b : List Node) (t : Tree) → nodes ss (a ++ b) t ≡ nodes ss a t ++ nodes ss b t
nodes-append no_segments a b t = refl
nodes-append (segment s ss) a b t =
    ap (λ l. nodes ss l t) (flat_map-append (λ n. segment_nodes s n t) a b) ∙ nodes-append ss (flat_map (λ n. segment_nodes s n t) a) (flat_map (λ n. segment_nodes s n t) b) t

-- from the one node that the first segment is applied to
pub from_one : (s : Segment) (ss : Segments) (n : Node) (t : Tree) → nodes (segment s ss) (n ∷ []) t ≡ nodes ss (segment_nodes s n t) t
from_one s ss n t = ap (λ l. nodes ss l t) (append-nil (segment_nodes s n t))

-- ---- a node and those below it

flat_map_twice : {A B D : Type 0} (f : A → List B) (g : B → List D) (xs : List A) → flat_map g (flat_map f xs) ≡ flat_map (λ x. flat_map g (f x)) xs
flat_map_twice f g [] = refl
flat_map_twice f g (x ∷ xs) = flat_map-append g (f x) (flat_map f xs) ∙ ap (λ l. flat_map g (f x) ++ l) (flat_map_twice f g xs)

abbrev node_at : List Step → Tree → Node
node_at location t = record { location = location; tree = t }

children_below : (n : Node) (place : ℕ) (cs : Children) → below_from n.location place cs ≡ flat_map subtree (map (child_of n) (steps_from place cs))
children_below n place no_child = refl
children_below n place (child name t more) = ap (λ l. subtree_at (n.location ++ step_to place name ∷ []) t ++ l) (children_below n (place + 1) more)

all_below : (location : List Step) (s : Span) (v : Value) → below location v ≡ flat_map subtree (children (node_at location (node s v)))
all_below location s null = refl
all_below location s (boolean b) = refl
all_below location s (number m e) = refl
all_below location s (string points) = refl
all_below location s (container kind cs) = children_below (node_at location (node s (container kind cs))) 0 cs

subtree_is : (location : List Step) (t : Tree) → subtree_at location t ≡ node_at location t ∷ flat_map subtree (children (node_at location t))
subtree_is location (node s v) = ap (λ l. node_at location (node s v) ∷ l) (all_below location s v)

-- what a descendant segment selects from a node is what its selectors select there, and then what it selects from each child
pub below_first : (sel : Selectors) (ss : Segments) (n : Node) (t : Tree) → nodes (segment (descendant_segment sel) ss) (n ∷ []) t ≡ nodes ss (selected sel n t) t ++ nodes (segment (descendant_segment sel) ss) (children n) t
below_first sel ss n t =
    let f = λ (d : Node). selected sel d t in
    from_one (descendant_segment sel) ss n t
    ∙ (ap (λ l. nodes ss (flat_map f l) t) (subtree_is n.location n.tree)
    ∙ (ap (λ l. nodes ss (f n ++ l) t) (flat_map_twice subtree f (children n))
    ∙ nodes-append ss (f n) (flat_map (λ c. flat_map f (subtree c)) (children n)) t))
