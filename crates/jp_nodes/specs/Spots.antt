-- Where the nodes of a tree stand: depth first, each node before its children (RFC 9535, sections 1.1 and 2.5.2.2; profile).
use Rattle.std.specs.Prelude.{ℕ, ◌+◌, List, [], ◌∷◌, ◌++◌, map, slice_index_or, Option, Some, None}
use Rattle.jp_model.specs.Steps.{Step, name_step}
use Rattle.jp_model.specs.Json.Tree.{Tree, node, Value, container, Children, no_child, child, Name}
use Rattle.jp_model.specs.Meaning.Nodes.{Node, root_node, step_to, steps_from}
use Rattle.jp_nodes.specs.Words.{node_count}

-- a node among its siblings
pub record Spot : Type 0 where
  pub node : Node
  -- the name of a member
  pub name : Option Name
  -- the location of the parent, and its place
  pub parent : List Step
  pub up : ℕ
  -- how many siblings stand before it
  pub index : ℕ
  -- the siblings after it
  pub behind : Children

-- the spot of a child, by the location and the place of its parent
abbrev pub child_spot : List Step → (up index : ℕ) → Option Name → Tree → Children → Spot
child_spot parent up index name t more = record { node = record { location = parent ++ step_to index name ∷ []; tree = t }; name = name; parent = parent; up = up; index = index; behind = more }

-- the root has no name and no sibling
abbrev pub root_spot : Tree → Spot
root_spot t = record { node = root_node t; name = None; parent = []; up = 0; index = 0; behind = no_child }

abbrev mutual
  -- the spots below a tree that has this location and this place
  pub spots_below : List Step → ℕ → Tree → List Spot
  spots_below location place (node s v) = spots_in location place v

  -- those below a value
  pub spots_in : List Step → ℕ → Value → List Spot
  spots_in location place (container kind children) = spots_from location place 0 (place + 1) children
  spots_in location place _ = []

  -- those of children from an index on, the first of them at this place, and below them
  pub spots_from : List Step → (up index place : ℕ) → Children → List Spot
  spots_from parent up index place no_child = []
  spots_from parent up index place (child name t more) =
      child_spot parent up index name t more ∷ (spots_below (parent ++ step_to index name ∷ []) place t ++ spots_from parent up (index + 1) (place + node_count t) more)

-- the spots of a tree; a node's place is its index here
abbrev pub spots : Tree → List Spot
spots t = root_spot t ∷ spots_below [] 0 t

-- the spot at a place
abbrev pub spot_at : Tree → ℕ → Spot
spot_at t place = slice_index_or (spots t) place (root_spot t)

-- the children of a value, elements or members
abbrev pub children_in : Value → Children
children_in (container kind children) = children
children_in _ = no_child

-- child nodes from an index on
abbrev pub nodes_at : List Step → ℕ → Children → List Node
nodes_at parent index children = map (λ p. record { location = parent ++ p.0 ∷ []; tree = p.1 }) (steps_from index children)

-- the sibling nodes after a spot
abbrev pub nodes_behind : Spot → List Node
nodes_behind s = nodes_at s.parent (s.index + 1) s.behind

-- the last step of a location, where it has one
abbrev pub last_step : List Step → Option Step
last_step [] = None
last_step (s ∷ []) = Some s
last_step (s ∷ t ∷ ss) = last_step (t ∷ ss)

-- the scalars of the name by which a step goes
abbrev pub name_points : Option Step → Option (List ℕ)
name_points (Some (name_step points)) = Some points
name_points _ = None
