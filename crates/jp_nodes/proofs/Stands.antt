-- Each node of a spelled tree: its bytes spell it, and those before it its name.
use Rattle.std.proofs.Common.{◌≡◌, ℕ, zero, suc, ◌+◌, ◌<◌, List, [], ◌∷◌, ◌++◌, length, get_or, ap, refl, arith, Option, Some, None}
use Rattle.jp_model.specs.Steps.{Step}
use Rattle.jp_model.specs.Json.Tree.{Tree, node, null, boolean, number, string, container, Container, array, object, Children, no_child, child, Name, span}
use Rattle.jp_model.specs.Json.Spelling.{Spells, SpellsFirst, SpellsMore, SpellsLabel, SpellsName, Text}
use Rattle.jp_model.specs.Meaning.Nodes.{step_to}
use Rattle.jp_nodes.specs.Words.{node_count}
use Rattle.jp_nodes.specs.Spots.{Spot, root_spot, spots_below, spots_from, spots, spot_at, last_step, name_points}
use Rattle.jp_nodes.proofs.Spots.{length-spots}

-- the name that a member has is spelled before it, and its location ends by it
abbrev pub NameStands : List ℕ → Option Name → List Step → Type 0
NameStands line None location = name_points (last_step location) ≡ None
NameStands line (Some name) location = (from : ℕ) × (value : ℕ) × SpellsName line from value name × (name_points (last_step location) ≡ Some name.points)

pub record SpotStands (line : List ℕ) (s : Spot) : Type 0 where
  pub spells : Spells line s.node.tree
  pub name : NameStands line s.name s.node.location

-- all of some spots stand in the line
abbrev SpotsStand : List ℕ → List Spot → Type 0
SpotsStand line [] = Unit {0}
SpotsStand line (s ∷ ss) = SpotStands line s × SpotsStand line ss

each-append : (line : List ℕ) (xs ys : List Spot) → SpotsStand line xs → SpotsStand line ys → SpotsStand line (xs ++ ys)
each-append line [] ys p q = q
each-append line (x ∷ xs) ys p q = (p.0, each-append line xs ys p.1 q)

each-at : (line : List ℕ) (xs : List Spot) (i : ℕ) (d : Spot) → i < length xs → SpotsStand line xs → SpotStands line (get_or xs i d)
each-at line [] i d h p = absurd (omega arith)
each-at line (x ∷ xs) zero d h p = p.0
each-at line (x ∷ xs) (suc i) d h p = each-at line xs i d (omega arith) p.1

-- ---- the parts

pub last-push : (xs : List Step) (s : Step) → last_step (xs ++ s ∷ []) ≡ Some s
last-push [] s = refl
last-push (x ∷ []) s = refl
last-push (x ∷ y ∷ xs) s = last-push (y ∷ xs) s

name_stands : (line : List ℕ) (kind : Container) (from value : ℕ) (name : Option Name) (parent : List Step) (index : ℕ) → SpellsLabel line kind from value name → NameStands line name (parent ++ step_to index name ∷ [])
name_stands line array from value None parent index h = ap name_points (last-push parent (step_to index None))
name_stands line array from value (Some name) parent index h = absurd h
name_stands line object from value None parent index h = absurd h
name_stands line object from value (Some name) parent index h = (from, value, h, ap name_points (last-push parent (step_to index (Some name))))

mutual
  below_stand : (line : List ℕ) (t : Tree) (location : List Step) (place : ℕ) → Spells line t → SpotsStand line (spots_below location place t)
  below_stand line (node s null) location place h = tt
  below_stand line (node s (boolean b)) location place h = tt
  below_stand line (node s (number m e)) location place h = tt
  below_stand line (node s (string points)) location place h = tt
  below_stand line (node s (container kind children)) location place h = first_stand line children kind (s.start + 1) s.end location place (place + 1) h.1

  first_stand : (line : List ℕ) (children : Children) (kind : Container) (from to : ℕ) (parent : List Step) (up place : ℕ) → SpellsFirst line kind from to children → SpotsStand line (spots_from parent up 0 place children)
  first_stand line no_child kind from to parent up place h = tt
  first_stand line (child name t more) kind from to parent up place h = (
    record { spells = h.3; name = name_stands line kind h.0 (span t).start name parent 0 h.2 },
    each-append line (spots_below (parent ++ step_to 0 name ∷ []) place t) (spots_from parent up 1 (place + node_count t) more) (below_stand line t (parent ++ step_to 0 name ∷ []) place h.3)
        (more_stand line more kind (span t).end to parent up 1 (place + node_count t) h.4),
  )

  more_stand : (line : List ℕ) (children : Children) (kind : Container) (from to : ℕ) (parent : List Step) (up index place : ℕ) → SpellsMore line kind from to children → SpotsStand line (spots_from parent up index place children)
  more_stand line no_child kind from to parent up index place h = tt
  more_stand line (child name t more) kind from to parent up index place h = (
    record { spells = h.3; name = name_stands line kind h.0 (span t).start name parent index h.2 },
    each-append line (spots_below (parent ++ step_to index name ∷ []) place t) (spots_from parent up (index + 1) (place + node_count t) more) (below_stand line t (parent ++ step_to index name ∷ []) place h.3)
        (more_stand line more kind (span t).end to parent up (index + 1) (place + node_count t) h.4),
  )

root_stands : (line : List ℕ) (t : Tree) → Text line t → SpotStands line (root_spot t)
root_stands line t h = record { spells = h.value; name = refl }

pub stands : (line : List ℕ) (t : Tree) (place : ℕ) → Text line t → place < node_count t → SpotStands line (spot_at t place)
stands line t place h l = let n = length-spots t in each-at line (spots t) place (root_spot t) (omega (arith, n, l)) (root_stands line t h, below_stand line t [] 0 h.value)
