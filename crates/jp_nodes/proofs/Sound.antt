-- Where no half of a surrogate pair stands alone in a tree, no number has a long exponent, and no object has a name twice,
-- the same is so of each node.
use Rattle.std.proofs.Common.{◌≡◌, ℕ, zero, suc, ◌+◌, ◌<◌, ◌||◌, false, List, [], ◌∷◌, ◌++◌, length, get_or, refl, arith}
use Rattle.std.proofs.lemmas.Bool.{or_parts}
use Rattle.jp_model.specs.Steps.{Step}
use Rattle.jp_model.specs.Json.Tree.{Tree, node, null, boolean, number, string, container, Children, no_child, child}
use Rattle.jp_model.specs.Json.Faults.{name_has_lone_surrogate, has_surrogate, children_have_surrogate, has_long_exponent, children_have_long_exponent, names, has_repeated, has_duplicate, children_have_duplicate}
use Rattle.jp_model.specs.Meaning.Nodes.{step_to}
use Rattle.jp_nodes.specs.Words.{node_count}
use Rattle.jp_nodes.specs.Spots.{Spot, root_spot, spots_below, spots_from, spots, spot_at}
use Rattle.jp_nodes.proofs.Spots.{length-spots}

pub record Sound (line : List ℕ) (s : Spot) : Type 0 where
  pub name : name_has_lone_surrogate s.name ≡ false
  pub whole : has_surrogate s.node.tree ≡ false
  pub exponents : has_long_exponent line s.node.tree ≡ false
  pub distinct : has_duplicate s.node.tree ≡ false

-- all of some spots are
abbrev AreSound : List ℕ → List Spot → Type 0
AreSound line [] = Unit {0}
AreSound line (s ∷ ss) = Sound line s × AreSound line ss

each-append : (line : List ℕ) (xs ys : List Spot) → AreSound line xs → AreSound line ys → AreSound line (xs ++ ys)
each-append line [] ys p q = q
each-append line (x ∷ xs) ys p q = (p.0, each-append line xs ys p.1 q)

each-at : (line : List ℕ) (xs : List Spot) (i : ℕ) (d : Spot) → i < length xs → AreSound line xs → Sound line (get_or xs i d)
each-at line [] i d h p = absurd (omega arith)
each-at line (x ∷ xs) zero d h p = p.0
each-at line (x ∷ xs) (suc i) d h p = each-at line xs i d (omega arith) p.1

mutual
  below_sound : (line : List ℕ) (t : Tree) (location : List Step) (place : ℕ) → has_surrogate t ≡ false → has_long_exponent line t ≡ false → has_duplicate t ≡ false → AreSound line (spots_below location place t)
  below_sound line (node s null) location place w e d = tt
  below_sound line (node s (boolean b)) location place w e d = tt
  below_sound line (node s (number m f)) location place w e d = tt
  below_sound line (node s (string points)) location place w e d = tt
  below_sound line (node s (container kind children)) location place w e d =
      let p = or_parts (has_repeated (names children)) (children_have_duplicate children) d in
      from_sound line children location place 0 (place + 1) w e p.1

  from_sound : (line : List ℕ) (children : Children) (parent : List Step) (up index place : ℕ) → children_have_surrogate children ≡ false → children_have_long_exponent line children ≡ false → children_have_duplicate children ≡ false →
      AreSound line (spots_from parent up index place children)
  from_sound line no_child parent up index place w e d = tt
  from_sound line (child name t more) parent up index place w e d =
      let a = or_parts (name_has_lone_surrogate name || has_surrogate t) (children_have_surrogate more) w in
      let b = or_parts (name_has_lone_surrogate name) (has_surrogate t) a.0 in
      let c = or_parts (has_duplicate t) (children_have_duplicate more) d in
      let f = or_parts (has_long_exponent line t) (children_have_long_exponent line more) e in
      let inner : List Step = parent ++ step_to index name ∷ [] in (
        record { name = b.0; whole = b.1; exponents = f.0; distinct = c.0 },
        each-append line (spots_below inner place t) (spots_from parent up (index + 1) (place + node_count t) more) (below_sound line t inner place b.1 f.0 c.0)
            (from_sound line more parent up (index + 1) (place + node_count t) a.1 f.1 c.1),
      )

pub sound_at : (line : List ℕ) (t : Tree) (place : ℕ) → has_surrogate t ≡ false → has_long_exponent line t ≡ false → has_duplicate t ≡ false → place < node_count t → Sound line (spot_at t place)
sound_at line t place w e d l =
    let n = length-spots t in
    each-at line (spots t) place (root_spot t) (omega (arith, n, l)) (record { name = refl; whole = w; exponents = e; distinct = d }, below_sound line t [] 0 w e d)
