-- Trees that say the same: they may differ in where they stand, in how strings and names are escaped, and in how numbers are
-- spelled.
use Rattle.std.specs.Prelude.{◌≡◌, ℕ, ℤ, List, Bool, true, Option, Some, None}
use Rattle.jp_model.specs.declared.Span.{Span}
use Rattle.jp_model.specs.Json.Numbers.{number_equal}
use Rattle.jp_model.specs.Json.Tree.{Tree, node, Value, null, boolean, number, string, container, Container, Children, no_child, child, Name}

-- both have no name, or names of the same code points
pub data AlikeNames : Option Name → Option Name → Type 0 where
  unnamed : AlikeNames None None
  named_alike : {a b : Name} → a.points ≡ b.points → AlikeNames (Some a) (Some b)

mutual
  -- the values say the same, wherever they stand
  pub data AlikeTrees : Tree → Tree → Type 0 where
    alike_trees : {s r : Span} {v w : Value} → AlikeValues v w → AlikeTrees (node s v) (node r w)

  -- numbers are equal, strings have the same scalars, and children are alike in turn
  pub data AlikeValues : Value → Value → Type 0 where
    alike_nulls : AlikeValues null null
    alike_booleans : {b : Bool} → AlikeValues (boolean b) (boolean b)
    alike_numbers : {m e n f : ℤ} → number_equal m e n f ≡ true → AlikeValues (number m e) (number n f)
    alike_strings : {x : List ℕ} → AlikeValues (string x) (string x)
    alike_containers : {k : Container} {cs ds : Children} → AlikeChildren cs ds → AlikeValues (container k cs) (container k ds)

  -- as many children, each with its name alike
  pub data AlikeChildren : Children → Children → Type 0 where
    no_more : AlikeChildren no_child no_child
    next_child : {a b : Option Name} {t u : Tree} {cs ds : Children} → AlikeNames a b → AlikeTrees t u → AlikeChildren cs ds → AlikeChildren (child a t cs) (child b u ds)
