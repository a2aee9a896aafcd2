-- Trees that are the same but for the order of members, and for where their parts stand.
use Rattle.std.specs.Prelude.{◌≡◌, ℕ, ℤ, List, Bool, Some, None}
use Rattle.jp_model.specs.declared.Span.{Span}
use Rattle.jp_model.specs.Json.Tree.{Tree, node, Value, null, boolean, number, string, container, array, object, Children, no_child, child, Name, joined}

mutual
  -- the values are the same so, wherever the trees stand
  pub data ReorderedTrees : Tree → Tree → Type 0 where
    reordered_trees : {s r : Span} {v w : Value} → ReorderedValues v w → ReorderedTrees (node s v) (node r w)

  -- elements are the same so in turn, and members in any order
  pub data ReorderedValues : Value → Value → Type 0 where
    same_null : ReorderedValues null null
    same_boolean : {b : Bool} → ReorderedValues (boolean b) (boolean b)
    same_number : {m e : ℤ} → ReorderedValues (number m e) (number m e)
    same_string : {x : List ℕ} → ReorderedValues (string x) (string x)
    same_array : {cs ds : Children} → ReorderedElements cs ds → ReorderedValues (container array cs) (container array ds)
    same_object : {cs ds : Children} → ReorderedMembers cs ds → ReorderedValues (container object cs) (container object ds)

  -- one element after another
  pub data ReorderedElements : Children → Children → Type 0 where
    no_element : ReorderedElements no_child no_child
    next_element : {t u : Tree} {cs ds : Children} → ReorderedTrees t u → ReorderedElements cs ds
        → ReorderedElements (child None t cs) (child None u ds)

  -- the first member stands somewhere among the others, with its name, and the rest are the same so
  pub data ReorderedMembers : Children → Children → Type 0 where
    no_member : ReorderedMembers no_child no_child
    member_among : (a b : Name) {t u : Tree} {cs : Children} (front rest : Children) → a.points ≡ b.points → ReorderedTrees t u
        → ReorderedMembers cs (joined front rest) → ReorderedMembers (child (Some a) t cs) (joined front (child (Some b) u rest))
