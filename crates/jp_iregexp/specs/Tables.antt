-- The ends of a set of texts from each position.
use Rattle.std.specs.Prelude.{ℕ, ◌≡◌, ◌+◌, ◌^◌, ◌<◌, ◌≤◌, List, [], ◌∷◌, ◌++◌, length, get_or, slice_index_or, Option, Some, None, IfSome, Vec}
use Rattle.std.specs.declared.alloc.Global.{Global}
use Rattle.jp_model.specs.Pattern.Language.{Language}
use Rattle.jp_model.specs.Pattern.Tree.{Pattern, empty}
use Rattle.jp_iregexp.specs.declared.node.Node.{Node, Class as ClassNode, Sequence', Choice', Repeated', Row_of-Node, end_of-Node, more_of-Node}
use Rattle.jp_iregexp.specs.Evens.{HaveLength}
use Rattle.jp_iregexp.specs.Nodes.{tree_of}
use Rattle.jp_iregexp.specs.declared.positions.PositionSet.{PositionSet}
use Rattle.jp_iregexp.specs.Positions.{Has, IsClosed, IsSetOver, IsTail, Reach}

-- the set holds exactly the positions that are reached from p
pub record AreEndsFrom (Member : List ℕ → Type 0) (text : List ℕ) (p : ℕ) (ends : PositionSet) : Type 0 where
  pub over : IsSetOver (length text) ends
  pub sound : (q : ℕ) → Has ends q → Reach Member text p q
  pub complete : (q : ℕ) → Reach Member text p q → Has ends q

-- row p has the ends from p
pub record IsTable (Member : List ℕ → Type 0) (text : List ℕ) (rows : List PositionSet) : Type 0 where
  pub size : length rows ≡ length text + 1
  pub each : (p : ℕ) (row : PositionSet) → p < length rows → row ≡ slice_index_or rows p row → AreEndsFrom Member text p row

-- an end in the row of a start
pub record EndsInRow (rows : List PositionSet) (starts : PositionSet) (q : ℕ) : Type 0 where
  pub start : ℕ
  pub row : PositionSet
  pub has : Has starts start
  pub inside : start < length rows
  pub is : row ≡ slice_index_or rows start row
  pub ends : Has row q

-- the set holds what is in the rows of the starts
pub record AreInRows (rows : List PositionSet) (starts set : PositionSet) : Type 0 where
  pub sound : (q : ℕ) → Has set q → EndsInRow rows starts q
  pub complete : (q : ℕ) → EndsInRow rows starts q → Has set q

-- the members of both are the same
pub record AreAlike (First Second : List ℕ → Type 0) : Type 0 where
  pub to : (x : List ℕ) → First x → Second x
  pub from : (x : List ℕ) → Second x → First x

-- the patterns of the bodies of repeated parts, each after those within it
abbrev mutual
  pub bodies_of : Node → List Pattern
  bodies_of (ClassNode c) = []
  bodies_of (Sequence' shape parts) = bodies_in parts
  bodies_of (Choice' shape parts) = bodies_in parts
  bodies_of (Repeated' p body least further number length) = bodies_of body ++ tree_of body ∷ []

  pub bodies_in : {m : _} → Row_of-Node m → List Pattern
  bodies_in end_of-Node = []
  bodies_in (more_of-Node part rest) = bodies_of part ++ bodies_in rest

-- the number of a body is that of a pattern with the same members
abbrev pub IsNumber : List Pattern → Node → ℕ → Type 0
IsNumber bodies body number = AreAlike (Language (get_or bodies number empty)) (Language (tree_of body))

-- the length that is noted for a body, if there is one, is that of its texts, and is not above 2^31
abbrev pub IsLength : Node → Option ℕ → Type 0
IsLength body length = IfSome length (λ n. n ≤ 2 ^ 31 × HaveLength (Language (tree_of body)) n)

-- both are right for each body in a part
abbrev mutual
  pub Numbered : List Pattern → Node → Type 0
  Numbered bodies (ClassNode c) = Unit {0}
  Numbered bodies (Sequence' shape parts) = NumberedParts bodies parts
  Numbered bodies (Choice' shape parts) = NumberedParts bodies parts
  Numbered bodies (Repeated' p body least further number length) = Numbered bodies body × IsNumber bodies body number × IsLength body length

  pub NumberedParts : List Pattern → {m : _} → Row_of-Node m → Type 0
  NumberedParts bodies end_of-Node = Unit {0}
  NumberedParts bodies (more_of-Node part rest) = Numbered bodies part × NumberedParts bodies rest

-- a part that is taken in turns has its number, and both are right in it
abbrev pub NumberedTurns : List Pattern → Node → ℕ → Type 0
NumberedTurns bodies body number = Numbered bodies body × IsNumber bodies body number

-- the same of a list of parts
abbrev pub NumberedList : List Pattern → List Node → Type 0
NumberedList bodies [] = Unit {0}
NumberedList bodies (part ∷ rest) = Numbered bodies part × NumberedList bodies rest

-- each table that there is has the ends of the body with its number
abbrev pub AreTables : List ℕ → Node → List (Option (Vec PositionSet Global)) → Type 0
AreTables text root tables = (number : ℕ) (table : Vec PositionSet Global) → get_or tables number None ≡ Some table → IsTable (Language (get_or (bodies_of root) number empty)) text table.items

-- each set that there is is closed under the body with its number
abbrev pub AreClosed : List ℕ → Node → List (Option PositionSet) → Type 0
AreClosed text root sets = (number : ℕ) (set : PositionSet) → get_or sets number None ≡ Some set → IsClosed (Language (get_or (bodies_of root) number empty)) text set

-- the set is a tail of the one that is kept by this number
pub record IsTailOfKept (sets : List (Option PositionSet)) (number : ℕ) (set : PositionSet) : Type 0 where
  pub whole : PositionSet
  pub kept : get_or sets number None ≡ Some whole
  pub tail : IsTail set whole
