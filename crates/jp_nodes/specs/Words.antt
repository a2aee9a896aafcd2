-- The words of a tape: three to a node, each node before its children, in the order of the line.
use Rattle.std.specs.Prelude.{ℕ, ◌+◌, ◌*◌, ◌%◌, ◌^◌, Bool, true, false, List, [], ◌∷◌, ◌++◌, Option, Some, None}
use Rattle.jp_model.specs.declared.Span.{Span}
use Rattle.jp_model.specs.Json.Tree.{Tree, node, Value, null, boolean, number, string, container, Container, array, object, Children, no_child, child, Name}

-- how many nodes a tree has
abbrev mutual
  pub node_count : Tree → ℕ
  node_count (node s v) = value_node_count v

  -- the same of a value
  pub value_node_count : Value → ℕ
  value_node_count null = 1
  value_node_count (boolean b) = 1
  value_node_count (number m e) = 1
  value_node_count (string points) = 1
  value_node_count (container kind children) = 1 + children_node_count children

  -- the same of some children
  pub children_node_count : Children → ℕ
  children_node_count no_child = 0
  children_node_count (child name t more) = node_count t + children_node_count more

-- how many nodes stand below a value's own
abbrev pub nodes_below : Value → ℕ
nodes_below null = 0
nodes_below (boolean b) = 0
nodes_below (number m e) = 0
nodes_below (string points) = 0
nodes_below (container kind children) = children_node_count children

-- the number of a kind, which stands in the high half of a word; an object's has a bit in the low half, too
abbrev pub boolean_code : Bool → ℕ
boolean_code false = 1 * 2 ^ 32
boolean_code true = 2 * 2 ^ 32

-- that of an array, and of an object
abbrev pub container_code : Container → ℕ
container_code array = 5 * 2 ^ 32
container_code object = 5 * 2 ^ 32 + 1

-- that of a value
abbrev pub kind_code : Value → ℕ
kind_code null = 0
kind_code (boolean b) = boolean_code b
kind_code (number m e) = 3 * 2 ^ 32
kind_code (string points) = 4 * 2 ^ 32
kind_code (container kind children) = container_code kind

-- the first word: the number of the kind and of the nodes below, above twice the place of the parent, 0 for the root, to
-- which an object adds one. In a line of fewer than 2 ^ 32 bytes 64 bits hold it: the nodes below are fewer than 2 ^ 31, and
-- the place is less.
unfoldable pub head_word : (code below parent : ℕ) → ℕ
head_word code below parent = (code + below * 2 ^ 32 + parent * 2) % 2 ^ 64

-- the second word: where the value stands, the start above the end
unfoldable pub span_word : Span → ℕ
span_word s = s.start * 2 ^ 32 + s.end

-- the third word: where the body of the name stands, or the index of a node that has no name, 0 for the root
abbrev pub label_word : ℕ → Option Name → ℕ
label_word index None = index
label_word index (Some name) = span_word name.body

-- that of a name whose body stands there, or of an index
abbrev pub body_word : ℕ → Option Span → ℕ
body_word index None = index
body_word index (Some body) = span_word body

-- the words of a tree whose root is at this place, a child of that index of the node at its parent's place
abbrev mutual
  pub words_from : (place parent index : ℕ) → Option Name → Tree → List ℕ
  words_from place parent index name (node s v) =
      head_word (kind_code v) (nodes_below v) parent ∷ span_word s ∷ label_word index name ∷ words_below place v

  -- the words of the nodes below a value, whose own node is at this place
  pub words_below : ℕ → Value → List ℕ
  words_below place null = []
  words_below place (boolean b) = []
  words_below place (number m e) = []
  words_below place (string points) = []
  words_below place (container kind children) = children_words (place + 1) place 0 children

  -- the words of some children from an index on, the first of them at this place
  pub children_words : (place parent index : ℕ) → Children → List ℕ
  children_words place parent index no_child = []
  children_words place parent index (child name t more) = words_from place parent index name t ++ children_words (place + node_count t) parent (index + 1) more

-- the words of a whole tree; its root has no name
abbrev pub tape_words : Tree → List ℕ
tape_words t = words_from 0 0 0 None t
