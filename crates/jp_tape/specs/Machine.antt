-- The states of a text that is read, and which trees each completes to.
use Rattle.std.specs.Prelude.{◌≡◌, ℕ, ◌+◌, max, cond, Bool, false, ◌||◌, List, [], ◌∷◌, ◌++◌, length, Option, Some, None}
use Rattle.jp_model.specs.declared.LineFault.{LineFault}
use Rattle.jp_model.specs.declared.LineFault.TheVariants as line_faults
use Rattle.jp_model.specs.Json.Places.{White}
use Rattle.jp_model.specs.Json.Tree.{Tree, node, container, Container, Children, no_child, child, Name, span, count_children, joined}
use Rattle.jp_model.specs.Json.Faults.{greatest_depth, name_has_lone_surrogate, children_have_surrogate, children_have_long_exponent, children_have_duplicate, name_points, names}
use Rattle.jp_model.specs.Json.Spelling.{Spells, SpellsMore, Text}
use Rattle.jp_nodes.specs.Words.{children_node_count, label_word, children_words, head_word, container_code, span_word}

-- a container that is open: where it begins, its own name, and its children so far
pub record Frame : Type 0 where
  pub kind : Container
  pub start : ℕ
  pub name : Option Name
  pub done : Children

-- one that has no child yet
abbrev pub entered : Container → ℕ → Option Name → Frame
entered kind start name = record { kind = kind; start = start; name = name; done = no_child }

-- one with one more child
abbrev pub grown : Frame → Option Name → Tree → Frame
grown f own t = record { kind = f.kind; start = f.start; name = f.name; done = joined f.done (child own t no_child) }

-- the innermost open container comes first
pub data State : Type 0 where
  Value_at : List Frame → Option Name → ℕ → State
  After_value : List Frame → Option Name → Tree → ℕ → State

-- a value is read up to a place: the rest of the line closes the containers, and makes this tree
abbrev pub CompletesAfter : List ℕ → List Frame → Option Name → Tree → ℕ → Tree → Type 0
CompletesAfter line [] name t from whole = White line from (length line) × (whole ≡ t)
CompletesAfter line (f ∷ frames) name t from whole =
    (more : Children) × (to : ℕ) × SpellsMore line f.kind from to more
    × CompletesAfter line frames f.name (node (record { start = f.start; end = to }) (container f.kind (joined f.done (child name t more)))) to whole

-- what is left of the line completes the state to this tree
abbrev pub Completes : List ℕ → State → Tree → Type 0
Completes line (Value_at frames name from) whole = (t : Tree) × ((span t).start ≡ from) × Spells line t × CompletesAfter line frames name t (span t).end whole
Completes line (After_value frames name t from) whole = CompletesAfter line frames name t from whole

-- two states complete to the same trees
pub record Alike (line : List ℕ) (x y : State) : Type 0 where
  pub forth : (whole : Tree) → Completes line x whole → Completes line y whole
  pub back : (whole : Tree) → Completes line y whole → Completes line x whole

-- the trees of the line are those that complete the state
pub record Leads (line : List ℕ) (x : State) : Type 0 where
  pub forth : (whole : Tree) → Text line whole → Completes line x whole
  pub back : (whole : Tree) → Completes line x whole → Text line whole

-- how many nodes have begun
abbrev pub open_count : List Frame → ℕ
open_count [] = 0
open_count (f ∷ frames) = open_count frames + 1 + children_node_count f.done

-- where the parent of the next value stands: the innermost open container
abbrev pub next_parent : List Frame → ℕ
next_parent [] = 0
next_parent (f ∷ frames) = open_count frames

-- how many of its children stand before that value
abbrev pub next_index : List Frame → ℕ
next_index [] = 0
next_index (f ∷ frames) = count_children f.done

-- the code points of the names that have been read in open containers, a container's own name before those in it
abbrev pub open_names : List Frame → List (List ℕ)
open_names [] = []
open_names (f ∷ frames) = (open_names frames ++ name_points f.name []) ++ names f.done

-- how many names stand before those of its children
abbrev pub outer_count : Frame → List Frame → ℕ
outer_count f frames = length (open_names frames ++ name_points f.name [])

-- the words of the nodes that have begun; those of an open container do not tell how many nodes are below it, and tell how many
-- names stand before those in it in place of its end
abbrev pub open_words : List Frame → List ℕ
open_words [] = []
open_words (f ∷ frames) =
    open_words frames
    ++ head_word (container_code f.kind) 0 (next_parent frames) ∷ span_word (record { start = f.start; end = outer_count f frames }) ∷ label_word (next_index frames) f.name ∷ children_words (open_count frames + 1) (open_count frames) 0 f.done

-- how deep the open containers and what is read in them nest
abbrev pub open_depth : List Frame → ℕ
open_depth [] = 0
open_depth (f ∷ frames) = max (open_depth frames) (length frames + 1 + greatest_depth f.done)

-- a surrogate stands alone in them
abbrev pub open_surrogate : List Frame → Bool
open_surrogate [] = false
open_surrogate (f ∷ frames) = (open_surrogate frames || name_has_lone_surrogate f.name) || children_have_surrogate f.done

-- a number in them has a long exponent
abbrev pub open_long : List ℕ → List Frame → Bool
open_long line [] = false
open_long line (f ∷ frames) = open_long line frames || children_have_long_exponent line f.done

-- an object that was closed in them has two equal names
abbrev pub open_duplicate : List Frame → Bool
open_duplicate [] = false
open_duplicate (f ∷ frames) = open_duplicate frames || children_have_duplicate f.done

-- the first of these faults, which are noted while the line is read and count only where it is JSON (profile)
abbrev pub first_fault : (lone too_long repeated : Bool) → Option LineFault
first_fault lone too_long repeated = cond lone (Some line_faults.Surrogate) (cond too_long (Some line_faults.Number) (cond repeated (Some line_faults.Duplicate) None))

-- nothing completes the state
abbrev pub IsStuck : List ℕ → State → Type 0
IsStuck line x = (whole : Tree) → Completes line x whole → ⊥
