-- What the nodes stand for while a line is read.
use Rattle.std.specs.Prelude.{◌≡◌, ℕ, ◌+◌, ◌*◌, ◌^◌, ◌<◌, ◌≤◌, false, ◌||◌, List, [], ◌∷◌, ◌++◌, length, Option, vec_capacity}
use Rattle.jp_model.specs.Json.Tree.{Tree, Name}
use Rattle.jp_model.specs.Json.Faults.{name_has_lone_surrogate, has_surrogate, has_long_exponent, has_duplicate, name_points}
use Rattle.jp_nodes.specs.Words.{label_word, tape_words}
use Rattle.jp_tape.specs.declared.builder.nodes.Nodes.{Nodes}
use Rattle.jp_tape.specs.Machine.{Frame, open_words, open_names, open_count, next_parent, next_index, open_surrogate, open_long, open_duplicate, first_fault}
use Rattle.jp_tape.specs.Names.{spelled_names, AreKept}
use Rattle.jp_tape.specs.Reader.{Told, Up_to, Whole, SuitsIn}

-- an open container begins before 2^32, and its name suits the one around it
abbrev pub AreOpen : List Frame → Type 0
AreOpen [] = Unit {0}
AreOpen (f ∷ frames) = (f.start < 2 ^ 32) × SuitsIn frames f.name × AreOpen frames

-- these containers are open, and there is room for so many nodes more, each with a name. The third word of the next node is known
-- once its name is. The names are known, and compared, only as long as no surrogate stands alone.
pub record Holds (line : List ℕ) (n : Nodes) (frames : List Frame) (own : Option Name) (room : ℕ) : Type 0 where
  pub words : n.words.items ≡ open_words frames
  pub count : n.count ≡ open_count frames
  pub container : n.container ≡ next_parent frames
  pub label : SuitsIn frames own → n.label ≡ label_word (next_index frames) own
  pub later : n.later ≡ first_fault (open_surrogate frames || name_has_lone_surrogate own) (open_long line frames) (open_duplicate frames)
  pub name_count : length n.names.items ≡ length (open_names frames ++ name_points own [])
  pub names : open_surrogate frames || name_has_lone_surrogate own ≡ false → spelled_names line n.names.items ≡ open_names frames ++ name_points own []
  pub kept : open_surrogate frames || name_has_lone_surrogate own ≡ false → AreKept line n.names.items
  pub opened : AreOpen frames
  pub capacity : length n.words.items + 3 * room ≤ vec_capacity n.words
  pub name_capacity : length n.names.items + room ≤ vec_capacity n.names + length (name_points own [])
  pub few : open_count frames + room < 3 * 2 ^ 30

-- the whole tree was told
pub record HoldsAll (line : List ℕ) (n : Nodes) (t : Tree) : Type 0 where
  pub words : n.words.items ≡ tape_words t
  pub later : n.later ≡ first_fault (has_surrogate t) (has_long_exponent line t) (has_duplicate t)

-- what was told is held
abbrev pub NodesStand : Nodes → List ℕ → Told → Type 0
NodesStand n line (Up_to frames own room) = Holds line n frames own room
NodesStand n line (Whole t) = HoldsAll line n t
