-- Answers to what is asked once.
use Rattle.std.specs.Prelude.{◌≡◌, ◌∷◌, [], ℕ, Bool, List, Option, Some, option_map, slice_get, take, true, false}
use Rattle.std.specs.BTreeMap.{get}
use Rattle.std.specs.Ordering.{nat_cmp}
use Rattle.jp_model.specs.Json.Tree as tree
use Rattle.jp_model.specs.Meaning.Selecting.{compared_value, nodes, truth}
use Rattle.jp_model.specs.Query.Syntax as syntax
use Rattle.jp_nodes.specs.declared.cursor.Cursor.{Cursor}
use Rattle.jp_nodes.specs.Cursors.{line_of, node_of, place_of}
use Rattle.jp_eval.specs.Functions.{pattern_in}
use Rattle.jp_eval.specs.Programs.{Meant, Table, logical_or_none, side_or_none, table_of, tail_or_none}
use Rattle.jp_eval.specs.Tallies.{IsKnown, is_listed}
use Rattle.jp_eval.specs.declared.frame.Answer.{Answer}
use Rattle.jp_eval.specs.declared.frame.Answer.TheVariants as answers
use Rattle.jp_eval.specs.declared.frame.Run.{Run}
use Rattle.jp_eval.specs.declared.sums.Known.{Known}
use Rattle.jp_eval.specs.declared.sums.Sums.{Sums}
use Rattle.jp_values.specs.declared.value.Value.{Value}
use Rattle.jp_iregexp.specs.Trees.{pattern_view}
use Rattle.jp_values.specs.Values.{value_view, is_sound_value}

-- the meanings of all slots
abbrev pub slots_in : Run → Table
slots_in run = table_of run.slots.now

-- the meanings of those that the part being answered refers to
abbrev pub table_in : Run → Table
table_in run = take run.known (slots_in run)

-- the line's tree
abbrev pub tree_in : Run → tree.Tree
tree_in run = (node_of run.root.now).tree

-- whether what a slot asks holds of the root
abbrev pub root_truth : Run → Option Meant → Bool
root_truth run meant = truth (logical_or_none meant) (node_of run.root.now) (tree_in run)

-- the value that it finds at the root
abbrev pub root_value : Run → Option Meant → Option tree.Value
root_value run meant = compared_value (side_or_none meant) (node_of run.root.now) (tree_in run)

-- the same of the slot at a position
abbrev pub slot_truth : Run → ℕ → Bool
slot_truth run position = root_truth run (slice_get (table_in run) position)

abbrev pub slot_value : Run → ℕ → Option tree.Value
slot_value run position = root_value run (slice_get (table_in run) position)

-- a value that can be read is this one
pub record IsValue (side : Value) (wanted : Option tree.Value) : Type 0 where
  pub value : value_view side ≡ wanted
  pub sound : is_sound_value side ≡ true

-- the same slots are asked in both runs, in the same line
pub record IsRunOf (run other : Run) : Type 0 where
  pub slots : other.slots.now ≡ run.slots.now
  pub root : other.root.now ≡ run.root.now

-- each sum tells what the segments select from the node at its place
abbrev pub AreSums : Run → List Cursor → syntax.Segments → Sums → Type 0
AreSums run found ss sums = (c : Cursor) (known : Known) → line_of c ≡ line_of run.root.now → get nat_cmp sums.known (place_of c) ≡ Some known → IsKnown (line_of run.root.now) found sums.most (nodes ss (node_of c ∷ []) (tree_in run)) known

-- whether an answer says where nodes stand in the list of a frame
abbrev pub is_placed : Option Answer → Bool
is_placed (Some (answers.Sums sums)) = is_listed sums.most
is_placed _ = false

-- the answer is that of a slot that asks this
abbrev pub IsAnswer : Run → List Cursor → Option Meant → Answer → Type 0
IsAnswer run found meant (answers.Holds is) = is ≡ root_truth run meant
IsAnswer run found meant (answers.Value side) = IsValue side (root_value run meant)
IsAnswer run found meant (answers.Pattern read) = option_map pattern_view read.value ≡ pattern_in (root_value run meant)
IsAnswer run found meant (answers.Sums sums) = AreSums run found (tail_or_none meant) sums
