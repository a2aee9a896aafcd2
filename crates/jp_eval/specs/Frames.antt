-- What a call promises of the frame that it is lent.
use Rattle.std.specs.Prelude.{◌≡◌, ℕ, List, [], Option, Some, Result, OnOk, slice_get}
use Rattle.jp_model.specs.Json.Tree.{Tree}
use Rattle.jp_model.specs.Meaning.Nodes.{Node}
use Rattle.jp_model.specs.Meaning.Selecting.{nodes}
use Rattle.jp_nodes.specs.declared.cursor.Cursor.{Cursor}
use Rattle.jp_nodes.specs.Cursors.{line_of}
use Rattle.jp_eval.specs.Answers.{IsAnswer, slots_in, table_in, tree_in}
use Rattle.jp_eval.specs.Found.{Adds}
use Rattle.jp_eval.specs.Programs.{Table, steps_view}
use Rattle.jp_eval.specs.Tallies.{tally}
use Rattle.jp_eval.specs.declared.frame.Walk.{Walk}
use Rattle.jp_eval.specs.declared.frame.Run.{Run}
use Rattle.jp_eval.specs.declared.frame.Answer.{Answer}
use Rattle.jp_eval.specs.declared.frame.Frame.{Frame}
use Rattle.jp_eval.specs.declared.program.Step.{Step}

-- the meanings of the slots, and the line's tree
abbrev pub table_at : Walk → Table
table_at walk = table_in walk.run.now

abbrev pub tree_at : Walk → Tree
tree_at walk = tree_in walk.run.now

-- what some steps select from some nodes
abbrev pub reached : Run → List Step → List Node → List Node
reached run steps starts = nodes (steps_view (table_in run) steps) starts (tree_in run)

-- each answer that was kept is right
abbrev pub AreKept : Run → List Cursor → List (Option Answer) → Type 0
AreKept run found answers = (position : ℕ) (answer : Answer) → slice_get answers position ≡ Some (Some answer) → IsAnswer run found (slice_get (slots_in run) position) answer

-- so are those of a frame
abbrev pub IsKept : Run → Frame → Type 0
IsKept run frame = AreKept run frame.found.items frame.answers.items

-- a node of the line, and a frame whose answers are right
pub record IsFrameFor (walk : Walk) (node : Cursor) (frame : Frame) : Type 0 where
  pub line : line_of node ≡ line_of walk.run.now.root.now
  pub kept : IsKept walk.run.now frame

-- these nodes were added, as many as are looked for
pub record Pushes {E : Type 0} {U : Type 0} (walk : Walk) (old new : Frame) (result : Result U E) (found : List Node) : Type 0 where
  pub adds : Adds (line_of walk.run.now.root.now) old.found.items new.found.items
  pub kept : IsKept walk.run.now new
  pub told : OnOk result (tally (line_of walk.run.now.root.now) walk.most new [] ≡ tally (line_of walk.run.now.root.now) walk.most old found)

-- the frame was lent, and has the nodes and the sum that it had
pub record Lends {E : Type 0} {A : Type 0} (walk : Walk) (old new : Frame) (result : Result A E) : Type 0 where
  pub adds : Adds (line_of walk.run.now.root.now) old.found.items new.found.items
  pub kept : IsKept walk.run.now new
  pub same : OnOk result (new.found.items ≡ old.found.items)
  pub sum : OnOk result (new.sum ≡ old.sum)
