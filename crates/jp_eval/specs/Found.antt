-- What is found, and what is added to a list of cursors.
use Rattle.std.specs.Prelude.{◌≡◌, ◌≤◌, ◌-◌, ℕ, List, ◌++◌, drop, map, take, length}
use Rattle.jp_model.specs.Meaning.Nodes.{Node}
use Rattle.jp_nodes.specs.declared.cursor.Cursor.{Cursor}
use Rattle.jp_nodes.specs.Cursors.{node_of}
use Rattle.jp_children.specs.Found.{AreOf}
use Rattle.jp_eval.specs.declared.frame.Frame.{Frame}

-- after the old cursors stand others, of this line
pub record Adds (line : List ℕ) (old new : List Cursor) : Type 0 where
  pub others : List Cursor
  pub is : new ≡ old ++ others
  pub of_line : AreOf line others

-- the cursors of a list from one position to another
abbrev pub between : ℕ → ℕ → List Cursor → List Cursor
between start end found = take (end - start) (drop start found)

-- there stand cursors of this line, of these nodes
pub record IsRange (line : List ℕ) (found : List Cursor) (start end : ℕ) (selected : List Node) : Type 0 where
  pub within : end ≤ length found
  pub order : start ≤ end
  pub nodes : map node_of (between start end found) ≡ selected
  pub of_line : AreOf line (between start end found)

-- the cursors that a frame has found
abbrev pub found_in : Frame → List Cursor
found_in f = f.found.items
