-- What is told of a line, and a line that is opened.
use Rattle.std.specs.Prelude.{ℕ, List}
use Rattle.jp_model.specs.Json.Status.{LineStatus, blank, refused, parsed}
use Rattle.jp_model.specs.Json.Tree.{Tree}
use Rattle.jp_nodes.specs.Tapes.{spelled}
use Rattle.jp_lines.specs.declared.Status.{Status}
use Rattle.jp_lines.specs.declared.Status.TheVariants as told
use Rattle.jp_lines.specs.declared.view.LineView.{LineView}

-- a status without its tree
abbrev pub status_kind : LineStatus → Status
status_kind blank = told.Blank
status_kind (refused fault) = told.Refused fault
status_kind (parsed t) = told.Tree

-- the text of the line that is opened
abbrev pub text_of_view : LineView → List ℕ
text_of_view view = view.line.now

-- its tree
abbrev pub tree_of_view : LineView → Tree
tree_of_view view = spelled view.line.now
