-- The cells in front, and those of the queries so far: one of these selects a node or none does. What was found stays.
use Rattle.std.proofs.Common.{◌≡◌, ◌++◌, decimal, map, take}
use Rattle.jp_lines.specs.Views.{text_of_view}
use Rattle.jp_nodes.specs.Cursors.{node_of}
use Rattle.jp_grep.specs.Asked.{asked_tree, first_name, query_path}
use Rattle.jp_table.specs.Held.{Holds}
use Rattle.jp_table.specs.Tables.{front_cells}
use Rattle.jp_grep.specs.LineAnswers.{Knows}
use Rattle.jp_grep.specs.Matching.{selects}
use Rattle.jp_grep.specs.Members.{AreFound}
use Rattle.jp_grep.specs.Tables.{query_cells}
use Rattle.jp_grep.proofs.answer.Answerer.make_cells.Given as goal

abbrev pub invariant-loop-index : goal.invariant-loop-index
invariant-loop-index l = record {
  cells : Holds l.table l.room.cells
      (front_cells l.self.form.now l.self.form.now.name.now (decimal l.number)
      ++ query_cells l.table (map query_path (take l.index l.self.question.now.queries.items)) (text_of_view l.asked.line) (asked_tree l.asked) (node_of l.asked.node));
  some : l.some ≡ selects (map query_path (take l.index l.self.question.now.queries.items)) (node_of l.asked.node) (asked_tree l.asked);
  members : AreFound (map first_name l.self.question.now.queries.items) l.asked l.room.answers.members;
  knows : Knows l.self.question.now (text_of_view l.asked.line) l.room.answers;
  row : l.room.row ≡ l.fn.room.row;
}
