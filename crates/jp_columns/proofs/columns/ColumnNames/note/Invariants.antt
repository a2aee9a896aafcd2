-- The columns that were gone over have the member, and those of other names are as before.
use Rattle.std.proofs.Common.{◌≡◌, ◌+◌, ◌<◌, ◌≤◌, ℕ, [], length, get_or, false, Some, None}
use Rattle.jp_model.specs.Meaning.Nodes.{step_to}
use Rattle.jp_model.specs.Meaning.Slices.{is_name}
use Rattle.jp_nodes.specs.Cursors.{name_of}
use Rattle.jp_columns.specs.Columns.{names_of}
use Rattle.jp_columns.proofs.columns.ColumnNames.note.Given as goal

abbrev pub invariant-loop-column : goal.invariant-loop-column
invariant-loop-column l = record {
  length : length l.found ≡ length l.fn.found;
  noted : (k : ℕ) → l.first ≤ k → k < l.first + l.column-index → get_or l.found (get_or l.self.sorted.items k 0) None ≡ Some l.member;
  others : (column index : ℕ) → is_name (get_or (names_of l.self) column []) (step_to index (name_of l.member)) ≡ false → get_or l.found column None ≡ get_or l.fn.found column None;
}
