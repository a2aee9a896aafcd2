-- The lines so far of which something is kept.
use Rattle.std.proofs.Common.{◌≡◌, ◌<◌, length, take}
use Rattle.std.specs.Option.{is_some}
use Rattle.jp_model.specs.Numbered.{numbers_where}
use Rattle.jp_index.specs.LineSetViews.{numbers_of, room_in}
use Rattle.jp_index.proofs.builder.lines_kept.Given as goal

abbrev pub invariant-loop-cell : goal.invariant-loop-cell
invariant-loop-cell l = record {
  number : l.line ≡ l.cell-index;
  room : length l.cells < room_in l.lines;
  kept : numbers_of l.lines ≡ numbers_where is_some 1 (take l.cell-index l.cells);
}
