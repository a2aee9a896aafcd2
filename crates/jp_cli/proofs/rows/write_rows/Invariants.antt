-- The rows of the lines so far are written, and those of the lines after them are still to come.
use Rattle.std.proofs.Common.{drop, flat_map}
use Rattle.jp_plan.specs.ByLine.{found_in}
use Rattle.jp_cli.specs.Found.{found_text}
use Rattle.jp_cli.proofs.RowsWritten.{IsWritten}
use Rattle.jp_cli.proofs.rows.write_rows.Given as goal

abbrev pub invariant-loop-of_line : goal.invariant-loop-of_line
invariant-loop-of_line g l =
    IsWritten g.W.Write.contents l.framing (flat_map (found_text l.framing) (found_in l.rows)) l.initial.out (drop l.of_line-index l.rows.lines.items) l.places l.out
