-- What is appended so far, and the bytes from the position on, are all.
use Rattle.std.proofs.Common.{◌≡◌, ◌≤◌, ◌-◌, ◌++◌, drop, length}
use Rattle.jp_table.specs.Tables.{bytes_text}
use Rattle.jp_table.proofs.row.append_bytes.Given as goal

abbrev pub invariant-loop-at : goal.invariant-loop-at
invariant-loop-at l = record {
  within : l.at ≤ length l.cell;
  text : l.fn.text.items ++ bytes_text l.table l.cell ≡ l.text.items ++ bytes_text l.table (drop l.at l.cell);
}

abbrev pub decreases-loop-at : goal.decreases-loop-at
decreases-loop-at l = length l.cell - l.at
