-- The lines so far, and those of the rest, are all lines.
use Rattle.std.proofs.Common.{◌≡◌, ◌++◌, ◌≤◌, ◌-◌, map, length, drop, All}
use Rattle.jp_model.specs.Lines.{lines}
use Rattle.jp_masks.specs.Found.{lines_in}
use Rattle.jp_lines.specs.Stored.{stored_text, IsRead}
use Rattle.jp_lines.proofs.loading.read_lines.Given as goal

abbrev pub invariant-loop-start : goal.invariant-loop-start
invariant-loop-start l = record {
  came : map (stored_text l.bytes) l.all.items ++ lines_in l.framing (drop l.start l.bytes) ≡ lines l.framing l.bytes;
  read : All (IsRead l.framing l.bytes l.tapes.items) l.all.items;
  within : l.start ≤ length l.bytes;
}

abbrev pub decreases-loop-start : goal.decreases-loop-start
decreases-loop-start l = length l.bytes - l.start
