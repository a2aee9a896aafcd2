-- The bytes are the beginning of none of the marks in front.
use Rattle.std.proofs.Common.{◌≡◌, map, drop}
use Rattle.jp_grep.specs.Formats.{as_mark, begins_one}
use Rattle.jp_grep.proofs.format.begins_one.Given as goal

abbrev pub invariant-loop-mark : goal.invariant-loop-mark
invariant-loop-mark l = begins_one (map as_mark l.marks) l.bytes ≡ begins_one (map as_mark (drop l.mark-index l.marks)) l.bytes
