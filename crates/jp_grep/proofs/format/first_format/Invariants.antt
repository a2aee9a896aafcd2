-- The bytes begin with none of the marks in front.
use Rattle.std.proofs.Common.{◌≡◌, map, drop}
use Rattle.jp_grep.specs.Formats.{first_format, as_mark}
use Rattle.jp_grep.proofs.format.first_format.Given as goal

abbrev pub invariant-loop-format : goal.invariant-loop-format
invariant-loop-format l = first_format (map as_mark l.marks) l.bytes ≡ first_format (map as_mark (drop l.format-index l.marks)) l.bytes
