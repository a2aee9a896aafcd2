use Rattle.std.proofs.Common.{take}
use Rattle.jp_iregexp.specs.Branches.{IsRow}
use Rattle.jp_iregexp.proofs.branches.row.Given as goal

abbrev pub invariant-loop-first : goal.invariant-loop-first
invariant-loop-first l = IsRow (take l.first-index l.firsts) l.code l.row.items
