use Rattle.std.proofs.Common.{◌+◌, ◌*◌}
use Rattle.jp_iregexp.specs.Branches.{AddsNexts}
use Rattle.jp_iregexp.proofs.entries.Entries.+merged.Given as goal

abbrev pub decreases-merged : goal.decreases-merged
decreases-merged l = 3 * l.deep

abbrev pub decreases-nexts : goal.decreases-nexts
decreases-nexts l = 3 * l.deep + 2

abbrev pub decreases-next : goal.decreases-next
decreases-next l = 3 * l.deep + 1

abbrev pub invariant-nexts-loop-code : goal.invariant-nexts-loop-code
invariant-nexts-loop-code l = AddsNexts l.base l.fn.self.states.items l.self.states.items l.firsts l.nexts.items l.code
