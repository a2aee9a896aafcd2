use Rattle.std.proofs.Common.{map}
use Rattle.jp_iregexp.specs.Layouts.{state_of}
use Rattle.jp_iregexp.proofs.Links.{IsLeftToLink}
use Rattle.jp_iregexp.proofs.layout.Layout.link.Given as goal

abbrev pub invariant-loop-rest : goal.invariant-loop-rest
invariant-loop-rest l = IsLeftToLink l.last l.first l.rest (map state_of l.fn.self.states.items) (map state_of l.self.states.items)

abbrev pub decreases-loop-rest : goal.decreases-loop-rest
decreases-loop-rest l = l.rest
