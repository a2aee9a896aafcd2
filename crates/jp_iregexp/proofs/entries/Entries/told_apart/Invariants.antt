use Rattle.std.proofs.Common.{take}
use Rattle.jp_iregexp.specs.Branches.{AreTold}
use Rattle.jp_iregexp.proofs.entries.Entries.told_apart.Given as goal

abbrev pub invariant-loop-branch : goal.invariant-loop-branch
invariant-loop-branch l = AreTold l.self.states.items l.base (take l.branch-index l.branches) l.firsts.items l.others.items
