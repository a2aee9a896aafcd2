-- The nodes from `start` up to `position` stand once more after those of the list.
use Rattle.std.proofs.Common.{◌≡◌, ◌-◌, ◌++◌, take}
use Rattle.jp_eval.specs.Found.{between}
use Rattle.jp_eval.proofs.frame.Frame.copy.Given as goal

abbrev pub invariant-loop-position : goal.invariant-loop-position
invariant-loop-position l = record {
  sum : l.self.sum ≡ l.fn.self.sum;
  answers : l.self.answers ≡ l.fn.self.answers;
  items : l.self.found.items ≡ l.fn.self.found.items ++ take (l.position - l.start) (between l.start l.end l.fn.self.found.items);
}
