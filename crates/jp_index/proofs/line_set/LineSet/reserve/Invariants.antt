-- Words with no bit set put in no line.
use Rattle.std.proofs.Common.{◌≡◌, ◌+◌, ◌-◌, ◌≤◌, length}
use Rattle.std.specs.Prelude.{max}
use Rattle.jp_index.specs.LineSetViews.{numbers_of, room_in}
use Rattle.jp_index.proofs.line_set.LineSet.reserve.Given as goal

abbrev pub invariant-loop-self : goal.invariant-loop-self
invariant-loop-self l = record {
  same : numbers_of l.self ≡ numbers_of l.fn.self;
  little : room_in l.self ≤ max (room_in l.fn.self) (l.line + 64);
}

abbrev pub decreases-loop-self : goal.decreases-loop-self
decreases-loop-self l = l.line + 1 - length l.self.words.items
