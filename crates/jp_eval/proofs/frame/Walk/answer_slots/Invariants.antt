-- The frame was lent so far.
use Rattle.std.proofs.Common.{◌≡◌}
use Rattle.jp_nodes.specs.Cursors.{line_of}
use Rattle.jp_eval.specs.Found.{Adds}
use Rattle.jp_eval.specs.Frames.{IsKept}
use Rattle.jp_eval.proofs.frame.Walk.answer_slots.Given as goal

abbrev pub invariant-loop-position : goal.invariant-loop-position
invariant-loop-position l = record {
  adds : Adds (line_of l.self.run.now.root.now) l.fn.frame.found.items l.frame.found.items;
  kept : IsKept l.self.run.now l.frame;
  found : l.frame.found.items ≡ l.fn.frame.found.items;
  sum : l.frame.sum ≡ l.fn.frame.sum;
}
