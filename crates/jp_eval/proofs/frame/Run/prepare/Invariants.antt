-- The answers that were kept are still there.
use Rattle.std.proofs.Common.{◌≡◌}
use Rattle.jp_eval.specs.Frames.{IsKept}
use Rattle.jp_eval.proofs.frame.Run.prepare.Given as goal

abbrev pub invariant-loop-position : goal.invariant-loop-position
invariant-loop-position l = record {
  kept : IsKept l.self l.frame;
  found : l.frame.found ≡ l.fn.frame.found;
  sum : l.frame.sum ≡ l.fn.frame.sum;
}
