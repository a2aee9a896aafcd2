-- The places so far have been dealt with.
use Rattle.std.proofs.Common.{ℕ}
use Rattle.jp_survey.specs.Movings.{AreCountedMoving, StayMoving}
use Rattle.jp_survey.proofs.folding.Moving.tell_all.Given as goal

abbrev pub invariant-loop-deep : goal.invariant-loop-deep
invariant-loop-deep l = record {
  counted : AreCountedMoving l.self;
  moving : (fold : ℕ) → StayMoving fold l.links.links.keys l.initial.self l.self;
}
