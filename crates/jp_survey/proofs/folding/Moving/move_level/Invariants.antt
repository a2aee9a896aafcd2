-- The places so far have been dealt with.
use Rattle.jp_survey.specs.Movings.{AreCountedMoving, StayMoving}
use Rattle.jp_survey.proofs.folding.Moving.move_level.Given as goal

abbrev pub invariant-loop-deep : goal.invariant-loop-deep
invariant-loop-deep l = record {
  counted : AreCountedMoving l.self;
  moving : StayMoving l.fold l.links.links.keys l.initial.self l.self;
}
