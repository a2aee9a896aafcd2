-- The levels above that of the last place have moved.
use Rattle.std.proofs.Common.{◌≤◌}
use Rattle.jp_survey.specs.Movings.{AreCountedMoving, StayMoving}
use Rattle.jp_survey.proofs.folding.Moving.move_all.Given as goal

abbrev pub invariant-loop-index : goal.invariant-loop-index
invariant-loop-index l = record {
  first : l.first ≤ l.index;
  counted : AreCountedMoving l.self;
  moving : StayMoving l.fold l.links.links.keys l.initial.self l.self;
}
