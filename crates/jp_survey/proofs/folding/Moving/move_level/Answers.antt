-- What each turn keeps is kept.
use Rattle.jp_survey.proofs.folding.Moving.move_level.Goals as goal

pub loop-deep-preserved : goal.loop-deep-preserved
loop-deep-preserved c = record {
  counted = c.in_ok-move_place.ensures.counted;
  moving = λ names h m. c.in_ok-move_place.ensures.moving names h (c.loop-deep.invariant.moving names h m);
}

pub returns-clause-moving : goal.returns-clause-moving
returns-clause-moving c names h m = c.loop-deep.invariant.moving names h (c.in_ok-tell_all.ensures.moving c.args.fold names h m)
