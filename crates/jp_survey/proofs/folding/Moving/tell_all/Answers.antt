-- What each turn keeps is kept.
use Rattle.jp_survey.proofs.folding.Moving.tell_all.Goals as goal

pub loop-deep-preserved : goal.loop-deep-preserved
loop-deep-preserved c = record {
  counted = c.in_ok-tell.ensures.counted;
  moving = λ fold names h m. c.in_ok-tell.ensures.moving fold names h (c.loop-deep.invariant.moving fold names h m);
}
