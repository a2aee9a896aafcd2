-- No answer is put after those that were kept.
use Rattle.jp_eval.proofs.Answered.{kept_more}
use Rattle.jp_eval.proofs.frame.Run.prepare.Goals as goal

pub loop-position-preserved : goal.loop-position-preserved
loop-position-preserved c = record {
  kept = kept_more c.args.self c.loop-position.frame.found.items c.loop-position.frame.answers.items c.push.new.self.items c.in_ok-push.ensures.items c.loop-position.invariant.kept;
  found = c.loop-position.invariant.found;
  sum = c.loop-position.invariant.sum;
}
