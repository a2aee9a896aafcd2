-- What the move of each level keeps is kept.
use Rattle.std.proofs.Common.{arith, subst, sym}
use Rattle.std.proofs.lemmas.Result.{on_ok_weaker}
use Rattle.jp_survey.specs.Movings.{AreCountedMoving, StayMoving}
use Rattle.jp_survey.specs.declared.folding.Moving.{Moving}
use Rattle.jp_survey.proofs.folding.Moving.move_all.Goals as goal
use Rattle.jp_survey.proofs.folding.Moving.move_all.Goals.{then-deep-places+in_ok-move_level, else-deep-places}

pub loop-index-preserved : goal.loop-index-preserved
loop-index-preserved c =
    let was = c.loop-index.invariant in let links = c.args.links.now.links.keys in
    elim c.if-deep-places.branch [
      | then-deep-places+in_ok-move_level w ↦ record {
        first = omega arith;
        counted = subst AreCountedMoving (sym w.self-is) w.in_ok-move_level.ensures.counted;
        moving = subst (λ (m : Moving). StayMoving c.args.fold links c.args.self.now m) (sym w.self-is)
            (λ names h m. w.in_ok-move_level.ensures.moving names h (was.moving names h m));
      }
      | else-deep-places w ↦ record {
        first = omega arith;
        counted = subst AreCountedMoving (sym w.self-is) was.counted;
        moving = subst (λ (m : Moving). StayMoving c.args.fold links c.args.self.now m) (sym w.self-is) was.moving;
      }
    ]

pub returns-clause-moving : goal.returns-clause-moving
returns-clause-moving c =
    let links = c.args.links.now.links.keys in
    on_ok_weaker {P = StayMoving c.args.fold links c.loop-index.self c.move_level-2.new.self} {Q = StayMoving c.args.fold links c.args.self.now c.move_level-2.new.self} c.move_level-2.result
    (λ moved names h m. moved names h (c.loop-index.invariant.moving names h m)) c.move_level-2.ensures.moving
