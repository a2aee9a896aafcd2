-- Each slot is answered in a frame that is lent.
use Rattle.std.proofs.Common.{◌∙◌, ap, rules}
use Rattle.jp_eval.proofs.Kept.{adds_more, adds_none}
use Rattle.jp_eval.proofs.frame.Walk.answer_slots.Goals as goal

pub loop-position-init : goal.loop-position-init
loop-position-init c =
    let room = c.in_ok-prepare.ensures in
    let same = ap (λ v. v.items) room.found in
    record { adds = adds_none _ _ _ same; kept = room.kept; found = same; sum = room.sum }

pub loop-position-preserved : goal.loop-position-preserved
loop-position-preserved c =
    let kept = c.loop-position.invariant in
    let lent = c.in_ok-answer_slot.ensures in
    record { adds = adds_more kept.adds lent.adds; kept = lent.kept; found = lent.same ∙ kept.found; sum = lent.sum ∙ kept.sum }

pub returns-in_err-answer_slot : goal.returns-in_err-answer_slot
returns-in_err-answer_slot c =
    let kept = c.loop-position.invariant in
    let lent = c.in_err-answer_slot.ensures in
    record { adds = adds_more kept.adds lent.adds; kept = lent.kept; same = search rules; sum = search rules }
