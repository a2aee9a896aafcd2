-- How many places are wanted changes nothing of what was seen.
use Rattle.jp_survey.proofs.tree.Tree.make_room.Goals as goal

pub returns-clause-seen : goal.returns-clause-seen
returns-clause-seen c fold lines was =
    let seen = c.in_ok-fold_objects.ensures.seen fold lines was in
    record { limit = seen.limit; counted = seen.counted; justified = seen.justified }
