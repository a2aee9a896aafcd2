-- The list is sorted.
use Rattle.jp_survey.specs.Places.{names_in}
use Rattle.jp_survey.proofs.Listed.{listed_below}
use Rattle.jp_survey.proofs.order.list_below.Goals as goal

pub returns : goal.returns
returns c =
    let was = c.loop-place.invariant in
    listed_below (names_in c.args.names.now.keys) c.args.links.now.links.keys c.requires c.loop-place.list.items c.sort_unstable.new.self.items was.each was.numbered
    c.sort_unstable.ensures.permutation c.sort_unstable.ensures.sorted
