use Rattle.std.proofs.Common.{[], ◌++◌}
use Rattle.jp_masks.proofs.tests.scan.Goals as goal

pub returns : goal.returns
returns c =
    let framing = c.args.framing in
    let started = c.new-scanner.ensures.start c.new-marks.result c.new-marks.ensures.empty in
    let first = c.in_ok-feed.ensures.scanned framing [] started in
    let both = c.in_ok-feed-2.ensures.scanned framing ([] ++ c.args.front.now) first in
    c.in_ok-finish.ensures.all framing (([] ++ c.args.front.now) ++ c.args.back.now) both
