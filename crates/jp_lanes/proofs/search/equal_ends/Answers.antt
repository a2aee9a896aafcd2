-- No byte stands between the first and the last.
use Rattle.std.proofs.Common.{◌-◌, ap, length, take, drop}
use Rattle.jp_lanes.proofs.SearchLanes.{same_ends}
use Rattle.jp_lanes.proofs.search.equal_ends.Goals as goal

pub returns-then-equal_blocks : goal.returns-then-equal_blocks
returns-then-equal_blocks g c =
    let n = g.row.N in
    let a = c.args.a.now in (
      λ t. same_ends n a c.args.b.now c.requires.size c.requires.least c.requires.most (c.equal_blocks.ensures.0 c.if-equal_blocks.true) (c.equal_blocks-then-equal_blocks.ensures.0 t),
      λ e. c.equal_blocks-then-equal_blocks.ensures.1 (ap (λ xs. take n (drop (length a - n) xs)) e),
    )
