use lib.Lanes.{chunk}
use Rattle.std.proofs.lemmas.Simd.{length-chunk}
use Rattle.jp_lanes.proofs.SearchLanes.{block_same}
use Rattle.jp_lanes.proofs.search.equal_blocks.Goals as goal

pub returns : goal.returns
returns g c =
    block_same g.row.N (chunk c.args.at g.row.N c.args.a.now) (chunk c.args.at g.row.N c.args.b.now) c.requires.few (length-chunk c.args.at g.row.N c.args.a.now c.requires.first) (length-chunk c.args.at g.row.N c.args.b.now c.requires.second)
