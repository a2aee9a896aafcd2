use Rattle.jp_lanes.proofs.SearchLanes.{special_mask}
use Rattle.jp_lanes.proofs.search.special_lanes.Goals as goal

pub returns : goal.returns
returns g c = special_mask c.args.lanes g.row.N c.fits-lanes.0 c.requires
