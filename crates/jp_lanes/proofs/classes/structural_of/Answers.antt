use Rattle.std.proofs.Common.{Fits, w8, arith}
use Rattle.std.proofs.lemmas.Simd.{Each1-get_or}
use Rattle.jp_lanes.proofs.LaneClasses.{structural_say}
use Rattle.jp_lanes.proofs.classes.structural_of.Goals as goal

pub returns : goal.returns
returns c = structural_say c.args.lanes c.fits-lanes.0 (λ i within. (Each1-get_or (Fits w8) c.args.lanes i 0 (omega (arith, c.fits-lanes.0)) c.fits-lanes.1).fits)
