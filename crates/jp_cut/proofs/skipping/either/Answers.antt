use Rattle.std.proofs.Common.{◌||◌, eqb, refl, arith}
use Rattle.std.proofs.lemmas.Simd.{zip2_splat}
use Rattle.jp_lanes.proofs.FirstLanes.{either_mask}
use Rattle.jp_lanes.proofs.SearchLanes.{lane}
use Rattle.jp_cut.proofs.skipping.either.Goals as goal

pub returns : goal.returns
returns c =
    let size = c.fits-lanes.0 in
    either_mask (λ x. eqb x c.args.first) (λ x. eqb x c.args.second) (λ x. eqb x c.args.first || eqb x c.args.second) c.args.lanes
    (zip2_splat (λ a b. lane (eqb a b)) c.args.lanes 64 c.args.first size) (zip2_splat (λ a b. lane (eqb a b)) c.args.lanes 64 c.args.second size) (λ x. refl) (omega (arith, size))
