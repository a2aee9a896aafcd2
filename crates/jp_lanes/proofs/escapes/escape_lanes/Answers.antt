use Rattle.std.proofs.Common.{eqb, ltb, refl, arith}
use Rattle.std.proofs.lemmas.Simd.{zip2_splat}
use Rattle.jp_lanes.specs.First.{is_escape}
use Rattle.jp_lanes.proofs.SearchLanes.{lane}
use Rattle.jp_lanes.proofs.FirstLanes.{either_mask}
use Rattle.jp_lanes.proofs.escapes.escape_lanes.Goals as goal

pub returns : goal.returns
returns g c =
    let size = c.fits-lanes.0 in
    either_mask (λ x. eqb x 0x5C) (λ x. ltb x 0x20) is_escape c.args.lanes (zip2_splat (λ a b. lane (eqb a b)) c.args.lanes g.row.N 0x5C size) (zip2_splat (λ a b. lane (ltb a b)) c.args.lanes g.row.N 0x20 size) (λ x. refl) (omega (arith, size, c.requires))
