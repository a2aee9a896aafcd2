use Rattle.std.proofs.Common.{nat_lt, ltb, map, ap, ◌∙◌, ◌%◌, ◌^◌, arith, w8}
use Rattle.std.specs.Prelude.{replicate}
use lib.Lanes.{mask_l}
use Rattle.std.proofs.lemmas.List.{length-map}
use Rattle.std.proofs.lemmas.Simd.{tops_compared, zip2_splat_left, mask_l-mod}
use Rattle.jp_lanes.proofs.classes.high_of.Goals as goal

pub returns : goal.returns
returns c =
    let lanes = c.args.lanes in
    let size = c.fits-lanes.0 in
    let long = length-map lanes (nat_lt 0x7F) in
    ap (λ ms. mask_l ms % 2 ^ 64) (tops_compared w8 ltb (replicate 64 0x7F) lanes ∙ zip2_splat_left ltb 0x7F 64 lanes size)
    ∙ mask_l-mod (map (nat_lt 0x7F) lanes) 64 (omega (arith, long, size))
