use Rattle.std.proofs.Common.{ℕ, ltb, false, map, ap, ◌∙◌, arith, w8}
use Rattle.std.proofs.lemmas.Simd.{bitmask_splat}
use Rattle.std.proofs.lemmas.List.{get_or-map}
use Rattle.jp_lanes.specs.Word.{bit}
use Rattle.jp_lanes.proofs.Words.{says_mask}
use Rattle.jp_lanes.proofs.classes.control_of.Goals as goal

pub returns : goal.returns
returns c i within =
    let test = λ (x : ℕ). ltb x 32 in
    ap (λ n. bit n i) (bitmask_splat w8 ltb c.args.lanes 64 32 c.fits-lanes.0 (omega arith))
    ∙ says_mask (map test c.args.lanes) i within
    ∙ get_or-map test c.args.lanes i 0 false (omega (arith, c.fits-lanes.0))
