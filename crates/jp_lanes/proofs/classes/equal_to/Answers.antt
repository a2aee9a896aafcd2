use Rattle.std.proofs.Common.{ℕ, eqb, false, map, ap, ◌∙◌, arith, w8}
use Rattle.std.proofs.lemmas.Simd.{bitmask_splat}
use Rattle.std.proofs.lemmas.List.{get_or-map}
use Rattle.jp_lanes.specs.Word.{bit}
use Rattle.jp_lanes.proofs.Words.{says_mask}
use Rattle.jp_lanes.proofs.classes.equal_to.Goals as goal

pub returns : goal.returns
returns c i within =
    let test = λ (x : ℕ). eqb x c.args.byte in
    ap (λ n. bit n i) (bitmask_splat w8 eqb c.args.lanes 64 c.args.byte c.fits-lanes.0 (omega arith))
    ∙ says_mask (map test c.args.lanes) i within
    ∙ get_or-map test c.args.lanes i 0 false (omega (arith, c.fits-lanes.0))
