use Rattle.std.proofs.Common.{◌≡◌, ℕ, not, ◌||◌, ltb, arith}
use Rattle.std.proofs.lemmas.Bool.Decides.{nat_tests}
use Rattle.std.proofs.lemmas.Simd.{zip2_splat, zip2_splat_left}
use Rattle.jp_model.specs.Characters.{is_digit}
use Rattle.jp_lanes.specs.First.{is_other}
use Rattle.jp_lanes.proofs.SearchLanes.{lane}
use Rattle.jp_lanes.proofs.FirstLanes.{either_mask}
use Rattle.jp_lanes.proofs.digits.other_lanes.Goals as goal

no_digit : (x : ℕ) → (ltb x 0x30 || ltb 0x39 x) ≡ not (is_digit x)
no_digit x = grind (arith, nat_tests)

pub returns : goal.returns
returns c =
    let size = c.fits-lanes.0 in
    either_mask (λ x. ltb x 0x30) (λ x. ltb 0x39 x) is_other c.args.lanes (zip2_splat (λ a b. lane (ltb a b)) c.args.lanes 16 0x30 size) (zip2_splat_left (λ a b. lane (ltb a b)) 0x39 16 c.args.lanes size) no_digit (omega (arith, size))
