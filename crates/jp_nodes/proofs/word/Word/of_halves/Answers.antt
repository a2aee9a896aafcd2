use Rattle.std.proofs.Common.{◌≡◌, ◌+◌, ◌*◌, ◌/◌, ◌%◌, ◌^◌, ap, arith}
use Rattle.std.proofs.Math.Pow.{pow_mono}
use Rattle.jp_nodes.specs.Forms.{half_in}
use Rattle.jp_nodes.proofs.word.Word.of_halves.Goals as goal

pub returns : goal.returns
unfolding half_in
returns c =
    let bits = c.args.bits in
    let small = pow_mono c.requires.bits in
    let mask : 1 * 2 ^ bits % 2 ^ 64 ≡ 2 ^ bits = omega (arith, small) in
    ap (λ m. c.args.highs / 2 ^ (bits * c.args.index) % m * 2 ^ 32 + c.args.lows / 2 ^ (bits * c.args.index) % m) mask
