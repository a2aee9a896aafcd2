use Rattle.std.proofs.Common.{◌<◌, refl, arith}
use Rattle.jp_iregexp.proofs.Bits.{first_bits_within, first_bits_each}
use Rattle.jp_iregexp.proofs.positions.first_bits.Goals as goal

pub returns-clause-within : goal.returns-clause-within
returns-clause-within c =
    let least = c.min.ensures in
    let below : c.min.result < 64 = omega (arith, least) in
    λ i l h. (let k = first_bits_within c.min.result i _ below refl h in omega (arith, k, least))

pub returns-clause-each : goal.returns-clause-each
returns-clause-each c =
    let least = c.min.ensures in
    let below : c.min.result < 64 = omega (arith, least) in
    λ i l k. first_bits_each c.min.result i _ below refl (omega (arith, l, k, least))
