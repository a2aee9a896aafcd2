use Rattle.std.proofs.Common.{◌*◌, inl, inr, arith}
use Rattle.jp_iregexp.proofs.Bits.{below_or_not, bit_in_front}
use Rattle.jp_iregexp.proofs.positions.PositionSet.low.Goals as goal

pub returns : goal.returns
returns c =
    let set = c.args.self.now in
    λ p h. elim (below_or_not p (set.first * 64)) [
      | inl l ↦ absurd (bit_in_front set.first set.words.items p (omega (arith, l)) h)
      | inr l ↦ l
    ]
