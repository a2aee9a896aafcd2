use Rattle.std.proofs.Common.{◌+◌, ◌*◌, inl, inr, arith}
use Rattle.jp_iregexp.proofs.Bits.{below_or_not, bit_behind}
use Rattle.jp_iregexp.proofs.positions.PositionSet.high.Goals as goal

pub returns-clause-above : goal.returns-clause-above
returns-clause-above c =
    let set = c.args.self.now in
    λ p h. elim (below_or_not p ((set.first + c.len.result) * 64)) [
      | inl l ↦ l
      | inr l ↦ absurd (bit_behind set.first set.words.items p (omega (arith, c.len.ensures, l)) h)
    ]
