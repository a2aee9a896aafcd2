use Rattle.std.proofs.Common.{inl, inr, arith, sym, subst}
use Rattle.jp_iregexp.specs.Positions.{Has}
use Rattle.jp_iregexp.proofs.Bits.{next_or_below}
use Rattle.jp_iregexp.proofs.positions.PositionSet.range.Goals as goal

pub loop-p-preserved : goal.loop-p-preserved
loop-p-preserved c =
    let l = c.loop-p in
    let e = c.in_ok-insert.ensures in
    record {
      sound = λ q h. elim (e.new q h) [ inl i ↦ (omega (arith, i, l.auto.p), omega (arith, i, c.loop-p-test.true)) | inr o ↦ l.invariant.sound q o ];
      each = λ q from k. elim (next_or_below q l.p k) [ inl b ↦ e.old q (l.invariant.each q from b) | inr i ↦ subst (Has c.insert.new.self) (sym i) e.same ];
    }
