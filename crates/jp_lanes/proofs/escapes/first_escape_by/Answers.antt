use Rattle.std.proofs.Common.{inl, inr, arith}
use Rattle.std.proofs.lemmas.Bool.{cases_lt}
use Rattle.jp_lanes.specs.First.{is_escape}
use Rattle.jp_lanes.proofs.FirstLanes.{none_of_mask, first_of_mask, first_behind}
use Rattle.jp_lanes.proofs.escapes.first_escape_by.Goals as goal

pub returns-then-escapes-ne0 : goal.returns-then-escapes-ne0
returns-then-escapes-ne0 g c =
    let i = c.loop-at.invariant in
    first_of_mask is_escape c.args.bytes.now c.args.from c.loop-at.at g.row.N c.escapes_at-escapes.result i.order c.requires.few (omega (arith, i.within, c.loop-at-test.true)) i.before c.escapes_at-escapes.ensures c.if-escapes-ne0.true

pub loop-at-preserved : goal.loop-at-preserved
loop-at-preserved g c =
    let i = c.loop-at.invariant in
    record {
      order = omega (arith, i.order);
      within = omega (arith, i.within, c.loop-at-test.true);
      before = λ k low high.
          elim (cases_lt k c.loop-at.at) [
            | inl lt ↦ i.before k low lt
            | inr ge ↦ none_of_mask is_escape c.args.bytes.now c.loop-at.at g.row.N c.escapes_at-escapes.result (omega (arith, i.within, c.loop-at-test.true)) c.escapes_at-escapes.ensures c.if-escapes-ne0.false k ge high
          ];
    }

pub returns : goal.returns
returns g c = first_behind is_escape c.args.bytes.now c.args.from c.loop-at.at _ c.loop-at.invariant.order c.loop-at.invariant.before c.first_escape_of_rest.ensures
