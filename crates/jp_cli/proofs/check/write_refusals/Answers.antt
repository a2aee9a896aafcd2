-- The row of the next refused line is written, or a beginning of it.
use Rattle.std.proofs.Common.{◌∙◌, arith}
use Rattle.jp_cli.proofs.RefusalsWritten.{all_written, first_within, refusal_in_part, refusal_written}
use Rattle.jp_cli.proofs.check.write_refusals.Goals as goal

pub write_if_refused-requires-clause-first : goal.write_if_refused-requires-clause-first
write_if_refused-requires-clause-first g c = omega (arith, (first_within c.args.store.now.framing c.args.store.now c.loop-number.last c.loop-number.invariant.within c.in-Some.number c.in-Some.ensures).0)

pub write_if_refused-requires-clause-last : goal.write_if_refused-requires-clause-last
write_if_refused-requires-clause-last g c = (first_within c.args.store.now.framing c.args.store.now c.loop-number.last c.loop-number.invariant.within c.in-Some.number c.in-Some.ensures).1

pub returns-in-Err-clause-text : goal.returns-in-Err-clause-text
returns-in-Err-clause-text g c =
    refusal_in_part c.args.store.now.framing c.args.store.now c.loop-number.last c.loop-number.invariant.within c.in-Some.number c.in-Some.ensures _ _ _ c.loop-number.invariant.written c.in-Err.ensures.text

pub loop-number-preserved : goal.loop-number-preserved
loop-number-preserved g c = record {
  working = c.in_default-write_if_refused.ensures.fault;
  early = c.in_default-write_if_refused.ensures.after ∙ c.loop-number.invariant.early;
  within = (first_within c.args.store.now.framing c.args.store.now c.loop-number.last c.loop-number.invariant.within c.in-Some.number c.in-Some.ensures).1;
  written = refusal_written c.args.store.now.framing c.args.store.now c.loop-number.last c.loop-number.invariant.within c.in-Some.number c.in-Some.ensures _ _ _ c.loop-number.invariant.written c.in_default-write_if_refused.ensures.text;
}

pub loop-number-smaller : goal.loop-number-smaller
loop-number-smaller g c =
    let next = first_within c.args.store.now.framing c.args.store.now c.loop-number.last c.loop-number.invariant.within c.in-Some.number c.in-Some.ensures in
    omega (arith, next.0, next.1)

pub returns-clause-text : goal.returns-clause-text
returns-clause-text g c = all_written c.args.store.now.framing c.args.store.now c.loop-number.last c.loop-number.invariant.within _ _ c.in_default.ensures c.loop-number.invariant.written
