-- Each turn writes one scalar more.
use Rattle.std.proofs.Common.{◌≡◌, ◌∙◌, ◌+◌, ◌++◌, ◌∷◌, List, ℕ, ap, chars, drop, length}
use Rattle.std.proofs.lemmas.Iterator.{YieldsList-from_chars}
use Rattle.std.proofs.lemmas.Iterator.Consumers.{YieldsList-turn, YieldsList-end, YieldsList-so_far}
use Rattle.jp_rows.specs.Names.{name_text}
use Rattle.jp_devices.proofs.Chains.{both_received, part_more, part_behind, ends_in_part}
use Rattle.jp_rows.proofs.Printed.{name-push, name-parts}
use Rattle.jp_rows.proofs.Turns.{around, all_read}
use Rattle.jp_rows.proofs.names.write_scalars.Goals as goal

pub returns-in_err-write_scalar-clause-text : goal.returns-in_err-write_scalar-clause-text
returns-in_err-write_scalar-clause-text g c =
    let xs : List ℕ = c.loop-scalar.yielded in
    let cs : List ℕ = chars c.args.text.now in
    let read = YieldsList-from_chars c.args.text.now c.utf8.text cc in
    let turn = YieldsList-turn read c.loop-scalar.yielded _ c.loop-scalar.yielded_by _ _ c.in-Some.scalar c.in-Some.is c.next.ensures.steps in
    let all : cs ≡ xs ++ c.in-Some.scalar ∷ drop (length xs + 1) cs = around cs xs c.in-Some.scalar (YieldsList-so_far read xs _ c.loop-scalar.yielded_by) turn.0 turn.1 in
    let part = part_behind _ _ _ (name_text xs) _ c.loop-scalar.invariant.written c.in_err-write_scalar.ensures.text in
    rw (ap name_text all ∙ name-parts xs c.in-Some.scalar (drop (length xs + 1) cs))
    (ends_in_part c.from_residual.result _ _ _ c.from_residual.ensures.0 (part_more _ _ _ (name_text (drop (length xs + 1) cs)) part))

pub returns-clause-text : goal.returns-clause-text
returns-clause-text g c =
    let read = YieldsList-from_chars c.args.text.now c.utf8.text cc in
    let end = YieldsList-end read c.loop-scalar.yielded _ c.loop-scalar.yielded_by _ _ c.in-None.is c.next.ensures.steps in
    rw (ap name_text (all_read (chars c.args.text.now) c.loop-scalar.yielded end.0)) c.loop-scalar.invariant.written

pub loop-scalar-preserved : goal.loop-scalar-preserved
loop-scalar-preserved g c = record {
  working = c.in_ok-write_scalar.ensures.fault;
  early = c.in_ok-write_scalar.ensures.after ∙ c.loop-scalar.invariant.early;
  written = rw (name-push c.loop-scalar.yielded c.in-Some.scalar) (both_received _ _ _ _ _ c.loop-scalar.invariant.written c.in_ok-write_scalar.ensures.text);
}
