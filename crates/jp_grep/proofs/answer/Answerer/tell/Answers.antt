-- A line that is given up parts those before it from those after it.
use Rattle.std.proofs.Common.{[], ◌∷◌, Bool, sym, subst}
use Rattle.jp_sink.specs.Events.{gap_event}
use Rattle.jp_grep.specs.Telling.{Puts, gap_where}
use Rattle.jp_grep.proofs.Advancing.{nothing_of}
use Rattle.jp_grep.proofs.Putting.{both_put, ends_put, part_put, whole_put}
use Rattle.jp_devices.proofs.Chains.{ends_in_part}
use Rattle.jp_grep.proofs.answer.Answerer.tell.Goals as goal

pub returns-in_err-flush_sink-clause-rows : goal.returns-in_err-flush_sink-clause-rows
returns-in_err-flush_sink-clause-rows g c =
    let gap = gap_event ∷ [] in
    subst (λ (b : Bool). Puts g.S.Sink.stands g.S.Sink.stopped c.args.sink.now c.flush_sink.new.sink c.from_residual.result (gap_where b)) (sym c.if-given_up.true)
    (ends_put g.S.Sink.stands g.S.Sink.stopped c.from_residual.result c.args.sink.now c.flush_sink.new.sink gap c.from_residual.ensures.0
    (part_put g.S.Sink.stands g.S.Sink.stopped c.args.sink.now c.gap.new.self c.flush_sink.new.sink gap [] c.gap.ensures.told c.in_err-flush_sink.ensures.events))

pub returns-then-given_up-clause-rows : goal.returns-then-given_up-clause-rows
returns-then-given_up-clause-rows g c =
    let gap = gap_event ∷ [] in
    subst (λ (b : Bool). Puts g.S.Sink.stands g.S.Sink.stopped c.args.sink.now c.flush_sink.new.sink c.tell_given_up.result (gap_where b)) (sym c.if-given_up.true)
    (whole_put g.S.Sink.stands g.S.Sink.stopped c.tell_given_up.result c.args.sink.now c.flush_sink.new.sink gap
    (both_put g.S.Sink.stands g.S.Sink.stopped c.args.sink.now c.gap.new.self c.flush_sink.new.sink gap [] c.gap.ensures.told c.in_ok-flush_sink.ensures.events))

pub returns-in_err-flush_sink-in-Refused-clause-message : goal.returns-in_err-flush_sink-in-Refused-clause-message
returns-in_err-flush_sink-in-Refused-clause-message g c =
    ends_in_part c.from_residual-in_err-flush_sink-in-Refused.result c.args.messages.now c.args.messages.now _ c.from_residual-in_err-flush_sink-in-Refused.ensures.0 (nothing_of c.args.messages.now _)
