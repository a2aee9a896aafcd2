-- A row is taken, or is not.
use Rattle.std.proofs.Common.{refl}
use Rattle.jp_context.specs.Told.{next_row}
use Rattle.jp_context.proofs.Standing.{tells_row}
use Rattle.jp_context.proofs.context.ContextSink.row.Goals as goal
use Rattle.jp_sink.specs.Events.{row_event}

pub returns-clause-told : goal.returns-clause-told
returns-clause-told g c =
    let selected = c.args.is_selected in let text = c.args.text.now in
    tells_row c.args.self.now (record { groups = c.take.new.self; text = c.take.new.text }) c.take.ensures.layout c.take.result (row_event selected text) (next_row selected text) (λ more. refl)
    c.take.ensures.shows
