-- The row is what stands before its line feed.
use Rattle.std.proofs.Common.{[], ◌∷◌, List, ap, sym, ℕ}
use Rattle.jp_sink.specs.Events.{row_event}
use Rattle.jp_tally.proofs.Telling.{tells_row}
use Rattle.jp_tally.proofs.tally.TallySink.row.Goals as goal

pub returns-clause-told : goal.returns-clause-told
returns-clause-told c =
    tells_row c.args.self.now c.take.new.self c.take.result (row_event c.args._is_selected c.args.text.now) c.without_feed.result.now
    (ap (λ (row : List ℕ). row ∷ []) (sym c.without_feed.ensures)) c.take.ensures.counts c.take.ensures.fault
