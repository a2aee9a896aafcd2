-- The row is told, or there was no memory for it, or the sink failed.
use Rattle.std.proofs.Common.{◌∷◌, [], false, refl, inr, subst}
use Rattle.jp_sink.specs.Events.{row_event}
use Rattle.jp_sink.specs.Telling.{Refuses}
use Rattle.jp_grep.proofs.telling.tell_other.Goals as goal

pub returns-in-Ok-clause-events : goal.returns-in-Ok-clause-events
returns-in-Ok-clause-events g c = record { first = row_event false c.args.text.now ∷ []; others = []; split = refl; puts = c.in-Ok.ensures.told; all = λ e. refl }

pub returns-in-Err-Sink-clause-events : goal.returns-in-Err-Sink-clause-events
returns-in-Err-Sink-clause-events g c =
    let events = row_event false c.args.text.now ∷ [] in
    record {
      first = events;
      others = [];
      split = refl;
      puts = inr (subst (λ fault. Refuses g.S.Sink.stands g.S.Sink.stopped c.args.sink.now c.row.new.self events fault) c.in-Err-Sink.field-0-is c.in-Err-Sink.ensures.told);
      all = tt;
    }
