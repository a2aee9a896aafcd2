-- The row is put where such rows are shown, or there was no memory for it.
use Rattle.std.proofs.Common.{◌≡◌, ◌∙◌, [], ◌∷◌, List, Bool, false, ap, refl, sym, subst}
use Rattle.jp_form.specs.declared.form.Shown.{Shown}
use Rattle.jp_grep.specs.Searching.{PutsFirst}
use Rattle.jp_grep.specs.ReadItems.{status_by}
use Rattle.jp_sink.specs.Events.{Event, row_event}
use Rattle.jp_grep.specs.Rows.{events_around, row_around, text_around}
use Rattle.jp_grep.proofs.Around.{other_shown}
use Rattle.jp_grep.proofs.Putting.{none_put}
use Rattle.jp_grep.proofs.Written.{by_ok}
use Rattle.jp_grep.proofs.answer.Answerer.put_around.Goals as goal

pub returns-in_default-clause-rows : goal.returns-in_default-clause-rows
returns-in_default-clause-rows g c =
    let f = c.args.self.form.now in
    record {
      first = [];
      others = [];
      split = other_shown f.shown f c.args.number c.args.item.text.now 0 (status_by c.args.item.state) (λ is. c.in_default.not-Around is);
      puts = none_put g.S.Sink.stands g.S.Sink.stopped c.args.sink.now;
      all = λ e. refl;
    }

pub returns-clause-rows : goal.returns-clause-rows
returns-clause-rows g c =
    let f = c.args.self.form.now in
    let text = c.args.item.text.now in
    let status = status_by c.args.item.state in
    let row = row_around f c.args.number (text_around f.units text status) in
    let made : c.deref.result.now ≡ row = c.deref.ensures.value ∙ by_ok c.make_row_around.result _ (sym c.is_err.ensures.value ∙ c.if-is_err.false) c.make_row_around.ensures.row in
    subst (λ (l : List Event). PutsFirst g.S.Sink.stands g.S.Sink.stopped c.args.sink.now c.tell_other.new.sink c.tell_other.result (λ (is_whole : Bool). is_whole) l)
    (ap (λ l. row_event false l ∷ []) made ∙ sym (ap (λ (s : Shown). events_around s f c.args.number text 0 status) c.in-Around.is)) c.tell_other.ensures.events
