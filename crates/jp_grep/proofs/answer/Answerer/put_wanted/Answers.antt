-- Nothing is put of one that is not judged.
use Rattle.std.proofs.Common.{subst, sym, None, Some, Ok}
use Rattle.jp_model.specs.Json.Status.{LineStatus}
use Rattle.jp_grep.specs.ReadItems.{status_by}
use Rattle.jp_grep.specs.Rows.{selected_events}
use Rattle.jp_grep.specs.Searching.{PutsRows}
use Rattle.jp_grep.proofs.Around.{all_judged, none_judged}
use Rattle.jp_grep.proofs.Putting.{none_put}
use Rattle.jp_grep.proofs.answer.Answerer.put_wanted.Goals as goal

pub returns-then-most-eq0-clause-answers : goal.returns-then-most-eq0-clause-answers
returns-then-most-eq0-clause-answers g c =
    let q = c.args.self.question.now in
    let f = c.args.self.form.now in
    let most = c.args.most in
    let status = status_by c.args.item.state in
    let out = c.args.sink.now in
    let puts : LineStatus → Type 0 = λ s. PutsRows g.S.Sink.stands g.S.Sink.stopped q most out out (Ok c.of_value.result) s (selected_events q f c.args.number c.args.item.text.now (Some most) s) in
    subst puts (sym (none_judged most status c.if-most-eq0.true))
    (record {
      given_up = None;
      rows = none_put g.S.Sink.stands g.S.Sink.stopped out;
      verdict = record { selected = c.of_value.ensures.selected; refused = c.of_value.ensures.refused; given_up = c.of_value.ensures.given_up };
    })

pub returns-clause-answers : goal.returns-clause-answers
returns-clause-answers g c =
    let q = c.args.self.question.now in
    let f = c.args.self.form.now in
    let most = c.args.most in
    let status = status_by c.args.item.state in
    let puts : LineStatus → Type 0 = λ s. PutsRows g.S.Sink.stands g.S.Sink.stopped q most c.args.sink.now c.put_selected.new.sink c.put_selected.result s
    (selected_events q f c.args.number c.args.item.text.now (Some most) s) in
    subst puts (sym (all_judged most status c.if-most-eq0.false)) c.put_selected.ensures.answers
