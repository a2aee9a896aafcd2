-- The rows are put, and after them the message is written.
use Rattle.std.proofs.Common.{◌-◌, ◌++◌, Bool, None, Some, subst}
use Rattle.std.specs.Prelude.{is_some}
use Rattle.jp_devices.specs.Devices.{Received}
use Rattle.jp_devices.proofs.Chains.{Part, ends_in_part}
use Rattle.jp_sink.specs.Telling.{Takes}
use Rattle.jp_grep.specs.Telling.{TakesPart, gap_where}
use Rattle.jp_model.specs.Json.Status.{LineStatus}
use Rattle.jp_grep.specs.ReadItems.{status_by}
use Rattle.jp_grep.specs.Rows.{message_where, status_events, told_of_all}
use Rattle.jp_grep.proofs.Advancing.{nothing_of}
use Rattle.jp_grep.proofs.GivenUp.{came_by, no_answer}
use Rattle.jp_grep.proofs.Putting.{both_put, ends_put, part_put, part_put_more}
use Rattle.jp_grep.proofs.answer.Answerer.answer_item.Goals as goal

pub returns-in_err-verdict-clause-answers : goal.returns-in_err-verdict-clause-answers
returns-in_err-verdict-clause-answers g c =
    let item = c.args.item in
    let said = c.in_err-verdict.ensures.answers in
    let r = c.from_residual.result in
    let failed = c.from_residual.ensures.0 in
    record {
      outcome = record { text = item.text.now; status = status_by item.state; from_line = item.from_line; most = None; given_up = said.given_up };
      came = came_by item.text.now (status_by item.state) item.from_line said.given_up;
      rows = ends_put g.S.Sink.stands g.S.Sink.stopped r c.args.sink.now c.put_item.new.sink _ failed (part_put_more g.S.Sink.stands g.S.Sink.stopped c.args.sink.now c.put_item.new.sink _ (gap_where (is_some said.given_up)) said.rows);
      message = ends_in_part r c.args.messages.now c.args.messages.now _ failed (nothing_of c.args.messages.now _);
      verdict = no_answer _ r failed;
    }

pub returns-in_err-tell-clause-answers : goal.returns-in_err-tell-clause-answers
returns-in_err-tell-clause-answers g c =
    let item = c.args.item in
    let q = c.args.self.question.now in
    let f = c.args.self.form.now in
    let said = c.in_ok-verdict.ensures.answers in
    let told = c.in_err-tell.ensures in
    let r = c.from_residual-in_err-tell.result in
    let failed = c.from_residual-in_err-tell.ensures.0 in
    let rows = told_of_all said.given_up (status_events q f c.args.progress.number item.text.now (Some (f.most - c.args.progress.counts.selected)) (status_by item.state)) in
    record {
      outcome = record { text = item.text.now; status = status_by item.state; from_line = item.from_line; most = None; given_up = said.given_up };
      came = came_by item.text.now (status_by item.state) item.from_line said.given_up;
      rows = ends_put g.S.Sink.stands g.S.Sink.stopped r c.args.sink.now c.tell.new.sink (rows ++ gap_where (is_some said.given_up)) failed
          (part_put g.S.Sink.stands g.S.Sink.stopped c.args.sink.now c.put_item.new.sink c.tell.new.sink rows (gap_where (is_some said.given_up)) said.rows
          (subst (λ (b : Bool). TakesPart g.S.Sink.stands g.S.Sink.stopped c.put_item.new.sink c.tell.new.sink (gap_where b)) said.verdict.given_up told.rows));
      message = ends_in_part r c.args.messages.now c.tell.new.messages _ failed
          (subst (λ (s : LineStatus). Part g.E.Write.contents c.args.messages.now c.tell.new.messages (message_where (is_some said.given_up) f c.args.progress.counts.refused c.args.progress.number item.from_line s)) c.judged.ensures
          (subst (λ (b : Bool). Part g.E.Write.contents c.args.messages.now c.tell.new.messages (message_where b f c.args.progress.counts.refused c.args.progress.number item.from_line (status_by c.judged.result)))
          said.verdict.given_up told.message));
      verdict = no_answer _ r failed;
    }

pub returns-clause-answers : goal.returns-clause-answers
returns-clause-answers g c =
    let item = c.args.item in
    let q = c.args.self.question.now in
    let f = c.args.self.form.now in
    let said = c.in_ok-verdict.ensures.answers in
    let told = c.in_ok-tell.ensures in
    let rows = told_of_all said.given_up (status_events q f c.args.progress.number item.text.now (Some (f.most - c.args.progress.counts.selected)) (status_by item.state)) in
    record {
      outcome = record { text = item.text.now; status = status_by item.state; from_line = item.from_line; most = None; given_up = said.given_up };
      came = came_by item.text.now (status_by item.state) item.from_line said.given_up;
      rows = both_put g.S.Sink.stands g.S.Sink.stopped c.args.sink.now c.put_item.new.sink c.tell.new.sink rows (gap_where (is_some said.given_up)) said.rows
          (subst (λ (b : Bool). Takes g.S.Sink.stands c.put_item.new.sink c.tell.new.sink (gap_where b)) said.verdict.given_up told.rows);
      message = subst (λ (s : LineStatus). Received g.E.Write.contents c.args.messages.now c.tell.new.messages (message_where (is_some said.given_up) f c.args.progress.counts.refused c.args.progress.number item.from_line s)) c.judged.ensures
          (subst (λ (b : Bool). Received g.E.Write.contents c.args.messages.now c.tell.new.messages (message_where b f c.args.progress.counts.refused c.args.progress.number item.from_line (status_by c.judged.result)))
          said.verdict.given_up told.message);
      verdict = said.verdict;
    }
