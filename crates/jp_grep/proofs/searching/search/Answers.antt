-- What is told of the refused lines, or written after the rows, failed.
use Rattle.std.proofs.Common.{Bool, ap, subst}
use Rattle.jp_grep.specs.Faults.{is_writer_fault}
use Rattle.jp_grep.specs.Rows.{selected_count, summary_of}
use Rattle.jp_grep.specs.Telling.{AreParts}
use Rattle.jp_grep.specs.Watching.{answered_of}
use Rattle.jp_grep.proofs.Putting.{both_put, part_put}
use Rattle.jp_grep.proofs.SoFar.{handed, stopped_in_part, told_in_part, told_to_end}
use Rattle.jp_grep.proofs.Stepping.{of_report}
use Rattle.jp_grep.proofs.Written.{part_so_far}
use Rattle.jp_grep.proofs.searching.search.Goals as goal

pub returns-in_err-tell_more-clause-output : goal.returns-in_err-tell_more-clause-output
returns-in_err-tell_more-clause-output g c =
    let q = c.args.question.now in
    let form = c.args.form.now in
    let lines = c.in_ok-found.ensures.output in
    let fault = c.in_err-tell_more.field-0.0 in (
      lines.0,
      lines.1,
      lines.2,
      lines.3,
      lines.4,
      handed _ _ c.from_residual-in_err-tell_more.result fault c.from_residual-in_err-tell_more.ensures.1
          (stopped_in_part q form g.S.Sink.stands g.S.Sink.stopped g.E.Write.contents c.args.sink.now c.search_lines.new.sink c.args.messages.now c.tell_more.new.messages fault lines.0 lines.1 (of_report fault c.in_err-tell_more.ensures.tells.1) lines.5.framed
          (told_in_part q form g.S.Sink.stands g.S.Sink.stopped g.E.Write.contents c.args.sink.now c.search_lines.new.sink c.args.messages.now c.search_lines.new.messages c.tell_more.new.messages (answered_of q form 0 lines.1) _ lines.5.counts.refused lines.5.all
          c.in_err-tell_more.ensures.text)),
    )

pub returns-in_err-tell_summary-clause-output : goal.returns-in_err-tell_summary-clause-output
returns-in_err-tell_summary-clause-output g c =
    let q = c.args.question.now in
    let form = c.args.form.now in
    let lines = c.in_ok-found.ensures.output in
    let fault = c.in_err-tell_summary.field-0.0 in
    let told = told_to_end q form g.S.Sink.stands g.S.Sink.stopped g.E.Write.contents c.args.sink.now c.search_lines.new.sink c.args.messages.now c.search_lines.new.messages c.tell_more.new.messages (answered_of q form 0 lines.1) _ lines.5.counts.refused lines.5.all
    c.in_ok-tell_more.ensures.text in
    let put = c.in_err-tell_summary.ensures.text in
    let parts = subst (λ n. AreParts (summary_of form.summary form n c.is_whole.result) put.0) lines.5.counts.selected put.1 in (
      lines.0,
      lines.1,
      lines.2,
      lines.3,
      lines.4,
      handed _ _ c.from_residual-in_err-tell_summary.result fault c.from_residual-in_err-tell_summary.ensures.1
          (stopped_in_part q form g.S.Sink.stands g.S.Sink.stopped g.E.Write.contents c.args.sink.now c.tell_summary.new.sink c.args.messages.now c.tell_more.new.messages fault lines.0 lines.1 (ap is_writer_fault c.in_err-tell_summary.ensures.tells.1) lines.5.framed
          (record {
            rows = (c.is_whole.result, put.0, parts, part_put g.S.Sink.stands g.S.Sink.stopped c.args.sink.now c.search_lines.new.sink c.tell_summary.new.sink _ put.0 told.rows put.2);
            messages = part_so_far c.args.messages.now c.tell_more.new.messages _ told.messages;
          })),
    )

pub returns-clause-output : goal.returns-clause-output
returns-clause-output g c =
    let q = c.args.question.now in
    let form = c.args.form.now in
    let lines = c.in_ok-found.ensures.output in
    let all = told_to_end q form g.S.Sink.stands g.S.Sink.stopped g.E.Write.contents c.args.sink.now c.search_lines.new.sink c.args.messages.now c.search_lines.new.messages c.tell_more.new.messages (answered_of q form 0 lines.1) _ lines.5.counts.refused lines.5.all
    c.in_ok-tell_more.ensures.text in
    let put = c.in_ok-tell_summary.ensures.text in
    let counted = subst (λ n. AreParts (summary_of form.summary form n c.is_whole.result) put.0) lines.5.counts.selected put.1 in
    let parts = subst (λ (b : Bool). AreParts (summary_of form.summary form (selected_count q (answered_of q form 0 lines.1)) b) put.0) c.is_whole.ensures counted in (
      lines.0,
      lines.1,
      lines.2,
      lines.3,
      lines.4,
      record {
        framed = lines.5.framed;
        rows = (put.0, parts, both_put g.S.Sink.stands g.S.Sink.stopped c.args.sink.now c.search_lines.new.sink c.tell_summary.new.sink _ put.0 lines.5.all.rows put.2);
        messages = all.messages;
        counts = lines.5.counts;
        end = lines.5.end;
      },
    )
