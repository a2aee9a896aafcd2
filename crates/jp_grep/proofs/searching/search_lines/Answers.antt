-- Each step goes on with what came so far.
use Rattle.std.proofs.Common.{◌≡◌, ◌∙◌, ◌+◌, ◌<◌, ◌≤◌, ◌^◌, ◌||◌, ℕ, [], ◌++◌, length, length-append, take, append-nil, sym, ap, subst, refl, arith, inl, inr, true, false}
use Rattle.std.proofs.lemmas.Bool.{false≢true}
use Rattle.std.proofs.lemmas.List.{length-take-le}
use Rattle.std.proofs.KnownBytes.{Consumes-nil}
use Rattle.jp_devices.specs.Devices.{Gave, one_more_where}
use Rattle.jp_devices.proofs.Devices.{came_so, came_whole, gave_kept, gave_more, gave_none, goes_on, or_false}
use Rattle.jp_sink.specs.Telling.{SinkState}
use Rattle.jp_grep.specs.Faults.{limit_of}
use Rattle.jp_grep.specs.Watching.{SearchStopped, answered_of}
use Rattle.jp_grep.specs.declared.fault.SearchFault.{SearchFault}
use Rattle.jp_grep.specs.declared.found.Limit.TheVariants as limits
use Rattle.jp_grep.proofs.Standing.{goes_as}
use Rattle.jp_grep.proofs.SoFar.{all_came, all_so_far, at_start, came_so_far, came_to_end, enough_selected, flush_failed, flushed, goes_further, goes_on_by, handed, in_part, kept_after, none_so_far, oversize, passed_over, refused_at_end, searched_all, stopped_by, stopped_in_part, told_first, told_in_part, told_to_end, wants_more}
use Rattle.jp_grep.proofs.Stepping.{SaysLines, before_came, either_way, first_came, front_no_writer, inner_no_writer, inner_other_front, none_more, of_report, read_last, read_nothing, size_of_limit, still}
use Rattle.jp_grep.proofs.searching.search_lines.Goals as goal

-- each read brought a byte
one_more : (reads came count piece all : ℕ) → reads ≤ came → (count ≡ 0 → ⊥) → piece ≡ count → all ≡ came + piece → reads + 1 ≤ all
one_more reads came count piece all before some is sum = omega (arith, before, some, is, sum)

all_read : (reads came : ℕ) → 18446744073709551615 ≤ reads → reads ≤ came → 2 ^ 64 ≤ 1 + came
all_read reads came done before = omega (arith, done, before)

pub loop-read-init : goal.loop-read-init
loop-read-init g c = record {
  so_far = (
    [],
    [],
    [],
    gave_none g.R.Read.remaining c.args.input.now.reader c.args.input.now.reader refl (Consumes-nil (g.R.Read.remaining c.args.input.now.reader.device)),
    at_start c.args.answerer.question.now c.args.answerer.form.now g.S.Sink.stands g.S.Sink.stopped g.E.Write.contents c.new.result c.new-2.result.progress c.args.sink.now c.gap.new.self c.args.messages.now c.new.ensures c.gap.ensures.told
        c.new-2.ensures.number c.new-2.ensures.selected c.new-2.ensures.refused c.new-2.ensures.given_up c.new-2.ensures.trailed,
    inl refl,
    omega arith,
  );
  room = refl;
  reads = c.requires.reads;
  unended = c.requires.unended;
  writes = ap (λ (s : SinkState). s.failed) c.gap.ensures.state ∙ c.requires.writes;
  reports = c.requires.reports;
  after = refl;
  kept = (ap (λ (s : SinkState). s.after) c.gap.ensures.state, ap (λ (s : SinkState). s.settings) c.gap.ensures.state);
  messages_after = refl;
  early = refl;
}

pub returns-then-is_done-clause-output : goal.returns-then-is_done-clause-output
returns-then-is_done-clause-output g c =
    let q = c.args.answerer.question.now in
    let f = c.args.answerer.form.now in
    let inv = c.loop-read.invariant in
    let so = inv.so_far in
    let failed = c.loop-read.input.reader.failed in
    let source = c.loop-read.searcher.source in
    let progress = c.loop-read.searcher.answering.progress in (
      came_so so.0 false failed,
      so.2,
      goes_on g.R.Read.remaining c.args.input.now.reader c.loop-read.input.reader so.0 so.3 c.requires.reads (inv.unended ∙ sym c.requires.unended),
      came_so_far q f g.S.Sink.stands g.S.Sink.stopped g.E.Write.contents source progress c.args.sink.now c.loop-read.sink c.args.messages.now c.loop-read.messages so.0 so.1 so.2 so.4 failed,
      so.5,
      enough_selected q f g.S.Sink.stands g.S.Sink.stopped g.E.Write.contents source progress c.args.sink.now c.loop-read.sink c.args.messages.now c.loop-read.messages so.0 so.1 so.2 so.4 failed c.found.result
          (c.is_done.ensures.done c.if-is_done.true) c.found.ensures.counts c.found.ensures.unread,
    )

pub returns-in_err-flush_all-clause-output : goal.returns-in_err-flush_all-clause-output
returns-in_err-flush_all-clause-output g c =
    let q = c.args.answerer.question.now in
    let f = c.args.answerer.form.now in
    let inv = c.loop-read.invariant in
    let so = inv.so_far in
    let source = c.loop-read.searcher.source in
    let progress = c.loop-read.searcher.answering.progress in
    let out = c.flush_all.new.sink in
    let told = c.flush_all.new.messages in
    let came = came_so so.0 false c.loop-read.input.reader.failed in
    let fault = c.in_err-flush_all.field-0.0 in (
      came,
      so.2,
      goes_on g.R.Read.remaining c.args.input.now.reader c.loop-read.input.reader so.0 so.3 c.requires.reads (inv.unended ∙ sym c.requires.unended),
      came_so_far q f g.S.Sink.stands g.S.Sink.stopped g.E.Write.contents source progress c.args.sink.now c.loop-read.sink c.args.messages.now c.loop-read.messages so.0 so.1 so.2 so.4 c.loop-read.input.reader.failed,
      so.5,
      handed _ _ c.from_residual.result fault c.from_residual.ensures.1
          (stopped_in_part q f g.S.Sink.stands g.S.Sink.stopped g.E.Write.contents c.args.sink.now out c.args.messages.now told fault came so.2 c.in_err-flush_all.ensures.tells.2 (λ ended. absurd (false≢true ended))
          (flush_failed q f g.S.Sink.stands g.S.Sink.stopped g.E.Write.contents source progress c.args.sink.now c.loop-read.sink c.args.messages.now c.loop-read.messages so.0 so.1 so.2 so.4 out told
          c.in_err-flush_all.ensures.rows c.flush_all.ensures.messages)),
    )

pub returns-in_default-clause-output : goal.returns-in_default-clause-output
returns-in_default-clause-output g c =
    let q = c.args.answerer.question.now in
    let f = c.args.answerer.form.now in
    let inv = c.loop-read.invariant in
    let so = inv.so_far in
    let source = c.loop-read.searcher.source in
    let progress = c.loop-read.searcher.answering.progress in
    let out = c.flush_all.new.sink in
    let told = c.flush_all.new.messages in
    let now = flushed q f g.S.Sink.stands g.S.Sink.stopped g.E.Write.contents source progress c.args.sink.now c.loop-read.sink out c.args.messages.now c.loop-read.messages told so.0 so.1 so.2 so.4 c.in_ok-flush_all.ensures.rows c.flush_all.ensures.messages in
    let input = c.read_after.new.self.reader in (
      came_so so.0 false input.failed,
      so.2,
      goes_on g.R.Read.remaining c.args.input.now.reader input so.0 (gave_kept g.R.Read.remaining c.args.input.now.reader c.loop-read.input.reader input so.0 so.3 c.in_default.ensures.given c.in_default.ensures.bytes) c.requires.reads
          (c.in_default.ensures.ended ∙ sym (or_false c.loop-read.input.reader.ended) ∙ inv.unended ∙ sym c.requires.unended),
      came_so_far q f g.S.Sink.stands g.S.Sink.stopped g.E.Write.contents source progress c.args.sink.now out c.args.messages.now told so.0 so.1 so.2 now input.failed,
      none_more q f c.args.input.now c.read_after.new.self so.0 so.2 (read_nothing q f c.args.input.now c.read_after.new.self so.0 so.2 [] c.in_default.ensures.last
          (wants_more q f g.S.Sink.stands g.S.Sink.stopped g.E.Write.contents source progress c.args.sink.now out c.args.messages.now told so.0 so.1 so.2 now (c.is_done.ensures.more c.if-is_done.false))),
      (
        refl,
        (goes_as f.units so.0 source so.1 now.position).format,
        all_came q f g.S.Sink.stands g.S.Sink.stopped g.E.Write.contents source progress c.args.sink.now out c.args.messages.now told so.0 so.1 so.2 now,
        told_to_end q f g.S.Sink.stands g.S.Sink.stopped g.E.Write.contents c.args.sink.now out c.args.messages.now told c.tell_more.new.messages (answered_of q f 0 so.2) progress.counts.refused now.counts.refused
            (all_so_far q f g.S.Sink.stands g.S.Sink.stopped g.E.Write.contents source progress c.args.sink.now out c.args.messages.now told so.0 so.1 so.2 now)
            c.in_ok-tell_more.ensures.text,
      ),
    )

pub returns-in_err-tell_more-clause-output : goal.returns-in_err-tell_more-clause-output
returns-in_err-tell_more-clause-output g c =
    let q = c.args.answerer.question.now in
    let f = c.args.answerer.form.now in
    let inv = c.loop-read.invariant in
    let so = inv.so_far in
    let source = c.loop-read.searcher.source in
    let progress = c.loop-read.searcher.answering.progress in
    let out = c.flush_all.new.sink in
    let told = c.flush_all.new.messages in
    let now = flushed q f g.S.Sink.stands g.S.Sink.stopped g.E.Write.contents source progress c.args.sink.now c.loop-read.sink out c.args.messages.now c.loop-read.messages told so.0 so.1 so.2 so.4 c.in_ok-flush_all.ensures.rows c.flush_all.ensures.messages in
    let input = c.read_after.new.self.reader in
    let came = came_so so.0 false input.failed in
    let fault = c.in_err-tell_more.field-0.0 in (
      came,
      so.2,
      goes_on g.R.Read.remaining c.args.input.now.reader input so.0 (gave_kept g.R.Read.remaining c.args.input.now.reader c.loop-read.input.reader input so.0 so.3 c.in_default.ensures.given c.in_default.ensures.bytes) c.requires.reads
          (c.in_default.ensures.ended ∙ sym (or_false c.loop-read.input.reader.ended) ∙ inv.unended ∙ sym c.requires.unended),
      came_so_far q f g.S.Sink.stands g.S.Sink.stopped g.E.Write.contents source progress c.args.sink.now out c.args.messages.now told so.0 so.1 so.2 now input.failed,
      none_more q f c.args.input.now c.read_after.new.self so.0 so.2 (read_nothing q f c.args.input.now c.read_after.new.self so.0 so.2 [] c.in_default.ensures.last
          (wants_more q f g.S.Sink.stands g.S.Sink.stopped g.E.Write.contents source progress c.args.sink.now out c.args.messages.now told so.0 so.1 so.2 now (c.is_done.ensures.more c.if-is_done.false))),
      handed _ _ c.from_residual-in_err-tell_more.result fault c.from_residual-in_err-tell_more.ensures.1
          (stopped_in_part q f g.S.Sink.stands g.S.Sink.stopped g.E.Write.contents c.args.sink.now out c.args.messages.now c.tell_more.new.messages fault came so.2 (of_report fault c.in_err-tell_more.ensures.tells.1) (λ ended. absurd (false≢true ended))
          (told_in_part q f g.S.Sink.stands g.S.Sink.stopped g.E.Write.contents c.args.sink.now out c.args.messages.now told c.tell_more.new.messages (answered_of q f 0 so.2) progress.counts.refused now.counts.refused
          (all_so_far q f g.S.Sink.stands g.S.Sink.stopped g.E.Write.contents source progress c.args.sink.now out c.args.messages.now told so.0 so.1 so.2 now)
          c.in_err-tell_more.ensures.text)),
    )

pub returns-in_err-tell_more-clause-read_fault : goal.returns-in_err-tell_more-clause-read_fault
returns-in_err-tell_more-clause-read_fault g c =
    handed _ _ c.from_residual-in_err-tell_more.result c.in_err-tell_more.field-0.0 c.from_residual-in_err-tell_more.ensures.1
    (told_first c.read_after.new.self.reader.failed c.tell_more.new.messages.failed c.in_err-tell_more.field-0.0 c.in_err-tell_more.ensures.tells.0 c.in_err-tell_more.ensures.tells.1)

pub loop-read-preserved : goal.loop-read-preserved
loop-read-preserved g c =
    let q = c.args.answerer.question.now in
    let f = c.args.answerer.form.now in
    let inv = c.loop-read.invariant in
    let so = inv.so_far in
    let source = c.loop-read.searcher.source in
    let before = c.loop-read.searcher.answering.progress in
    let input = c.read_after.new.self.reader in
    let piece = take c.in-Ok.count c.read_after.new.bytes in
    let out = c.flush_all.new.sink in
    let told = c.flush_all.new.messages in
    let now = flushed q f g.S.Sink.stands g.S.Sink.stopped g.E.Write.contents source before c.args.sink.now c.loop-read.sink out c.args.messages.now c.loop-read.messages told so.0 so.1 so.2 so.4 c.in_ok-flush_all.ensures.rows c.flush_all.ensures.messages in
    let said = c.in_default-answer_read.ensures in
    let advances = said.advances in
    let room : length c.read_after.new.bytes ≡ 65536 = omega (arith, inv.room, c.read_after.auto.bytes) in
    let some : 0 < length c.read_after.new.bytes = omega (arith, room) in
    record {
      so_far = (
        so.0 ++ piece,
        so.1 ++ advances.items,
        so.2 ++ advances.answers.outcomes,
        gave_more g.R.Read.remaining c.args.input.now.reader c.loop-read.input.reader input so.0 piece so.3 (record { given = c.in-Ok.ensures.given; left = c.in-Ok.ensures.bytes.0 }),
        goes_on_by q f g.S.Sink.stands g.S.Sink.stopped g.E.Write.contents source before c.args.sink.now out c.args.messages.now told so.0 so.1 so.2 now c.answer_read.new.self.answering.progress c.answer_read.new.sink c.answer_read.new.messages
            c.in_default-answer_read.field-0 advances.items advances.answers c.answer_read.new.self.source piece (advances.position so.0 so.1 now.position),
        read_last q f c.args.input.now c.read_after.new.self so.0 piece so.2 advances.answers.outcomes (length-take-le c.in-Ok.count c.read_after.new.bytes c.in-Ok.ensures.bound.0 ∙ sym c.in-Ok.ensures.last)
            (wants_more q f g.S.Sink.stands g.S.Sink.stopped g.E.Write.contents source before c.args.sink.now out c.args.messages.now told so.0 so.1 so.2 now (c.is_done.ensures.more c.if-is_done.false)),
        one_more c.loop-read._read (length so.0) c.in-Ok.count (length piece) (length (so.0 ++ piece)) so.6 c.if-count-eq0.false
            (length-take-le c.in-Ok.count c.read_after.new.bytes c.in-Ok.ensures.bound.0) (length-append so.0 piece),
      );
      room = room;
      reads = c.in-Ok.ensures.failed ∙ ap (λ b. b || false) inv.reads;
      unended = goes_further c.loop-read.input.reader.ended input.ended c.in-Ok.count c.read_after.new.bytes c.in-Ok.ensures.ended c.if-count-eq0.false inv.unended;
      writes = said.tells.0;
      reports = said.tells.1;
      after = kept_after c.loop-read.input.reader.failed c.loop-read.input.reader.ended c.read_after.new.bytes _ _ c.in-Ok.ensures.after inv.reads inv.unended some ∙ inv.after;
      kept = (said.tells.3.0 ∙ c.flush_all.ensures.tells.3.0 ∙ inv.kept.0, said.tells.3.1 ∙ c.flush_all.ensures.tells.3.1 ∙ inv.kept.1);
      messages_after = said.tells.4 ∙ c.flush_all.ensures.tells.4 ∙ inv.messages_after;
      early = c.in-Ok.ensures.early ∙ ap (λ b. one_more_where b c.loop-read.input.reader.early) c.in_ok-flush_all.ensures.flushed.0 ∙ inv.early;
    }

pub returns-in-Err-clause-output : goal.returns-in-Err-clause-output
returns-in-Err-clause-output g c =
    let q = c.args.answerer.question.now in
    let f = c.args.answerer.form.now in
    let inv = c.loop-read.invariant in
    let so = inv.so_far in
    let source = c.loop-read.searcher.source in
    let before = c.loop-read.searcher.answering.progress in
    let input = c.read_after.new.self.reader in
    let out = c.flush_all.new.sink in
    let told = c.flush_all.new.messages in
    let now = flushed q f g.S.Sink.stands g.S.Sink.stopped g.E.Write.contents source before c.args.sink.now c.loop-read.sink out c.args.messages.now c.loop-read.messages told so.0 so.1 so.2 so.4 c.in_ok-flush_all.ensures.rows c.flush_all.ensures.messages in
    let wants = wants_more q f g.S.Sink.stands g.S.Sink.stopped g.E.Write.contents source before c.args.sink.now out c.args.messages.now told so.0 so.1 so.2 now (c.is_done.ensures.more c.if-is_done.false) in
    let room : 0 < length c.read_after.new.bytes = omega (arith, inv.room, c.read_after.auto.bytes) in
    let nothing = ap (λ n. take n c.read_after.new.bytes) c.if-count-eq0.true in
    let gave = subst (λ l. Gave g.R.Read.remaining c.args.input.now.reader input l) (ap (λ l. so.0 ++ l) nothing ∙ append-nil so.0)
    (gave_more g.R.Read.remaining c.args.input.now.reader c.loop-read.input.reader input so.0 (take c.in-Ok.count c.read_after.new.bytes) so.3 (record { given = c.in-Ok.ensures.given; left = c.in-Ok.ensures.bytes.0 })) in
    let end = came_to_end g.R.Read.remaining c.args.input.now.reader c.loop-read.input.reader input c.in-Ok.count c.read_after.new.bytes c.requires.reads (inv.unended ∙ sym c.requires.unended) c.in-Ok.ensures.ended c.in-Ok.ensures.bytes.1 c.if-count-eq0.true room in
    let came = came_so so.0 true input.failed in
    let whole = came_whole g.R.Read.remaining c.args.input.now.reader input so.0 gave end in
    let none = c.in-Ok.ensures.last ∙ c.if-count-eq0.true in
    let sink2 = c.answer_rest.new.sink in
    let told2 = c.answer_rest.new.messages in
    let after = c.answer_rest.new.self.answering.progress in
    let said = c.in-Err.ensures in
    let ends = said.ends in
    let e = c.in-Err.fault in
    let first = ends.first so.0 so.1 now.position in
    let framed = ends.framed so.0 so.1 now.position in
    either_way (SaysLines g.R.Read.remaining g.S.Sink.stands g.S.Sink.stopped g.E.Write.contents q f c.args.input.now c.read_after.new.self c.args.sink.now sink2 c.args.messages.now told2) _ _ c.stop.result c.stop.ensures
    (λ found is. (
      came,
      so.2,
      whole,
      before_came f came so.1 ends.items first.0 so.2 first.1 so.4.each,
      none_more q f c.args.input.now c.read_after.new.self so.0 so.2 (read_nothing q f c.args.input.now c.read_after.new.self so.0 so.2 [] none wants),
      passed_over q f g.S.Sink.stands g.S.Sink.stopped g.E.Write.contents source after c.args.sink.now sink2 c.args.messages.now told2 so.0 so.1 so.2
          (still q f g.S.Sink.stands g.S.Sink.stopped g.E.Write.contents source before after c.args.sink.now out sink2 c.args.messages.now told told2 so.0 so.1 so.2 (ends.answers.unwritten (inner_no_writer e is.0)) now)
          came found (limit_of e) (λ ended. framed (inner_other_front e is.0))
          (λ size. oversize q f g.S.Sink.stands g.S.Sink.stopped g.E.Write.contents source before c.args.sink.now out c.args.messages.now told so.0 so.1 so.2 now came [] ends.items first.0 (sym (append-nil so.0)) first.1 (ends.size (size_of_limit e size)))
          is.1 is.2,
    ))
    (λ fault is. (
      came,
      so.2 ++ ends.answers.outcomes,
      whole,
      first_came f came so.1 ends.items first.0 so.2 ends.answers.outcomes first.1 so.4.each ends.answers.each,
      read_nothing q f c.args.input.now c.read_after.new.self so.0 so.2 ends.answers.outcomes none wants,
      subst (λ (x : SearchFault). SearchStopped g.S.Sink.stands g.S.Sink.stopped g.E.Write.contents q f c.args.sink.now sink2 c.args.messages.now told2 x came (so.2 ++ ends.answers.outcomes)) (sym is.0)
          (stopped_by q f g.S.Sink.stands g.S.Sink.stopped g.E.Write.contents c.args.sink.now sink2 c.args.messages.now told2 e came (so.2 ++ ends.answers.outcomes) said.tells.2 is.1
          (λ front. let u = ends.refused front in
          let there = u.1 so.0 so.1 now.position in
          let same = ends.answers.unwritten (front_no_writer e front) in
          (refused_at_end f e came refl u.0 there.1 there.2, none_so_far q f g.S.Sink.stands g.S.Sink.stopped g.E.Write.contents source before c.args.sink.now out c.args.messages.now told so.0 so.1 so.2 now sink2 told2 there.0 same.0 same.1))
          (λ other ended. framed other)
          (in_part q f g.S.Sink.stands g.S.Sink.stopped g.E.Write.contents source before c.args.sink.now out c.args.messages.now told so.0 so.1 so.2 now sink2 told2 ends.answers.outcomes ends.answers.rows ends.answers.messages)),
    ))

pub returns-then-count-eq0-clause-output : goal.returns-then-count-eq0-clause-output
returns-then-count-eq0-clause-output g c =
    let q = c.args.answerer.question.now in
    let f = c.args.answerer.form.now in
    let inv = c.loop-read.invariant in
    let so = inv.so_far in
    let source = c.loop-read.searcher.source in
    let before = c.loop-read.searcher.answering.progress in
    let input = c.read_after.new.self.reader in
    let out = c.flush_all.new.sink in
    let told = c.flush_all.new.messages in
    let now = flushed q f g.S.Sink.stands g.S.Sink.stopped g.E.Write.contents source before c.args.sink.now c.loop-read.sink out c.args.messages.now c.loop-read.messages told so.0 so.1 so.2 so.4 c.in_ok-flush_all.ensures.rows c.flush_all.ensures.messages in
    let wants = wants_more q f g.S.Sink.stands g.S.Sink.stopped g.E.Write.contents source before c.args.sink.now out c.args.messages.now told so.0 so.1 so.2 now (c.is_done.ensures.more c.if-is_done.false) in
    let room : 0 < length c.read_after.new.bytes = omega (arith, inv.room, c.read_after.auto.bytes) in
    let nothing = ap (λ n. take n c.read_after.new.bytes) c.if-count-eq0.true in
    let gave = subst (λ l. Gave g.R.Read.remaining c.args.input.now.reader input l) (ap (λ l. so.0 ++ l) nothing ∙ append-nil so.0)
    (gave_more g.R.Read.remaining c.args.input.now.reader c.loop-read.input.reader input so.0 (take c.in-Ok.count c.read_after.new.bytes) so.3 (record { given = c.in-Ok.ensures.given; left = c.in-Ok.ensures.bytes.0 })) in
    let end = came_to_end g.R.Read.remaining c.args.input.now.reader c.loop-read.input.reader input c.in-Ok.count c.read_after.new.bytes c.requires.reads (inv.unended ∙ sym c.requires.unended) c.in-Ok.ensures.ended c.in-Ok.ensures.bytes.1 c.if-count-eq0.true room in
    let came = came_so so.0 true input.failed in
    let whole = came_whole g.R.Read.remaining c.args.input.now.reader input so.0 gave end in
    let none = c.in-Ok.ensures.last ∙ c.if-count-eq0.true in
    let ends = c.in_default-answer_rest.ensures.ends in
    let first = ends.first so.0 so.1 now.position in (
      came,
      so.2 ++ ends.answers.outcomes,
      whole,
      first_came f came so.1 ends.items first.0 so.2 ends.answers.outcomes first.1 so.4.each ends.answers.each,
      read_nothing q f c.args.input.now c.read_after.new.self so.0 so.2 ends.answers.outcomes none wants,
      searched_all q f g.S.Sink.stands g.S.Sink.stopped g.E.Write.contents source before c.args.sink.now out c.args.messages.now told so.0 so.1 so.2 now c.answer_rest.new.self.answering.progress c.answer_rest.new.sink c.answer_rest.new.messages
          c.in_default-answer_rest.field-0 ends.items ends.answers input.failed c.found-then-count-eq0.result (ends.all so.0 so.1 now.position) (ends.framed so.0 so.1 now.position) c.found-then-count-eq0.ensures.counts c.found-then-count-eq0.ensures.unread,
    )

pub returns-in-Err-answer_read-clause-output : goal.returns-in-Err-answer_read-clause-output
returns-in-Err-answer_read-clause-output g c =
    let q = c.args.answerer.question.now in
    let f = c.args.answerer.form.now in
    let inv = c.loop-read.invariant in
    let so = inv.so_far in
    let source = c.loop-read.searcher.source in
    let before = c.loop-read.searcher.answering.progress in
    let input = c.read_after.new.self.reader in
    let out = c.flush_all.new.sink in
    let told = c.flush_all.new.messages in
    let now = flushed q f g.S.Sink.stands g.S.Sink.stopped g.E.Write.contents source before c.args.sink.now c.loop-read.sink out c.args.messages.now c.loop-read.messages told so.0 so.1 so.2 so.4 c.in_ok-flush_all.ensures.rows c.flush_all.ensures.messages in
    let wants = wants_more q f g.S.Sink.stands g.S.Sink.stopped g.E.Write.contents source before c.args.sink.now out c.args.messages.now told so.0 so.1 so.2 now (c.is_done.ensures.more c.if-is_done.false) in
    let piece = take c.in-Ok.count c.read_after.new.bytes in
    let sink2 = c.answer_read.new.sink in
    let told2 = c.answer_read.new.messages in
    let after = c.answer_read.new.self.answering.progress in
    let said = c.in-Err-answer_read.ensures in
    let advances = said.advances in
    let e = c.in-Err-answer_read.fault in
    let gave = gave_more g.R.Read.remaining c.args.input.now.reader c.loop-read.input.reader input so.0 piece so.3 (record { given = c.in-Ok.ensures.given; left = c.in-Ok.ensures.bytes.0 }) in
    let going = goes_further c.loop-read.input.reader.ended input.ended c.in-Ok.count c.read_after.new.bytes c.in-Ok.ensures.ended c.if-count-eq0.false inv.unended in
    let came = came_so (so.0 ++ piece) false input.failed in
    let whole = goes_on g.R.Read.remaining c.args.input.now.reader input (so.0 ++ piece) gave c.requires.reads (going ∙ sym c.requires.unended) in
    let count = length-take-le c.in-Ok.count c.read_after.new.bytes c.in-Ok.ensures.bound.0 ∙ sym c.in-Ok.ensures.last in
    let first = advances.first so.0 so.1 now.position in
    either_way (SaysLines g.R.Read.remaining g.S.Sink.stands g.S.Sink.stopped g.E.Write.contents q f c.args.input.now c.read_after.new.self c.args.sink.now sink2 c.args.messages.now told2) _ _ c.stop-in-Err-answer_read.result c.stop-in-Err-answer_read.ensures
    (λ found is. (
      came,
      so.2,
      whole,
      before_came f came so.1 advances.items first.0 so.2 first.1 so.4.each,
      none_more q f c.args.input.now c.read_after.new.self (so.0 ++ piece) so.2 (read_last q f c.args.input.now c.read_after.new.self so.0 piece so.2 [] count wants),
      passed_over q f g.S.Sink.stands g.S.Sink.stopped g.E.Write.contents source after c.args.sink.now sink2 c.args.messages.now told2 so.0 so.1 so.2
          (still q f g.S.Sink.stands g.S.Sink.stopped g.E.Write.contents source before after c.args.sink.now out sink2 c.args.messages.now told told2 so.0 so.1 so.2 (advances.answers.unwritten (inner_no_writer e is.0)) now)
          came found (limit_of e) (λ ended. absurd (false≢true ended))
          (λ size. oversize q f g.S.Sink.stands g.S.Sink.stopped g.E.Write.contents source before c.args.sink.now out c.args.messages.now told so.0 so.1 so.2 now came piece advances.items first.0 refl first.1 (advances.size (size_of_limit e size)))
          is.1 is.2,
    ))
    (λ fault is. (
      came,
      so.2 ++ advances.answers.outcomes,
      whole,
      first_came f came so.1 advances.items first.0 so.2 advances.answers.outcomes first.1 so.4.each advances.answers.each,
      read_last q f c.args.input.now c.read_after.new.self so.0 piece so.2 advances.answers.outcomes count wants,
      subst (λ (x : SearchFault). SearchStopped g.S.Sink.stands g.S.Sink.stopped g.E.Write.contents q f c.args.sink.now sink2 c.args.messages.now told2 x came (so.2 ++ advances.answers.outcomes)) (sym is.0)
          (stopped_by q f g.S.Sink.stands g.S.Sink.stopped g.E.Write.contents c.args.sink.now sink2 c.args.messages.now told2 e came (so.2 ++ advances.answers.outcomes) said.tells.2 is.1
          (λ front. let there = advances.refused front so.0 so.1 now.position in
          let same = advances.answers.unwritten (front_no_writer e front) in
          (inl there.1, none_so_far q f g.S.Sink.stands g.S.Sink.stopped g.E.Write.contents source before c.args.sink.now out c.args.messages.now told so.0 so.1 so.2 now sink2 told2 there.0 same.0 same.1))
          (λ other ended. absurd (false≢true ended))
          (in_part q f g.S.Sink.stands g.S.Sink.stopped g.E.Write.contents source before c.args.sink.now out c.args.messages.now told so.0 so.1 so.2 now sink2 told2 advances.answers.outcomes advances.answers.rows advances.answers.messages)),
    ))

pub returns-clause-output : goal.returns-clause-output
returns-clause-output g c =
    let q = c.args.answerer.question.now in
    let f = c.args.answerer.form.now in
    let inv = c.loop-read.invariant in
    let so = inv.so_far in
    let source = c.loop-read.searcher.source in
    let progress = c.loop-read.searcher.answering.progress in
    let failed = c.loop-read.input.reader.failed in
    let came = came_so so.0 false failed in
    let whole = goes_on g.R.Read.remaining c.args.input.now.reader c.loop-read.input.reader so.0 so.3 c.requires.reads (inv.unended ∙ sym c.requires.unended) in
    either_way (SaysLines g.R.Read.remaining g.S.Sink.stands g.S.Sink.stopped g.E.Write.contents q f c.args.input.now c.loop-read.input c.args.sink.now c.loop-read.sink c.args.messages.now c.loop-read.messages) _ _ c.stop-2.result c.stop-2.ensures
    (λ found is. (
      came,
      so.2,
      whole,
      came_so_far q f g.S.Sink.stands g.S.Sink.stopped g.E.Write.contents source progress c.args.sink.now c.loop-read.sink c.args.messages.now c.loop-read.messages so.0 so.1 so.2 so.4 failed,
      so.5,
      passed_over q f g.S.Sink.stands g.S.Sink.stopped g.E.Write.contents source progress c.args.sink.now c.loop-read.sink c.args.messages.now c.loop-read.messages so.0 so.1 so.2 so.4
          came found limits.Size (λ ended. absurd (false≢true ended)) (λ size. inr (inr (all_read _ _ c.loop-read-test.false so.6))) is.1 is.2,
    ))
    (λ fault is. absurd (false≢true (sym is.1)))
