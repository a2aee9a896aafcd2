-- What came of the script is run, up to where it stopped.
use Rattle.std.proofs.Common.{◌≡◌, ◌-◌, ◌++◌, ◌∷◌, [], take, ℕ, arith, refl, sym, ◌∙◌, subst}
use Rattle.std.proofs.lemmas.Bool.{eqb-true}
use Rattle.std.proofs.lemmas.List.{length-take}
use Rattle.jp_model.specs.Lines.{HasNoSeparator, closed_lines, open_line}
use Rattle.jp_cli.specs.Runs.{MayAnswer, Ran, RanFirst, StoppedIn, progress_of, setup_of}
use Rattle.jp_model.proofs.Pieces.{pieces_clear}
use Rattle.jp_model.specs.declared.Setup.{Setup}
use Rattle.jp_cli.proofs.ScriptSoFar.{gave_piece, still_going, no_end, little_room, at_end_with_room, flushed, flushed_at_end, stopped_flush, stopped_read, taken, too_long, stopped_piece, cut_to, min_first, one_more_call, not_empty, all_run, last_run, last_stopped}
use Rattle.jp_cli.specs.Commands.{asked_in}
use Rattle.jp_query.specs.Status.{query_of}
use Rattle.jp_cli.proofs.session.Session.run_lines.Goals as goal

pub returns-then-is_err-clause-output : goal.returns-then-is_err-clause-output
returns-then-is_err-clause-output g c =
    let inv = c.loop-buffer.invariant in
    let so = flushed query_of asked_in (setup_of c.args.self.now) g.R.Read.remaining g.W.Write.contents c.args.script.now c.loop-buffer.script c.args.out.now c.loop-buffer.out c.flush_written.new.out
    (progress_of c.args.self.now) (progress_of c.loop-buffer.self) c.loop-buffer.held.items c.loop-buffer.count inv.so_far (c.flush_written.ensures.taken, c.flush_written.ensures.bytes) in
    stopped_flush query_of asked_in (setup_of c.args.self.now) g.R.Read.remaining g.W.Write.contents c.args.script.now c.loop-buffer.script c.args.out.now c.flush_written.new.out
    (progress_of c.args.self.now) (progress_of c.loop-buffer.self) c.loop-buffer.held.items c.loop-buffer.count so inv.within c.requires.reads inv.going

pub returns-in_default-clause-output : goal.returns-in_default-clause-output
returns-in_default-clause-output g c =
    let inv = c.loop-buffer.invariant in
    let so = flushed query_of asked_in (setup_of c.args.self.now) g.R.Read.remaining g.W.Write.contents c.args.script.now c.loop-buffer.script c.args.out.now c.loop-buffer.out c.flush_written.new.out
    (progress_of c.args.self.now) (progress_of c.loop-buffer.self) c.loop-buffer.held.items c.loop-buffer.count inv.so_far (c.flush_written.ensures.taken, c.flush_written.ensures.bytes) in
    stopped_read query_of asked_in (setup_of c.args.self.now) g.R.Read.remaining g.W.Write.contents c.args.script.now c.loop-buffer.script c.read_script.new.script c.args.out.now c.flush_written.new.out
    (progress_of c.args.self.now) (progress_of c.loop-buffer.self) c.loop-buffer.held.items c.loop-buffer.count so (c.in_default.ensures.given, c.in_default.ensures.bytes) inv.within
    c.requires.reads (still_going _ _ _ _ c.in_default.ensures.ended inv.going refl) c.in_default.ensures.failed

pub answer_lines-requires-clause-open : goal.answer_lines-requires-clause-open
answer_lines-requires-clause-open g c =
    let so = c.loop-buffer.invariant.so_far in
    subst (HasNoSeparator 0x0A) (sym so.open_is) (pieces_clear 0x0A so.bytes)

pub returns-in-Err-clause-output : goal.returns-in-Err-clause-output
returns-in-Err-clause-output g c =
    let inv = c.loop-buffer.invariant in
    let so = flushed query_of asked_in (setup_of c.args.self.now) g.R.Read.remaining g.W.Write.contents c.args.script.now c.loop-buffer.script c.args.out.now c.loop-buffer.out c.flush_written.new.out
    (progress_of c.args.self.now) (progress_of c.loop-buffer.self) c.loop-buffer.held.items c.loop-buffer.count inv.so_far (c.flush_written.ensures.taken, c.flush_written.ensures.bytes) in
    let cut = cut_to c.in-Ok.read (c.args.self.now.script_most - c.loop-buffer.count) c.min.result c.read_script.new.piece c.min.ensures in
    stopped_piece query_of asked_in (setup_of c.args.self.now) g.R.Read.remaining g.W.Write.contents c.args.script.now c.loop-buffer.script c.read_script.new.script c.args.out.now c.flush_written.new.out c.answer_lines.new.out
    (progress_of c.args.self.now) (progress_of c.loop-buffer.self) (progress_of c.answer_lines.new.self) c.loop-buffer.held.items c.loop-buffer.count (take c.in-Ok.read c.read_script.new.piece) c.in-Err.fault
    so inv.within (gave_piece g.R.Read.remaining c.loop-buffer.script c.read_script.new.script (take c.in-Ok.read c.read_script.new.piece) c.in-Ok.ensures.given c.in-Ok.ensures.bytes.0) c.requires.reads (still_going _ _ _ _ c.in-Ok.ensures.ended inv.going (no_end c.in-Ok.read _ c.if-read-eq0.false))
    (let read = c.in-Ok.ensures.bound in omega (arith, read.0, read.1, little_room c.read_script.new.piece c.loop-buffer.buffer c.min-room.result 4095 (c.args.self.now.script_most - c.loop-buffer.count) c.read_script.auto.piece c.min-room.ensures))
    (subst (λ p. StoppedIn query_of asked_in g.W.Write.contents c.flush_written.new.out c.answer_lines.new.out c.in-Err.fault (setup_of c.args.self.now) c.loop-buffer.self.store.state (closed_lines (c.loop-buffer.held.items ++ p))) cut
    (subst (λ (s : Setup). StoppedIn query_of asked_in g.W.Write.contents c.flush_written.new.out c.answer_lines.new.out c.in-Err.fault s c.loop-buffer.self.store.state
    (closed_lines (c.loop-buffer.held.items ++ take c.min.result c.read_script.new.piece))) inv.setup c.in-Err.ensures.err.0))
    (subst (λ p. RanFirst query_of asked_in g.W.Write.contents c.flush_written.new.out c.answer_lines.new.out (setup_of c.args.self.now) (progress_of c.loop-buffer.self) (closed_lines (c.loop-buffer.held.items ++ p)) (progress_of c.answer_lines.new.self)) cut
    (subst (λ (s : Setup). RanFirst query_of asked_in g.W.Write.contents c.flush_written.new.out c.answer_lines.new.out s (progress_of c.loop-buffer.self)
    (closed_lines (c.loop-buffer.held.items ++ take c.min.result c.read_script.new.piece)) (progress_of c.answer_lines.new.self)) inv.setup c.in-Err.ensures.err.1))

pub returns-then-read-left-clause-output : goal.returns-then-read-left-clause-output
returns-then-read-left-clause-output g c =
    let inv = c.loop-buffer.invariant in
    let so = flushed query_of asked_in (setup_of c.args.self.now) g.R.Read.remaining g.W.Write.contents c.args.script.now c.loop-buffer.script c.args.out.now c.loop-buffer.out c.flush_written.new.out
    (progress_of c.args.self.now) (progress_of c.loop-buffer.self) c.loop-buffer.held.items c.loop-buffer.count inv.so_far (c.flush_written.ensures.taken, c.flush_written.ensures.bytes) in
    let cut = cut_to c.in-Ok.read (c.args.self.now.script_most - c.loop-buffer.count) c.min.result c.read_script.new.piece c.min.ensures in
    too_long query_of asked_in (setup_of c.args.self.now) g.R.Read.remaining g.W.Write.contents c.args.script.now c.loop-buffer.script c.read_script.new.script c.args.out.now c.flush_written.new.out c.answer_lines.new.out
    (progress_of c.args.self.now) (progress_of c.loop-buffer.self) (progress_of c.answer_lines.new.self) c.loop-buffer.held.items c.loop-buffer.count (take c.in-Ok.read c.read_script.new.piece)
    so inv.within (gave_piece g.R.Read.remaining c.loop-buffer.script c.read_script.new.script (take c.in-Ok.read c.read_script.new.piece) c.in-Ok.ensures.given c.in-Ok.ensures.bytes.0) c.requires.reads c.in-Ok.ensures.failed (still_going _ _ _ _ c.in-Ok.ensures.ended inv.going (no_end c.in-Ok.read _ c.if-read-eq0.false))
    (let read = c.in-Ok.ensures.bound in omega (arith, read.0, read.1, little_room c.read_script.new.piece c.loop-buffer.buffer c.min-room.result 4095 (c.args.self.now.script_most - c.loop-buffer.count) c.read_script.auto.piece c.min-room.ensures, c.if-read-left.true))
    (subst (λ p. Ran query_of asked_in g.W.Write.contents c.flush_written.new.out c.answer_lines.new.out (setup_of c.args.self.now) (progress_of c.loop-buffer.self) (closed_lines (c.loop-buffer.held.items ++ p)) (progress_of c.answer_lines.new.self)) cut
    (subst (λ (s : Setup). Ran query_of asked_in g.W.Write.contents c.flush_written.new.out c.answer_lines.new.out s (progress_of c.loop-buffer.self)
    (closed_lines (c.loop-buffer.held.items ++ take c.min.result c.read_script.new.piece)) (progress_of c.answer_lines.new.self)) inv.setup c.in_default-answer_lines.ensures.ok.0))

pub loop-buffer-preserved : goal.loop-buffer-preserved
loop-buffer-preserved g c =
    let inv = c.loop-buffer.invariant in
    let so = flushed query_of asked_in (setup_of c.args.self.now) g.R.Read.remaining g.W.Write.contents c.args.script.now c.loop-buffer.script c.args.out.now c.loop-buffer.out c.flush_written.new.out
    (progress_of c.args.self.now) (progress_of c.loop-buffer.self) c.loop-buffer.held.items c.loop-buffer.count inv.so_far (c.flush_written.ensures.taken, c.flush_written.ensures.bytes) in
    let promised = c.in-Ok.ensures in
    let got = take c.in-Ok.read c.read_script.new.piece in
    let all : c.min.result ≡ c.in-Ok.read = c.min.ensures ∙ min_first c.in-Ok.read (c.args.self.now.script_most - c.loop-buffer.count) c.if-read-left.false in
    let P : ℕ → Type 0 = λ n. Ran query_of asked_in g.W.Write.contents c.flush_written.new.out c.answer_lines.new.out (setup_of c.args.self.now) (progress_of c.loop-buffer.self) (closed_lines (c.loop-buffer.held.items ++ take n c.read_script.new.piece)) (progress_of c.answer_lines.new.self)
    × (c.answer_lines.new.held.items ≡ open_line (c.loop-buffer.held.items ++ take n c.read_script.new.piece)) in
    let done : P c.in-Ok.read = subst P all (
      subst (λ (s : Setup). Ran query_of asked_in g.W.Write.contents c.flush_written.new.out c.answer_lines.new.out s (progress_of c.loop-buffer.self)
          (closed_lines (c.loop-buffer.held.items ++ take c.min.result c.read_script.new.piece)) (progress_of c.answer_lines.new.self)) inv.setup c.in_default-answer_lines.ensures.ok.0,
      c.in_default-answer_lines.ensures.ok.1,
    ) in
    record {
      within = omega arith;
      reads = promised.failed;
      writes = c.in_default-answer_lines.ensures.fault;
      going = still_going _ _ _ _ promised.ended inv.going (no_end c.in-Ok.read _ c.if-read-eq0.false);
      reads_early = λ e. promised.after (inv.going ∙ e) ∙ inv.reads_early e;
      early = promised.early ∙ inv.early;
      writes_early = c.answer_lines.ensures.after ∙ (c.flush_written.ensures.after ∙ inv.writes_early);
      setup = c.answer_lines.ensures.setup ∙ inv.setup;
      few = omega (arith, c.answer_lines.ensures.few, inv.few, all, length-take c.min.result c.read_script.new.piece);
      so_far = taken query_of asked_in (setup_of c.args.self.now) g.R.Read.remaining g.W.Write.contents c.args.script.now c.loop-buffer.script c.read_script.new.script c.args.out.now c.flush_written.new.out c.answer_lines.new.out
          (progress_of c.args.self.now) (progress_of c.loop-buffer.self) (progress_of c.answer_lines.new.self) c.loop-buffer.held.items c.answer_lines.new.held.items c.loop-buffer.count c.in-Ok.read got
          so (gave_piece g.R.Read.remaining c.loop-buffer.script c.read_script.new.script got promised.given promised.bytes.0) (sym promised.bound.1) done.0 done.1;
      calls = one_more_call c.args.script.now.calls c.loop-buffer.script.calls c.read_script.new.script.calls c.loop-buffer.count c.in-Ok.read inv.calls promised.calls c.if-read-eq0.false;
    }

pub returns-then-is_empty-clause-output : goal.returns-then-is_empty-clause-output
returns-then-is_empty-clause-output g c =
    let inv = c.loop-buffer.invariant in
    let all = flushed_at_end query_of asked_in (setup_of c.args.self.now) g.R.Read.remaining g.W.Write.contents c.args.script.now c.loop-buffer.script c.read_script.new.script c.args.out.now c.loop-buffer.out c.flush_written.new.out
    (progress_of c.args.self.now) (progress_of c.loop-buffer.self) c.loop-buffer.held.items c.loop-buffer.count c.in-Ok.read c.read_script.new.piece inv.so_far (c.flush_written.ensures.taken, c.flush_written.ensures.bytes) (gave_piece g.R.Read.remaining c.loop-buffer.script c.read_script.new.script (take c.in-Ok.read c.read_script.new.piece) c.in-Ok.ensures.given c.in-Ok.ensures.bytes.0) c.if-read-eq0.true in
    let end = at_end_with_room g.R.Read.remaining c.args.script.now c.read_script.new.script c.loop-buffer.script.ended c.in-Ok.read c.read_script.new.piece c.loop-buffer.buffer c.min-room.result 4095 (c.args.self.now.script_most - c.loop-buffer.count)
    c.requires.reads c.in-Ok.ensures.ended c.in-Ok.ensures.bytes.1 c.if-read-eq0.true c.read_script.auto.piece c.min-room.ensures c.min-room.array_long in
    all_run query_of asked_in (setup_of c.args.self.now) g.R.Read.remaining g.W.Write.contents c.args.script.now c.read_script.new.script c.args.out.now c.flush_written.new.out
    (progress_of c.args.self.now) (progress_of c.loop-buffer.self) c.loop-buffer.held.items c.loop-buffer.count all inv.within end (let none = eqb-true c.loop-buffer.held.len 0 (sym c.if-is_empty.ensures) in omega arith)

pub returns-in-Ok-answer_line-clause-output : goal.returns-in-Ok-answer_line-clause-output
returns-in-Ok-answer_line-clause-output g c =
    let inv = c.loop-buffer.invariant in
    let all = flushed_at_end query_of asked_in (setup_of c.args.self.now) g.R.Read.remaining g.W.Write.contents c.args.script.now c.loop-buffer.script c.read_script.new.script c.args.out.now c.loop-buffer.out c.flush_written.new.out
    (progress_of c.args.self.now) (progress_of c.loop-buffer.self) c.loop-buffer.held.items c.loop-buffer.count c.in-Ok.read c.read_script.new.piece inv.so_far (c.flush_written.ensures.taken, c.flush_written.ensures.bytes) (gave_piece g.R.Read.remaining c.loop-buffer.script c.read_script.new.script (take c.in-Ok.read c.read_script.new.piece) c.in-Ok.ensures.given c.in-Ok.ensures.bytes.0) c.if-read-eq0.true in
    let end = at_end_with_room g.R.Read.remaining c.args.script.now c.read_script.new.script c.loop-buffer.script.ended c.in-Ok.read c.read_script.new.piece c.loop-buffer.buffer c.min-room.result 4095 (c.args.self.now.script_most - c.loop-buffer.count)
    c.requires.reads c.in-Ok.ensures.ended c.in-Ok.ensures.bytes.1 c.if-read-eq0.true c.read_script.auto.piece c.min-room.ensures c.min-room.array_long in
    let ran = c.in-Ok-answer_line.ensures.ran in
    let may = subst (λ (s : Setup). MayAnswer query_of asked_in s (progress_of c.loop-buffer.self) (c.as_slice.result.now ∷ []) ran.0 (progress_of c.answer_line.new.self)) inv.setup ran.1 in
    last_run query_of asked_in (setup_of c.args.self.now) g.R.Read.remaining g.W.Write.contents c.args.script.now c.read_script.new.script c.args.out.now c.flush_written.new.out c.answer_line.new.out
    (progress_of c.args.self.now) (progress_of c.loop-buffer.self) (progress_of c.answer_line.new.self) c.loop-buffer.held.items c.as_slice.result.now ran.0 c.loop-buffer.count all inv.within end
    (not_empty c.loop-buffer.held.items c.as_slice.result.now _ c.if-is_empty.ensures c.as_slice.ensures.value c.as_slice.ensures.len) c.as_slice.ensures.value may ran.2

pub returns-clause-output : goal.returns-clause-output
returns-clause-output g c =
    let inv = c.loop-buffer.invariant in
    let all = flushed_at_end query_of asked_in (setup_of c.args.self.now) g.R.Read.remaining g.W.Write.contents c.args.script.now c.loop-buffer.script c.read_script.new.script c.args.out.now c.loop-buffer.out c.flush_written.new.out
    (progress_of c.args.self.now) (progress_of c.loop-buffer.self) c.loop-buffer.held.items c.loop-buffer.count c.in-Ok.read c.read_script.new.piece inv.so_far (c.flush_written.ensures.taken, c.flush_written.ensures.bytes) (gave_piece g.R.Read.remaining c.loop-buffer.script c.read_script.new.script (take c.in-Ok.read c.read_script.new.piece) c.in-Ok.ensures.given c.in-Ok.ensures.bytes.0) c.if-read-eq0.true in
    let end = at_end_with_room g.R.Read.remaining c.args.script.now c.read_script.new.script c.loop-buffer.script.ended c.in-Ok.read c.read_script.new.piece c.loop-buffer.buffer c.min-room.result 4095 (c.args.self.now.script_most - c.loop-buffer.count)
    c.requires.reads c.in-Ok.ensures.ended c.in-Ok.ensures.bytes.1 c.if-read-eq0.true c.read_script.auto.piece c.min-room.ensures c.min-room.array_long in
    let ran = c.in-Err-answer_line.ensures.ran in
    let may = subst (λ (s : Setup). MayAnswer query_of asked_in s (progress_of c.loop-buffer.self) (c.as_slice.result.now ∷ []) ran.0 (progress_of c.answer_line.new.self)) inv.setup ran.1 in
    last_stopped query_of asked_in (setup_of c.args.self.now) g.R.Read.remaining g.W.Write.contents c.args.script.now c.read_script.new.script c.args.out.now c.flush_written.new.out c.answer_line.new.out
    (progress_of c.args.self.now) (progress_of c.loop-buffer.self) (progress_of c.answer_line.new.self) c.loop-buffer.held.items c.as_slice.result.now ran.0 ran.2.0 c.loop-buffer.count all inv.within end
    (not_empty c.loop-buffer.held.items c.as_slice.result.now _ c.if-is_empty.ensures c.as_slice.ensures.value c.as_slice.ensures.len) c.as_slice.ensures.value may ran.2.1 ran.2.2
