-- Each byte closes the open line, which is then run, or goes on with it.
use Rattle.std.proofs.Common.{◌≡◌, ◌+◌, ◌++◌, ◌∷◌, [], append-nil, take, get_or, arith, refl, sym, ap, ◌∙◌, subst, if◌then◌else◌}
use Rattle.jp_model.specs.declared.Setup.{Setup}
use Rattle.std.proofs.Math.Seq.{take-append_seam}
use Rattle.jp_devices.proofs.Devices.{received_more}
use Rattle.jp_devices.specs.Devices.{Begins}
use Rattle.jp_cli.proofs.Answering.{begins_within, ran_none, ran_more, ran_answered, stopped_within}
use Rattle.jp_model.proofs.Pieces.{closed_clear, open_clear, later_lines, closed_later, closed_through, closed_at_separator, open_at_separator, closed_at_other, open_at_other}
use Rattle.jp_cli.specs.Runs.{MayAnswer, Ran, progress_of, setup_of}
use Rattle.jp_cli.proofs.Runs.{answer_more}
use Rattle.jp_model.specs.Script.Headline.{BeginsLines, AnsweredInPart}
use Rattle.jp_model.specs.Lines.{closed_lines, open_line}
use Rattle.jp_cli.specs.Commands.{asked_in}
use Rattle.jp_query.specs.Status.{query_of}
use Rattle.jp_cli.proofs.session.Session.answer_lines.Goals as goal
use Rattle.jp_cli.proofs.session.Session.answer_lines.Goals.{then-byte-eq10+in-Ok, else-byte-eq10+else-is_err}

pub loop-byte-init : goal.loop-byte-init
loop-byte-init g c = record {
  working = c.requires.working;
  early = refl;
  setup = refl;
  few = omega arith;
  ran = ran_none query_of asked_in (setup_of c.args.self.now) g.W.Write.contents c.args.out.now _ _ (ap closed_lines (append-nil c.args.held.now.items) ∙ closed_clear 0x0A c.args.held.now.items c.requires.open);
  held = sym (ap open_line (append-nil c.args.held.now.items) ∙ open_clear 0x0A c.args.held.now.items c.requires.open);
}

pub returns-in-Err-clause-err : goal.returns-in-Err-clause-err
returns-in-Err-clause-err g c =
    let ran = c.in-Err.ensures.ran in
    let i = c.loop-byte.byte-index in
    let before = c.args.held.now.items in
    let piece = c.args.piece.now in
    let line = c.as_slice.result.now in
    let e = closed_through 0x0A before piece i line c.loop-byte-test.true c.if-byte-eq10.true (c.as_slice.ensures.value ∙ c.loop-byte.invariant.held) in
    let first = closed_lines (before ++ take i piece) in
    let so_far = c.loop-byte.invariant.ran in
    let may = subst (λ (s : Setup). MayAnswer query_of asked_in s (progress_of c.loop-byte.self) (line ∷ []) ran.0 (progress_of c.answer_line.new.self)) c.loop-byte.invariant.setup ran.1 in (
      subst (AnsweredInPart query_of asked_in g.W.Write.contents c.args.out.now c.answer_line.new.out (setup_of c.args.self.now) c.args.self.now.store.state) (sym e)
          (stopped_within query_of asked_in (setup_of c.args.self.now) g.W.Write.contents c.args.out.now c.loop-byte.out c.answer_line.new.out (progress_of c.args.self.now) (progress_of c.loop-byte.self) (progress_of c.answer_line.new.self)
          (closed_lines (before ++ take i piece)) (line ∷ []) (later_lines 0x0A before piece (i + 1)) ran.0 ran.2.0
          c.loop-byte.invariant.ran may ran.2.1 ran.2.2),
      (
        first ++ line ∷ [],
        (later_lines 0x0A before piece (i + 1), e),
        so_far.0 ++ ran.0,
        answer_more query_of asked_in (setup_of c.args.self.now) (progress_of c.args.self.now) (progress_of c.loop-byte.self) (progress_of c.answer_line.new.self) first (line ∷ []) so_far.0 ran.0 so_far.1 may,
        so_far.0 ++ ran.2.0,
        subst (Begins (so_far.0 ++ ran.2.0)) (append-nil (so_far.0 ++ ran.0)) (begins_within so_far.0 ran.2.0 ran.0 [] ran.2.1),
        received_more g.W.Write.contents c.args.out.now c.loop-byte.out c.answer_line.new.out so_far.0 ran.2.0 so_far.2 ran.2.2,
      ),
    )

pub returns-then-is_err-clause-err : goal.returns-then-is_err-clause-err
returns-then-is_err-clause-err g c =
    let i = c.loop-byte.byte-index in
    let before = c.args.held.now.items in
    let piece = c.args.piece.now in
    let so_far = c.loop-byte.invariant.ran in
    let begins : BeginsLines (closed_lines (before ++ take i piece)) (closed_lines (before ++ piece)) = (later_lines 0x0A before piece i, closed_later 0x0A before piece i) in (
      (
        closed_lines (before ++ take i piece),
        begins,
        ran_answered query_of asked_in (setup_of c.args.self.now) g.W.Write.contents c.args.out.now c.loop-byte.out (progress_of c.args.self.now) (progress_of c.loop-byte.self) (closed_lines (before ++ take i piece)) so_far,
      ),
      (closed_lines (before ++ take i piece), begins, so_far.0, so_far.1, so_far.0, subst (Begins so_far.0) (append-nil so_far.0) (take-append_seam so_far.0 []), so_far.2),
    )

pub loop-byte-preserved : goal.loop-byte-preserved
loop-byte-preserved g c =
    let i = c.loop-byte.byte-index in
    let before = c.args.held.now.items in
    let piece = c.args.piece.now in
    let first = closed_lines (before ++ take i piece) in
    elim c.if-byte-eq10.branch [
      | then-byte-eq10+in-Ok w ↦
          let ran = w.in-Ok.ensures.ran in
          let line = w.as_slice.result.now in
          let may = subst (λ (s : Setup). MayAnswer query_of asked_in s (progress_of c.loop-byte.self) (line ∷ []) ran.0 (progress_of w.answer_line.new.self)) c.loop-byte.invariant.setup ran.1 in
          let is_open = w.as_slice.ensures.value ∙ c.loop-byte.invariant.held in
          let e : closed_lines (before ++ take (i + 1) piece) ≡ first ++ line ∷ [] =
          closed_at_separator 0x0A before piece i c.loop-byte-test.true w.if-byte-eq10.true ∙ ap (λ o. first ++ o ∷ []) (sym is_open) in
          rw (w.out-is, w.held-is, w.self-is) (record {
            working = w.in-Ok.ensures.fault;
            early = w.answer_line.ensures.after ∙ c.loop-byte.invariant.early;
            setup = w.answer_line.ensures.setup ∙ c.loop-byte.invariant.setup;
            few = omega (arith, w.answer_line.ensures.few, c.loop-byte.invariant.few);
            ran = subst (λ l. Ran query_of asked_in g.W.Write.contents c.args.out.now w.answer_line.new.out (setup_of c.args.self.now) (progress_of c.args.self.now) l (progress_of w.answer_line.new.self)) (sym e)
                (ran_more query_of asked_in (setup_of c.args.self.now) g.W.Write.contents c.args.out.now c.loop-byte.out w.answer_line.new.out (progress_of c.args.self.now) (progress_of c.loop-byte.self) (progress_of w.answer_line.new.self)
                first (line ∷ []) c.loop-byte.invariant.ran (ran.0, may, ran.2));
            held = w.clear.ensures.items ∙ sym (open_at_separator 0x0A before piece i c.loop-byte-test.true w.if-byte-eq10.true);
          })
      | else-byte-eq10+else-is_err w ↦
          rw (w.out-is, w.held-is, w.self-is) (record {
            working = c.loop-byte.invariant.working;
            early = c.loop-byte.invariant.early;
            setup = c.loop-byte.invariant.setup;
            few = omega (arith, c.loop-byte.invariant.few);
            ran = subst (λ l. Ran query_of asked_in g.W.Write.contents c.args.out.now c.loop-byte.out (setup_of c.args.self.now) (progress_of c.args.self.now) l (progress_of c.loop-byte.self))
                (sym (closed_at_other 0x0A before piece i c.loop-byte-test.true w.if-byte-eq10.false)) c.loop-byte.invariant.ran;
            held = (w.push.ensures.items ∙ ap (λ b. if b then (c.loop-byte.held.items ++ get_or piece i 0 ∷ []) else c.loop-byte.held.items) w.if-is_err.ensures.negation)
                ∙ ap (λ l. l ++ get_or piece i 0 ∷ []) c.loop-byte.invariant.held
                ∙ sym (open_at_other 0x0A before piece i c.loop-byte-test.true w.if-byte-eq10.false);
          })
    ]
