-- The part comes after what was told.
use Rattle.std.proofs.Common.{◌∙◌, ◌∷◌, [], true, ap, refl, subst, inr}
use Rattle.std.specs.Prelude.{is_err}
use Rattle.jp_sink.specs.Events.{row_event}
use Rattle.jp_grep.specs.Telling.{PutsText}
use Rattle.jp_grep.proofs.Parts.{part_left, part_told, part_untold, stops_of}
use Rattle.jp_grep.proofs.telling.then_tell.Goals as goal

pub returns-in-Ok-row : goal.returns-in-Ok-row
returns-in-Ok-row g c = (
  (λ start text put.
      part_told g.S.Sink.stands g.S.Sink.stopped start c.args.sink.now c.row.new.self text c.args.part.now
      (subst (λ r. PutsText g.S.Sink.stands g.S.Sink.stopped start c.args.sink.now r text) c.in-Ok.is put) c.in-Ok-row.ensures.told),
  c.in-Ok-row.ensures.state.0,
  (c.in-Ok-row.ensures.state.1, c.in-Ok-row.ensures.state.2),
)

pub returns-in-Err-row : goal.returns-in-Err-row
returns-in-Err-row g c =
    let events = row_event true c.args.part.now ∷ [] in
    let stops = stops_of g.S.Sink.stands g.S.Sink.stopped c.args.sink.now c.row.new.self events c.in-Err-row.field-0 (c.in-Err-row.ensures.fault refl) c.in-Err-row.ensures.told in (
      (λ start text put.
          part_untold g.S.Sink.stands g.S.Sink.stopped start c.args.sink.now c.row.new.self text c.args.part.now
          (subst (λ r. PutsText g.S.Sink.stands g.S.Sink.stopped start c.args.sink.now r text) c.in-Ok.is put) (inr stops)),
      c.in-Err-row.ensures.state.0 ∙ c.in-Err-row.ensures.fault refl,
      (c.in-Err-row.ensures.state.1, c.in-Err-row.ensures.state.2),
    )

pub returns-in-Err : goal.returns-in-Err
returns-in-Err g c = (
  (λ start text put.
      part_left g.S.Sink.stands g.S.Sink.stopped start c.args.sink.now text c.args.part.now
      (subst (λ r. PutsText g.S.Sink.stands g.S.Sink.stopped start c.args.sink.now r text) c.in-Err.is put)),
  c.requires.working ∙ ap is_err c.in-Err.is,
  (refl, refl),
)
