-- The bytes come alone, or between the sequences of a colour.
use Rattle.std.proofs.Common.{◌∙◌, ◌++◌, Bool, append_assoc, ap, sym, subst}
use Rattle.jp_paint.specs.Colours.{painted, start_of, stop}
use Rattle.jp_grep.specs.Telling.{PutsText}
use Rattle.jp_grep.proofs.telling.then_paint.Goals as goal

pub returns-then-not-coloured : goal.returns-then-not-coloured
returns-then-not-coloured g c = (
  (λ start text put.
      subst (λ t. PutsText g.S.Sink.stands g.S.Sink.stopped start c.then_tell.new.sink c.then_tell.result t)
      (ap (λ (b : Bool). text ++ painted b c.args.part c.args.bytes.now) (sym c.if-not-coloured.true)) (c.then_tell.ensures.0 start text put)),
  c.then_tell.ensures.1,
  c.then_tell.ensures.2,
)

pub returns : goal.returns
returns g c =
    let begin = start_of c.args.part in
    let bytes = c.args.bytes.now in (
      (λ start text put.
          subst (λ t. PutsText g.S.Sink.stands g.S.Sink.stopped start c.then_tell-2.new.sink c.then_tell-2.result t)
          (ap (λ s. ((text ++ s) ++ bytes) ++ c.stop.result.now) c.start.ensures ∙ ap (λ e. ((text ++ begin) ++ bytes) ++ e) c.stop.ensures
          ∙ append_assoc (text ++ begin) bytes stop ∙ append_assoc text begin (bytes ++ stop)
          ∙ ap (λ (b : Bool). text ++ painted b c.args.part bytes) (sym c.if-not-coloured.false))
          (c.then_tell-2.ensures.0 start _ (c.then_tell-told.ensures.0 start _ (c.then_tell-begun.ensures.0 start text put)))),
      c.then_tell-2.ensures.1,
      (c.then_tell-2.ensures.2.0 ∙ c.then_tell-told.ensures.2.0 ∙ c.then_tell-begun.ensures.2.0, c.then_tell-2.ensures.2.1 ∙ c.then_tell-told.ensures.2.1 ∙ c.then_tell-begun.ensures.2.1),
    )
