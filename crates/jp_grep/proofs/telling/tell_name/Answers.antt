-- The name, and a NUL or other bytes after it.
use Rattle.std.proofs.Common.{◌∙◌, ◌++◌, [], ◌∷◌, List, ℕ, Bool, ap, sym, subst}
use Rattle.jp_paint.specs.Colours.{painted}
use Rattle.jp_paint.specs.declared.part.Part.TheVariants as parts
use Rattle.jp_grep.specs.Rows.{behind_name}
use Rattle.jp_grep.specs.Telling.{PutsText}
use Rattle.jp_grep.proofs.Parts.{no_text}
use Rattle.jp_grep.proofs.telling.tell_name.Goals as goal

pub returns-then-form : goal.returns-then-form
returns-then-form g c =
    let f = c.args.form.now in
    let sign = painted c.args.coloured_sign parts.Sign c.args.other.now in
    let named = c.then_paint-named.ensures.0 c.args.sink.now [] (no_text g.S.Sink.stands g.S.Sink.stopped c.args.sink.now) in (
      subst (λ t. PutsText g.S.Sink.stands g.S.Sink.stopped c.args.sink.now c.then_tell.new.sink c.then_tell.result t)
          (ap (λ (name : List ℕ). painted f.coloured parts.Name name ++ 0x00 ∷ []) c.as_bytes.ensures.value ∙ ap (λ (null : Bool). painted f.coloured parts.Name f.name.now ++ behind_name null sign) (sym c.if-form.true))
          (c.then_tell.ensures.0 c.args.sink.now _ named),
      c.then_tell.ensures.1,
      (c.then_tell.ensures.2.0 ∙ c.then_paint-named.ensures.2.0, c.then_tell.ensures.2.1 ∙ c.then_paint-named.ensures.2.1),
    )

pub returns : goal.returns
returns g c =
    let f = c.args.form.now in
    let sign = painted c.args.coloured_sign parts.Sign c.args.other.now in
    let named = c.then_paint-named.ensures.0 c.args.sink.now [] (no_text g.S.Sink.stands g.S.Sink.stopped c.args.sink.now) in (
      subst (λ t. PutsText g.S.Sink.stands g.S.Sink.stopped c.args.sink.now c.then_paint.new.sink c.then_paint.result t)
          (ap (λ (name : List ℕ). painted f.coloured parts.Name name ++ sign) c.as_bytes.ensures.value ∙ ap (λ (null : Bool). painted f.coloured parts.Name f.name.now ++ behind_name null sign) (sym c.if-form.false))
          (c.then_paint.ensures.0 c.args.sink.now _ named),
      c.then_paint.ensures.1,
      (c.then_paint.ensures.2.0 ∙ c.then_paint-named.ensures.2.0, c.then_paint.ensures.2.1 ∙ c.then_paint-named.ensures.2.1),
    )
