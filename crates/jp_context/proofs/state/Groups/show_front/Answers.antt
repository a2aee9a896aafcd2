-- A row that is kept was not written whole.
use Rattle.std.proofs.Common.{◌∙◌, ◌++◌, ℕ, List, Global, Vec, Err, ap, subst}
use Rattle.jp_context.specs.Groups.{separator}
use Rattle.jp_context.specs.Steps.{kept_texts, show_front}
use Rattle.jp_context.proofs.Kept.{texts_of}
use Rattle.jp_context.proofs.Showing.{front_stops}
use Rattle.jp_context.proofs.state.Groups.show_front.Goals as goal
use Rattle.jp_sink.specs.Texts.{WritesOn, written}

pub returns-in_err-show-clause-written : goal.returns-in_err-show-clause-written
returns-in_err-show-clause-written g c =
    let first = c.args.self.now in let at = c.loop-row.self in let mid = c.loop-row.text in let to = c.show.new.text in let fault = c.in_err-show.field-0.0 in
    front_stops c.args.text.now mid to c.from_residual.result fault at.layout.coloured at.shown c.in-Some.row.items (texts_of c.pop_front.new.self.items)
    (show_front first.layout.coloured first.shown (kept_texts first)) c.from_residual.ensures.1
    (c.loop-row.invariant.shows ∙ ap (λ (rows : List (Vec ℕ Global)). written mid ++ show_front at.layout.coloured at.shown (texts_of rows)) c.in-Some.ensures.items)
    (subst (λ (t : List ℕ). WritesOn {A = Unit {0}} mid to (Err fault) (separator at.layout.coloured at.shown ++ t)) c.deref.ensures.value c.in_err-show.ensures.written)
