-- The pieces are those that are noted, or there is no memory for them.
use Rattle.std.proofs.Common.{◌≡◌, ◌∙◌, ℕ, List, All, OnOk, Result, Ok, Err, ap, ap₂, refl, false, true, Bool, map, subst, sym, zip}
use Rattle.std.specs.Prelude.{is_err}
use Rattle.std.proofs.lemmas.List.Elements.{All-map}
use Rattle.jp_model.specs.declared.Span.{Span}
use Rattle.jp_cut.specs.declared.cutter.PieceAt.{PieceAt}
use Rattle.jp_lines.specs.Batches.{IsSpanOf, text_at}
use Rattle.jp_grep.specs.Finding.{span_of}
use Rattle.jp_grep.specs.Items.{Item}
use Rattle.jp_grep.specs.ReadItems.{piece_text, piece_with}
use Rattle.jp_grep.specs.Searching.{Answers}
use Rattle.jp_grep.specs.Sizes.{TellsOfNumbers}
use Rattle.jp_grep.specs.declared.fault.SearchFault.TheVariants as faults
use Rattle.jp_grep.proofs.Advancing.{answers_nothing}
use Rattle.jp_grep.proofs.Noted.{texts_at, zipped}
use Rattle.jp_grep.proofs.answering.Answering.answer_noted.Goals as goal

-- what is so at Ok is so where there is no error
at_ok : {A E : Type 0} (P : Type 0) (r : Result A E) (b : Bool) → b ≡ is_err r → b ≡ false → OnOk r P → P
at_ok P (Ok x) b e f p = p
at_ok P (Err y) b e f p = absurd (apart (sym f ∙ e))
  where
    apart : false ≡ true → ⊥
    apart h = cc

pub read_texts-requires-clause-within : goal.read_texts-requires-clause-within
read_texts-requires-clause-within g c =
    let pieces = c.args.cutting.now.pieces.items in
    let held = c.args.cutting.now.cutter.held.items in
    let listed = at_ok (c.list_spans.new.spans.items ≡ map span_of c.deref.result.now) c.list_spans.result c.is_err.result c.is_err.ensures.value c.if-is_err.false c.list_spans.ensures
    ∙ ap (map span_of) c.deref.ensures.value in
    let all : All (IsSpanOf held) (map span_of pieces) = All-map (IsSpanOf held) span_of pieces (λ k d l. let is = c.requires.held k d l in (is.order, is.within)) in
    subst (λ (h : List ℕ). All (IsSpanOf h) c.deref-2.result.now) (sym c.held.ensures) (subst (λ (s : List Span). All (IsSpanOf held) s) (sym (c.deref-2.ensures.value ∙ listed)) all)

pub returns-then-is_err-clause-answers : goal.returns-then-is_err-clause-answers
returns-then-is_err-clause-answers g c =
    answers_nothing c.args.answerer.question.now c.args.answerer.form.now g.S.Sink.stands g.S.Sink.stopped g.E.Write.contents c.args.self.now.progress c.args.sink.now c.args.messages.now (Err faults.Memory) _ refl

pub returns-in_default-clause-answers : goal.returns-in_default-clause-answers
returns-in_default-clause-answers g c =
    answers_nothing c.args.answerer.question.now c.args.answerer.form.now g.S.Sink.stands g.S.Sink.stopped g.E.Write.contents c.args.self.now.progress c.args.sink.now c.args.messages.now (Err faults.Memory) _ refl

pub returns-clause-answers : goal.returns-clause-answers
returns-clause-answers g c =
    let pieces = c.args.cutting.now.pieces.items in
    let held = c.args.cutting.now.cutter.held.items in
    let listed = at_ok (c.list_spans.new.spans.items ≡ map span_of c.deref.result.now) c.list_spans.result c.is_err.result c.is_err.ensures.value c.if-is_err.false c.list_spans.ensures
    ∙ ap (map span_of) c.deref.ensures.value in
    let texts = c.in-Ok.ensures.texts ∙ ap₂ (λ (h : List ℕ) (s : List Span). map (text_at h) s) c.held.ensures (c.deref-2.ensures.value ∙ listed) ∙ texts_at held pieces in
    subst (λ (items : List Item). Answers g.S.Sink.stands g.S.Sink.stopped g.E.Write.contents c.args.answerer.question.now c.args.answerer.form.now c.args.self.now.progress c.answer_items.new.progress
    c.args.sink.now c.answer_items.new.sink c.args.messages.now c.answer_items.new.messages c.answer_items.result items)
    (c.of_pieces-items.ensures.items ∙ ap₂ (λ (ts : List (List ℕ)) (ps : List PieceAt). map piece_with (zip ts ps)) texts c.deref-3.ensures.value ∙ zipped (piece_text held) pieces) c.answer_items.ensures.answers

pub returns-clause-size : goal.returns-clause-size
returns-clause-size g c =
    let pieces = c.args.cutting.now.pieces.items in
    let held = c.args.cutting.now.cutter.held.items in
    let listed = at_ok (c.list_spans.new.spans.items ≡ map span_of c.deref.result.now) c.list_spans.result c.is_err.result c.is_err.ensures.value c.if-is_err.false c.list_spans.ensures
    ∙ ap (map span_of) c.deref.ensures.value in
    let texts = c.in-Ok.ensures.texts ∙ ap₂ (λ (h : List ℕ) (s : List Span). map (text_at h) s) c.held.ensures (c.deref-2.ensures.value ∙ listed) ∙ texts_at held pieces in
    subst (λ (items : List Item). TellsOfNumbers c.answer_items.result c.args.self.now.progress items)
    (c.of_pieces-items.ensures.items ∙ ap₂ (λ (ts : List (List ℕ)) (ps : List PieceAt). map piece_with (zip ts ps)) texts c.deref-3.ensures.value ∙ zipped (piece_text held) pieces) c.answer_items.ensures.size
