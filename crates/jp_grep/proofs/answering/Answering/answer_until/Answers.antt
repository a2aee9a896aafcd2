-- The lines are those of the text, or there is no memory for them.
use Rattle.std.proofs.Common.{◌∙◌, ℕ, List, Err, ap, ap₂, map, refl, subst}
use Rattle.jp_model.specs.declared.Framing.{Framing}
use Rattle.jp_masks.specs.Found.{lines_in}
use Rattle.jp_grep.specs.Items.{Item, line_item}
use Rattle.jp_grep.specs.Searching.{Answers}
use Rattle.jp_grep.specs.declared.fault.SearchFault.TheVariants as faults
use Rattle.jp_grep.proofs.Advancing.{answers_nothing}
use Rattle.jp_grep.proofs.answering.Answering.answer_until.Goals as goal

pub returns-in_default-clause-answers : goal.returns-in_default-clause-answers
returns-in_default-clause-answers g c =
    answers_nothing c.args.answerer.question.now c.args.answerer.form.now g.S.Sink.stands g.S.Sink.stopped g.E.Write.contents c.args.self.now.progress c.args.sink.now c.args.messages.now (Err faults.Memory) _ refl

pub returns-clause-answers : goal.returns-clause-answers
returns-clause-answers g c =
    let read = c.in-Ok.ensures in
    let texts = read.lines ∙ ap (lines_in c.args.stream.now.framing) c.text_until-text.ensures in
    subst (λ (items : List Item). Answers g.S.Sink.stands g.S.Sink.stopped g.E.Write.contents c.args.answerer.question.now c.args.answerer.form.now c.args.self.now.progress c.answer_items.new.progress
    c.args.sink.now c.answer_items.new.sink c.args.messages.now c.answer_items.new.messages c.answer_items.result items)
    (c.of_lines-lines.ensures.items ∙ ap₂ (λ (f : Framing) (ls : List (List ℕ)). map (line_item f) ls) read.read.1 texts) c.answer_items.ensures.answers
