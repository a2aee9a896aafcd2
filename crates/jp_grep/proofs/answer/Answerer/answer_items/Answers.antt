-- Nothing is answered where there are no numbers for all, and else what fails is told.
use Rattle.std.proofs.Common.{Err, refl}
use Rattle.jp_grep.specs.ReadItems.{items_of}
use Rattle.jp_grep.specs.declared.fault.SearchFault.TheVariants as faults
use Rattle.jp_grep.proofs.Advancing.{answers_nothing, only_writers}
use Rattle.jp_grep.proofs.answer.Answerer.answer_items.Goals as goal

pub returns-then-not-has_numbers-clause-answers : goal.returns-then-not-has_numbers-clause-answers
returns-then-not-has_numbers-clause-answers g c =
    answers_nothing c.args.self.question.now c.args.self.form.now g.S.Sink.stands g.S.Sink.stopped g.E.Write.contents c.args.progress.now c.args.sink.now c.args.messages.now (Err faults.Size) (items_of c.args.items) refl

pub returns-clause-answers : goal.returns-clause-answers
returns-clause-answers g c =
    let said = c.answer_each.ensures.answers in
    record {
      outcomes = said.outcomes;
      each = said.each;
      rows = said.rows;
      messages = said.messages;
      progress = said.progress;
      unwritten = only_writers _ c.answer_each.result c.answer_each.ensures.tells.2;
    }
