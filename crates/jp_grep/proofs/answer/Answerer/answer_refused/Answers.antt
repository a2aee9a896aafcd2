-- Nothing is told of the line, or its row, or it is given up.
use Rattle.std.proofs.Common.{Some}
use Rattle.jp_grep.proofs.Putting.{none_put}
use Rattle.jp_grep.proofs.answer.Answerer.answer_refused.Goals as goal

pub returns-in_default-clause-answers : goal.returns-in_default-clause-answers
returns-in_default-clause-answers g c =
    record {
      given_up = Some 0;
      rows = none_put g.S.Sink.stands g.S.Sink.stopped c.args.sink.now;
      verdict = record { selected = c.of_given_up.ensures.selected; refused = c.of_given_up.ensures.refused; given_up = c.of_given_up.ensures.given_up };
    }
