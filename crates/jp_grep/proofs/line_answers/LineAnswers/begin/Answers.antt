-- Where nothing is answered, all that is answered is right.
use Rattle.std.proofs.Common.{◌≡◌, arith, length, subst}
use Rattle.std.proofs.lemmas.Bool.{false≢true}
use Rattle.std.proofs.lemmas.Result.{on_ok_weaker}
use Rattle.jp_grep.specs.LineAnswers.{HasBegun, KnowsCondition, KnowsQuery}
use Rattle.jp_grep.proofs.Knowing.{none_known, none_of_condition, none_of_query}
use Rattle.jp_grep.proofs.line_answers.LineAnswers.begin.Goals as goal

pub returns : goal.returns
returns c = λ line.
    let question = c.args.question.now in
    let conditions : c.len.result ≡ length question.conditions.items = omega (arith, c.len.ensures, question.conditions.ok.0) in
    let queries : c.len-2.result ≡ length question.queries.items = omega (arith, c.len-2.ensures, question.queries.ok.0) in
    on_ok_weaker c.begin-2.result
    (λ begun. record {
      conditions = none_known (KnowsCondition line) question.conditions.items c.begin.new.answers.items (none_of_condition line)
          (subst (λ n. HasBegun n c.begin.new.answers.items) conditions c.in_ok-begin.ensures);
      queries = none_known (KnowsQuery line) question.queries.items c.begin-2.new.answers.items (none_of_query line)
          (subst (λ n. HasBegun n c.begin-2.new.answers.items) queries begun);
      members = λ is. absurd (false≢true is);
    })
    c.begin-2.ensures
