-- The node is counted in its line.
use Rattle.std.proofs.lemmas.Result.{on_ok_weaker}
use Rattle.jp_survey.specs.Told.{line_so_far, lines_before}
use Rattle.jp_survey.proofs.survey.count_node.Goals as goal

pub returns-clause-told : goal.returns-clause-told
returns-clause-told c fold told h =
    on_ok_weaker c.count_node.result (λ begun. (c.in_ok-go_on.ensures.number, begun))
    (c.count_node.ensures.begun fold (lines_before told c.args.next) (line_so_far told c.args.next) (c.in_ok-go_on.ensures.begun fold told h))
