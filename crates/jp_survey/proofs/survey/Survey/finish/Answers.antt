-- The last line ends, and then objects are folded.
use Rattle.jp_survey.specs.Told.{lines_in}
use Rattle.jp_survey.proofs.Lines.{all_counted, told_ends}
use Rattle.jp_survey.proofs.survey.Survey.finish.Goals as goal

pub returns-clause-counted : goal.returns-clause-counted
returns-clause-counted c told h =
    let self = c.args.self.now in let folded = c.fold_objects.ensures in
    all_counted c.fold_objects.result self.fold (lines_in told) c.fold_objects.new.self (folded.seen self.fold (lines_in told) (told_ends self.fold told self.number self.tree (h c.if-self.false))) folded.tree folded.over
