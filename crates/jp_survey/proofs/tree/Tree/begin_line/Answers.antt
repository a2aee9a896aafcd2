-- A line begins with no node.
use Rattle.jp_survey.proofs.Begun.{line_begins}
use Rattle.jp_survey.proofs.tree.Tree.begin_line.Goals as goal

pub returns-clause-begun : goal.returns-clause-begun
returns-clause-begun c fold lines was =
    line_begins fold lines c.make_room.new.self c.in_ok-line.line c.in_ok-line.ensures (c.in_ok-make_room.ensures.seen fold lines was)
