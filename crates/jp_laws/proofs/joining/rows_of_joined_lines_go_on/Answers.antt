use Rattle.jp_laws.proofs.JoinedParts.{rows_go_on}
use Rattle.jp_laws.proofs.joining.rows_of_joined_lines_go_on.Goals as goal

pub returns : goal.returns
returns c = rows_go_on
