use Rattle.jp_laws.proofs.CutPieces.{joined_again, all_clear, lines_again, sequence_again}
use Rattle.jp_laws.proofs.cutting.cutting_is_undone_by_joining.Goals as goal

pub returns-clause-joined : goal.returns-clause-joined
returns-clause-joined c = joined_again

pub returns-clause-clear : goal.returns-clause-clear
returns-clause-clear c = all_clear

pub returns-clause-lines : goal.returns-clause-lines
returns-clause-lines c = lines_again

pub returns-clause-sequence : goal.returns-clause-sequence
returns-clause-sequence c = sequence_again
