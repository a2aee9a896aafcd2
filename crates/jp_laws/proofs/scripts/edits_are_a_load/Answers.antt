use Rattle.jp_laws.proofs.CutPieces.{lines_of}
use Rattle.jp_laws.proofs.Runs.{loads_again}
use Rattle.jp_laws.proofs.scripts.edits_are_a_load.Goals as goal

pub returns-clause-texts : goal.returns-clause-texts
returns-clause-texts c = lines_of

pub returns-clause-scripts : goal.returns-clause-scripts
returns-clause-scripts c = loads_again
