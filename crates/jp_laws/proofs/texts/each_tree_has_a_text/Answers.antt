use Rattle.jp_laws.proofs.JsonShapes.{status_sayable}
use Rattle.jp_laws.proofs.PlainStatuses.{line_status, sequence_status}
use Rattle.jp_laws.proofs.texts.each_tree_has_a_text.Goals as goal

pub returns-clause-line : goal.returns-clause-line
returns-clause-line c = line_status

pub returns-clause-sequence : goal.returns-clause-sequence
returns-clause-sequence c = sequence_status

pub returns-clause-only : goal.returns-clause-only
returns-clause-only c = status_sayable
