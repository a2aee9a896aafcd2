use Rattle.jp_laws.proofs.RowFields.{row_fields, row_line, row_sequence}
use Rattle.jp_laws.proofs.rows.rows_can_be_read_apart.Goals as goal

pub returns-clause-fields : goal.returns-clause-fields
returns-clause-fields c = row_fields

pub returns-clause-lines : goal.returns-clause-lines
returns-clause-lines c = row_line

pub returns-clause-sequence : goal.returns-clause-sequence
returns-clause-sequence c = row_sequence
