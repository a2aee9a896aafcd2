-- Cell by cell.
use Rattle.jp_table.proofs.Cells.{row_leads_back}
use Rattle.jp_table.proofs.laws.rows_lead_back_to_their_cells.Goals as goal

pub returns : goal.returns
returns c = row_leads_back
