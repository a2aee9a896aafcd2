-- By what it has.
use Rattle.jp_table.proofs.Telling.{kind_leads_back}
use Rattle.jp_table.proofs.laws.kinds_lead_back.Goals as goal

pub returns : goal.returns
returns c = kind_leads_back
