use Rattle.jp_laws.proofs.WayBack.{row_spelled, row_sound, row_status, way_back}
use Rattle.jp_laws.proofs.paths.a_row_leads_back_to_its_node.Goals as goal

pub returns-clause-spelled : goal.returns-clause-spelled
returns-clause-spelled c = row_spelled

pub returns-clause-sound : goal.returns-clause-sound
returns-clause-sound c = row_sound

pub returns-clause-status : goal.returns-clause-status
returns-clause-status c = row_status

pub returns-clause-selects : goal.returns-clause-selects
returns-clause-selects c = λ t d n w. way_back t n d w
