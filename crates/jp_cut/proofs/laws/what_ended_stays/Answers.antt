use Rattle.jp_cut.proofs.TextsLaw.{ended_stays}
use Rattle.jp_cut.proofs.laws.what_ended_stays.Goals as goal

pub returns : goal.returns
returns c = ended_stays
