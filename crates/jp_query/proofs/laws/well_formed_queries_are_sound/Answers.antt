use Rattle.jp_query.proofs.SoundNumbers.{well_formed_sound}
use Rattle.jp_query.proofs.laws.well_formed_queries_are_sound.Goals as goal

pub returns : goal.returns
returns c = well_formed_sound
