use Rattle.jp_paint.proofs.Sequences.{plain_stays, joined_paints}
use Rattle.jp_paint.proofs.laws.painted_texts_join.Goals as goal

pub returns : goal.returns
returns c = (plain_stays, joined_paints)
