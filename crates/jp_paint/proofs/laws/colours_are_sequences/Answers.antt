use Rattle.jp_paint.proofs.Sequences.{painted_paints, marked_paints}
use Rattle.jp_paint.proofs.laws.colours_are_sequences.Goals as goal

pub returns : goal.returns
returns c = (painted_paints, marked_paints)
