use Rattle.jp_paint.proofs.Sequences.{comes_off}
use Rattle.jp_paint.proofs.laws.colours_come_off.Goals as goal

pub returns : goal.returns
returns c = comes_off
