use Rattle.jp_cut.specs.Holding.{uncut_len}
use Rattle.jp_cut.proofs.tests.take_pieces.Given as goal

abbrev pub decreases-pieces : goal.decreases-pieces
decreases-pieces l = uncut_len l.cutter
