use Rattle.jp_cut_laws.proofs.Arrays.{elements_are_pieces_of}
use Rattle.jp_cut_laws.proofs.laws.elements_are_pieces.Goals as goal

pub returns : goal.returns
returns c = elements_are_pieces_of
