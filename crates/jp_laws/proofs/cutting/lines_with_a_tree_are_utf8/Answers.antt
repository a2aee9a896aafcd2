use Rattle.jp_laws.proofs.Utf8Lines.{text_utf8}
use Rattle.jp_laws.proofs.cutting.lines_with_a_tree_are_utf8.Goals as goal

pub returns : goal.returns
returns c = text_utf8
