use Rattle.jp_laws.proofs.LineTexts.{status_on}
use Rattle.jp_laws.proofs.cutting.lines_are_texts_of_sequences.Goals as goal

pub returns : goal.returns
returns c = status_on
