use Rattle.jp_cut.proofs.TextsLaw.{texts_laid_out}
use Rattle.jp_cut.proofs.laws.texts_are_the_stream.Goals as goal

pub returns : goal.returns
returns c = texts_laid_out
