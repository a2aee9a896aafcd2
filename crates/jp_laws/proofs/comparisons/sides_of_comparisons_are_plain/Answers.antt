use Rattle.jp_laws.proofs.PlainSides.{sides_plain}
use Rattle.jp_laws.proofs.comparisons.sides_of_comparisons_are_plain.Goals as goal

pub returns : goal.returns
returns c = sides_plain
