-- By the parts at the front.
use Rattle.jp_table.proofs.Grammar.{numbers_are_spelled}
use Rattle.jp_table.proofs.laws.numbers_are_spelled.Goals as goal

pub returns : goal.returns
returns c = numbers_are_spelled
