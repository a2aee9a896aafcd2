use Rattle.jp_iregexp.specs.Words.{word_of}
use Rattle.jp_iregexp.proofs.Bits.{or_none}
use Rattle.jp_iregexp.proofs.positions.PositionSet.add_word.Goals as goal

pub returns-then-bits-eq0-clause-at : goal.returns-then-bits-eq0-clause-at
returns-then-bits-eq0-clause-at c = or_none (word_of c.args.self.now.first c.args.self.now.words.items c.args.w) c.args.bits c.if-bits-eq0.true
