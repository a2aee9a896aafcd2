use Rattle.std.proofs.Common.{◌+◌, get_or, rules}
use Rattle.jp_iregexp.specs.Words.{word_of}
use Rattle.jp_iregexp.proofs.Bits.{some_bit, word_kept}
use Rattle.jp_iregexp.proofs.positions.PositionSet.has_any.Goals as goal

pub returns-then-word-ne0-clause-some : goal.returns-then-word-ne0-clause-some
returns-then-word-ne0-clause-some c =
    let set = c.args.self.now in
    let i = c.loop-word.word-index in
    let some = c.if-word-ne0.true in
    λ _. some_bit (word_of set.first set.words.items) (set.first + i) (get_or set.words.items i 0) (search rules) (search rules) (word_kept set.first set.words.items i)
