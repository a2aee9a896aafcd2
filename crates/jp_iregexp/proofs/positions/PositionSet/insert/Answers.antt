use Rattle.jp_iregexp.specs.Words.{word_of}
use Rattle.jp_iregexp.proofs.Bits.{one_same, one_old, one_new}
use Rattle.jp_iregexp.proofs.positions.PositionSet.insert.Goals as goal

pub returns-clause-same : goal.returns-clause-same
returns-clause-same c =
    let old = c.args.self.now in
    let new = c.add_word.new.self in
    one_same (word_of old.first old.words.items) (word_of new.first new.words.items) c.args.p c.in_ok-add_word.ensures.at c.in_ok-add_word.ensures.rest

pub returns-clause-old : goal.returns-clause-old
returns-clause-old c =
    let old = c.args.self.now in
    let new = c.add_word.new.self in
    one_old (word_of old.first old.words.items) (word_of new.first new.words.items) c.args.p c.in_ok-add_word.ensures.at c.in_ok-add_word.ensures.rest

pub returns-clause-new : goal.returns-clause-new
returns-clause-new c =
    let old = c.args.self.now in
    let new = c.add_word.new.self in
    one_new (word_of old.first old.words.items) (word_of new.first new.words.items) c.args.p c.in_ok-add_word.ensures.at c.in_ok-add_word.ensures.rest
