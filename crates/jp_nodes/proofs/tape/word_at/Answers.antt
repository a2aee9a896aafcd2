use Rattle.std.proofs.Common.{◌∙◌, ◌+◌, ◌*◌, get_or, sym, ap}
use Rattle.jp_nodes.proofs.Unpacking.{compact_is, medium_is, compact_within, medium_within}
use Rattle.jp_nodes.proofs.tape.word_at.Goals as goal

pub compact_word_at-requires-clause-within : goal.compact_word_at-requires-clause-within
compact_word_at-requires-clause-within c = compact_within c.args.bits c.args.place c.args.words.now c.if-bits-eq-COMPACT.true c.requires.within

pub returns-then-bits-eq-COMPACT : goal.returns-then-bits-eq-COMPACT
returns-then-bits-eq-COMPACT c =
    let is = compact_is c.args.bits c.args.words.now c.if-bits-eq-COMPACT.true in
    c.compact_word_at.ensures ∙ ap (λ w. get_or w (3 * c.args.place + c.args.index) 0) (sym is)

pub medium_word_at-requires-clause-within : goal.medium_word_at-requires-clause-within
medium_word_at-requires-clause-within c = medium_within c.args.bits c.args.place c.args.words.now c.if-bits-eq-MEDIUM.true c.requires.within

pub returns-then-bits-eq-MEDIUM : goal.returns-then-bits-eq-MEDIUM
returns-then-bits-eq-MEDIUM c =
    let is = medium_is c.args.bits c.args.words.now c.if-bits-eq-MEDIUM.true in
    c.medium_word_at.ensures ∙ ap (λ w. get_or w (3 * c.args.place + c.args.index) 0) (sym is)
