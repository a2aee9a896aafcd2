use Rattle.std.proofs.Common.{◌∙◌, arith}
use Rattle.jp_nodes.specs.Cursors.{place_of}
use Rattle.jp_nodes.proofs.Cursors.{words_long, label-of, index_short}
use Rattle.jp_nodes.proofs.cursor.Cursor.label.Goals as goal

pub word_at-requires-clause-within : goal.word_at-requires-clause-within
unfolding place_of
word_at-requires-clause-within c = let l = words_long c.args.self in omega (arith, l)

pub returns : goal.returns
unfolding place_of
returns c = record { word = c.word_at.ensures ∙ label-of c.args.self _ (omega arith); index = index_short c.args.self }
