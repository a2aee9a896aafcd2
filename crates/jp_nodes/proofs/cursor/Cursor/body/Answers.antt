use Rattle.std.proofs.Common.{◌∙◌, arith}
use Rattle.jp_nodes.specs.Cursors.{place_of}
use Rattle.jp_nodes.proofs.Cursors.{words_long, span-of}
use Rattle.jp_nodes.proofs.cursor.Cursor.body.Goals as goal

pub word_at-requires-clause-within : goal.word_at-requires-clause-within
unfolding place_of
word_at-requires-clause-within c = let l = words_long c.args.self in omega (arith, l)

pub returns : goal.returns
unfolding place_of
returns c = c.word_at.ensures ∙ span-of c.args.self _ (omega arith)
