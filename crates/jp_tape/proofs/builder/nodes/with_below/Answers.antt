use Rattle.std.proofs.Common.{arith}
use Rattle.jp_nodes.specs.Words.{head_word}
use Rattle.jp_tape.proofs.builder.nodes.with_below.Goals as goal

pub returns : goal.returns
unfolding head_word
returns c code parent e = let f = e in omega (arith, f)
