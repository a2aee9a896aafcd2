use Rattle.std.proofs.Common.{◌≡◌, ◌+◌, ◌*◌, ◌^◌, arith}
use Rattle.jp_nodes.specs.Words.{span_word}
use Rattle.jp_tape.proofs.builder.nodes.halves.Goals as goal

pub returns : goal.returns
unfolding span_word
returns c s l m e = let f : c.args.word ≡ s.start * 2 ^ 32 + s.end = e in (omega (arith, l, m, f), omega (arith, l, m, f))
