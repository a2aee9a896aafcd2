use Rattle.std.proofs.Common.{◌∙◌}
use Rattle.jp_nodes.proofs.Unpacking.{compact_stands}
use Rattle.jp_nodes.proofs.tape.compact_word_at.Goals as goal

pub returns : goal.returns
returns c = c.of_halves.ensures ∙ compact_stands c.args.words.now c.args.place c.requires.within c.args.index c.requires.index
