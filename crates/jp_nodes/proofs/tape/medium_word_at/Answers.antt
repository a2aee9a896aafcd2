use Rattle.std.proofs.Common.{◌∙◌}
use Rattle.jp_nodes.proofs.Unpacking.{medium_stands}
use Rattle.jp_nodes.proofs.tape.medium_word_at.Goals as goal

pub returns : goal.returns
returns c = c.of_halves.ensures ∙ medium_stands c.args.words.now c.args.place c.requires.within c.args.index c.requires.index
