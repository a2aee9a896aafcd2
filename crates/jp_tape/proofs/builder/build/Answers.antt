use Rattle.std.proofs.Common.{◌∙◌, sym, ap, subst}
use Rattle.jp_nodes.specs.Words.{tape_words}
use Rattle.jp_nodes.specs.Tapes.{spelled, IsTapeOf}
use Rattle.jp_tape.proofs.builder.build.Goals as goal

pub returns-in-Ok-clause-made : goal.returns-in-Ok-clause-made
returns-in-Ok-clause-made c = subst (λ w. IsTapeOf w c.args.line.now) (sym c.in-Ok.ensures) c.in_ok-read.ensures.made

pub returns-in-Ok-clause-tree : goal.returns-in-Ok-clause-tree
returns-in-Ok-clause-tree c = (spelled c.args.line.now, c.in_ok-read.ensures.status, (returns-in-Ok-clause-made c).words_are)

pub returns-in-Ok-clause-only : goal.returns-in-Ok-clause-only
returns-in-Ok-clause-only c t h = (returns-in-Ok-clause-made c).words_are ∙ ap tape_words (c.tapes_are_of_lines.ensures.only c.args.line.now t h)
