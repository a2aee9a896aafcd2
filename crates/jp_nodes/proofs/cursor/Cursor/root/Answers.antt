use Rattle.std.proofs.Common.{refl, ap, ◌∙◌}
use Rattle.jp_nodes.specs.Cursors.{line_of, place_of}
use Rattle.jp_nodes.specs.Forms.{words_in}
use Rattle.jp_nodes.specs.Tapes.{spelled}
use Rattle.jp_nodes.proofs.Places.{some_node}
use Rattle.jp_nodes.proofs.Cursors.{at_root}
use Rattle.jp_nodes.proofs.cursor.Cursor.root.Goals as goal

pub invariant_of-result : goal.invariant_of-result
invariant_of-result c =
    record { spelled_line = c.requires.spelled_line; words_are = ap (λ words. words_in c.tape.inside.bits words) c.deref.ensures.value ∙ (c.tape.view_is ∙ c.requires.words_are); short = c.requires.short; whole = c.requires.whole; exponents = c.requires.exponents; distinct = c.requires.distinct; within = some_node (spelled c.args.line.now) }

pub returns : goal.returns
unfolding line_of place_of
returns c = record { line = refl; place = refl; node = at_root _ refl }
