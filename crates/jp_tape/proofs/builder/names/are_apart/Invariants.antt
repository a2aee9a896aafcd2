use Rattle.jp_tape.specs.Names.{AreApart}
use Rattle.jp_tape.proofs.builder.names.are_apart.Given as goal

abbrev pub invariant-loop-later : goal.invariant-loop-later
invariant-loop-later l = AreApart l.line l.names l.later
