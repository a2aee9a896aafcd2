use Rattle.std.proofs.Common.{arith}
use Rattle.jp_tape.specs.Places.{IsUnescaped}
use Rattle.jp_tape.proofs.Escapes.{unescaped_front, escape_in_front}
use Rattle.jp_tape.proofs.builder.escapes.first_escape.Goals as goal

pub returns-then-is_empty-clause-before : goal.returns-then-is_empty-clause-before
unfolding IsUnescaped
returns-then-is_empty-clause-before c k l = absurd (omega (arith, l))

pub returns-clause-before : goal.returns-clause-before
returns-clause-before c = unescaped_front c.args.line.now c.first_escape.result c.first_escape.ensures

pub returns-clause-is_one : goal.returns-clause-is_one
returns-clause-is_one c = escape_in_front c.args.line.now c.first_escape.result c.first_escape.ensures
