use Rattle.jp_tape.proofs.PlainNumbers.{digit_there}
use Rattle.jp_tape.proofs.builder.scan.digits_end.Goals as goal

pub returns-clause-digits : goal.returns-clause-digits
returns-clause-digits c k low high = digit_there c.args.line.now k (c.digits_end.ensures.before k low high)
