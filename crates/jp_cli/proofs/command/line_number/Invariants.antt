-- The digits before the present one are read.
use Rattle.jp_cli.proofs.LineNumbers.{IsRead}
use Rattle.jp_cli.proofs.command.line_number.Given as goal

abbrev pub invariant-loop-digit : goal.invariant-loop-digit
invariant-loop-digit l = IsRead l.digits l.digit-index l.value
