use Rattle.std.proofs.Common.{arith}
use Rattle.jp_iregexp.proofs.AsciiSets.{all_codes, front_codes}
use Rattle.jp_iregexp.proofs.codes.up_to.Goals as goal

pub returns-then-last-ge127 : goal.returns-then-last-ge127
returns-then-last-ge127 c = all_codes c.args.last (omega arith)

pub returns-else-last-ge127 : goal.returns-else-last-ge127
returns-else-last-ge127 c = front_codes c.args.last (omega arith)
