use Rattle.std.proofs.Common.{[], refl}
use Rattle.jp_masks.proofs.scanner.Scanner.new.Goals as goal

pub returns-clause-start : goal.returns-clause-start
returns-clause-start c sink empty = record { whole = []; joined = refl; in_blocks = c.new.ensures.start sink empty }
