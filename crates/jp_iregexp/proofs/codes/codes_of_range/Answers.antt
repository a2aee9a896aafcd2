use Rattle.std.proofs.Common.{arith}
use Rattle.jp_iregexp.proofs.AsciiSets.{range_codes}
use Rattle.jp_iregexp.proofs.codes.codes_of_range.Goals as goal

pub returns-else-first-eq0 : goal.returns-else-first-eq0
returns-else-first-eq0 c =
    range_codes c.args.first c.args.last c.up_to-else-first-eq0.result c.up_to-else-first-eq0-2.result (omega arith) c.up_to-else-first-eq0-2.type_inv c.up_to-else-first-eq0.ensures c.up_to-else-first-eq0-2.ensures
