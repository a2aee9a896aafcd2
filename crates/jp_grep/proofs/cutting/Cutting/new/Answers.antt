-- No byte came.
use Rattle.std.proofs.Common.{ap, arith, length, refl}
use Rattle.jp_grep.proofs.Formatted.{none_here}
use Rattle.jp_grep.proofs.cutting.Cutting.new.Goals as goal

pub invariant_of-result : goal.invariant_of-result
invariant_of-result c = record { few = omega (arith, ap length c.new.ensures.held) }

pub returns : goal.returns
returns c = record { front = c.new-2.ensures.items; none = refl; begins = none_here.0; format = none_here.1; cutter = c.new.ensures.front }
