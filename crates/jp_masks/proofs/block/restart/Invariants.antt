use Rattle.std.proofs.Common.{◌≡◌, ◌-◌, w64}
use Rattle.std.specs.Int.{trailing_zeros}
use lib.Bits.{bit_and}
use Rattle.jp_masks.proofs.Restart.{SameChanges}
use Rattle.jp_masks.proofs.block.restart.Given as goal

abbrev pub invariant-loop-found : goal.invariant-loop-found
invariant-loop-found l = SameChanges l.ends l.word l.kept × (l.found ≡ bit_and l.kept l.ends)

abbrev pub decreases-loop-found : goal.decreases-loop-found
decreases-loop-found l = 64 - trailing_zeros w64 l.found
