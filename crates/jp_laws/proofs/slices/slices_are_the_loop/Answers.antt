use Rattle.jp_laws.proofs.SliceLoops.{loop_up, loop_down}
use Rattle.jp_laws.proofs.slices.slices_are_the_loop.Goals as goal

pub returns-clause-up : goal.returns-clause-up
returns-clause-up c = loop_up

pub returns-clause-down : goal.returns-clause-down
returns-clause-down c = loop_down
