-- By computing.
use Rattle.std.proofs.Common.{refl}
use Rattle.test_definitions.specs.Written.{written}
use Rattle.test_definitions.proofs.collections.refusals.Goals as goal

pub returns-clause-depths_of_512_and_513 : goal.returns-clause-depths_of_512_and_513
unfolding written
returns-clause-depths_of_512_and_513 c = refl
