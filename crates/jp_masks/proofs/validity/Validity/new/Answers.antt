use Rattle.std.proofs.Common.{[], refl, arith}
use Rattle.jp_masks.proofs.validity.Validity.new.Goals as goal

pub returns : goal.returns
returns c = record { front = []; others = []; joined = refl; ascii = λ i. omega arith; checked = c.new.ensures; none = λ told. refl }
