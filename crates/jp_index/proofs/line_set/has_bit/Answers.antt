use Rattle.std.proofs.Common.{◌==◌, ◌/◌, ◌%◌, ap, get_or}
use Rattle.std.proofs.lemmas.Nat.Bits.{shr_and_one}
use Rattle.jp_index.proofs.line_set.has_bit.Goals as goal

pub returns : goal.returns
returns c = ap (λ b. b == 1) (shr_and_one (get_or c.args.words.now (c.args.position / 64) 0) (c.args.position % 64))
