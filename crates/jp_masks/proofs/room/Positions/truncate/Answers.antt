use Rattle.std.proofs.Common.{length-take, sym, arith}
use Rattle.std.proofs.lemmas.List.{take-take}
use Rattle.jp_masks.proofs.room.Positions.truncate.Goals as goal

pub invariant_of-self : goal.invariant_of-self
invariant_of-self c = let m = c.args.self.now in let size = length-take m.filled m.room.items in omega (arith, m.in_room, size, c.requires)

pub returns : goal.returns
returns c = let m = c.args.self.now in let size = length-take m.filled m.room.items in sym (take-take c.args.count m.filled m.room.items (omega (arith, m.in_room, size, c.requires)))
