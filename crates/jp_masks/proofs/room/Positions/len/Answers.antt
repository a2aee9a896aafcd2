use Rattle.std.proofs.Common.{length-take, arith}
use Rattle.jp_masks.proofs.room.Positions.len.Goals as goal

pub returns : goal.returns
returns c = let m = c.args.self.now in let size = length-take m.filled m.room.items in omega (arith, m.in_room, size)
