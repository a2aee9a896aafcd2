-- The part after the position is sorted where it is.
use Rattle.std.proofs.Common.{◌≡◌, length, arith}
use Rattle.jp_canon.proofs.SortedParts.{sorted_in_place}
use Rattle.jp_canon.proofs.members.sort_from.Goals as goal

pub returns : goal.returns
returns c =
    let count : c.args.members.now.len ≡ length c.args.members.now.items = omega (arith, c.args.members.now.ok.0) in
    sorted_in_place c.args.members.now.items c.deref_mut.result.now c.sort_unstable.new.self c.args.from c.args.members.now.len c.deref_mut.ensures.value count c.requires c.sort_unstable.ensures.permutation c.sort_unstable.ensures.sorted
