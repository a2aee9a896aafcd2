-- The names of an object differ, so its members have one order.
use Rattle.std.proofs.Common.{◌≡◌, length, arith}
use Rattle.jp_canon.proofs.ByName.{names_distinct, appended_by_name}
use Rattle.jp_nodes.specs.Cursors.{node_of}
use Rattle.jp_nodes.proofs.Cursors.{sound}
use Rattle.jp_canon.proofs.members.append_by_name.Goals as goal

pub returns : goal.returns
returns c =
    let count : c.len-from.result ≡ length c.args.members.now.items = omega (arith, c.len-from.ensures, c.args.members.now.ok.0) in
    appended_by_name _ _ _ _ _ count (names_distinct (node_of c.args.object).tree (sound c.args.object).distinct) c.in_ok-append_members.ensures c.sort_from.ensures
