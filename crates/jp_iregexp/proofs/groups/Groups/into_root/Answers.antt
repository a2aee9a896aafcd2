use Rattle.std.proofs.Common.{◌≤◌, length, rules, sym}
use Rattle.jp_iregexp.specs.Groups.{group_of}
use Rattle.jp_iregexp.proofs.Built.{left_open}
use Rattle.jp_iregexp.proofs.groups.Groups.into_root.Goals as goal

pub returns-else-is_empty : goal.returns-else-is_empty
returns-else-is_empty c =
    let some : 1 ≤ length c.args.self.around.items = search rules in
    sym (left_open (group_of c.args.self.now) c.args.self.around.items some)
