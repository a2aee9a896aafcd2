use Rattle.std.proofs.Common.{rules, ◌<◌, ◌≤◌, length, map, arith}
use Rattle.jp_iregexp.specs.Layouts.{state_of}
use Rattle.jp_iregexp.proofs.Layouts.{length_mapped}
use Rattle.jp_iregexp.proofs.Links.{one_linked, none_linked}
use Rattle.jp_iregexp.proofs.layout.Layout.link_one.Goals as goal

pub returns-in-Some : goal.returns-in-Some
returns-in-Some c =
    let inside : c.args.number < length c.args.self.now.states.items = search rules in
    one_linked c.args.self.now.states.items c.args.number c.args.first c.in-Some.state.now inside c.in-Some.ensures.value

pub returns-in_default : goal.returns-in_default
returns-in_default c =
    let past : length c.args.self.now.states.items ≤ c.args.number = search rules in
    none_linked (map state_of c.args.self.now.states.items) c.args.number c.args.first (omega (arith, past, length_mapped state_of c.args.self.now.states.items))
