use Rattle.std.proofs.Common.{◌∙◌}
use Rattle.jp_iregexp.proofs.Numbering.{closed_after}
use Rattle.jp_iregexp.proofs.groups.Groups.close.Goals as goal

pub invariant_of-result : goal.invariant_of-result
invariant_of-result c =
    let node = c.in_ok-into_node-in-Some in
    record { numbered = closed_after c.args.self.around.items c.pop.new.self.items c.args.self.now c.in-Some.now c.add_atom.new.self node.field-0 c.in-Some.ensures.items node.ensures.numbers c.in_ok-add_atom-in-Some.ensures.numbers ∙ c.args.self.numbered }
