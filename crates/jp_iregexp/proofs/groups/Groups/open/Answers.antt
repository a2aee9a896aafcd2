use Rattle.std.proofs.Common.{◌∙◌}
use Rattle.jp_iregexp.proofs.Numbering.{opened_after}
use Rattle.jp_iregexp.proofs.groups.Groups.open.Goals as goal

pub invariant_of-result : goal.invariant_of-result
invariant_of-result c =
    record { numbered = opened_after c.args.self.around.items c.push.new.self.items c.args.self.now c.new.result c.in_ok-push.ensures.items c.new.ensures.numbers ∙ c.args.self.numbered }
