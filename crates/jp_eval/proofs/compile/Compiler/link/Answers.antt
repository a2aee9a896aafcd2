-- A part becomes a slot, until the first is left.
use Rattle.std.proofs.Common.{◌∙◌, sym}
use Rattle.jp_eval.proofs.Linking.{all_linked, part_linked}
use Rattle.jp_eval.proofs.Lists.{no_item}
use Rattle.jp_eval.proofs.compile.Compiler.link.Goals as goal

pub loop-part-preserved : goal.loop-part-preserved
loop-part-preserved c old seen m =
    part_linked old c.loop-part.self.slots.items c.add_steps.new.self.slots.items c.loop-part.before.items c.pop.new.self.items c.in-Some.part c.push.new.self c.loop-part.steps.items c.in_ok-known.known seen c.in-Some.ensures.items c.in_ok-push.ensures.items
    (c.loop-part.invariant old seen m) c.in_ok-known.ensures

pub returns : goal.returns
returns c old seen m =
    all_linked old c.loop-part.self.slots.items c.loop-part.before.items c.loop-part.steps.items seen (no_item c.loop-part.before.items (sym c.loop-part.before.ok.0 ∙ c.in_default.ensures.cases.0)) (c.loop-part.invariant old seen m)
