-- The next of the part is put after.
use Rattle.std.proofs.Common.{◌∙◌, ◌-◌, arith, ap, length, length-append, take}
use Rattle.jp_eval.specs.Found.{between}
use Rattle.jp_eval.proofs.Kept.{next_copied}
use Rattle.jp_eval.proofs.frame.Frame.copy.Goals as goal

pub index-node-requires : goal.index-node-requires
index-node-requires c =
    let size = c.loop-position.self.found.ok.0 in
    let items = ap length c.loop-position.invariant.items in
    let sum = length-append c.args.self.now.found.items (take (c.loop-position.position - c.args.start) (between c.args.start c.args.end c.args.self.now.found.items)) in
    let within = c.requires in
    omega (arith, size, items, sum, within, c.loop-position-test.true)

pub loop-position-preserved : goal.loop-position-preserved
loop-position-preserved c = record {
  sum = c.loop-position.invariant.sum;
  answers = c.loop-position.invariant.answers;
  items = c.in_ok-push.ensures.items
      ∙ next_copied c.args.self.now.found.items c.loop-position.self.found.items c.args.start c.args.end c.loop-position.position c.index-node.result.now c.loop-position.auto.position c.loop-position-test.true c.requires c.loop-position.invariant.items c.index-node.ensures;
}
