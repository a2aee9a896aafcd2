use Rattle.std.proofs.Common.{◌≡◌, length, arith, ◌∙◌}
use Rattle.jp_iregexp.proofs.Walking.{started}
use Rattle.jp_iregexp.proofs.graph.Graph.started.Goals as goal

pub returns-clause-leads : goal.returns-clause-leads
returns-clause-leads c =
    let it = c.args.self.now in
    let all : c.len.result ≡ length it.states.items = omega arith in
    started it.states.items it.start c.in_ok-waiting.waiting c.add.new.self c.close.new.waiting it.ended c.in_ok-waiting.ensures.none (c.in_ok-waiting.ensures.size ∙ all) c.in_ok-add.ensures c.in_ok-close.ensures
