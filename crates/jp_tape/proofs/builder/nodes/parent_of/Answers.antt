use Rattle.std.proofs.Common.{arith}
use Rattle.jp_tape.proofs.Closed.{opened_word, opened_above, opened_below, opened_parent}
use Rattle.jp_tape.proofs.builder.nodes.parent_of.Goals as goal

pub overflow_sub-rest : goal.overflow_sub-rest
overflow_sub-rest c =
    let r = c.requires in
    let e = opened_word r.0 r.1 c.args.first r.2 r.3 in
    let above = opened_above r.0 in
    omega (arith, e, above)

pub overflow_cast-result : goal.overflow_cast-result
overflow_cast-result c =
    let r = c.requires in
    let e = opened_word r.0 r.1 c.args.first r.2 r.3 in
    let below = opened_below r.0 in
    let parent = r.2 in
    omega (arith, e, below, parent)

pub returns : goal.returns
returns c kind parent l e = opened_parent kind parent c.args.first (opened_word kind parent c.args.first l e)
