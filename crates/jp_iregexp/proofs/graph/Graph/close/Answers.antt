use Rattle.std.proofs.Common.{◌≡◌, ◌+◌, ◌<◌, length, arith}
use Rattle.std.proofs.lemmas.List.{get_or_read}
use Rattle.jp_iregexp.specs.Waiting.{absent}
use Rattle.jp_iregexp.proofs.Walking.{closing_start, closing_step, closing_end}
use Rattle.jp_iregexp.proofs.graph.Graph.close.Goals as goal

pub loop-turn-init : goal.loop-turn-init
loop-turn-init c = closing_start c.args.self.now.states.items c.args.waiting.now c.requires.marked

pub loop-turn-smaller : goal.loop-turn-smaller
loop-turn-smaller c =
    let l = c.loop-turn in
    let new = c.add_all.new.self in
    let a = c.in_ok-add_all.ensures in
    let inside : l.turn < length l.waiting.list.items = omega arith in
    let count : absent new + length new.list.items ≡ absent l.waiting + length l.waiting.list.items = a.count in
    let longer = a.longer in
    omega (arith, count, inside, longer)

pub loop-turn-preserved : goal.loop-turn-preserved
loop-turn-preserved c =
    let l = c.loop-turn in
    let inside : l.turn < length l.waiting.list.items = omega arith in
    closing_step c.args.self.now.states.items c.args.waiting.now l.waiting c.add_all.new.self l.turn c.index-number.result.now c.free.result.now inside
    (get_or_read l.waiting.list.items l.turn c.index-number.result.now inside c.index-number.ensures 0) c.requires.size c.free.ensures c.in_ok-add_all.ensures l.invariant

pub returns : goal.returns
returns c =
    let l = c.loop-turn in
    closing_end c.args.self.now.states.items c.args.waiting.now l.waiting l.turn (omega arith) l.invariant
