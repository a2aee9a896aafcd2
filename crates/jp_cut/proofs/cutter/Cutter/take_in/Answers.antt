use Rattle.std.proofs.Common.{◌∙◌, arith, refl, ap}
use Rattle.jp_cut.proofs.Depth.{step_le, step_one}
use Rattle.jp_cut.proofs.Reading.{read_on, hands_on, not_both}
use Rattle.jp_cut.proofs.Taking.{on_kept, on_passed, on_last, on_ended, on_ended_before}
use Rattle.jp_cut.specs.declared.machine.Turn.TheVariants.{Passed, Last, Ended, EndedBefore}
use Rattle.jp_cut.proofs.cutter.Cutter.take_in.Goals as goal

pub invariant_of-self : goal.invariant_of-self
invariant_of-self c =
    let s = c.args.self.now in
    let one = step_one s.pieces s.known c.index-byte.result.now c.step_on-done.result c.step_on-done.ensures in
    record { order = omega (arith, one, s.order); within = omega (arith, c.requires.within); front = λ e. not_both s.is_front e c.requires.front }

pub pass-requires-clause-none_open : goal.pass-requires-clause-none_open
pass-requires-clause-none_open c =
    let s = c.args.self.now in
    omega (arith, step_le s.pieces s.known c.index-byte.result.now c.step_on-done.result Passed c.step_on-done.ensures c.in-Passed.is)

pub close-requires-clause-order : goal.close-requires-clause-order
close-requires-clause-order c =
    let s = c.args.self.now in
    omega (arith, step_le s.pieces s.known c.index-byte.result.now c.step_on-done.result Last c.step_on-done.ensures c.in-Last.is)

pub close-piece-requires-clause-order : goal.close-piece-requires-clause-order
close-piece-requires-clause-order c =
    let s = c.args.self.now in
    omega (arith, step_le s.pieces s.known c.index-byte.result.now c.step_on-done.result Ended c.step_on-done.ensures c.in-Ended.is)

pub pass-requires-in-Ended-clause-none_open : goal.pass-requires-in-Ended-clause-none_open
pass-requires-in-Ended-clause-none_open c =
    let s = c.args.self.now in
    omega (arith, ap (λ k. k.depth) c.close-piece.ensures.known, step_le s.pieces s.known c.index-byte.result.now c.step_on-done.result Ended c.step_on-done.ensures c.in-Ended.is)

pub close-requires-in-EndedBefore-clause-order : goal.close-requires-in-EndedBefore-clause-order
close-requires-in-EndedBefore-clause-order c =
    let s = c.args.self.now in
    omega (arith, step_le s.pieces s.known c.index-byte.result.now c.step_on-done.result EndedBefore c.step_on-done.ensures c.in-EndedBefore.is)

pub returns-in-Kept-clause-read : goal.returns-in-Kept-clause-read
returns-in-Kept-clause-read c pieces stream handed h =
    let s = c.args.self.now in
    read_on pieces stream handed s _ h c.requires.front c.requires.front
    (λ bytes cut. on_kept pieces bytes handed s cut c.requires.within c.index-byte.result.now _ c.index-byte.ensures c.step_on-done.result c.step_on-done.ensures c.in-Kept.is _ refl refl refl refl refl refl)

pub returns-in-Passed-clause-read : goal.returns-in-Passed-clause-read
returns-in-Passed-clause-read c pieces stream handed h =
    let s = c.args.self.now in
    let t = c.pass.ensures in
    read_on pieces stream handed s c.pass.new.self h c.requires.front (t.is_front ∙ c.requires.front)
    (λ bytes cut. on_passed pieces bytes handed s cut c.requires.within c.index-byte.result.now _ c.index-byte.ensures c.step_on-done.result c.step_on-done.ensures c.in-Passed.is c.pass.new.self t.pieces t.held t.cut t.known t.start t.line_feeds)

pub returns-in-Last-clause-read : goal.returns-in-Last-clause-read
returns-in-Last-clause-read c pieces stream handed h =
    let s = c.args.self.now in
    let t = c.close.ensures in
    hands_on pieces stream handed s c.close.new.self c.close.result h c.requires.front (t.is_front ∙ c.requires.front)
    (λ bytes cut. on_last pieces bytes handed s cut c.requires.within c.index-byte.result.now _ c.index-byte.ensures c.step_on-done.result c.step_on-done.ensures c.in-Last.is c.close.new.self t.pieces t.held t.cut t.known t.start t.line_feeds c.close.result t.result)

pub returns-in-Ended-clause-read : goal.returns-in-Ended-clause-read
returns-in-Ended-clause-read c pieces stream handed h =
    let s = c.args.self.now in
    let m = c.close-piece.ensures in
    let t = c.pass-in-Ended.ensures in
    hands_on pieces stream handed s c.pass-in-Ended.new.self c.close-piece.result h c.requires.front (t.is_front ∙ m.is_front ∙ c.requires.front)
    (λ bytes cut. on_ended pieces bytes handed s cut c.requires.within c.index-byte.result.now _ c.index-byte.ensures c.step_on-done.result c.step_on-done.ensures c.in-Ended.is c.close-piece.new.self c.pass-in-Ended.new.self
    (t.pieces ∙ m.pieces) (t.held ∙ m.held) (t.cut ∙ m.cut) (t.known ∙ m.known) (t.start ∙ m.cut) m.line_feeds t.line_feeds c.close-piece.result m.result)

pub returns-in-EndedBefore-clause-read : goal.returns-in-EndedBefore-clause-read
returns-in-EndedBefore-clause-read c pieces stream handed h =
    let s = c.args.self.now in
    let t = c.close-in-EndedBefore.ensures in
    hands_on pieces stream handed s c.close-in-EndedBefore.new.self c.close-in-EndedBefore.result h c.requires.front (t.is_front ∙ c.requires.front)
    (λ bytes cut. on_ended_before pieces bytes handed s cut c.requires.within c.index-byte.result.now _ c.index-byte.ensures c.step_on-done.result c.step_on-done.ensures c.in-EndedBefore.is c.close-in-EndedBefore.new.self t.pieces t.held t.cut t.known t.start t.line_feeds
    c.close-in-EndedBefore.result t.result)
