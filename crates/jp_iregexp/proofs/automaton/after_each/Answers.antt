use Rattle.std.proofs.Common.{◌<◌, ◌≡◌, map, arith, subst}
use Rattle.jp_iregexp.specs.Layouts.{state_of}
use Rattle.jp_iregexp.proofs.Masks.{IsPartAfter, start_after, take_after, end_after}
use Rattle.jp_iregexp.proofs.automaton.after_each.Goals as goal

pub loop-rest-init : goal.loop-rest-init
loop-rest-init c = start_after (map state_of c.args.states.now) c.args.ready

pub loop-rest-preserved : goal.loop-rest-preserved
loop-rest-preserved c =
    let l = c.loop-rest in
    let some : 0 < l.rest = omega arith in
    take_after (map state_of c.args.states.now) c.args.ready l.rest l.next c.word_after-next.result some l.auto.rest-fits.fits l.invariant c.word_after-next.ensures

pub returns : goal.returns
returns c =
    let l = c.loop-rest in
    let none : l.rest ≡ 0 = omega arith in
    let states = map state_of c.args.states.now in
    end_after states c.args.ready l.next (subst (λ n. IsPartAfter states c.args.ready n l.next) none l.invariant)
