use Rattle.std.proofs.Common.{rules, ◌-◌, ◌<◌, map, bit_and, arith, sym, subst, w64}
use Rattle.std.specs.Int.{trailing_zeros}
use Rattle.jp_iregexp.specs.States.{IsPassed}
use Rattle.jp_iregexp.specs.Layouts.{state_of}
use Rattle.jp_iregexp.proofs.Layouts.{some_of}
use Rattle.jp_iregexp.proofs.Lowest.{IsPartStep, take_passed, skip_passed}
use Rattle.jp_iregexp.proofs.automaton.asked_step.Goals.{in-Some, in_default}
use Rattle.jp_iregexp.proofs.automaton.asked_step.Goals as goal

pub loop-rest-preserved : goal.loop-rest-preserved
loop-rest-preserved c =
    let l = c.loop-rest in
    let states = map state_of c.args.states.now in
    let some : 0 < l.rest = omega arith in
    elim c.match-asked.branch [
      | in-Some w ↦ subst (λ n. IsPartStep states c.args.waiting c.args.scalar (bit_and l.rest (l.rest - 1)) n) (sym w.next-is)
          (take_passed states c.args.waiting c.args.scalar l.rest l.next w.in-Some.behind some l.auto.rest-fits.fits l.invariant
          (some_of (λ behind. IsPassed states (trailing_zeros w64 l.rest) c.args.scalar behind) c.asked.result w.in-Some.behind w.in-Some.is c.asked.ensures.some))
      | in_default w ↦ subst (λ n. IsPartStep states c.args.waiting c.args.scalar (bit_and l.rest (l.rest - 1)) n) (sym w.next-is)
          (skip_passed states c.args.waiting c.args.scalar l.rest l.next some l.auto.rest-fits.fits l.invariant (c.asked.ensures.none (search rules)))
    ]
