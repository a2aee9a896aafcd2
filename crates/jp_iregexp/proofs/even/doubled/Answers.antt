use Rattle.std.proofs.Common.{◌≡◌, ◌+◌, ◌*◌, ◌-◌, ◌≤◌, ℕ, ◌↔◌, arith, subst}
use Rattle.jp_iregexp.specs.declared.positions.PositionSet.{PositionSet}
use Rattle.jp_iregexp.specs.Evens.{AreRuns}
use Rattle.jp_iregexp.specs.Positions.{Has}
use Rattle.jp_iregexp.proofs.Evens.{runs_start, runs_more}
use Rattle.jp_iregexp.proofs.Parts.{if_ok_map}
use Rattle.jp_iregexp.proofs.even.doubled.Goals as goal

pub loop-turns-init : goal.loop-turns-init
loop-turns-init c = record { some = omega arith; few = omega (arith, c.requires.some); runs = runs_start c.args.once.now c.in_ok-all.all c.args.length c.in_ok-all.ensures }

pub loop-turns-preserved : goal.loop-turns-preserved
loop-turns-preserved c =
    let l = c.loop-turns in
    let some = l.invariant.some in
    let twice : l.turns + l.turns ≡ l.turns * 2 = omega arith in
    record {
      some = omega (arith, some);
      few = omega (arith, c.loop-turns-test.true, l.invariant.few);
      runs = subst (λ n. AreRuns c.args.once.now c.args.length n c.in_ok-all-2.all) twice
          (runs_more c.args.once.now l.all c.in_ok-all-2.all c.args.length l.turns l.turns some (omega arith) l.invariant.runs c.in_ok-all-2.ensures);
    }

pub returns : goal.returns
returns c =
    let l = c.loop-turns in
    let rest = c.args.count - l.turns in
    let whole : l.turns + rest ≡ c.args.count = omega (arith, l.invariant.few) in
    if_ok_map (λ (set : PositionSet). (q : ℕ) → Has set q ↔ (rest * c.args.length ≤ q × Has l.all (q - rest * c.args.length) × Has l.all q)) (λ (set : PositionSet). AreRuns c.args.once.now c.args.length c.args.count set) c.moved_within-2.result
    (λ set moved. subst (λ n. AreRuns c.args.once.now c.args.length n set) whole (runs_more c.args.once.now l.all set c.args.length l.turns rest l.invariant.some (omega (arith, c.loop-turns-test.false)) l.invariant.runs moved)) c.moved_within-2.ensures
