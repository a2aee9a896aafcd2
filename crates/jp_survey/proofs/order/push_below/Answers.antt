-- Each turn adds the place that is listed before.
use Rattle.std.proofs.Common.{◌≡◌, ℕ, ◌+◌, ◌-◌, ◌<◌, List, [], ◌∷◌, ◌++◌, arith, get_or, refl, subst, sym}
use Rattle.jp_survey.specs.Places.{paths_of}
use Rattle.jp_survey.specs.Walked.{AreWaiting}
use Rattle.jp_survey.specs.declared.order.Below.{Below}
use Rattle.jp_survey.proofs.Waiting.{AreAdded, added_more, added_next, adds}
use Rattle.jp_survey.proofs.order.push_below.Goals as goal

pub loop-turn-init : goal.loop-turn-init
loop-turn-init c = record {
  added = record { none = λ e. refl; last = λ at e some. absurd (omega (arith, some)) };
  waiting = λ names links h b inside waiting left. waiting;
}

pub loop-turn-preserved : goal.loop-turn-preserved
loop-turn-preserved c =
    let was = c.loop-turn.invariant in let list = c.args.list.now in let place = c.args.place in let old = c.args.waiting.now.items in let new = c.loop-turn.waiting.items in
    let end = c.args.end in let turn = c.loop-turn.turn in let at = c.args.end - 1 - c.loop-turn.turn in let next = c.in_ok-next.next.now in
    let more : turn < end = c.loop-turn-test.true in
    let before : at + 1 + turn ≡ end = omega (arith, more) in
    let got = rw c.in_ok-next.ensures.ok_part at c.get.ensures.lookup in
    let is : (d : Below) → get_or list at d ≡ next = λ d. sym (got.3.1 d) in
    let pushed : c.push.new.self.items ≡ new ++ next.place ∷ [] = c.in_ok-push.ensures.items in
    let below : next.parent ≡ place = c.if-next-place.false in
    record {
      added = subst (λ (w : List ℕ). AreAdded list place old w end (turn + 1)) (sym pushed) (added_more list place old new end turn at before got.3.0 next is below);
      waiting = λ names links h b inside waiting left.
          subst (AreWaiting (paths_of names links)) (sym pushed)
          (adds names links h list b place old new left end turn was.added at before got.3.0 next is below (was.waiting names links h b inside waiting left));
    }

pub returns : goal.returns
returns c names links h b inside waiting left =
    added_next names links h c.args.list.now b c.args.place c.args.waiting.now.items c.loop-turn.waiting.items left c.args.end c.loop-turn.turn c.loop-turn.invariant.added c.loop-turn.auto.turn-end
    (c.loop-turn.invariant.waiting names links h b inside waiting left)

pub returns-then-next-place : goal.returns-then-next-place
returns-then-next-place c names links h b inside waiting left =
    added_next names links h c.args.list.now b c.args.place c.args.waiting.now.items c.loop-turn.waiting.items left c.args.end c.loop-turn.turn c.loop-turn.invariant.added c.loop-turn.auto.turn-end
    (c.loop-turn.invariant.waiting names links h b inside waiting left)
