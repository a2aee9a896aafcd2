-- One answer more was there before, and says nothing of the list.
use Rattle.std.proofs.Common.{◌≡◌, ◌∙◌, ◌<◌, ◌+◌, ◌⊎◌, inl, inr, ℕ, List, Option, Some, ap, arith, length, refl, sym}
use Rattle.std.specs.Prelude.{slice_get}
use Rattle.jp_eval.specs.declared.frame.Answer.{Answer}
use Rattle.std.proofs.lemmas.List.{length-set}
use Rattle.std.proofs.lemmas.Option.{slice_get_read, slice_get_within}
use Rattle.jp_eval.proofs.Answered.{got_beside}
use Rattle.jp_eval.proofs.frame.Frame.forget_found.Goals as goal

-- beside an item, and before the next, is before the item
before_it : {P : Type 0} (i j : ℕ) → (j < i) ⊎ (i < j) → j < i + 1 → (j < i → P) → P
before_it i j (inl before) l f = f before
before_it i j (inr behind) l f = absurd (omega (arith, behind, l))

pub loop-position-preserved : goal.loop-position-preserved
loop-position-preserved c =
    let all : List (Option Answer) = c.loop-position.self.answers.items in
    let here : ℕ = c.loop-position.position in
    let own = c.loop-position.self.answers.ok.0 in
    let count = c.len-position-end.ensures in
    let first = c.args.self.now.answers.ok.0 in
    let size = c.loop-position.invariant.size in
    let within : here < length all = omega (arith, size, count, first, c.loop-position-test.true) in
    let read : slice_get all here ≡ Some c.index_mut.result.now = slice_get_read all (length all) here c.index_mut.result.now refl within c.index_mut.ensures.value in
    record {
      found = c.loop-position.invariant.found;
      sum = c.loop-position.invariant.sum;
      size = length-set all here c.forget_placed.new.answer ∙ size;
      answers = λ position answer is.
          got_beside all here position c.forget_placed.new.answer (Some answer) is
          (λ there same.
          let kept = c.forget_placed.ensures answer same in
          ((c.loop-position.invariant.answers position answer (ap (slice_get all) (sym there) ∙ (read ∙ ap (λ (o : Option Answer). Some o) kept.0))).0, λ l. kept.1))
          (λ apart other.
          let was = c.loop-position.invariant.answers position answer other in
          (was.0, λ l. before_it here position apart l was.1));
    }

pub returns-clause-answers : goal.returns-clause-answers
returns-clause-answers c position answer is =
    let was = c.loop-position.invariant.answers position answer is in
    let within = slice_get_within c.loop-position.self.answers.items position (Some answer) is in
    let size = c.loop-position.invariant.size in
    let count = c.len-position-end.ensures in
    let own = c.args.self.now.answers.ok.0 in
    (was.0, was.1 (omega (arith, within, size, count, own, c.loop-position-test.false)))
