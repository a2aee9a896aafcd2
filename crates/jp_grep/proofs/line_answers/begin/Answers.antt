-- One answer more is forgotten, or added.
use Rattle.std.proofs.Common.{◌∙◌, ◌<◌, ◌+◌, ◌⊎◌, inl, inr, ℕ, List, [], ◌∷◌, ap, arith, length, length-append, subst, sym}
use Rattle.std.specs.Prelude.{slice_get}
use Rattle.std.proofs.lemmas.List.{length-set}
use Rattle.std.proofs.lemmas.Option.{slice_get_within}
use Rattle.jp_grep.specs.LineAnswers.{KnowsNothing}
use Rattle.jp_grep.specs.declared.line_answers.LineAnswer.{LineAnswer}
use Rattle.jp_eval.proofs.Answered.{got_beside}
use Rattle.jp_grep.proofs.Knowing.{got_added}
use Rattle.jp_grep.proofs.line_answers.begin.Goals as goal

-- beside an item, and before the next, is before the item
before_it : {P : Type 0} (i j : ℕ) → (j < i) ⊎ (i < j) → j < i + 1 → (j < i → P) → P
before_it i j (inl before) l f = f before
before_it i j (inr behind) l f = absurd (omega (arith, behind, l))

pub loop-index-preserved : goal.loop-index-preserved
loop-index-preserved c =
    let all : List LineAnswer = c.loop-index.answers.items in
    let here : ℕ = c.loop-index.index in
    record {
      size = length-set all here c.forget.new.self ∙ c.loop-index.invariant.size;
      nothing = λ position answer is below.
          got_beside all here position c.forget.new.self answer is
          (λ there same. subst (λ (a : LineAnswer). KnowsNothing a) same c.forget.ensures)
          (λ apart was. before_it here position apart below (λ l. c.loop-index.invariant.nothing position answer was l));
    }

pub loop-index-2-init : goal.loop-index-2-init
loop-index-2-init c = record {
  size = omega (arith, c.len-index.ensures, c.loop-index.answers.ok.0);
  nothing = λ position answer is.
      let within = slice_get_within c.loop-index.answers.items position answer is in
      let size = c.loop-index.invariant.size in
      let count = c.len-index-end.ensures in
      c.loop-index.invariant.nothing position answer is (omega (arith, within, size, count, c.loop-index-test.false));
}

pub loop-index-2-preserved : goal.loop-index-2-preserved
loop-index-2-preserved c = record {
  size = ap length c.in_ok-push.ensures.items ∙ (length-append c.loop-index-2.answers.items (c.new.result ∷ []) ∙ ap (λ n. n + 1) c.loop-index-2.invariant.size);
  nothing = λ position answer is.
      got_added c.loop-index-2.answers.items position c.new.result answer (sym (ap (λ (l : List LineAnswer). slice_get l position) c.in_ok-push.ensures.items) ∙ is)
      (λ same. subst (λ (a : LineAnswer). KnowsNothing a) same c.new.ensures)
      (λ was. c.loop-index-2.invariant.nothing position answer was);
}
