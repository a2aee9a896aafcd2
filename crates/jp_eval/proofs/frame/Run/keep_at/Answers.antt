-- What is kept is the answer that was found, and the others are as they were.
use Rattle.std.proofs.Common.{◌≡◌, Option, Some, arith, subst}
use Rattle.std.specs.Prelude.{slice_get}
use Rattle.jp_eval.specs.Answers.{IsAnswer, slots_in, table_in}
use Rattle.jp_eval.specs.Programs.{Meant}
use Rattle.jp_eval.specs.declared.frame.Answer.{Answer}
use Rattle.jp_eval.specs.declared.frame.Run.{Run}
use Rattle.jp_eval.proofs.Answered.{got}
use Rattle.jp_eval.proofs.Tables.{get_in_part}
use Rattle.jp_eval.proofs.frame.Run.keep_at.Goals as goal

pub returns-then-position-len-clause-kept : goal.returns-then-position-len-clause-kept
returns-then-position-len-clause-kept c position answer e =
    let run : Run = c.args.self in
    let here = c.args.position in
    got c.args.frame.now.answers.items here position (Some c.args.answer) (Some answer) e
    (λ there is.
    let same : c.args.answer ≡ answer = cc in
    let asked = get_in_part (slots_in run) run.known here (omega (arith, c.if-position-self.true)) in
    subst (λ k. IsAnswer run c.args.frame.now.found.items (slice_get (slots_in run) k) answer) there (subst (λ (m : Option Meant). IsAnswer run c.args.frame.now.found.items m answer) asked (subst (λ (a : Answer). IsAnswer run c.args.frame.now.found.items (slice_get (table_in run) here) a) same c.requires.right)))
    (λ other. c.requires.kept position answer other)
