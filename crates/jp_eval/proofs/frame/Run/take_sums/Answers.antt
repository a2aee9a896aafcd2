-- What is taken out was kept, and what is left was.
use Rattle.std.proofs.Common.{◌≡◌, ◌∙◌, ◌<◌, ℕ, List, Option, Some, ap, arith, length, refl, sym}
use Rattle.std.specs.Prelude.{slice_get}
use Rattle.std.proofs.lemmas.Option.{slice_get_read}
use Rattle.jp_nodes.specs.declared.cursor.Cursor.{Cursor}
use Rattle.jp_eval.specs.declared.frame.Answer.{Answer}
use Rattle.jp_eval.specs.declared.frame.Answer.TheVariants as answers
use Rattle.jp_eval.proofs.Answered.{kept_without}
use Rattle.jp_eval.proofs.Runs.{answer_at}
use Rattle.jp_eval.proofs.frame.Run.take_sums.Goals as goal

pub returns-then-sums-most-clause-sums : goal.returns-then-sums-most-clause-sums
returns-then-sums-most-clause-sums c =
    let found : List Cursor = c.args.frame.now.found.items in
    let kept : List (Option Answer) = c.args.frame.now.answers.items in
    let here : ℕ = c.args.position in
    let size : c.len.result ≡ length kept = c.len.ensures ∙ c.args.frame.now.answers.ok.0 in
    let within : here < length kept = omega (arith, size, c.if-position-len.false) in
    let known : here < c.args.self.known = omega (arith, c.if-position-self.false) in
    let read : slice_get kept here ≡ Some c.index_mut.result.now = slice_get_read kept (length kept) here c.index_mut.result.now refl within c.index_mut.ensures.value in
    let is : c.index_mut.result.now ≡ Some (answers.Sums c.in-Some-Sums.sums) = sym c.take.ensures.value ∙ (c.in-Some-Sums.is ∙ ap (λ (a : Answer). Some a) c.in-Some-Sums.field-0-is) in
    answer_at c.args.self found kept here (answers.Sums c.in-Some-Sums.sums) c.requires known (read ∙ ap (λ (o : Option Answer). Some o) is)

pub returns-then-sums-most-clause-kept : goal.returns-then-sums-most-clause-kept
returns-then-sums-most-clause-kept c = kept_without c.args.self c.args.frame.now.found.items c.args.frame.now.answers.items c.args.position c.take.new.self c.take.ensures.after c.requires

pub returns-in-Some-Sums-clause-kept : goal.returns-in-Some-Sums-clause-kept
returns-in-Some-Sums-clause-kept c = kept_without c.args.self c.args.frame.now.found.items c.args.frame.now.answers.items c.args.position c.take.new.self c.take.ensures.after c.requires

pub returns-clause-kept : goal.returns-clause-kept
returns-clause-kept c = kept_without c.args.self c.args.frame.now.found.items c.args.frame.now.answers.items c.args.position c.take.new.self c.take.ensures.after c.requires
