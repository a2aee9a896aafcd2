-- What is found is what is left to be read.
use Rattle.std.proofs.Common.{◌∙◌, ℕ, List, Option, subst, sym}
use Rattle.jp_c.specs.Asked.{IsFilteredBy, of_lines}
use Rattle.jp_c.specs.Sessions.{left_in}
use Rattle.jp_c.specs.declared.filter.Rows.{Rows}
use Rattle.jp_c.proofs.Asking.{found_with}
use Rattle.jp_c.proofs.session.Session.filter.Goals as goal

pub returns-clause-found : goal.returns-clause-found
returns-clause-found c =
    let question = c.in_ok-question.question in
    let rows = c.in-Some.rows in
    let text : List ℕ = c.args.text.now in
    let left : List ℕ = left_in c.keep-2.new.self in
    let found = found_with question of_lines rows c.args.numbered _ c.form_of-form.result text left c.form_of-form.ensures (c.keep-2.ensures.left ∙ c.in_ok-found.ensures.found) in
    subst (λ (r : Option Rows). IsFilteredBy text c.args.condition.now c.args.queries.now r c.args.numbered left) (sym c.in-Some.is ∙ c.rows_of.ensures) (question, c.in_ok-question.ensures.asks, found)
