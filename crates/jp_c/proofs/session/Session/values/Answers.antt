-- The values are what is left to be read, and nothing that is asked for them is refused.
use Rattle.std.proofs.Common.{◌∙◌, ℕ, List, [], Option, ap, false, subst, sym, true}
use Rattle.jp_form.specs.declared.form.Form.{Form}
use Rattle.jp_form.specs.declared.form.Units.{Units}
use Rattle.jp_grep.specs.Items.{items_come}
use Rattle.jp_grep.specs.Rows.{refused_count}
use Rattle.jp_c.specs.Asked.{Asks, IsFound, TellsRefusedQuestion}
use Rattle.jp_c.specs.Sessions.{left_in}
use Rattle.jp_c.specs.Values.{AreValues, TellsValuesFault, units_of}
use Rattle.jp_c.specs.declared.filter.Rows.{Rows}
use Rattle.jp_c.specs.declared.question.FilterFault.{FilterFault}
use Rattle.jp_c.proofs.Answering.{values_refused}
use Rattle.jp_c.proofs.Asking.{found_with, handed_on}
use Rattle.jp_c.proofs.session.Session.values.Goals as goal

pub returns-in_err-question-clause-fault : goal.returns-in_err-question-clause-fault
returns-in_err-question-clause-fault c =
    let text : List ℕ = c.args.text.now in
    let units = units_of c.args.units in
    let fault : FilterFault = c.in_err-question.field-0.0 in
    let refused = subst (λ (r : Rows). TellsRefusedQuestion fault [] [] r.queries) c.line_rows.ensures c.in_err-question.ensures.refused in
    handed_on (λ (f : FilterFault). TellsValuesFault f text units) c.from_residual.result fault c.from_residual.ensures.1 (values_refused fault text units refused)

pub returns-clause-found : goal.returns-clause-found
returns-clause-found c =
    let question = c.in_ok-question.question in
    let text : List ℕ = c.args.text.now in
    let left : List ℕ = left_in c.keep-2.new.self in
    let units : Units = c.in-Some.units in
    let form = c.form_of-form.result in
    let asks = subst (λ (r : Rows). Asks [] [] r.queries question) c.line_rows.ensures c.in_ok-question.ensures.asks in
    let found = subst (λ (r : Rows). IsFound question units r false text left) c.line_rows-2.ensures
    (found_with question units c.line_rows-2.result false _ form text left c.form_of-form.ensures (c.keep-2.ensures.left ∙ c.in_ok-found.ensures.found)) in
    let refused = c.in_ok-found.ensures.refused ∙ ap (λ (f : Form). refused_count (items_come f.units true text)) c.form_of-form.ensures in
    subst (λ (u : Option Units). AreValues text u left c.in_ok-found.refused) (sym c.in-Some.is ∙ c.units_of.ensures) ((question, asks, found), refused)
