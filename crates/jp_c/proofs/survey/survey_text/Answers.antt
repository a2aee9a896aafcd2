-- The survey is that of the lines that the search told.
use Rattle.std.proofs.Common.{◌≡◌, ◌∙◌, [], ℕ, List, ap, false, get_or, subst}
use denote.Ref.{Bor}
use Rattle.jp_form.specs.declared.form.Form.{Form}
use Rattle.jp_grep.specs.declared.question.Question.{Question}
use Rattle.jp_survey.specs.Told.{lines_told}
use Rattle.jp_c.specs.Asked.{events_by, form_of, node_rows, of_lines}
use Rattle.jp_c.specs.Surveyed.{IsSurveyOf, IsSurveyOfFound}
use Rattle.jp_c.specs.declared.filter.Rows.{Rows}
use Rattle.jp_c.proofs.survey.survey_text.Goals as goal

-- a survey of what is told in such a form
survey_with : (question : Question) (name : Bor (List ℕ)) (rows : Rows) (form : Form) (text : List ℕ) (set fold : ℕ) (left : List ℕ) → form ≡ form_of name of_lines rows false → rows ≡ node_rows → set ≡ fold
    → IsSurveyOf (lines_told (events_by question form text)) set left → IsSurveyOfFound question text fold left
survey_with question name rows form text set fold left form_is rows_is fold_is survey = (
  name,
  subst (λ (f : Form). IsSurveyOf (lines_told (events_by question f text)) fold left) (form_is ∙ ap (λ (r : Rows). form_of name of_lines r false) rows_is)
      (subst (λ (n : ℕ). IsSurveyOf (lines_told (events_by question form text)) n left) fold_is survey),
)

pub returns-clause-found : goal.returns-clause-found
returns-clause-found c =
    let question = c.args.question.now in
    let form = c.form_of-form.result in
    let text : List ℕ = c.args.text.now in
    let left : List ℕ = c.in_ok-text_of.field-0.items in
    let survey = c.in_ok-text_of.ensures (events_by question form text) (c.in_ok-search_text.ensures.found [] c.in_ok-survey.ensures.told) in
    let fold_is = ap (λ (settings : List ℕ). get_or settings 0 0) c.in_ok-search_text.ensures.settings ∙ c.in_ok-survey.ensures.fold in
    survey_with question _ c.node_rows.result form text _ c.args.fold left c.form_of-form.ensures c.node_rows.ensures fold_is survey
