-- What was written is the text of the survey.
use Rattle.std.proofs.Common.{◌≡◌, ◌∙◌, ◌++◌, [], ℕ, List, Global, Vec, ap, false}
use Rattle.jp_form.specs.declared.form.Table.TheVariants as tables
use Rattle.jp_survey.specs.Texts.{survey_text}
use Rattle.jp_c.proofs.survey.text_of.Goals as goal

pub returns-in-Ok : goal.returns-in-Ok
returns-in-Ok c told held =
    let rows = c.in-Ok.ensures.rows told held in
    let none : c.new-text.result.device.items ≡ [] = ap (λ (v : Vec ℕ Global). v.items) c.new-text.ensures.device ∙ c.new.ensures.items in (
      rows.0,
      rows.1,
      ap (λ (v : Vec ℕ Global). v.items) c.into_inner.ensures ∙ rows.2.held ∙ ap (λ (l : List ℕ). l ++ survey_text tables.Canonical false rows.0) none,
    )
