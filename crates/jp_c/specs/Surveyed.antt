-- What is in the lines of a text.
use Rattle.std.specs.Prelude.{◌≡◌, ℕ, List, [], false}
use denote.Ref.{Bor}
use Rattle.jp_form.specs.declared.form.Table.TheVariants as tables
use Rattle.jp_grep.specs.declared.question.Queries.TheVariants as purposes
use Rattle.jp_grep.specs.declared.question.Question.{Question}
use Rattle.jp_survey.specs.Paths.{Line}
use Rattle.jp_survey.specs.Surveys.{Entry, IsSurvey}
use Rattle.jp_survey.specs.Texts.{survey_text}
use Rattle.jp_survey.specs.Told.{lines_told}
use Rattle.jp_c.specs.Asked.{Asks, IsForeign, IsRefusedCondition, events_by, form_of, node_rows, of_lines}
use Rattle.jp_c.specs.declared.question.FilterFault.{FilterFault}
use Rattle.jp_c.specs.declared.question.FilterFault.TheVariants as faults

-- the text of a survey of some lines, in which objects of more names than `fold` are folded
abbrev pub IsSurveyOf : List Line → (fold : ℕ) → (left : List ℕ) → Type 0
IsSurveyOf lines fold left = (survey : List Entry) × IsSurvey fold lines survey × (left ≡ survey_text tables.Canonical false survey)

-- the lines of a text that answer a question, as a search tells them; no name stands in what is told
abbrev pub lines_found : Question → (name : Bor (List ℕ)) → (text : List ℕ) → List Line
lines_found question name text = lines_told (events_by question (form_of name of_lines node_rows false) text)

-- the text of a survey of these
abbrev pub IsSurveyOfFound : Question → (text : List ℕ) → (fold : ℕ) → (left : List ℕ) → Type 0
IsSurveyOfFound question text fold left = (name : Bor (List ℕ)) × IsSurveyOf (lines_found question name text) fold left

-- The survey of the lines of a text for which a condition holds, or of all that have a value where it is empty.
abbrev pub IsSurveyed : (text condition : List ℕ) → (fold : ℕ) → (left : List ℕ) → Type 0
IsSurveyed text condition fold left = (question : Question) × Asks condition [] purposes.Filter question × IsSurveyOfFound question text fold left

-- why there is none: the condition is refused, or the text is of another format, unless memory ran out
abbrev pub TellsSurveyFault : FilterFault → (text condition : List ℕ) → Type 0
TellsSurveyFault faults.Number text condition = ⊥
TellsSurveyFault faults.Question text condition = IsRefusedCondition condition
TellsSurveyFault faults.Format text condition = IsForeign text
TellsSurveyFault faults.Memory text condition = Unit {0}
