-- The survey is what is left to be read, and only the condition is refused.
use Rattle.std.proofs.Common.{ℕ, List, subst, sym}
use Rattle.jp_c.specs.Surveyed.{IsSurveyOfFound, TellsSurveyFault}
use Rattle.jp_c.specs.declared.question.FilterFault.{FilterFault}
use Rattle.jp_c.proofs.Answering.{survey_refused}
use Rattle.jp_c.proofs.Asking.{handed_on}
use Rattle.jp_c.proofs.session.Session.survey.Goals as goal

pub returns-in_err-question-clause-fault : goal.returns-in_err-question-clause-fault
returns-in_err-question-clause-fault c =
    let text : List ℕ = c.args.text.now in
    let condition : List ℕ = c.args.condition.now in
    let fault : FilterFault = c.in_err-question.field-0.0 in
    handed_on (λ (f : FilterFault). TellsSurveyFault f text condition) c.from_residual.result fault c.from_residual.ensures.1 (survey_refused fault text condition c.in_err-question.ensures.refused)

pub returns-clause-found : goal.returns-clause-found
returns-clause-found c =
    let question = c.in_ok-question.question in
    let found = subst (λ (left : List ℕ). IsSurveyOfFound question c.args.text.now c.args.fold left) (sym c.keep-2.ensures.left) c.in_ok-found.ensures.found in
    (question, c.in_ok-question.ensures.asks, found)
