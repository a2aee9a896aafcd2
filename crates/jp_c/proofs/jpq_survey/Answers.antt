-- What was kept in the session is what the handle has.
use Rattle.std.proofs.Common.{Option, sym, subst}
use Rattle.jp_c.specs.Sessions.{left_of}
use Rattle.jp_c.specs.Surveyed.{IsSurveyed}
use Rattle.jp_c.specs.declared.session.Session.{Session}
use Rattle.jp_c.proofs.jpq_survey.Goals as goal

pub returns-in-Ok-clause-found : goal.returns-in-Ok-clause-found
returns-in-Ok-clause-found c =
    let kept = rw c.in-Ok.is at c.survey-found.ensures.found in
    λ h. subst (λ (s : Option Session). IsSurveyed c.args.text.now c.args.condition.now c.args.fold (left_of s)) (sym c.put.ensures) kept
