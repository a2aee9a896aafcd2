-- The text of the plan is that of the definition.
use Rattle.std.proofs.Common.{ap, sym, ◌∙◌, refl}
use Rattle.jp_model.specs.Script.Machine.{explain_answer}
use Rattle.jp_plan.specs.Planned.{explained}
use Rattle.jp_cli.specs.Runs.{setup_of}
use Rattle.jp_cli.proofs.Refused.{explain_refused}
use Rattle.jp_cli.proofs.session.Session.explain_query.Goals as goal

pub returns-in_ok-explain-in-Ok : goal.returns-in_ok-explain-in-Ok
returns-in_ok-explain-in-Ok c =
    let state = c.args.self.now.store.state in (
      c.in_ok-explain-in-Ok.ensures ∙ (ap explained c.in_ok-new-in-Ok.ensures
          ∙ ap (explain_answer c.args.self.now.store.framing state) (sym c.in-Ok.ensures.read)),
      refl,
    )

pub returns-in-Err : goal.returns-in-Err
returns-in-Err c = explain_refused (setup_of c.args.self.now) c.args.self.now.store.state c.args.text.now c.in-Err.refusal c.refuse_query.result c.in-Err.ensures.refused c.refuse_query.ensures
