-- The answer of its command is the run of one line.
use Rattle.std.proofs.Common.{refl, subst, ◌∙◌, ap}
use Rattle.jp_model.specs.Script.Commands.{Command, command_of}
use Rattle.jp_cli.specs.Commands.{asked_in}
use Rattle.jp_cli.specs.Runs.{AnswersOne, progress_of, setup_of}
use Rattle.jp_query.specs.Status.{query_of}
use Rattle.jp_cli.proofs.Runs.{answer_one}
use Rattle.jp_cli.proofs.session.Session.answer_line.Goals as goal

pub returns-clause-ran : goal.returns-clause-ran
returns-clause-ran g c =
    let one = subst (λ (k : Command). AnswersOne query_of g.W.Write.contents c.args.out.now c.answer_command.new.out c.answer_command.result (setup_of c.args.self.now) k (progress_of c.args.self.now)
    (progress_of c.answer_command.new.self))
    (c.read_command.ensures ∙ ap command_of c.without_final_cr.ensures) c.answer_command.ensures.ran in
    (_, answer_one query_of asked_in (setup_of c.args.self.now) _ _ _ _ one.0 one.1 refl one.2 one.3, one.4)
