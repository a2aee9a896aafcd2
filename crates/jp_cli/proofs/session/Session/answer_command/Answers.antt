-- An unknown command wants no memory.
use Rattle.std.proofs.Common.{ap, refl, subst, sym, arith}
use Rattle.jp_model.specs.Script.Commands.{Command, unknown_line}
use Rattle.jp_query.specs.Status.{query_of}
use Rattle.jp_cli.specs.Commands.{command_view}
use Rattle.jp_cli.specs.Runs.{AnswersOne, progress_of, setup_of}
use Rattle.jp_cli.proofs.Replied.{stepped}
use Rattle.jp_cli.proofs.session.Session.answer_command.Goals as goal

pub returns-in-Unknown-clause-ran : goal.returns-in-Unknown-clause-ran
returns-in-Unknown-clause-ran g c =
    subst (λ (k : Command). AnswersOne query_of g.W.Write.contents c.args.out.now c.write_whole.new.out c.write_whole.result (setup_of c.args.self.now) k (progress_of c.args.self.now) (progress_of c.args.self.now)) (sym (ap command_view c.in-Unknown.is))
    (stepped query_of (setup_of c.args.self.now) unknown_line g.W.Write.contents c.args.out.now c.write_whole.new.out c.write_whole.result (progress_of c.args.self.now) (progress_of c.args.self.now) _ refl refl (omega arith) c.write_whole.ensures.text)
