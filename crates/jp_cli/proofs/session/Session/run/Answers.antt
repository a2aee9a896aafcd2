-- The script ends by the commands that its lines ask for as it ends by its lines.
use Rattle.jp_cli.specs.Runs.{progress_of, setup_of}
use Rattle.jp_model.specs.Script.Commands.{command_of}
use Rattle.jp_cli.proofs.Ending.{script_ends}
use Rattle.jp_cli.proofs.Told.{script_told}
use Rattle.jp_query.specs.Status.{query_of}
use Rattle.jp_cli.proofs.session.Session.run.Goals as goal

pub returns-clause-output : goal.returns-clause-output
returns-clause-output g c =
    let out = c.run_lines.ensures.output in (
      out.0,
      out.1,
      script_ends query_of (setup_of c.args.self.now) g.W.Write.contents c.args.out.now c.run_lines.new.out c.run_lines.result _ (progress_of c.run_lines.new.self) out.0 out.2,
    )

pub returns-clause-told : goal.returns-clause-told
returns-clause-told g c =
    let out = returns-clause-output g c in
    script_told query_of command_of g.W.Write.contents c.args.out.now c.run_lines.new.out (setup_of c.args.self.now) _ _ g.R.Read.remaining c.args.script.now c.run_lines.new.script c.run_lines.result out.0 out.1 out.2
