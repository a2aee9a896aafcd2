-- A refused query is told by its fault.
use Rattle.jp_query.specs.Status.{query_of}
use Rattle.jp_model.specs.Script.Commands.{query_line}
use Rattle.jp_cli.specs.Runs.{setup_of}
use Rattle.jp_cli.proofs.Refused.{none_opened, query_refused}
use Rattle.jp_cli.proofs.Replied.{replied}
use Rattle.jp_cli.proofs.session.Session.answer_query.Goals as goal

pub returns-in-Err-clause-ran : goal.returns-in-Err-clause-ran
returns-in-Err-clause-ran g c =
    let state = c.args.self.now.store.state in
    replied query_of (setup_of c.args.self.now) (query_line c.args.text.now) g.W.Write.contents c.args.out.now c.write_reply.new.out c.write_reply.result c.refuse_query.result state state c.args.self.now.opened
    (none_opened (setup_of c.args.self.now) state c.args.text.now c.in-Err.refusal c.refuse_query.result c.in-Err.ensures.refused c.refuse_query.ensures)
    (query_refused (setup_of c.args.self.now) state c.args.text.now c.in-Err.refusal c.refuse_query.result c.in-Err.ensures.refused c.refuse_query.ensures) c.write_reply.ensures.text

pub returns-in-Ok-clause-ran : goal.returns-in-Ok-clause-ran
returns-in-Ok-clause-ran g c = c.answer_checked.ensures.ran c.args.text.now c.in-Ok.ensures.read
