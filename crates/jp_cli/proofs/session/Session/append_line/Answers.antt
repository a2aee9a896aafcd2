-- A refused line is told by its fault.
use Rattle.std.proofs.Common.{sym, subst}
use Rattle.jp_query.specs.Status.{query_of}
use Rattle.jp_model.specs.Script.Commands.{append_line}
use Rattle.jp_store.specs.Collections.{Collection}
use Rattle.jp_cli.specs.Runs.{RepliesTo, setup_of}
use Rattle.jp_cli.proofs.Edited.{append_refused}
use Rattle.jp_cli.proofs.session.Session.append_line.Goals as goal

pub returns-in-Err-clause-replies : goal.returns-in-Err-clause-replies
returns-in-Err-clause-replies c =
    let old = c.args.self.now.store in
    subst (λ (s : Collection). RepliesTo query_of (setup_of c.args.self.now) (append_line c.args.text.now) old.state s.state c.refuse_edit.result) (sym c.in-Err.ensures.1)
    (append_refused query_of c.args.self.now c.args.text.now c.in-Err.fault c.refuse_edit.result c.in-Err.ensures.0 c.refuse_edit.ensures)
