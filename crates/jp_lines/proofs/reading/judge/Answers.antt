-- The status is the only one, and the tape is that of the tree that the line spells.
use Rattle.std.proofs.Common.{sym, subst}
use Rattle.jp_model.specs.Json.Status.{parsed, refused}
use Rattle.jp_model.proofs.Reader.Statuses.{only_status}
use Rattle.jp_nodes.specs.Tapes.{spelled}
use Rattle.jp_tape.specs.Refusals.{IsRefused}
use Rattle.jp_lines.proofs.reading.judge.Goals as goal

pub returns-in-Ok-clause-judged : goal.returns-in-Ok-clause-judged
returns-in-Ok-clause-judged c =
    let line = c.args.text.now in
    (sym (only_status c.args.framing line (parsed (spelled line)) c.in-Ok.ensures.status), c.in-Ok.ensures.tape)

pub returns-in-Err-Line-clause-judged : goal.returns-in-Err-Line-clause-judged
returns-in-Err-Line-clause-judged c =
    let line = c.args.text.now in
    (sym (only_status c.args.framing line (refused c.in-Err-Line.fault) (subst (IsRefused c.args.framing line) c.in-Err-Line.field-0-is c.in-Err-Line.ensures.fault)), tt)
