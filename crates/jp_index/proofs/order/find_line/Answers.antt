-- The line stands where it would be, or is not there.
use Rattle.std.proofs.Common.{◌∙◌, arith, sym}
use Rattle.std.proofs.lemmas.List.{get_or_default}
use Rattle.jp_index.specs.Cells.{key_at}
use Rattle.jp_index.proofs.ByKey.{not_there}
use Rattle.jp_index.proofs.order.find_line.Goals.{else-position-lines-via-then-position-lines+else-lines-position, else-position-lines-via-else-position-lines}
use Rattle.jp_index.proofs.order.find_line.Goals as goal

pub returns-else-position-lines-clause-missing : goal.returns-else-position-lines-clause-missing
returns-else-position-lines-clause-missing c = λ h is_none there.
    let lines = c.args.lines.now in
    let position = c.position_of-position.result in
    not_there (key_at c.args.cells.now) c.args.line lines position h (c.position_of-position.ensures.position h)
    (elim c.else-position-lines.branch [
      | else-position-lines-via-then-position-lines+else-lines-position w ↦ λ l e. w.if-lines-position.false (get_or_default lines position 0 c.args.line l ∙ sym e)
      | else-position-lines-via-else-position-lines w ↦ λ l e. absurd (omega (arith, w.if-position-lines.false))
    ]) there
