-- One of whose nodes no more are wanted counts as a blank one.
use Rattle.std.proofs.Common.{sym}
use Rattle.jp_grep.specs.ReadItems.{status_by}
use Rattle.jp_grep.proofs.Around.{all_judged, none_judged}
use Rattle.jp_grep.proofs.answer.judged.Goals as goal

pub returns-then-most-eq0 : goal.returns-then-most-eq0
returns-then-most-eq0 c = sym (none_judged c.args.most (status_by c.args.state) c.if-most-eq0.true)

pub returns-else-most-eq0 : goal.returns-else-most-eq0
returns-else-most-eq0 c = sym (all_judged c.args.most (status_by c.args.state) c.if-most-eq0.false)
