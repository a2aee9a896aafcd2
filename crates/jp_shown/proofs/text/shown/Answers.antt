use Rattle.std.proofs.Common.{rules}
use Rattle.jp_shown.proofs.Showing.{points_shown}
use Rattle.jp_shown.proofs.text.shown.Goals as goal

pub returns : goal.returns
returns c = search (rules, c.in_ok-push_str.ensures, c.in_ok-push_all-2.ensures, c.in_ok-scalars.ensures, points_shown)
