-- There are as many.
use Rattle.std.proofs.Common.{◌≡◌, length}
use Rattle.jp_survey.proofs.order.ends_of.Given as goal

abbrev pub invariant-loop-index : goal.invariant-loop-index
invariant-loop-index l = length l.ends.items ≡ l.many
