-- What was appended, and the rest without its line breaks, are what is to be appended.
use Rattle.std.proofs.Common.{◌≡◌, ◌++◌, length}
use Rattle.jp_grep.proofs.Joining.{joined}
use Rattle.jp_grep.proofs.spelling.append_joined.Given as goal

abbrev pub invariant-loop-end : goal.invariant-loop-end
invariant-loop-end l = l.text.items ++ joined l.rest ≡ l.fn.text.items ++ joined l.fn.bytes

abbrev pub decreases-loop-end : goal.decreases-loop-end
decreases-loop-end l = length l.rest
