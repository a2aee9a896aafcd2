-- As many zeros were appended as turns were made.
use Rattle.std.proofs.Common.{◌≡◌, ◌++◌}
use Rattle.jp_canon.specs.Layout.{zeros}
use Rattle.jp_canon.proofs.layout.append_zeros.Given as goal

abbrev pub invariant-loop : goal.invariant-loop
invariant-loop l = l.text.items ≡ l.fn.text.items ++ zeros l.counter
