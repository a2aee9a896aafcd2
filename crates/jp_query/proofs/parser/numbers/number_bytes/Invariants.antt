use Rattle.std.proofs.Common.{◌≡◌, take}
use Rattle.jp_query.proofs.parser.numbers.number_bytes.Given as goal

abbrev pub invariant-loop-c : goal.invariant-loop-c
invariant-loop-c l = l.bytes.items ≡ take l.c-index l.spelling
