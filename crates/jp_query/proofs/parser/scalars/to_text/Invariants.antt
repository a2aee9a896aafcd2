use Rattle.std.proofs.Common.{◌≡◌, take, chars, string_bytes}
use Rattle.jp_query.proofs.parser.scalars.to_text.Given as goal

abbrev pub invariant-loop-c : goal.invariant-loop-c
invariant-loop-c l = chars (string_bytes l.text) ≡ take l.c-index l.scalars
