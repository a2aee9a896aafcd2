use Rattle.std.proofs.Common.{◌≡◌, drop}
use Rattle.jp_query.specs.Reading.Scalars.{after_all}
use Rattle.jp_query.proofs.parser.scalars.after_all.Given as goal

abbrev pub invariant-loop-c : goal.invariant-loop-c
invariant-loop-c l = after_all (drop l.c-index l.word) l.rest ≡ after_all l.word l.text
