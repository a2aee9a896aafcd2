use Rattle.std.proofs.Common.{◌≡◌, ◌-◌, length, chars, string_bytes}
use Rattle.jp_query.specs.Reading.Scalars.{many, all_of, with_front}
use Rattle.jp_query.specs.Reading.Strings.{next_scalar}
use Rattle.jp_query.proofs.parser.strings.between_quotes.Given as goal

-- what was read so far, and then what is still read
abbrev pub invariant-loop : goal.invariant-loop
invariant-loop l = with_front (chars (string_bytes l.spelled)) (many (next_scalar l.quote) (length l.text - l.counter) l.rest) ≡ all_of (next_scalar l.quote) l.text
