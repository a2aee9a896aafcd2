use Rattle.std.proofs.Common.{◌≡◌, ◌-◌, length, map}
use Rattle.jp_query.specs.Integers.{clamp}
use Rattle.jp_query.specs.Reading.Scalars.{many, all_of, with_front}
use Rattle.jp_query.specs.Reading.Queries.{next_singular}
use Rattle.jp_syntax.specs.View.{segment_view}
use Rattle.jp_query.proofs.parser.Parser.singular_list.Given as goal

-- what was read so far, and then what is still read
abbrev pub invariant-loop : goal.invariant-loop
invariant-loop l = with_front (map segment_view l.all.items) (many (next_singular clamp) (length l.fn.self.rest.now - l.counter) l.self.rest.now) ≡ all_of (next_singular clamp) l.fn.self.rest.now
