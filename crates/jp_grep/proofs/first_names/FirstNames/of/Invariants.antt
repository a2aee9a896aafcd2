-- The names of the queries so far.
use Rattle.std.proofs.Common.{◌≡◌, map, take}
use Rattle.jp_columns.specs.Names.{text_of}
use Rattle.jp_grep.specs.Asked.{first_name}
use Rattle.jp_grep.proofs.first_names.FirstNames.of.Given as goal

abbrev pub invariant-loop-query : goal.invariant-loop-query
invariant-loop-query l = map text_of l.names.items ≡ map first_name (take l.query-index l.queries)
