-- Words for worked examples: small trees of queries.
use Rattle.std.specs.Prelude.{ℕ, List, Option}
use Rattle.jp_model.specs.Query.Syntax.{Segments, no_segments, segment, child_segment, Selector, filter_selector, no_selectors, selector, Logical}
use Rattle.jp_query.specs.Reading.Queries.{query_at}
use Rattle.test_definitions.specs.Written.{reading}

-- the query that the scalars spell
unfoldable pub reads : List ℕ → Option Segments
unfolding reading
reads x = query_at (λ i. i) 512 x

-- a child segment with one selector alone
abbrev pub one_child : Selector → Segments
one_child s = segment (child_segment (selector s no_selectors)) no_segments

-- a filter alone
abbrev pub filtered : Logical → Segments
filtered l = one_child (filter_selector l)
