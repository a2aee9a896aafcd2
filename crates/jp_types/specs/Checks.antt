-- A query that was checked.
use Rattle.jp_model.specs.Query.Syntax.{Segments}
use Rattle.jp_syntax.specs.Queries.{query_view}
use Rattle.jp_types.specs.declared.checked.Checked.{Checked}

-- its segments (RFC 9535, section 2.1.1)
abbrev pub checked_view : Checked → Segments
checked_view c = query_view c.query
