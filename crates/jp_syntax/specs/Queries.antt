-- What a query, and a condition that stands alone, stand for.
use Rattle.jp_model.specs.Query.Syntax.{Logical, Segments}
use Rattle.jp_syntax.specs.View.{logical_view, segments_view}
use Rattle.jp_syntax.specs.declared.condition.Condition.{Condition}
use Rattle.jp_syntax.specs.declared.query.Query.{Query}

-- its segments (RFC 9535, section 2.1.1)
abbrev pub query_view : Query → Segments
query_view q = segments_view q.segments.items

-- its expression (RFC 9535, section 2.3.5)
abbrev pub condition_view : Condition → Logical
condition_view c = logical_view c.expression
