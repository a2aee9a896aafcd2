-- A query over a collection: what explains it, which lines it opens, and its rows.
use Rattle.std.specs.Prelude.{ℕ, List}
use Rattle.jp_model.specs.Query.Syntax.{Segments}
use Rattle.jp_model.specs.Plans.{explain, opened}
use Rattle.jp_model.specs.Rows as model
use Rattle.jp_store.specs.Collections.{Collection, statuses_in}

-- a query over a collection
pub record Planned : Type 0 where
  pub query : Segments
  pub over : Collection

-- the text that explains a plan
abbrev pub explained : Planned → List ℕ
explained p = explain p.query p.over.state.paths (statuses_in p.over)

-- the lines that it opens
abbrev pub lines_opened : Planned → List ℕ
lines_opened p = opened p.query p.over.state.paths (statuses_in p.over)

-- the rows of the query
abbrev pub rows_of : Planned → List model.Row
rows_of p = model.rows p.query (statuses_in p.over)
