-- The rows of a table, in which each query is a column.
use Rattle.std.specs.Prelude.{ℕ, List, [], ◌∷◌, ◌++◌, map, codes, decimal}
use Rattle.jp_model.specs.Json.Spelling.{Spells}
use Rattle.jp_model.specs.Json.Tree.{Tree}
use Rattle.jp_model.specs.Meaning.Nodes.{Node}
use Rattle.jp_model.specs.Meaning.Selecting.{path_nodes}
use Rattle.jp_model.specs.Query.Syntax.{Path}
use Rattle.jp_model.specs.Rows.{line_feed}
use Rattle.jp_canon.specs.Canonical.{canonical_text}
use Rattle.jp_form.specs.declared.form.Form.{Form}
use Rattle.jp_form.specs.declared.form.Shown.{Shown}
use Rattle.jp_form.specs.declared.form.Shown.TheVariants as shown
use Rattle.jp_form.specs.declared.form.Table.{Table}
use Rattle.jp_form.specs.declared.form.Table.TheVariants as tables
use Rattle.jp_table.specs.Cells.{Cell, bare_cell, no_cell}
use Rattle.jp_table.specs.ReadBack.{HasText, MayStand}
use Rattle.jp_table.specs.Tables.{front_cells, joined}
use Rattle.jp_grep.specs.Spelled.{cell_of}

-- the cell of a query that selects these nodes, of which it is one at most where the query is singular (RFC 9535,
-- section 2.3.5.1)
abbrev pub nodes_cell : Table → List ℕ → List Node → Cell
nodes_cell table line [] = no_cell
nodes_cell table line (node ∷ more) = cell_of table line node.tree

-- The cell of a value that the bytes of a line spell has one of the texts of what it has, so that between commas it leads back
-- to that.
abbrev pub CellsHaveTexts : Type 0
CellsHaveTexts = (line : List ℕ) (t : Tree) → Spells line t → HasText (cell_of tables.Commas line t).kind (cell_of tables.Commas line t).text

-- The canonical text of any value may stand in a cell of a table of canonical cells: it has no tab and no line feed.
abbrev pub CanonicalTextsMayStand : Type 0
CanonicalTextsMayStand = (t : Tree) → MayStand tables.Canonical (canonical_text t)

-- a cell for each query, asked of a node of a line
abbrev pub query_cells : Table → List Path → List ℕ → Tree → Node → List Cell
query_cells table queries line t node = map (λ query. nodes_cell table line (path_nodes query node t)) queries

-- the row of a node of line n
abbrev pub table_row : Table → List Path → Form → ℕ → List ℕ → Tree → Node → List ℕ
table_row table queries form n line t node = joined table (front_cells form form.name.now (decimal n) ++ query_cells table queries line t node) ++ line_feed

-- the row above the others: the names of the columns, after those of the cells in front
abbrev pub header_row : Table → Form → List (List ℕ) → List ℕ
header_row table form names = joined table (front_cells form (codes "file") (codes "line") ++ map bare_cell names) ++ line_feed

-- what stands above all rows: that row where they are those of a table
abbrev pub header_text : Shown → Form → List (List ℕ) → List ℕ
header_text shown.Nothing form names = []
header_text (shown.Line faults) form names = []
header_text shown.Around form names = []
header_text shown.Nodes form names = []
header_text (shown.Values paths) form names = []
header_text (shown.Cells table) form names = header_row table form names
