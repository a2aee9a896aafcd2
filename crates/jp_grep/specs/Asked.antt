-- A node that is asked, and a query that is asked of it.
use Rattle.std.specs.Prelude.{◌≡◌, ℕ, List, [], Option, Some, None, String}
use Rattle.std.specs.declared.alloc.Global.{Global}
use Rattle.jp_columns.specs.Names.{text_of}
use Rattle.jp_eval.specs.Compiled.{program_view}
use Rattle.jp_lines.specs.Views.{text_of_view, tree_of_view}
use Rattle.jp_model.specs.Json.Tree.{Tree}
use Rattle.jp_model.specs.Query.Syntax.{Path, path, Segments, segment, child_segment, selector, name_selector, no_selectors}
use Rattle.jp_nodes.specs.Cursors.{line_of}
use Rattle.jp_syntax.specs.View.{origin_view}
use Rattle.jp_grep.specs.declared.asked.AskedNode.{AskedNode}
use Rattle.jp_grep.specs.declared.asked.AskedQuery.{AskedQuery}

-- the node is one of the line
abbrev pub IsOfItsLine : AskedNode → Type 0
IsOfItsLine asked = line_of asked.node ≡ text_of_view asked.line

-- the value of its line
abbrev pub asked_tree : AskedNode → Tree
asked_tree asked = tree_of_view asked.line

-- segments, after the name that they begin with if it stands alone
abbrev pub after_name : Option (String Global) → Segments → Segments
after_name None rest = rest
after_name (Some name) rest = segment (child_segment (selector (name_selector (text_of name)) no_selectors)) rest

-- what a compiled query means: a rel-query or a jsonpath-query (RFC 9535, section 2.3.5.1)
abbrev pub query_path : AskedQuery → Path
query_path query = path (origin_view query.origin) (after_name query.first (program_view query.program))

-- a name, and the empty one where there is none
abbrev pub name_or_empty : Option (String Global) → List ℕ
name_or_empty None = []
name_or_empty (Some name) = text_of name

-- the name that a query begins with
abbrev pub first_name : AskedQuery → List ℕ
first_name query = name_or_empty query.first
