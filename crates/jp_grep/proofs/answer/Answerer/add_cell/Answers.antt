-- The cell is that of the first node.
use Rattle.std.proofs.Common.{◌≡◌, ◌∙◌, ℕ, List, [], ◌∷◌, ◌++◌, IfSome, take, ap, refl, subst, sym}
use Rattle.jp_model.specs.Meaning.Nodes.{Node}
use Rattle.jp_model.specs.Meaning.Selecting.{path_nodes}
use Rattle.jp_form.specs.declared.form.Table.{Table}
use Rattle.jp_children.specs.Found.{node_list}
use Rattle.jp_lines.specs.Views.{text_of_view}
use Rattle.jp_nodes.specs.Cursors.{line_of, node_of}
use Rattle.jp_model.specs.Json.Tree.{value_of}
use Rattle.jp_nodes.specs.Kinds.{kind_of}
use Rattle.jp_table.specs.Cells.{Cell}
use Rattle.jp_table.specs.declared.cell.CellKind.{CellKind}
use Rattle.jp_table.specs.Held.{Holds}
use Rattle.jp_grep.specs.Asked.{asked_tree, query_path}
use Rattle.jp_grep.specs.Spelled.{cell_kind, cell_of, cell_text_of}
use Rattle.jp_grep.specs.Tables.{nodes_cell}
use Rattle.jp_grep.proofs.answer.Answerer.add_cell.Goals as goal

cell_of_first : (table : Table) (line : List ℕ) (nodes : List Node) → nodes_cell table line (take 1 nodes) ≡ nodes_cell table line nodes
cell_of_first table line [] = refl
cell_of_first table line (node ∷ more) = refl

pub returns-clause-cell : goal.returns-clause-cell
returns-clause-cell c = λ cells held.
    let table = c.args.table in
    let node = c.in-Some.node in
    let tree = (node_of node).tree in
    let line = text_of_view c.args.asked.now.line in
    let ns = path_nodes (query_path c.args.query.now) (node_of c.args.asked.now.node) (asked_tree c.args.asked.now) in
    let first : node_of node ∷ [] ≡ take 1 ns = subst (λ some. node_list some ≡ take 1 ns) c.in-Some.is c.in_ok-node.ensures.node in
    let of : line_of node ≡ line = subst (λ some. IfSome some (λ d. line_of d ≡ line)) c.in-Some.is c.in_ok-node.ensures.line in
    let text : c.in_ok-text.text.now ≡ cell_text_of table line tree = c.in_ok-text.ensures ∙ ap (λ l. cell_text_of table l tree) of in
    let cell : Cell = record { kind = c.cell_kind.result; text = c.in_ok-text.text.now } in
    let of_parts : CellKind → List ℕ → Cell = λ k x. record { kind = k; text = x } in
    let kind : c.cell_kind.result ≡ cell_kind (kind_of (value_of tree)) = c.cell_kind.ensures ∙ ap cell_kind c.kind.ensures in
    let is : cell ≡ cell_of table line tree = ap (λ k. of_parts k c.in_ok-text.text.now) kind ∙ ap (of_parts (cell_kind (kind_of (value_of tree)))) text in
    let whole : cell ≡ nodes_cell table line ns = is ∙ (ap (nodes_cell table line) first ∙ cell_of_first table line ns) in
    subst (λ (x : Cell). Holds table c.add-2.new.self (cells ++ x ∷ [])) whole
    (c.in_ok-add-2.ensures cells (subst (λ r. Holds table r cells) (sym c.in_ok-node.ensures.cells) held))
