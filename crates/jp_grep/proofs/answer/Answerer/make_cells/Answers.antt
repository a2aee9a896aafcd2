-- The cell of one query comes after those of the queries before it.
use Rattle.std.proofs.Common.{◌≡◌, ◌∙◌, ◌++◌, ◌+◌, ◌<◌, ℕ, List, [], ◌∷◌, ap, arith, refl, rules, sym, subst, append_assoc, get_or, length, map, take, decimal, ◌||◌}
use Rattle.std.proofs.lemmas.Grind.{common_steps}
use Rattle.std.proofs.lemmas.List.{get_or-map, map-append, take_more}
use Rattle.jp_model.specs.Json.Tree.{Tree}
use Rattle.jp_model.specs.Meaning.Nodes.{Node}
use Rattle.jp_model.specs.Meaning.Selecting.{path_nodes}
use Rattle.jp_model.specs.Query.Syntax.{Path}
use Rattle.jp_lines.specs.Views.{text_of_view}
use Rattle.jp_nodes.specs.Cursors.{node_of}
use Rattle.jp_syntax.specs.View.{origin_view}
use Rattle.jp_form.specs.declared.form.Table.{Table}
use Rattle.jp_table.specs.Cells.{Cell}
use Rattle.jp_table.specs.Held.{Holds}
use Rattle.jp_table.specs.Tables.{front_cells}
use Rattle.jp_grep.specs.Asked.{asked_tree, first_name, query_path}
use Rattle.jp_grep.specs.Matching.{has_nodes}
use Rattle.jp_grep.specs.Members.{AreFound, IsMember, found_by, start_node}
use Rattle.jp_grep.specs.Tables.{nodes_cell, query_cells}
use Rattle.jp_grep.specs.declared.asked.AskedQuery.{AskedQuery}
use Rattle.jp_grep.proofs.Selecting.{selects_more}
use Rattle.jp_grep.proofs.answer.Answerer.make_cells.Goals as goal

cells_more : (table : Table) (line : List ℕ) (t : Tree) (node : Node) (queries : List AskedQuery) (i : ℕ) (query : AskedQuery) → i < length queries → query ≡ get_or queries i query
    → query_cells table (map query_path (take (i + 1) queries)) line t node
    ≡ query_cells table (map query_path (take i queries)) line t node ++ nodes_cell table line (path_nodes (query_path query) node t) ∷ []
cells_more table line t node queries i query within is =
    let cell : Path → Cell = λ p. nodes_cell table line (path_nodes p node t) in
    ap (λ l. map cell (map query_path l)) (take_more queries i query within ∙ ap (λ p. take i queries ++ p ∷ []) (sym is))
    ∙ ap (map cell) (map-append query_path (take i queries) (query ∷ []))
    ∙ map-append cell (map query_path (take i queries)) (query_path query ∷ [])

pub loop-index-preserved : goal.loop-index-preserved
loop-index-preserved c =
    let items = c.deref-query-items.ensures.value in
    let i = c.loop-index.index in
    let query = c.query-item.result in
    let form = c.args.self.form.now in
    let line = text_of_view c.args.asked.now.line in
    let t = asked_tree c.args.asked.now in
    let node = node_of c.args.asked.now.node in
    let queries = c.args.self.question.now.queries.items in
    let front = front_cells form form.name.now (decimal c.args.number) in
    let within : i < length queries = subst (λ l. i < length l) items c.loop-index-test.true in
    let is = c.query-item.is ∙ ap (λ l. get_or l i query) items in
    let before = query_cells c.args.table (map query_path (take i queries)) line t node in
    let cell = nodes_cell c.args.table line (path_nodes (query_path query) node t) in
    record {
      cells = subst (λ cells. Holds c.args.table c.add_cell.new.room.cells cells)
          (append_assoc front before (cell ∷ []) ∙ ap (λ l. front ++ l) (sym (cells_more c.args.table line t node queries i query within is)))
          (c.in_ok-some.ensures.cell (front ++ before) c.loop-index.invariant.cells);
      some = ap (λ b. c.loop-index.some || b) c.in_ok-some.ensures.some ∙ ap (λ b. b || has_nodes (path_nodes (query_path query) node t)) c.loop-index.invariant.some ∙ sym (selects_more queries i query node t within is);
      members = subst (AreFound (map first_name queries) c.args.asked.now) (sym c.in_ok-some.ensures.members) c.loop-index.invariant.members;
      knows = c.in_ok-some.ensures.knows;
      row = c.in_ok-some.ensures.row ∙ c.loop-index.invariant.row;
    }

pub add_cell-requires-clause-member : goal.add_cell-requires-clause-member
add_cell-requires-clause-member c =
    let items = c.deref-query-items.ensures.value in
    let i = c.loop-index.index in
    let query = c.query-item.result in
    let asked = c.args.asked.now in
    let members = c.loop-index.room.answers.members in
    let queries = c.args.self.question.now.queries.items in
    let within : i < length queries = subst (λ l. i < length l) items c.loop-index-test.true in
    let is : query ≡ get_or queries i query = c.query-item.is ∙ ap (λ l. get_or l i query) items in
    let origin = origin_view query.origin in
    subst (λ x. IsMember x (start_node origin asked) (text_of_view asked.line) (found_by origin members) i) (get_or-map first_name queries i query [] within ∙ ap first_name (sym is)) (c.loop-index.invariant.members origin i)

pub loop-index-init : goal.loop-index-init
loop-index-init c = record {
  cells = grind (arith, common_steps);
  some = refl;
  members = c.in_ok-find.ensures.found;
  knows = record { conditions = c.requires.knows.conditions; queries = c.requires.knows.queries; members = c.in_ok-find.ensures.knows };
  row = search rules;
}
