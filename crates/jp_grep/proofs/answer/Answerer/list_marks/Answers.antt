-- The nodes of one query more are listed.
use Rattle.std.proofs.Common.{◌<◌, ◌∙◌, ◌++◌, List, ap, length, map, slice_index_or, subst, sym, take}
use Rattle.std.proofs.lemmas.List.{map-append}
use Rattle.jp_lines.specs.Views.{text_of_view}
use Rattle.jp_model.specs.declared.Span.{Span}
use Rattle.jp_model.specs.Json.Tree.{span}
use Rattle.jp_model.specs.Meaning.Nodes.{Node}
use Rattle.jp_model.specs.Meaning.Selecting.{path_nodes}
use Rattle.jp_model.specs.Query.Syntax.{Path}
use Rattle.jp_nodes.specs.Cursors.{node_of}
use Rattle.jp_nodes.specs.declared.cursor.Cursor.{Cursor}
use Rattle.jp_grep.specs.Asked.{asked_tree, query_path}
use Rattle.jp_grep.specs.LineAnswers.{KnowsQuery}
use Rattle.jp_grep.specs.Matching.{nodes_of}
use Rattle.jp_grep.specs.declared.asked.AskedQuery.{AskedQuery}
use Rattle.jp_grep.proofs.Knowing.{item_at, known_at, query_known}
use Rattle.jp_grep.proofs.Written.{given_more}
use Rattle.jp_grep.proofs.answer.Answerer.list_marks.Goals as goal

pub loop-index-preserved : goal.loop-index-preserved
loop-index-preserved c =
    let node = node_of c.args.asked.now.node in
    let t = asked_tree c.args.asked.now in
    let queries = c.args.self.question.now.queries.items in
    let items = c.deref-query-items.ensures.value in
    let i = c.loop-index.index in
    let selected_by : Path → List Node = λ query. path_nodes query node t in
    let spans : List Node → List Span = λ nodes. map (λ (found : Node). span found.tree) nodes in
    let front = nodes_of (map query_path (take i queries)) node t in
    record {
      marks = c.in_ok-push_spans.ensures
          ∙ ap (λ (l : List Span). l ++ spans (map node_of c.found.result.now)) c.loop-index.invariant.marks
          ∙ ap (λ (nodes : List Node). spans front ++ spans nodes) (ap (λ (l : List Cursor). map node_of l) c.found.ensures ∙ c.in_ok-find.ensures.nodes)
          ∙ sym (map-append (λ (found : Node). span found.tree) front (selected_by (query_path c.query-item.result)))
          ∙ ap spans (sym (given_more selected_by query_path queries i c.query-item.result (subst (λ (l : List AskedQuery). i < length l) items c.loop-index-test.true) (c.query-item.is ∙ ap (λ (l : List AskedQuery). slice_index_or l i c.query-item.result) items)));
      row = c.loop-index.invariant.row;
      knows =
          let at = item_at queries items i c.query-item.result c.loop-index-test.true c.query-item.is in
          query_known c.args.self.question.now (text_of_view c.args.asked.now.line) c.loop-index.room.answers c.loop-index.invariant.knows i c.find.new.answer c.query-item.result at c.in_ok-find.ensures.knows;
    }

pub find-requires-clause-knows : goal.find-requires-clause-knows
find-requires-clause-knows c =
    let queries = c.args.self.question.now.queries.items in
    let known = c.loop-index.invariant.knows.queries in
    let at = item_at queries c.deref-query-items.ensures.value c.loop-index.index c.query-item.result c.loop-index-test.true c.query-item.is in
    known_at (KnowsQuery (text_of_view c.args.asked.now.line)) queries c.loop-index.room.answers.queries.items known c.loop-index.index c.query-item.result c.index_mut-answer.result.now at c.index_mut-answer.ensures.value
