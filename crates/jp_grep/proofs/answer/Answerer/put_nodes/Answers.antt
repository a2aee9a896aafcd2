-- The rows of one query come after those of the queries before it.
use Rattle.std.proofs.Common.{◌≡◌, ◌∙◌, ◌++◌, ◌+◌, ◌<◌, ◌≤◌, refl, ℕ, List, [], append_assoc, append-nil, ap, sym, subst, get_or, length, map, take, take-append-drop, drop, Bool, ◌||◌}
use Rattle.std.proofs.lemmas.Bool.{false≢true}
use Rattle.std.proofs.lemmas.List.{map-append, take_all}
use Rattle.std.proofs.lemmas.Grind.{flat_map-append}
use Rattle.jp_model.specs.Json.Tree.{Tree}
use Rattle.jp_model.specs.Meaning.Nodes.{Node}
use Rattle.jp_model.specs.Meaning.Selecting.{path_nodes}
use Rattle.jp_model.specs.Query.Syntax.{Path}
use Rattle.jp_lines.specs.Views.{text_of_view}
use Rattle.jp_nodes.specs.Cursors.{node_of}
use Rattle.jp_grep.specs.Asked.{asked_tree, query_path}
use Rattle.jp_sink.specs.Events.{Event}
use Rattle.jp_sink.specs.Telling.{Takes}
use Rattle.jp_grep.specs.LineAnswers.{KnowsQuery}
use Rattle.jp_grep.specs.Matching.{has_nodes, nodes_of}
use Rattle.jp_grep.specs.Rows.{value_event}
use Rattle.jp_grep.specs.declared.asked.AskedQuery.{AskedQuery}
use Rattle.jp_form.specs.declared.form.Form.{Form}
use Rattle.jp_grep.proofs.GivenUp.{no_answer}
use Rattle.jp_grep.proofs.Knowing.{item_at, known_at, query_known}
use Rattle.jp_grep.proofs.Putting.{both_put, ends_put, put_next}
use Rattle.jp_grep.proofs.RowLists.{all_first, part_of_first}
use Rattle.jp_grep.proofs.Selecting.{selects_more}
use Rattle.jp_grep.proofs.Written.{given_around, given_more}
use Rattle.jp_grep.proofs.answer.Answerer.put_nodes.Goals as goal

module _ (form : Form) (paths : Bool) (n : ℕ) (text : List ℕ) (t : Tree) (node : Node) (queries : List AskedQuery) (i : ℕ) (query : AskedQuery) (within : i < length queries) (is : query ≡ get_or queries i query) where
  abbrev row_of : Node → Event
  row_of = value_event form paths n text

  abbrev selected_by : Path → List Node
  selected_by query = path_nodes query node t

  -- the rows of some queries, and of the one that is asked next
  abbrev pub rows_of : List AskedQuery → List Event
  rows_of some = map (value_event form paths n text) (nodes_of (map query_path some) node t)

  abbrev pub mine : List Event
  mine = map (value_event form paths n text) (path_nodes (query_path query) node t)

  pub around_query : rows_of queries ≡ (rows_of (take i queries) ++ mine) ++ rows_of (drop (i + 1) queries)
  around_query =
      let front = nodes_of (map query_path (take i queries)) node t in
      let rest = nodes_of (map query_path (drop (i + 1) queries)) node t in
      ap (map row_of) (given_around selected_by query_path queries i query within ∙ ap (λ (q : AskedQuery). (front ++ selected_by (query_path q)) ++ rest) (sym is))
      ∙ map-append row_of (front ++ selected_by (query_path query)) rest
      ∙ ap (λ l. l ++ map row_of rest) (map-append row_of front (selected_by (query_path query)))

  pub more : rows_of (take (i + 1) queries) ≡ rows_of (take i queries) ++ mine
  more = ap (map row_of) (given_more selected_by query_path queries i query within is) ∙ map-append row_of (nodes_of (map query_path (take i queries)) node t) (selected_by (query_path query))

  -- the rows of the queries before one, and those of the others
  pub before_query : rows_of queries ≡ rows_of (take i queries) ++ rows_of (drop i queries)
  before_query =
      ap (λ l. rows_of l) (sym (take-append-drop i queries))
      ∙ ap (λ l. map row_of (nodes_of l node t)) (map-append query_path (take i queries) (drop i queries))
      ∙ ap (map row_of) (flat_map-append selected_by (map query_path (take i queries)) (map query_path (drop i queries)))
      ∙ map-append row_of (nodes_of (map query_path (take i queries)) node t) (nodes_of (map query_path (drop i queries)) node t)

  -- some of the rows of the query
  pub part_of_query : (first others : List Event) → mine ≡ first ++ others → rows_of queries ≡ (rows_of (take i queries) ++ first) ++ (others ++ rows_of (drop (i + 1) queries))
  part_of_query first others e =
      let front = rows_of (take i queries) in
      let rest = rows_of (drop (i + 1) queries) in
      around_query
      ∙ ap (λ (l : List Event). (front ++ l) ++ rest) e
      ∙ ap (λ (l : List Event). l ++ rest) (sym (append_assoc front first others))
      ∙ append_assoc (front ++ first) others rest

pub find-requires-clause-knows : goal.find-requires-clause-knows
find-requires-clause-knows g c =
    let queries = c.args.self.question.now.queries.items in
    let at = item_at queries c.deref-query-items.ensures.value c.loop-index.index c.query-item.result c.loop-index-test.true c.query-item.is in
    known_at (KnowsQuery (text_of_view c.args.asked.now.line)) queries c.loop-index.room.answers.queries.items c.loop-index.invariant.knows.queries c.loop-index.index c.query-item.result c.index_mut-answer.result.now at c.index_mut-answer.ensures.value

pub returns-in_default-clause-rows : goal.returns-in_default-clause-rows
returns-in_default-clause-rows g c =
    let items = c.deref-query-items.ensures.value in
    let i = c.loop-index.index in
    let query = c.query-item.result in
    let form = c.args.self.form.now in
    let t = asked_tree c.args.asked.now in
    let node = node_of c.args.asked.now.node in
    let queries = c.args.self.question.now.queries.items in
    let within : i < length queries = subst (λ l. i < length l) items c.loop-index-test.true in
    let is = c.query-item.is ∙ ap (λ l. get_or l i query) items in
    record {
      first = rows_of form c.args.paths c.args.number c.args.text.now t node queries i query within is (take i queries);
      others = rows_of form c.args.paths c.args.number c.args.text.now t node queries i query within is (drop i queries);
      split = before_query form c.args.paths c.args.number c.args.text.now t node queries i query within is;
      puts = c.loop-index.invariant.rows;
      all = λ e. absurd (false≢true e);
    }

pub returns-in_err-whole-clause-rows : goal.returns-in_err-whole-clause-rows
returns-in_err-whole-clause-rows g c =
    let items = c.deref-query-items.ensures.value in
    let i = c.loop-index.index in
    let query = c.query-item.result in
    let form = c.args.self.form.now in
    let t = asked_tree c.args.asked.now in
    let node = node_of c.args.asked.now.node in
    let queries = c.args.self.question.now.queries.items in
    let within : i < length queries = subst (λ l. i < length l) items c.loop-index-test.true in
    let is = c.query-item.is ∙ ap (λ l. get_or l i query) items in
    let row_of = value_event form c.args.paths c.args.number c.args.text.now in
    let found : map node_of c.found.result.now ≡ path_nodes (query_path query) node t = ap (map node_of) c.found.ensures ∙ c.in-Ok.ensures.nodes in
    let put = c.in_err-whole.ensures.rows in
    let all = map row_of (nodes_of (map query_path queries) node t) in
    let front = map row_of (nodes_of (map query_path (take i queries)) node t) in
    let mine = map row_of (path_nodes (query_path query) node t) in
    let rest = map row_of (nodes_of (map query_path (drop (i + 1) queries)) node t) in
    let part = part_of_first g.S.Sink.stands g.S.Sink.stopped c.loop-index.sink c.put_values.new.sink (map row_of (path_nodes (query_path query) node t)) put.first put.others (ap (map row_of) (sym found) ∙ put.split) put.puts in
    record {
      first = all;
      others = [];
      split = sym (append-nil all);
      puts = ends_put g.S.Sink.stands g.S.Sink.stopped c.from_residual.result c.args.sink.now c.put_values.new.sink all c.from_residual.ensures.0
          (put_next g.S.Sink.stands g.S.Sink.stopped c.args.sink.now c.loop-index.sink c.put_values.new.sink front mine rest all
          (around_query form c.args.paths c.args.number c.args.text.now t node queries i query within is)
          c.loop-index.invariant.rows part);
      all = no_answer _ c.from_residual.result c.from_residual.ensures.0;
    }

pub returns-then-not-whole-clause-rows : goal.returns-then-not-whole-clause-rows
returns-then-not-whole-clause-rows g c =
    let items = c.deref-query-items.ensures.value in
    let i = c.loop-index.index in
    let query = c.query-item.result in
    let form = c.args.self.form.now in
    let t = asked_tree c.args.asked.now in
    let node = node_of c.args.asked.now.node in
    let queries = c.args.self.question.now.queries.items in
    let within : i < length queries = subst (λ l. i < length l) items c.loop-index-test.true in
    let is = c.query-item.is ∙ ap (λ l. get_or l i query) items in
    let row_of = value_event form c.args.paths c.args.number c.args.text.now in
    let found : map node_of c.found.result.now ≡ path_nodes (query_path query) node t = ap (map node_of) c.found.ensures ∙ c.in-Ok.ensures.nodes in
    let put = c.in_ok-whole.ensures.rows in
    let front = map row_of (nodes_of (map query_path (take i queries)) node t) in
    record {
      first = front ++ put.first;
      others = put.others ++ map row_of (nodes_of (map query_path (drop (i + 1) queries)) node t);
      split = part_of_query form c.args.paths c.args.number c.args.text.now t node queries i query within is put.first put.others (ap (map row_of) (sym found) ∙ put.split);
      puts = both_put g.S.Sink.stands g.S.Sink.stopped c.args.sink.now c.loop-index.sink c.put_values.new.sink _ _ c.loop-index.invariant.rows put.puts;
      all = λ e. absurd (false≢true e);
    }

pub loop-index-preserved : goal.loop-index-preserved
loop-index-preserved g c =
    let items = c.deref-query-items.ensures.value in
    let i = c.loop-index.index in
    let query = c.query-item.result in
    let form = c.args.self.form.now in
    let t = asked_tree c.args.asked.now in
    let node = node_of c.args.asked.now.node in
    let queries = c.args.self.question.now.queries.items in
    let within : i < length queries = subst (λ l. i < length l) items c.loop-index-test.true in
    let is = c.query-item.is ∙ ap (λ l. get_or l i query) items in
    let row_of = value_event form c.args.paths c.args.number c.args.text.now in
    let found : map node_of c.found.result.now ≡ path_nodes (query_path query) node t = ap (map node_of) c.found.ensures ∙ c.in-Ok.ensures.nodes in
    let put = c.in_ok-whole.ensures.rows in
    let front = map row_of (nodes_of (map query_path (take i queries)) node t) in
    let all : put.first ≡ map row_of (path_nodes (query_path query) node t) = all_first _ put.first put.others put.split (put.all c.if-not-whole.false) ∙ ap (map row_of) found in
    let rows = subst (λ (l : List Event). Takes g.S.Sink.stands c.loop-index.sink c.put_values.new.sink l) all put.puts in
    record {
      rows = subst (λ (l : List Event). Takes g.S.Sink.stands c.args.sink.now c.put_values.new.sink l)
          (sym (more form c.args.paths c.args.number c.args.text.now t node queries i query within is))
          (both_put g.S.Sink.stands g.S.Sink.stopped c.args.sink.now c.loop-index.sink c.put_values.new.sink _ _ c.loop-index.invariant.rows rows);
      some = ap (λ b. c.loop-index.some || b) c.in-Ok.ensures.some ∙ ap (λ b. b || has_nodes (path_nodes (query_path query) node t)) c.loop-index.invariant.some ∙ sym (selects_more queries i query node t within is);
      working = c.in_ok-whole.ensures.tells.0;
      kept = (c.in_ok-whole.ensures.tells.2.0 ∙ c.loop-index.invariant.kept.0, c.in_ok-whole.ensures.tells.2.1 ∙ c.loop-index.invariant.kept.1);
      knows = query_known c.args.self.question.now (text_of_view c.args.asked.now.line) c.loop-index.room.answers c.loop-index.invariant.knows i c.find.new.answer query
          (item_at queries items i query c.loop-index-test.true c.query-item.is) c.in-Ok.ensures.knows;
    }

pub returns-clause-rows : goal.returns-clause-rows
returns-clause-rows g c =
    let form = c.args.self.form.now in
    let t = asked_tree c.args.asked.now in
    let node = node_of c.args.asked.now.node in
    let queries = c.args.self.question.now.queries.items in
    let i = c.loop-index.index in
    let events = map (value_event form c.args.paths c.args.number c.args.text.now) (nodes_of (map query_path queries) node t) in
    record {
      first = events;
      others = [];
      split = sym (append-nil events);
      puts = subst (λ (qs : List AskedQuery). Takes g.S.Sink.stands c.args.sink.now c.loop-index.sink (map (value_event form c.args.paths c.args.number c.args.text.now) (nodes_of (map query_path qs) node t)))
          (take_all i queries (subst (λ l. length l ≤ i) c.deref-query-items.ensures.value c.loop-index-test.false)) c.loop-index.invariant.rows;
      all = λ e. refl;
    }
