-- A query selects a node, or those after it decide.
use Rattle.std.proofs.Common.{◌∙◌, false, sym, true}
use Rattle.jp_lines.specs.Views.{text_of_view}
use Rattle.jp_nodes.specs.Cursors.{node_of}
use Rattle.jp_grep.specs.Asked.{asked_tree}
use Rattle.jp_grep.specs.LineAnswers.{KnowsQuery}
use Rattle.jp_grep.proofs.Knowing.{item_at, known_at, query_known}
use Rattle.jp_grep.proofs.Selecting.{selects_at}
use Rattle.jp_grep.proofs.question.Question.selects.Goals as goal

pub selects-requires-clause-knows : goal.selects-requires-clause-knows
selects-requires-clause-knows c =
    let queries = c.args.self.now.queries.items in
    let known = c.loop-index.invariant.knows.queries in
    let at = item_at queries c.deref-query-items.ensures.value c.loop-index.index c.query-item.result c.loop-index-test.true c.query-item.is in
    known_at (KnowsQuery (text_of_view c.args.asked.now.line)) queries c.loop-index.answers.queries.items known c.loop-index.index c.query-item.result c.index_mut.result.now at c.index_mut.ensures.value

pub returns-then-branch-clause-knows : goal.returns-then-branch-clause-knows
returns-then-branch-clause-knows c =
    let at = item_at c.args.self.now.queries.items c.deref-query-items.ensures.value c.loop-index.index c.query-item.result c.loop-index-test.true c.query-item.is in
    query_known c.args.self.now (text_of_view c.args.asked.now.line) c.loop-index.answers c.loop-index.invariant.knows c.loop-index.index c.selects.new.answer c.query-item.result at c.in_ok-selects.ensures.knows

pub returns-then-branch-clause-truth : goal.returns-then-branch-clause-truth
returns-then-branch-clause-truth c =
    sym (sym c.loop-index.invariant.some ∙ selects_at c.args.self.now.queries.items c.deref-query-items.ensures.value c.loop-index.index c.query-item.result
    (node_of c.args.asked.now.node) (asked_tree c.args.asked.now) true c.loop-index-test.true c.query-item.is (sym c.in_ok-selects.ensures.some ∙ c.if-branch.true))

pub loop-index-preserved : goal.loop-index-preserved
loop-index-preserved c =
    let at = item_at c.args.self.now.queries.items c.deref-query-items.ensures.value c.loop-index.index c.query-item.result c.loop-index-test.true c.query-item.is in
    record {
      knows = query_known c.args.self.now (text_of_view c.args.asked.now.line) c.loop-index.answers c.loop-index.invariant.knows c.loop-index.index c.selects.new.answer c.query-item.result at c.in_ok-selects.ensures.knows;
      some = sym (selects_at c.args.self.now.queries.items c.deref-query-items.ensures.value c.loop-index.index c.query-item.result
          (node_of c.args.asked.now.node) (asked_tree c.args.asked.now) false c.loop-index-test.true c.query-item.is (sym c.in_ok-selects.ensures.some ∙ c.if-branch.false))
          ∙ c.loop-index.invariant.some;
    }
