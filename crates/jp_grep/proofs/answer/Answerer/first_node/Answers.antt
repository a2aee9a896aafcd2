-- The first of the nodes that are found.
use Rattle.std.proofs.Common.{◌∙◌, ap, arith, take}
use Rattle.jp_lines.specs.Views.{text_of_view}
use Rattle.jp_nodes.specs.Cursors.{node_of}
use Rattle.jp_grep.specs.LineAnswers.{KnowsQuery}
use Rattle.jp_grep.proofs.Knowing.{is_within, known_at, query_known}
use Rattle.jp_grep.proofs.answer.Answerer.first_node.Goals as goal

pub returns-then-answer-clause-node : goal.returns-then-answer-clause-node
returns-then-answer-clause-node c =
    let known = known_at (KnowsQuery (text_of_view c.args.asked.now.line)) c.args.self.question.now.queries.items c.args.room.now.answers.queries.items
    c.requires.knows.queries c.args.index c.args.query.now c.index-answer.result.now c.requires.query c.index-answer.ensures in
    c.first_found.ensures.nodes ∙ ap (take 1) (known.found c.if-answer.true (node_of c.args.asked.now.node))

pub returns-then-answer-clause-line : goal.returns-then-answer-clause-line
returns-then-answer-clause-line c =
    let line = text_of_view c.args.asked.now.line in
    let known = known_at (KnowsQuery line) c.args.self.question.now.queries.items c.args.room.now.answers.queries.items
    c.requires.knows.queries c.args.index c.args.query.now c.index-answer.result.now c.requires.query c.index-answer.ensures in
    c.first_found.ensures.line line (known.lines c.if-answer.true)

pub index_mut-answer-requires : goal.index_mut-answer-requires
index_mut-answer-requires c =
    let answers = c.args.room.now.answers.queries in
    let within = is_within (KnowsQuery (text_of_view c.args.asked.now.line)) c.args.self.question.now.queries.items answers.items
    c.requires.knows.queries c.args.index c.args.query.now c.requires.query in
    omega (arith, within, answers.ok.0)

pub answer_from-requires-clause-knows : goal.answer_from-requires-clause-knows
answer_from-requires-clause-knows c =
    known_at (KnowsQuery (text_of_view c.args.asked.now.line)) c.args.self.question.now.queries.items c.args.room.now.answers.queries.items
    c.requires.knows.queries c.args.index c.args.query.now c.index_mut-answer.result.now c.requires.query c.index_mut-answer.ensures.value

pub returns-clause-knows : goal.returns-clause-knows
returns-clause-knows c = query_known c.args.self.question.now (text_of_view c.args.asked.now.line) c.args.room.now.answers c.requires.knows c.args.index c.answer_from.new.answer c.args.query.now
    c.requires.query c.in_ok-answer_from.ensures.knows
