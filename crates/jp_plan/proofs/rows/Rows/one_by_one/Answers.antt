-- The rows of one line more, and at the end of all.
use Rattle.std.proofs.Common.{◌∙◌, ◌+◌, ◌++◌, ◌∷◌, ℕ, List, map, drop, take, ap, sym, subst, arith, append-nil, Vec, Global, Bor}
use Rattle.std.proofs.lemmas.List.{drop_all}
use Rattle.std.proofs.lemmas.List.Elements.{All-same}
use Rattle.jp_plan.specs.ByLine.{expanded, found_in, found_row, IsPlaceIn}
use Rattle.jp_plan.specs.Found.{rows_view}
use Rattle.jp_plan.specs.declared.answer.Row.{Row}
use Rattle.jp_plan.specs.declared.rows.LineRows.{LineRows}
use Rattle.jp_plan.proofs.ByLine.{IsGone, line_next, turned, nodes_gone, refusal_gone}
use Rattle.jp_plan.proofs.rows.Rows.one_by_one.Goals.{in-Nodes+in_ok-push_nodes-in-Nodes, in-Refused+in_ok-push-in-Refused}
use Rattle.jp_plan.proofs.rows.Rows.one_by_one.Goals as goal

pub split_at-requires : goal.split_at-requires
split_at-requires c =
    let lines : List LineRows = c.args.self.now.lines.items in
    let i = c.loop-of_line.of_line-index in
    let next = line_next lines c.deref-of_line-items.result.now i c.of_line-item.result c.deref-of_line-items.ensures.value c.loop-of_line-test.true c.of_line-item.is in
    (turned (found_in c.args.self.now) (drop i lines) (drop (i + 1) lines) c.loop-of_line.places.now c.loop-of_line.rows.items c.loop-of_line.invariant
    c.in-Nodes.line c.in-Nodes.view c.in-Nodes.count (next ∙ ap (λ (l : LineRows). l ∷ drop (i + 1) lines) c.in-Nodes.is)).0

pub push_nodes-requires : goal.push_nodes-requires
push_nodes-requires c =
    let lines : List LineRows = c.args.self.now.lines.items in
    let i = c.loop-of_line.of_line-index in
    let next = line_next lines c.deref-of_line-items.result.now i c.of_line-item.result c.deref-of_line-items.ensures.value c.loop-of_line-test.true c.of_line-item.is in
    All-same (IsPlaceIn c.in-Nodes.view) c.split_at.result.0.now (take c.in-Nodes.count c.loop-of_line.places.now) c.split_at.ensures.front
    (turned (found_in c.args.self.now) (drop i lines) (drop (i + 1) lines) c.loop-of_line.places.now c.loop-of_line.rows.items c.loop-of_line.invariant
    c.in-Nodes.line c.in-Nodes.view c.in-Nodes.count (next ∙ ap (λ (l : LineRows). l ∷ drop (i + 1) lines) c.in-Nodes.is)).1

pub loop-of_line-preserved : goal.loop-of_line-preserved
loop-of_line-preserved c =
    let lines : List LineRows = c.args.self.now.lines.items in
    let whole = found_in c.args.self.now in
    let i = c.loop-of_line.of_line-index in
    let rest : List LineRows = drop (i + 1) lines in
    let next = line_next lines c.deref-of_line-items.result.now i c.of_line-item.result c.deref-of_line-items.ensures.value c.loop-of_line-test.true c.of_line-item.is in
    elim c.match-of_line.branch [
      | in-Nodes+in_ok-push_nodes-in-Nodes w ↦
          subst (λ (rows : Vec Row Global). IsGone whole rest c.match-of_line.places.now rows.items) (sym w.rows-is)
          (nodes_gone whole (drop i lines) rest c.loop-of_line.places.now c.loop-of_line.rows.items c.loop-of_line.invariant
          w.in-Nodes.line w.in-Nodes.view w.in-Nodes.count (next ∙ ap (λ (l : LineRows). l ∷ rest) w.in-Nodes.is)
          w.split_at.result.0.now c.match-of_line.places.now w.push_nodes.new.rows.items
          w.split_at.ensures.front (ap (λ (b : Bor (List ℕ)). b.now) w.places-is ∙ w.split_at.ensures.back) w.in_ok-push_nodes-in-Nodes.ensures.rows w.in_ok-push_nodes-in-Nodes.ensures.lines)
      | in-Refused+in_ok-push-in-Refused w ↦
          subst (λ (rows : Vec Row Global). IsGone whole rest c.match-of_line.places.now rows.items) (sym w.rows-is)
          (subst (λ (b : Bor (List ℕ)). IsGone whole rest b.now w.push.new.self.items) (sym w.places-is)
          (refusal_gone whole (drop i lines) rest c.loop-of_line.places.now c.loop-of_line.rows.items c.loop-of_line.invariant
          w.in-Refused.line w.in-Refused.fault (next ∙ ap (λ (l : LineRows). l ∷ rest) w.in-Refused.is) w.push.new.self.items w.in_ok-push-in-Refused.ensures.items))
    ]

pub returns-clause-rows : goal.returns-clause-rows
returns-clause-rows c =
    let rows = rows_view c.loop-of_line.rows.items in
    let none = drop_all c.loop-of_line.of_line-index c.args.self.now.lines.items (omega (arith, c.loop-of_line-test.false, c.deref-of_line-items.ensures.len)) in
    sym (append-nil rows)
    ∙ (ap (λ (ls : List LineRows). rows ++ map found_row (expanded ls c.loop-of_line.places.now)) (sym none) ∙ c.loop-of_line.invariant.told)

pub returns-clause-lines : goal.returns-clause-lines
returns-clause-lines c = λ lines all. (c.loop-of_line.invariant.on_lines lines all).0
