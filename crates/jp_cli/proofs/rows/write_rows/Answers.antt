-- The rows of one line more are written, or a beginning of them.
use Rattle.std.proofs.Common.{◌∙◌, ◌+◌, ◌∷◌, ℕ, List, drop, flat_map, ap, sym, subst, Bor}
use Rattle.jp_devices.proofs.Chains.{ends_in_part}
use Rattle.jp_plan.specs.ByLine.{found_in}
use Rattle.jp_plan.specs.declared.rows.LineRows.{LineRows}
use Rattle.jp_plan.proofs.ByLine.{line_next}
use Rattle.jp_cli.specs.Found.{found_text}
use Rattle.jp_cli.proofs.RowsWritten.{IsWritten, nodes_written, nodes_in_part, refusal_written, refusal_in_part}
use Rattle.jp_cli.proofs.rows.write_rows.Goals.{in-Nodes+in_ok-write_nodes-in-Nodes, in-Refused+in_ok-write_refusal-in-Refused}
use Rattle.jp_cli.proofs.rows.write_rows.Goals as goal

pub returns-in_err-write_nodes-in-Nodes-clause-text : goal.returns-in_err-write_nodes-in-Nodes-clause-text
returns-in_err-write_nodes-in-Nodes-clause-text g c =
    let lines : List LineRows = c.args.rows.now.lines.items in
    let i = c.loop-of_line.of_line-index in
    let next = line_next lines c.deref-of_line-items.result.now i c.of_line-item.result c.deref-of_line-items.ensures.value c.loop-of_line-test.true c.of_line-item.is in
    ends_in_part c.from_residual.result _ _ _ c.from_residual.ensures.0
    (nodes_in_part g.W.Write.contents c.args.framing (flat_map (found_text c.args.framing) (found_in c.args.rows.now)) c.args.out.now c.loop-of_line.out (drop i lines) (drop (i + 1) lines) c.loop-of_line.places.now
    c.loop-of_line.invariant c.in-Nodes.line c.in-Nodes.view c.in-Nodes.count (next ∙ ap (λ (l : LineRows). l ∷ drop (i + 1) lines) c.in-Nodes.is)
    c.split_at.result.0.now c.write_nodes.new.out c.split_at.ensures.front c.in_err-write_nodes-in-Nodes.ensures.text)

pub returns-in_err-write_refusal-in-Refused-clause-text : goal.returns-in_err-write_refusal-in-Refused-clause-text
returns-in_err-write_refusal-in-Refused-clause-text g c =
    let lines : List LineRows = c.args.rows.now.lines.items in
    let i = c.loop-of_line.of_line-index in
    let next = line_next lines c.deref-of_line-items.result.now i c.of_line-item.result c.deref-of_line-items.ensures.value c.loop-of_line-test.true c.of_line-item.is in
    ends_in_part c.from_residual-in_err-write_refusal-in-Refused.result _ _ _ c.from_residual-in_err-write_refusal-in-Refused.ensures.0
    (refusal_in_part g.W.Write.contents c.args.framing (flat_map (found_text c.args.framing) (found_in c.args.rows.now)) c.args.out.now c.loop-of_line.out (drop i lines) (drop (i + 1) lines) c.loop-of_line.places.now
    c.loop-of_line.invariant c.in-Refused.line c.in-Refused.fault (next ∙ ap (λ (l : LineRows). l ∷ drop (i + 1) lines) c.in-Refused.is) c.write_refusal.new.out c.in_err-write_refusal-in-Refused.ensures.text)

pub loop-of_line-preserved : goal.loop-of_line-preserved
loop-of_line-preserved g c =
    let lines : List LineRows = c.args.rows.now.lines.items in
    let f = c.args.framing in
    let whole : List ℕ = flat_map (found_text f) (found_in c.args.rows.now) in
    let i = c.loop-of_line.of_line-index in
    let rest : List LineRows = drop (i + 1) lines in
    let next = line_next lines c.deref-of_line-items.result.now i c.of_line-item.result c.deref-of_line-items.ensures.value c.loop-of_line-test.true c.of_line-item.is in
    elim c.match-of_line.branch [
      | in-Nodes+in_ok-write_nodes-in-Nodes w ↦
          subst (IsWritten g.W.Write.contents f whole c.args.out.now rest c.match-of_line.places.now) (sym w.out-is)
          (nodes_written g.W.Write.contents f whole c.args.out.now c.loop-of_line.out (drop i lines) rest c.loop-of_line.places.now c.loop-of_line.invariant
          w.in-Nodes.line w.in-Nodes.view w.in-Nodes.count (next ∙ ap (λ (l : LineRows). l ∷ rest) w.in-Nodes.is) w.split_at.result.0.now c.match-of_line.places.now w.write_nodes.new.out
          w.split_at.ensures.front (ap (λ (b : Bor (List ℕ)). b.now) w.places-is ∙ w.split_at.ensures.back)
          w.in_ok-write_nodes-in-Nodes.ensures.text w.in_ok-write_nodes-in-Nodes.ensures.fault w.in_ok-write_nodes-in-Nodes.ensures.after)
      | in-Refused+in_ok-write_refusal-in-Refused w ↦
          subst (IsWritten g.W.Write.contents f whole c.args.out.now rest c.match-of_line.places.now) (sym w.out-is)
          (subst (λ (b : Bor (List ℕ)). IsWritten g.W.Write.contents f whole c.args.out.now rest b.now w.write_refusal.new.out) (sym w.places-is)
          (refusal_written g.W.Write.contents f whole c.args.out.now c.loop-of_line.out (drop i lines) rest c.loop-of_line.places.now c.loop-of_line.invariant
          w.in-Refused.line w.in-Refused.fault (next ∙ ap (λ (l : LineRows). l ∷ rest) w.in-Refused.is) w.write_refusal.new.out
          w.in_ok-write_refusal-in-Refused.ensures.text w.in_ok-write_refusal-in-Refused.ensures.fault w.in_ok-write_refusal-in-Refused.ensures.after))
    ]
