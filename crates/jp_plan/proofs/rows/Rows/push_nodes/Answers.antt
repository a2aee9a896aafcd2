-- The line stands after the others, and the places of its nodes after theirs.
use Rattle.std.proofs.Common.{◌≡◌, ◌∙◌, ◌++◌, ◌∷◌, [], ℕ, List, length, map, take, ap, ap₂, sym, subst, arith, append_assoc}
use Rattle.std.specs.Prelude.{All}
use Rattle.std.proofs.lemmas.List.{take_all, length-map}
use Rattle.jp_lines.specs.Views.{text_of_view}
use Rattle.jp_nodes.specs.Cursors.{line_of, place_of}
use Rattle.jp_nodes.specs.declared.cursor.Cursor.{Cursor}
use Rattle.jp_plan.specs.ByLine.{expanded, AreInTurn, IsPlaceIn}
use Rattle.jp_plan.specs.declared.rows.LineRows.{LineRows}
use Rattle.jp_plan.specs.declared.rows.LineRows.TheVariants as by_line
use Rattle.jp_plan.proofs.ByLine.{nodes_expanded, nodes_in_turn, one_place, one_within, place_within}
use Rattle.jp_plan.proofs.rows.Rows.push_nodes.Goals as goal

pub loop-node-preserved : goal.loop-node-preserved
loop-node-preserved c =
    let inv = c.loop-node.invariant in
    let cs : List Cursor = c.args.nodes.now in
    let i = c.loop-node.node-index in
    let node = c.node-item.result in
    let line : line_of node ≡ text_of_view c.args.view = subst (λ (d : Cursor). line_of d ≡ text_of_view c.args.view) (sym c.node-item.is) (c.requires.nodes i node c.loop-node-test.true) in
    let more = one_place c.args.view cs i node c.loop-node-test.true c.node-item.is in
    record {
      lines = inv.lines;
      places = c.in_ok-push.ensures.items ∙ (ap₂ (λ (a : List ℕ) (n : ℕ). a ++ n ∷ []) inv.places c.place.ensures.value ∙ (append_assoc c.args.self.now.places.items (map place_of (take i cs)) (place_of node ∷ []) ∙ ap (λ (l : List ℕ). c.args.self.now.places.items ++ l) (sym more)));
      within = one_within c.args.view cs i node c.loop-node-test.true c.node-item.is inv.within (place_within c.args.view node c.place.result line c.place.ensures.value c.place.ensures.within);
    }

pub returns : goal.returns
returns c =
    let inv = c.loop-node.invariant in
    let cs : List Cursor = c.args.nodes.now in
    let old = c.args.self.now in
    let lines : c.push-2.new.self.items ≡ old.lines.items ++ by_line.Nodes c.args.line c.args.view (length cs) ∷ [] = c.in_ok-push-2.ensures.items ∙ ap (λ (ls : List LineRows). ls ++ by_line.Nodes c.args.line c.args.view (length cs) ∷ []) inv.lines in
    let whole : take c.loop-node.node-index cs ≡ cs = take_all c.loop-node.node-index cs (omega (arith, c.loop-node-test.false)) in
    let places = inv.places ∙ ap (λ (ds : List Cursor). old.places.items ++ map place_of ds) whole in
    let within : All (IsPlaceIn c.args.view) (map place_of cs) = subst (λ (ds : List Cursor). All (IsPlaceIn c.args.view) (map place_of ds)) whole inv.within in
    record {
      rows = ap₂ (λ (ls : List LineRows) (ps : List ℕ). expanded ls ps) lines places
          ∙ nodes_expanded c.args.line c.args.view (length cs) (map place_of cs) (sym (length-map cs place_of)) old.lines.items old.places.items c.requires.turn;
      turn = subst (λ (ls : List LineRows). AreInTurn ls c.loop-node.self.places.items) (sym lines)
          (subst (AreInTurn (old.lines.items ++ by_line.Nodes c.args.line c.args.view (length cs) ∷ [])) (sym places)
          (nodes_in_turn c.args.line c.args.view (length cs) (map place_of cs) (sym (length-map cs place_of)) old.lines.items old.places.items c.requires.turn within));
    }
