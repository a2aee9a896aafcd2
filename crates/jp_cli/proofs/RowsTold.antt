-- The rows that were found spell the rows of the definition.
use Rattle.std.proofs.Common.{◌≡◌, ◌∙◌, ◌+◌, ℕ, zero, suc, List, [], ◌∷◌, ◌++◌, length, map, take, drop, flat_map, Bool, ap, ap₂, sym, refl, arith}
use Rattle.std.specs.Prelude.{count_by, cond, Option, Result, All}
use Rattle.std.proofs.lemmas.List.{length-append, take-append-drop}
use Rattle.std.proofs.lemmas.List.Sums.{sum_by-append}
use Rattle.jp_model.specs.declared.Framing.{Framing}
use Rattle.jp_devices.specs.Devices.{Device, Writes}
use Rattle.jp_model.specs.Plans.{opened}
use Rattle.jp_model.specs.Query.Status.{QueryStatus, query}
use Rattle.jp_model.specs.Query.Syntax.{Segments}
use Rattle.jp_model.specs.Rows as model
use Rattle.jp_model.specs.Script.Commands.{query_line}
use Rattle.jp_model.specs.Script.Machine.{row_text, rows_text, is_node, count_line, text_or_nothing, query_answer}
use Rattle.jp_store.specs.Collections.{statuses_in}
use Rattle.jp_lines.specs.declared.view.LineView.{LineView}
use Rattle.jp_plan.specs.ByLine.{Found, at_place, of_fault, expanded, found_row, node_at, AreInTurn, IsOfItsLine}
use Rattle.jp_plan.specs.declared.rows.LineRows.{LineRows}
use Rattle.jp_plan.specs.declared.rows.LineRows.TheVariants as by_line
use Rattle.jp_cli.specs.Found.{found_text, is_found_node}
use Rattle.jp_cli.specs.declared.session.Session.{Session}
use Rattle.jp_cli.specs.Runs.{AnswersOne, at, opens, opened_by, setup_of}
use Rattle.jp_cli.proofs.Replied.{stepped}

module _ (f : Framing) (lines : List (List ℕ)) where
  row_told : (r : Found) → IsOfItsLine lines r → found_text f r ≡ row_text f lines (found_row r)
  row_told (at_place line view place) h = ap (λ (o : Option (List ℕ)). model.node_text f line (text_or_nothing o) (node_at view place)) (sym h)
  row_told (of_fault line fault) h = refl

  texts_told : (rows : List Found) → All (IsOfItsLine lines) rows → flat_map (found_text f) rows ≡ flat_map (row_text f lines) (map found_row rows)
  texts_told [] h = refl
  texts_told (r ∷ rows) h = ap₂ (λ (a b : List ℕ). a ++ b) (row_told r (h zero r (omega arith))) (texts_told rows (λ k d l. h (suc k) d (omega (arith, l))))

pub count_append : {X : Type 0} (p : X → Bool) (xs ys : List X) → count_by p (xs ++ ys) ≡ count_by p xs + count_by p ys
count_append p xs ys = sum_by-append (λ x. cond (p x) 1 0) xs ys

nodes_told : (rows : List Found) → count_by is_found_node rows ≡ count_by is_node (map found_row rows)
nodes_told [] = refl
nodes_told (at_place line view place ∷ rows) =
    omega (arith, nodes_told rows, count_append is_found_node (at_place line view place ∷ []) rows, count_append is_node (model.node_row line (node_at view place) ∷ []) (map found_row rows))
nodes_told (of_fault line fault ∷ rows) =
    omega (arith, nodes_told rows, count_append is_found_node (of_fault line fault ∷ []) rows, count_append is_node (model.refusal_row line fault ∷ []) (map found_row rows))

-- each place is that of one row
all_nodes : (line : ℕ) (view : LineView) (ps : List ℕ) → count_by is_found_node (map (at_place line view) ps) ≡ length ps
all_nodes line view [] = refl
all_nodes line view (p ∷ ps) = omega (arith, all_nodes line view ps, count_append is_found_node (at_place line view p ∷ []) (map (at_place line view) ps))

pub places_counted : (ls : List LineRows) (ps : List ℕ) → AreInTurn ls ps → length ps ≡ count_by is_found_node (expanded ls ps)
places_counted [] ps turn = ap length turn
places_counted (by_line.Nodes line view count ∷ ls) ps turn =
    let here = map (at_place line view) (take count ps) in
    let parts = ap length (take-append-drop count ps) in
    let sizes = length-append (take count ps) (drop count ps) in
    omega (arith, all_nodes line view (take count ps), places_counted ls (drop count ps) turn.2, count_append is_found_node here (expanded ls (drop count ps)), parts, sizes)
places_counted (by_line.Refused line fault ∷ ls) ps turn =
    omega (arith, places_counted ls ps turn, count_append is_found_node (of_fault line fault ∷ []) (expanded ls ps))

module _ (query_of : List ℕ → QueryStatus) (session : Session) (text : List ℕ) (q : Segments) (is : query_of text ≡ query q) where
  -- the rows that were found, and their count, are what a query answers
  answer_told : (rows : List Found) → map found_row rows ≡ model.rows q (statuses_in session.store) → All (IsOfItsLine session.store.state.lines) rows
      → flat_map (found_text session.store.framing) rows ++ count_line (count_by is_found_node rows) ≡ query_answer session.store.framing session.store.state (query_of text)
  answer_told rows are on =
      ap₂ (λ (t : List ℕ) (n : ℕ). t ++ count_line n) (texts_told session.store.framing session.store.state.lines rows on) (nodes_told rows)
      ∙ (ap (rows_text session.store.framing session.store.state.lines) are ∙ ap (query_answer session.store.framing session.store.state) (sym is))

  -- it opens the lines of its plan
  pub lines_are : opens query_of (setup_of session) session.store.state (query_line text) ≡ length (opened q session.store.state.paths (statuses_in session.store))
  lines_are = ap (opened_by (setup_of session) session.store.state) is

  pub rows_answered : {W A F : Type 0} (contents : W → Option (List ℕ)) (before after : Device W) (result : Result A F) (rows : List Found) (old new : ℕ)
      → map found_row rows ≡ model.rows q (statuses_in session.store) → All (IsOfItsLine session.store.state.lines) rows → new ≡ old + length (opened q session.store.state.paths (statuses_in session.store))
      → Writes contents before after result (flat_map (found_text session.store.framing) rows ++ count_line (count_by is_found_node rows)) → AnswersOne query_of contents before after result (setup_of session) (query_line text) (at session.store.state old) (at session.store.state new)
  rows_answered contents before after result rows old new are on n w =
      stepped query_of (setup_of session) (query_line text) contents before after result (at session.store.state old) (at session.store.state new) _ (answer_told rows are on) refl (n ∙ ap (λ k. old + k) (sym lines_are)) w
