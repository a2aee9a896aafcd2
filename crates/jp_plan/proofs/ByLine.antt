-- Rows by line: one line more, and what the rows are of.
use Rattle.std.proofs.Common.{◌≡◌, ◌∙◌, ℕ, zero, suc, ◌+◌, ◌-◌, ◌<◌, List, [], ◌∷◌, ◌++◌, length, map, take, drop, Some, slice_get, get_or, ap, ap₂, sym, subst, refl, arith, append-nil, append_assoc}
use Rattle.std.specs.Prelude.{All}
use Rattle.std.proofs.Math.ListN.{get_or-map}
use Rattle.std.proofs.Math.Seq.{take-suc, drop-cons, take-append_seam, drop-append_seam}
use Rattle.std.proofs.lemmas.List.{take_all, drop_all, take-append-le, drop-append-le, map-append, length-append, length-map}
use Rattle.std.proofs.lemmas.List.Elements.{All-append, All-map, All-same, All-take, All-drop}
use Rattle.jp_model.specs.declared.LineFault.{LineFault}
use Rattle.jp_model.specs.Json.Status.{LineStatus, blank, refused, parsed}
use Rattle.jp_model.specs.Json.Tree.{Tree}
use Rattle.jp_model.specs.Meaning.Nodes.{Node, root_node, subtree}
use Rattle.jp_model.specs.Meaning.Selecting.{nodes}
use Rattle.jp_model.specs.Query.Singular.{steps_query}
use Rattle.jp_model.specs.Query.Syntax.{Segments}
use Rattle.jp_model.specs.Rows as model
use Rattle.jp_model.specs.Rows.{status_rows}
use Rattle.jp_model.specs.Steps.{Step}
use Rattle.jp_store.specs.Collections.{Collection, line_text}
use Rattle.jp_lines.specs.Views.{text_of_view, status_kind}
use Rattle.jp_lines.specs.declared.Status.TheVariants as told
use Rattle.jp_lines.specs.declared.view.LineView.{LineView}
use Rattle.jp_nodes.specs.Cursors.{line_of, place_of, node_of, root_of, spot_of}
use Rattle.jp_nodes.specs.Spots.{spot_at}
use Rattle.jp_nodes.specs.Tapes.{spelled}
use Rattle.jp_nodes.specs.declared.cursor.Cursor.{Cursor}
use Rattle.jp_children.specs.Found.{AreOf}
use Rattle.jp_plan.specs.Behind.{segments_behind}
use Rattle.jp_plan.specs.ByLine.{Found, at_place, of_fault, expanded, found_row, node_at, IsPlaceIn, AreInTurn, IsOfItsLine}
use Rattle.jp_plan.specs.Found.{row_view, rows_view, IsOnItsLine, AreOnTheirLines}
use Rattle.jp_plan.specs.Passing.{IsLineOf}
use Rattle.jp_plan.specs.declared.answer.Row.{Row}
use Rattle.jp_plan.specs.declared.answer.Row.TheVariants as found
use Rattle.jp_plan.specs.declared.rows.LineRows.{LineRows}
use Rattle.jp_plan.specs.declared.rows.LineRows.TheVariants as by_line
use Rattle.jp_plan.proofs.Entries.{text_at}
use Rattle.jp_plan.proofs.Evaluated.{behind_nodes}

-- ---- one line more

-- a line with nodes after the others, and its places after theirs
module _ (line : ℕ) (view : LineView) (count : ℕ) (new : List ℕ) (size : count ≡ length new) where
  pub nodes_expanded : (ls : List LineRows) (ps : List ℕ) → AreInTurn ls ps
      → expanded (ls ++ by_line.Nodes line view count ∷ []) (ps ++ new) ≡ expanded ls ps ++ map (at_place line view) new
  nodes_expanded [] ps turn =
      append-nil (map (at_place line view) (take count (ps ++ new)))
      ∙ (ap (λ (qs : List ℕ). map (at_place line view) (take count (qs ++ new))) turn
      ∙ ap (map (at_place line view)) (take_all count new (omega (arith, size))))
  nodes_expanded (by_line.Nodes l v c ∷ ls) ps turn =
      ap₂ (λ (a b : List Found). a ++ b) (ap (map (at_place l v)) (take-append-le c ps new turn.0))
      (ap (expanded (ls ++ by_line.Nodes line view count ∷ [])) (drop-append-le c ps new turn.0) ∙ nodes_expanded ls (drop c ps) turn.2)
      ∙ sym (append_assoc (map (at_place l v) (take c ps)) (expanded ls (drop c ps)) (map (at_place line view) new))
  nodes_expanded (by_line.Refused l f ∷ ls) ps turn = ap (λ (rows : List Found). of_fault l f ∷ rows) (nodes_expanded ls ps turn)

  alone : All (IsPlaceIn view) new → AreInTurn (by_line.Nodes line view count ∷ []) new
  alone here =
      let whole : take count new ≡ new = take_all count new (omega (arith, size)) in
      (omega (arith, size), All-same (IsPlaceIn view) (take count new) new whole here, drop_all count new (omega (arith, size)))

  pub nodes_in_turn : (ls : List LineRows) (ps : List ℕ) → AreInTurn ls ps → All (IsPlaceIn view) new → AreInTurn (ls ++ by_line.Nodes line view count ∷ []) (ps ++ new)
  nodes_in_turn [] ps turn here = subst (λ (qs : List ℕ). AreInTurn (by_line.Nodes line view count ∷ []) (qs ++ new)) (sym turn) (alone here)
  nodes_in_turn (by_line.Nodes l v c ∷ ls) ps turn here =
      let longer = length-append ps new in (
        omega (arith, turn.0, longer),
        All-same (IsPlaceIn v) (take c (ps ++ new)) (take c ps) (take-append-le c ps new turn.0) turn.1,
        subst (AreInTurn (ls ++ by_line.Nodes line view count ∷ [])) (sym (drop-append-le c ps new turn.0)) (nodes_in_turn ls (drop c ps) turn.2 here),
      )
  nodes_in_turn (by_line.Refused l f ∷ ls) ps turn here = nodes_in_turn ls ps turn here

-- a line that is refused after the others
module _ (line : ℕ) (fault : LineFault) where
  pub refusal_expanded : (ls : List LineRows) (ps : List ℕ) → expanded (ls ++ by_line.Refused line fault ∷ []) ps ≡ expanded ls ps ++ of_fault line fault ∷ []
  refusal_expanded [] ps = refl
  refusal_expanded (by_line.Nodes l v c ∷ ls) ps =
      ap (λ (rows : List Found). map (at_place l v) (take c ps) ++ rows) (refusal_expanded ls (drop c ps))
      ∙ sym (append_assoc (map (at_place l v) (take c ps)) (expanded ls (drop c ps)) (of_fault line fault ∷ []))
  refusal_expanded (by_line.Refused l f ∷ ls) ps = ap (λ (rows : List Found). of_fault l f ∷ rows) (refusal_expanded ls ps)

  pub refusal_in_turn : (ls : List LineRows) (ps : List ℕ) → AreInTurn ls ps → AreInTurn (ls ++ by_line.Refused line fault ∷ []) ps
  refusal_in_turn [] ps turn = turn
  refusal_in_turn (by_line.Nodes l v c ∷ ls) ps turn = (turn.0, turn.1, refusal_in_turn ls (drop c ps) turn.2)
  refusal_in_turn (by_line.Refused l f ∷ ls) ps turn = refusal_in_turn ls ps turn

-- ---- the rows of one line

-- a node that was found is that of its place
pub found_at : (view : LineView) (c : Cursor) → line_of c ≡ text_of_view view → node_at view (place_of c) ≡ node_of c
unfolding spot_of line_of place_of
found_at view c e = ap (λ (l : List ℕ). (spot_at (spelled l) c.place).node) (sym e)

rows_at : (line : ℕ) (view : LineView) (cs : List Cursor) → All (λ c. line_of c ≡ text_of_view view) cs
    → map found_row (map (at_place line view) (map place_of cs)) ≡ map (model.node_row line) (map node_of cs)
rows_at line view [] all = refl
rows_at line view (c ∷ cs) all = ap₂ (λ (n : Node) (rows : List model.Row). model.node_row line n ∷ rows) (found_at view c (all 0 c (omega arith))) (rows_at line view cs (λ k d l. all (suc k) d (omega (arith, l))))

-- what the rest selects from the node of the seek are the rows of the line
pub node_rows : (q rest : Segments) (steps : List Step) (n : ℕ) (s : LineStatus) (t : Tree) (old new : List Found) (view : LineView) (cs : List Cursor) (start : Node) → s ≡ parsed t
    → segments_behind steps q ≡ Some rest → start ∷ [] ≡ nodes (steps_query steps) (root_node t ∷ []) t → map node_of cs ≡ nodes rest (start ∷ []) t
    → All (λ c. line_of c ≡ text_of_view view) cs → new ≡ old ++ map (at_place n view) (map place_of cs) → map found_row new ≡ map found_row old ++ status_rows q n s
node_rows q rest steps n s t old new view cs start e b h k all i =
    let whole : map node_of cs ≡ nodes q (root_node t ∷ []) t = k ∙ (ap (λ ns. nodes rest ns t) h ∙ sym (behind_nodes steps q rest (root_node t ∷ []) t b)) in
    ap (map found_row) i ∙ (map-append found_row old (map (at_place n view) (map place_of cs))
    ∙ (ap (λ (l : List model.Row). map found_row old ++ l) (rows_at n view cs all ∙ ap (map (model.node_row n)) whole)
    ∙ ap (λ u. map found_row old ++ status_rows q n u) (sym e)))

pub refusal_rows : (q : Segments) (n : ℕ) (s : LineStatus) (fault : LineFault) (old new : List Found) → told.Refused fault ≡ status_kind s → new ≡ old ++ of_fault n fault ∷ []
    → map found_row new ≡ map found_row old ++ status_rows q n s
refusal_rows q n blank fault old new e h = absurd (cc)
refusal_rows q n (refused f) fault old new e h =
    let same : fault ≡ f = cc in
    ap (map found_row) h ∙ (map-append found_row old (of_fault n fault ∷ []) ∙ ap (λ g. map found_row old ++ model.refusal_row n g ∷ []) same)
refusal_rows q n (parsed t) fault old new e h = absurd (cc)

-- rows of a line after others are of their lines
pub nodes_of_line : (lines : List (List ℕ)) (n : ℕ) (view : LineView) (cs : List Cursor) (old new : List Found) → new ≡ old ++ map (at_place n view) (map place_of cs)
    → slice_get lines (n - 1) ≡ Some (text_of_view view) → All (IsOfItsLine lines) old → All (IsOfItsLine lines) new
nodes_of_line lines n view cs old new e here all =
    All-same (IsOfItsLine lines) new (old ++ map (at_place n view) (map place_of cs)) e
    (All-append (IsOfItsLine lines) old (map (at_place n view) (map place_of cs)) all (All-map (IsOfItsLine lines) (at_place n view) (map place_of cs) (λ k d l. here)))

pub refusal_of_line : (lines : List (List ℕ)) (n : ℕ) (fault : LineFault) (old new : List Found) → new ≡ old ++ of_fault n fault ∷ [] → All (IsOfItsLine lines) old → All (IsOfItsLine lines) new
refusal_of_line lines n fault old new e all =
    All-same (IsOfItsLine lines) new (old ++ of_fault n fault ∷ []) e (All-append (IsOfItsLine lines) old (of_fault n fault ∷ []) all one)
  where
    one : All (IsOfItsLine lines) (of_fault n fault ∷ [])
    one zero d l = tt
    one (suc k) d l = absurd (omega (arith, l))

-- the line that is opened
pub is_there : (c : Collection) (n : ℕ) (text : List ℕ) → IsLineOf c n → text ≡ line_text n c → slice_get c.state.lines (n - 1) ≡ Some text
is_there c n text is e = text_at c n is ∙ ap Some (sym e)

-- nodes that were found from the root of a line are of it
pub of_view : (view : LineView) (root : Cursor) (cursors slice : List Cursor) → line_of root ≡ text_of_view view → AreOf (line_of root) cursors → slice ≡ cursors → All (λ d. line_of d ≡ text_of_view view) slice
of_view view root cursors slice e all is = let same = All-same (λ d. line_of d ≡ line_of root) slice cursors is all in λ k d l. same k d l ∙ e

-- ---- the places of some nodes, one more

pub place_within : (view : LineView) (c : Cursor) (place : ℕ) → line_of c ≡ text_of_view view → place ≡ place_of c → place < length (subtree (root_node (root_of c))) → IsPlaceIn view (place_of c)
place_within view c place e f h =
    subst (λ (text : List ℕ). place_of c < length (subtree (root_node (spelled text)))) e (subst (λ (n : ℕ). n < length (subtree (root_node (root_of c)))) f h)

module _ (view : LineView) (cs : List Cursor) (i : ℕ) (c : Cursor) (l : i < length cs) (is : c ≡ get_or cs i c) where
  pub one_place : map place_of (take (i + 1) cs) ≡ map place_of (take i cs) ++ place_of c ∷ []
  one_place =
      let next : suc i ≡ i + 1 = omega arith in
      ap (λ k. map place_of (take k cs)) (sym next)
      ∙ (ap (map place_of) (take-suc cs i c l)
      ∙ (map-append place_of (take i cs) (get_or cs i c ∷ []) ∙ ap (λ (d : Cursor). map place_of (take i cs) ++ place_of d ∷ []) (sym is)))

  pub one_within : All (IsPlaceIn view) (map place_of (take i cs)) → IsPlaceIn view (place_of c) → All (IsPlaceIn view) (map place_of (take (i + 1) cs))
  one_within all here = All-same (IsPlaceIn view) (map place_of (take (i + 1) cs)) (map place_of (take i cs) ++ place_of c ∷ []) one_place (All-append (IsPlaceIn view) (map place_of (take i cs)) (place_of c ∷ []) all one)
    where
      one : All (IsPlaceIn view) (place_of c ∷ [])
      one zero d m = here
      one (suc k) d m = absurd (omega (arith, m))

-- ---- the rows one by one

-- what holds of two parts of a list, and of what was mapped
front : {X : Type 0} (P : X → Type 0) (xs ys : List X) → All P (xs ++ ys) → All P xs
front P xs ys all = All-same P xs (take (length xs) (xs ++ ys)) (sym (take-append_seam xs ys)) (All-take P (length xs) (xs ++ ys) all)

behind : {X : Type 0} (P : X → Type 0) (xs ys : List X) → All P (xs ++ ys) → All P ys
behind P xs ys all = All-same P ys (drop (length xs) (xs ++ ys)) (sym (drop-append_seam xs ys)) (All-drop P (length xs) (xs ++ ys) all)

unmapped : {X Y : Type 0} (P : Y → Type 0) (f : X → Y) (xs : List X) → All P (map f xs) → All (λ x. P (f x)) xs
unmapped P f xs all = λ k d l. subst P (get_or-map f xs k d) (all k (f d) (let size = length-map xs f in omega (arith, size, l)))

-- the rows that were gone through are followed by those of the lines that are left, whose places are in turn
pub record IsGone (whole : List Found) (ls : List LineRows) (ps : List ℕ) (rows : List Row) : Type 0 where
  pub turn : AreInTurn ls ps
  pub told : rows_view rows ++ map found_row (expanded ls ps) ≡ map found_row whole
  pub on_lines : (lines : List (List ℕ)) → All (IsOfItsLine lines) whole → AreOnTheirLines lines rows × All (IsOfItsLine lines) (expanded ls ps)

module _ (whole : List Found) (ls rest : List LineRows) (ps : List ℕ) (before : List Row) (gone : IsGone whole ls ps before) where
  module _ (line : ℕ) (view : LineView) (count : ℕ) (e : ls ≡ by_line.Nodes line view count ∷ rest) where
    abbrev here : List Found
    here = map (at_place line view) (take count ps)

    pub turned : AreInTurn (by_line.Nodes line view count ∷ rest) ps
    turned = subst (λ (xs : List LineRows). AreInTurn xs ps) e gone.turn

    pub nodes_gone : (mine left : List ℕ) (new : List Row) → mine ≡ take count ps → left ≡ drop count ps → rows_view new ≡ rows_view before ++ map found_row (map (at_place line view) mine)
        → ((lines : List (List ℕ)) → All (λ place. IsOfItsLine lines (at_place line view place)) mine → AreOnTheirLines lines before → AreOnTheirLines lines new)
        → IsGone whole rest left new
    nodes_gone mine left new m f h on = subst (λ qs. IsGone whole rest qs new) (sym f) (record {
      turn = turned.2;
      told =
          ap (λ (rows : List model.Row). rows ++ map found_row (expanded rest (drop count ps))) (h ∙ ap (λ xs. rows_view before ++ map found_row (map (at_place line view) xs)) m)
          ∙ (append_assoc (rows_view before) (map found_row here) (map found_row (expanded rest (drop count ps)))
          ∙ (ap (λ (rows : List model.Row). rows_view before ++ rows) (sym (map-append found_row here (expanded rest (drop count ps))))
          ∙ (ap (λ (xs : List LineRows). rows_view before ++ map found_row (expanded xs ps)) (sym e) ∙ gone.told)));
      on_lines = λ lines all.
          let old = gone.on_lines lines all in
          let both : All (IsOfItsLine lines) (here ++ expanded rest (drop count ps)) = subst (λ (xs : List LineRows). All (IsOfItsLine lines) (expanded xs ps)) e old.1 in
          let first : All (IsOfItsLine lines) (map (at_place line view) mine) = subst (λ xs. All (IsOfItsLine lines) (map (at_place line view) xs)) (sym m) (front (IsOfItsLine lines) here (expanded rest (drop count ps)) both) in
          (on lines (unmapped (IsOfItsLine lines) (at_place line view) mine first) old.0, behind (IsOfItsLine lines) here (expanded rest (drop count ps)) both);
    })

  pub refusal_gone : (line : ℕ) (fault : LineFault) → ls ≡ by_line.Refused line fault ∷ rest → (new : List Row) → new ≡ before ++ found.Refused line fault ∷ [] → IsGone whole rest ps new
  refusal_gone line fault e new h = record {
    turn = subst (λ (xs : List LineRows). AreInTurn xs ps) e gone.turn;
    told =
        ap (λ (rows : List model.Row). rows ++ map found_row (expanded rest ps)) (ap rows_view h ∙ map-append row_view before (found.Refused line fault ∷ []))
        ∙ (append_assoc (rows_view before) (model.refusal_row line fault ∷ []) (map found_row (expanded rest ps))
        ∙ (ap (λ (xs : List LineRows). rows_view before ++ map found_row (expanded xs ps)) (sym e) ∙ gone.told));
    on_lines = λ lines all.
        let old = gone.on_lines lines all in
        let both : All (IsOfItsLine lines) ((of_fault line fault ∷ []) ++ expanded rest ps) = subst (λ (xs : List LineRows). All (IsOfItsLine lines) (expanded xs ps)) e old.1 in
        (All-same (IsOnItsLine lines) new (before ++ found.Refused line fault ∷ []) h (All-append (IsOnItsLine lines) before (found.Refused line fault ∷ []) old.0 (alone_there lines)), behind (IsOfItsLine lines) (of_fault line fault ∷ []) (expanded rest ps) both);
  }
    where
      alone_there : (lines : List (List ℕ)) → All (IsOnItsLine lines) (found.Refused line fault ∷ [])
      alone_there lines zero d m = tt
      alone_there lines (suc k) d m = absurd (omega (arith, m))

-- a row of a node with its cursor after others
module _ (line : ℕ) (view : LineView) where
  pub row_more : (ps : List ℕ) (i : ℕ) → i < length ps → (c : Cursor) → line_of c ≡ text_of_view view → place_of c ≡ get_or ps i 0
      → (old before new : List Row) → new ≡ before ++ found.Node line c ∷ [] → rows_view before ≡ rows_view old ++ map found_row (map (at_place line view) (take i ps))
      → rows_view new ≡ rows_view old ++ map found_row (map (at_place line view) (take (i + 1) ps))
  row_more ps i l c e f old before new h told =
      let place = get_or ps i 0 in
      let next : suc i ≡ i + 1 = omega arith in
      let node : node_of c ≡ node_at view place = sym (found_at view c e) ∙ ap (node_at view) f in
      let more : map found_row (map (at_place line view) (take (i + 1) ps)) ≡ map found_row (map (at_place line view) (take i ps)) ++ found_row (at_place line view place) ∷ [] =
      ap (λ k. map found_row (map (at_place line view) (take k ps))) (sym next)
      ∙ (ap (λ xs. map found_row (map (at_place line view) xs)) (take-suc ps i 0 l)
      ∙ (ap (map found_row) (map-append (at_place line view) (take i ps) (place ∷ []))
      ∙ map-append found_row (map (at_place line view) (take i ps)) (at_place line view place ∷ []))) in
      ap rows_view h ∙ (map-append row_view before (found.Node line c ∷ [])
      ∙ (ap₂ (λ (a : List model.Row) (n : Node). a ++ model.node_row line n ∷ []) told node
      ∙ (append_assoc (rows_view old) (map found_row (map (at_place line view) (take i ps))) (model.node_row line (node_at view place) ∷ [])
      ∙ ap (λ (rows : List model.Row). rows_view old ++ rows) (sym more))))

  pub on_line_more : (lines : List (List ℕ)) (c : Cursor) → line_of c ≡ text_of_view view → (before new : List Row) → new ≡ before ++ found.Node line c ∷ []
      → slice_get lines (line - 1) ≡ Some (text_of_view view) → AreOnTheirLines lines before → AreOnTheirLines lines new
  on_line_more lines c e before new h here all = All-same (IsOnItsLine lines) new (before ++ found.Node line c ∷ []) h (All-append (IsOnItsLine lines) before (found.Node line c ∷ []) all one)
    where
      one : All (IsOnItsLine lines) (found.Node line c ∷ [])
      one zero d m = here ∙ ap Some (sym e)
      one (suc k) d m = absurd (omega (arith, m))

-- the next line
pub line_next : (ls items : List LineRows) (i : ℕ) (l : LineRows) → items ≡ ls → i < length items → l ≡ get_or items i l → drop i ls ≡ l ∷ drop (i + 1) ls
line_next ls items i l e h is =
    let next : suc i ≡ i + 1 = omega arith in
    ap (drop i) (sym e)
    ∙ (drop-cons items i l h ∙ (ap (λ (x : LineRows). x ∷ drop (suc i) items) (sym is) ∙ (ap (λ k. l ∷ drop k items) next ∙ ap (λ (xs : List LineRows). l ∷ drop (i + 1) xs) e)))
