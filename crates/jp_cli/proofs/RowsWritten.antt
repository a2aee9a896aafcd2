-- The texts of rows, or of other things, that are written one after another.
use Rattle.std.proofs.Common.{◌≡◌, ◌∙◌, ◌+◌, ◌<◌, ℕ, List, [], ◌∷◌, ◌++◌, length, flat_map, take, drop, get_or, sym, ap, ap₂, subst, arith, false, append-nil, append_assoc, take-append-drop, map, refl, Option}
use Rattle.std.specs.Prelude.{suc}
use Rattle.std.proofs.Math.Seq.{take-suc}
use Rattle.std.proofs.lemmas.Grind.{flat_map-append}
use Rattle.jp_model.specs.declared.Framing.{Framing}
use Rattle.jp_model.specs.declared.LineFault.{LineFault}
use Rattle.jp_devices.specs.Devices.{Device, Received}
use Rattle.jp_model.specs.Meaning.Nodes.{Node}
use Rattle.jp_model.specs.Rows.{node_text, refusal_text}
use Rattle.jp_devices.proofs.Chains.{Part, both_received, part_more, part_behind}
use Rattle.jp_lines.specs.declared.view.LineView.{LineView}
use Rattle.jp_lines.specs.Views.{text_of_view}
use Rattle.jp_nodes.specs.Cursors.{line_of, node_of, place_of}
use Rattle.jp_nodes.specs.declared.cursor.Cursor.{Cursor}
use Rattle.jp_plan.specs.ByLine.{at_place, expanded, node_at, AreInTurn}
use Rattle.jp_plan.proofs.ByLine.{found_at}
use Rattle.jp_plan.specs.declared.rows.LineRows.{LineRows}
use Rattle.jp_plan.specs.declared.rows.LineRows.TheVariants as by_line
use Rattle.jp_cli.specs.Found.{place_text, found_text}

module _ {X : Type 0} (text : X → List ℕ) (rows : List X) (i : ℕ) (row : X) (l : i < length rows) (is : row ≡ get_or rows i row) where
  one_more : flat_map text (take (i + 1) rows) ≡ flat_map text (take i rows) ++ text row
  one_more =
      let next : suc i ≡ i + 1 = omega arith in
      ap (λ n. flat_map text (take n rows)) (sym next)
      ∙ ap (flat_map text) (take-suc rows i row l)
      ∙ flat_map-append text (take i rows) (get_or rows i row ∷ [])
      ∙ ap (λ t. flat_map text (take i rows) ++ t) (append-nil (text (get_or rows i row)))
      ∙ ap (λ (r : X). flat_map text (take i rows) ++ text r) (sym is)

  whole_is : flat_map text rows ≡ (flat_map text (take i rows) ++ text row) ++ flat_map text (drop (i + 1) rows)
  whole_is =
      ap (flat_map text) (sym (take-append-drop (i + 1) rows))
      ∙ flat_map-append text (take (i + 1) rows) (drop (i + 1) rows)
      ∙ ap (λ t. t ++ flat_map text (drop (i + 1) rows)) one_more

  pub row_written : {W : Type 0} {contents : W → Option (List ℕ)} (old mid new : Device W) → Received contents old mid (flat_map text (take i rows)) → Received contents mid new (text row)
      → Received contents old new (flat_map text (take (i + 1) rows))
  row_written {contents = contents} old mid new a b = subst (Received contents old new) (sym one_more) (both_received old mid new (flat_map text (take i rows)) (text row) a b)

  pub row_in_part : {W : Type 0} {contents : W → Option (List ℕ)} (old mid new : Device W) → Received contents old mid (flat_map text (take i rows)) → Part contents mid new (text row) → Part contents old new (flat_map text rows)
  row_in_part {contents = contents} old mid new a p =
      subst (Part contents old new) (sym whole_is)
      (part_more old new (flat_map text (take i rows) ++ text row) (flat_map text (drop (i + 1) rows)) (part_behind old mid new (flat_map text (take i rows)) (text row) a p))

-- ---- rows by line

-- the texts of the rows of the next line, and of those after it
pub nodes_text : (f : Framing) (ls rest : List LineRows) (line : ℕ) (view : LineView) (count : ℕ) (ps : List ℕ) → ls ≡ by_line.Nodes line view count ∷ rest
    → flat_map (found_text f) (expanded ls ps) ≡ flat_map (place_text f line view) (take count ps) ++ flat_map (found_text f) (expanded rest (drop count ps))
nodes_text f ls rest line view count ps e =
    ap (λ (xs : List LineRows). flat_map (found_text f) (expanded xs ps)) e
    ∙ (flat_map-append (found_text f) (map (at_place line view) (take count ps)) (expanded rest (drop count ps))
    ∙ ap (λ (t : List ℕ). t ++ flat_map (found_text f) (expanded rest (drop count ps))) (texts_of (take count ps)))
  where
    texts_of : (xs : List ℕ) → flat_map (found_text f) (map (at_place line view) xs) ≡ flat_map (place_text f line view) xs
    texts_of [] = refl
    texts_of (x ∷ xs) = ap (λ (t : List ℕ). place_text f line view x ++ t) (texts_of xs)

pub refusal_told : (f : Framing) (ls rest : List LineRows) (line : ℕ) (fault : LineFault) (ps : List ℕ) → ls ≡ by_line.Refused line fault ∷ rest
    → flat_map (found_text f) (expanded ls ps) ≡ refusal_text f line fault ++ flat_map (found_text f) (expanded rest ps)
refusal_told f ls rest line fault ps e = ap (λ (xs : List LineRows). flat_map (found_text f) (expanded xs ps)) e

-- the row of the node that a place leads to
pub placed : (f : Framing) (line : ℕ) (view : LineView) (place : ℕ) (c : Cursor) → line_of c ≡ text_of_view view → place_of c ≡ place → node_text f line (line_of c) (node_of c) ≡ place_text f line view place
placed f line view place c e at = ap₂ (λ (text : List ℕ) (node : Node). node_text f line text node) e (sym (found_at view c e) ∙ ap (node_at view) at)

-- the rows of some lines are written, and those of the others are still to come; no write failed
pub record IsWritten {W : Type 0} (contents : W → Option (List ℕ)) (f : Framing) (whole : List ℕ) (initial : Device W) (ls : List LineRows) (ps : List ℕ) (out : Device W) : Type 0 where
  pub turn : AreInTurn ls ps
  pub working : out.failed ≡ false
  pub early : out.after ≡ initial.after
  pub done : List ℕ
  pub written : Received contents initial out done
  pub all : done ++ flat_map (found_text f) (expanded ls ps) ≡ whole

module _ {W : Type 0} (contents : W → Option (List ℕ)) (f : Framing) (whole : List ℕ) (initial out : Device W) (ls rest : List LineRows) (ps : List ℕ) (so : IsWritten contents f whole initial ls ps out) where
  -- a piece after what is written, where the rest is still to come
  module _ (piece left : List ℕ) (parts : flat_map (found_text f) (expanded ls ps) ≡ piece ++ left) where
    piece_all : (so.done ++ piece) ++ left ≡ whole
    piece_all = append_assoc so.done piece left ∙ (ap (λ (t : List ℕ). so.done ++ t) (sym parts) ∙ so.all)

    in_part : (new : Device W) → Part contents out new piece → Part contents initial new whole
    in_part new p =
        subst (Part contents initial new) piece_all
        (part_more initial new (so.done ++ piece) left (part_behind initial out new so.done piece so.written p))

    more : (new : Device W) → Received contents out new piece → Received contents initial new (so.done ++ piece)
    more new r = both_received initial out new so.done piece so.written r

  module _ (line : ℕ) (view : LineView) (count : ℕ) (e : ls ≡ by_line.Nodes line view count ∷ rest) where
    pub turned : AreInTurn (by_line.Nodes line view count ∷ rest) ps
    turned = subst (λ (xs : List LineRows). AreInTurn xs ps) e so.turn

    abbrev here : List ℕ
    here = flat_map (place_text f line view) (take count ps)

    abbrev left : List ℕ
    left = flat_map (found_text f) (expanded rest (drop count ps))

    pub nodes_written : (mine behind : List ℕ) (new : Device W) → mine ≡ take count ps → behind ≡ drop count ps → Received contents out new (flat_map (place_text f line view) mine)
        → new.failed ≡ false → new.after ≡ out.after → IsWritten contents f whole initial rest behind new
    nodes_written mine behind new m b r works after = subst (λ (qs : List ℕ). IsWritten contents f whole initial rest qs new) (sym b) (record {
      turn = turned.2;
      working = works;
      early = after ∙ so.early;
      done = so.done ++ here;
      written = more here left (nodes_text f ls rest line view count ps e) new (subst (λ (qs : List ℕ). Received contents out new (flat_map (place_text f line view) qs)) m r);
      all = piece_all here left (nodes_text f ls rest line view count ps e);
    })

    pub nodes_in_part : (mine : List ℕ) (new : Device W) → mine ≡ take count ps → Part contents out new (flat_map (place_text f line view) mine)
        → Part contents initial new whole
    nodes_in_part mine new m p =
        in_part here left (nodes_text f ls rest line view count ps e) new (subst (λ (qs : List ℕ). Part contents out new (flat_map (place_text f line view) qs)) m p)

  module _ (line : ℕ) (fault : LineFault) (e : ls ≡ by_line.Refused line fault ∷ rest) where
    pub refusal_written : (new : Device W) → Received contents out new (refusal_text f line fault) → new.failed ≡ false → new.after ≡ out.after → IsWritten contents f whole initial rest ps new
    refusal_written new r works after = record {
      turn = subst (λ (xs : List LineRows). AreInTurn xs ps) e so.turn;
      working = works;
      early = after ∙ so.early;
      done = so.done ++ refusal_text f line fault;
      written = more (refusal_text f line fault) (flat_map (found_text f) (expanded rest ps)) (refusal_told f ls rest line fault ps e) new r;
      all = piece_all (refusal_text f line fault) (flat_map (found_text f) (expanded rest ps)) (refusal_told f ls rest line fault ps e);
    }

    pub refusal_in_part : (new : Device W) → Part contents out new (refusal_text f line fault) → Part contents initial new whole
    refusal_in_part new p = in_part (refusal_text f line fault) (flat_map (found_text f) (expanded rest ps)) (refusal_told f ls rest line fault ps e) new p
