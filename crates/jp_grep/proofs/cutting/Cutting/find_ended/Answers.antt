-- One more piece is noted, or no other ended.
use Rattle.std.proofs.Common.{◌∙◌, ◌++◌, ◌∷◌, [], List, All, ap, ap₂, map, sym, subst, append_assoc}
use Rattle.jp_cut.specs.Cuts.{Piece}
use Rattle.jp_cut.specs.Holding.{HasRead, IsHeld}
use Rattle.jp_cut.specs.declared.cutter.Cutter.{Cutter}
use Rattle.jp_cut.specs.declared.cutter.PieceAt.{PieceAt}
use Rattle.jp_grep.specs.ReadItems.{held_item}
use Rattle.jp_grep.proofs.Noted.{held_more, noted_more}
use Rattle.jp_grep.proofs.cutting.Cutting.find_ended.Goals as goal

pub loop-piece-preserved : goal.loop-piece-preserved
loop-piece-preserved c =
    let inv = c.loop-piece.invariant in
    let at = c.in-Some.piece in
    let before = c.loop-piece.self.pieces.items in
    let cutter = c.next_piece.new.self in
    let said = c.in-Some.ensures in
    let noted = c.in_ok-note.ensures in
    record {
      found = λ pieces stream handed h.
          let so = inv.found pieces stream handed h in
          let one = said.read pieces stream (handed ++ so.0) so.1 in (
            so.0 ++ one.piece ∷ [],
            subst (λ (k : Cutter). HasRead pieces stream (handed ++ (so.0 ++ one.piece ∷ [])) k) (sym noted.cutter)
                (subst (λ (l : List Piece). HasRead pieces stream l cutter) (append_assoc handed so.0 (one.piece ∷ [])) one.has),
            ap₂ (λ (k : Cutter) (ps : List PieceAt). map (held_item k.held.items) ps) noted.cutter noted.noted
                ∙ noted_more cutter before at so.0 one.piece (ap (λ v. map (held_item v.items) before) said.same ∙ so.2) one.is,
          );
      held = subst (λ (k : Cutter). All (IsHeld k) c.note.new.self.pieces.items) (sym noted.cutter)
          (subst (λ (ps : List PieceAt). All (IsHeld cutter) ps) (sym noted.noted) (held_more c.loop-piece.self.cutter cutter before at said.same inv.held said.there));
      is_first = noted.is_first ∙ inv.is_first;
    }
