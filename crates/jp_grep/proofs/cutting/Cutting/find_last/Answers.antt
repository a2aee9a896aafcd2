-- The end of the stream ends one piece more, or none.
use Rattle.std.proofs.Common.{◌≡◌, ◌∙◌, ◌++◌, ◌∷◌, [], ℕ, List, Bool, true, Result, Ok, Err, OnOk, ap₂, map, sym, subst, append_assoc}
use Rattle.jp_cut.specs.Cuts.{Piece, pieces_come}
use Rattle.jp_cut.specs.Holding.{HandsOut, HasRead}
use Rattle.jp_cut.specs.declared.machine.Pieces.{Pieces}
use Rattle.jp_cut.specs.declared.cutter.Cutter.{Cutter}
use Rattle.jp_cut.specs.declared.cutter.PieceAt.{PieceAt}
use Rattle.jp_grep.specs.Finding.{FindsEnded, FindsLast}
use Rattle.jp_grep.specs.ReadItems.{held_item}
use Rattle.jp_grep.specs.Stands.{IsAnswered}
use Rattle.jp_grep.specs.declared.cutting.Cutting.{Cutting}
use Rattle.jp_grep.specs.declared.fault.SearchFault.{SearchFault}
use Rattle.jp_grep.proofs.Noted.{noted_more}
use Rattle.jp_grep.proofs.cutting.Cutting.find_last.Goals.{then-self+in_ok-pass_front, else-self}
use Rattle.jp_grep.proofs.cutting.Cutting.find_last.Goals as goal

-- the last piece is noted after the others
with_last : (pieces : Pieces) (came : List ℕ) (handed : List Piece) (found last : Cutting) (at : PieceAt) (r : Result Unit SearchFault)
    → OnOk r (last.pieces.items ≡ found.pieces.items ++ at ∷ []) → last.cutter ≡ found.cutter
    → (so : FindsEnded pieces came handed found) → HandsOut (λ now. pieces_come pieces true came ≡ now) (handed ++ so.more) found.cutter at
    → OnOk r (FindsLast pieces came handed last)
with_last pieces came handed found last at (Err e) noted same so one = tt
with_last pieces came handed found last at (Ok x) noted same so one = record {
  more = so.more ++ one.piece ∷ [];
  items = ap₂ (λ (k : Cutter) (ps : List PieceAt). map (held_item k.held.items) ps) same noted ∙ noted_more found.cutter found.pieces.items at so.more one.piece so.items one.is;
  all = one.has ∙ append_assoc handed so.more (one.piece ∷ []);
}

pub returns-in-Some-clause-found : goal.returns-in-Some-clause-found
returns-in-Some-clause-found c pieces came handed at =
    let found = c.find_ended.new.self in
    let read : HasRead pieces came handed c.if-self.self.cutter = elim c.if-self.branch [
      | then-self+in_ok-pass_front w ↦ (let uncut = subst (λ (b : Bool). IsAnswered pieces came c.args.self.now handed b) w.if-self.true at in
          subst (λ (s : Cutting). HasRead pieces came handed s.cutter) (sym w.self-is)
          (subst (λ (l : List ℕ). HasRead pieces l handed w.pass_front.new.self.cutter) uncut.front
          (subst (λ (l : List Piece). HasRead pieces c.args.self.now.front.items l w.pass_front.new.self.cutter) (sym uncut.none) (w.in_ok-pass_front.ensures.read pieces uncut.cutter))))
      | else-self w ↦ subst (λ (s : Cutting). HasRead pieces came handed s.cutter) (sym w.self-is) (subst (λ (b : Bool). IsAnswered pieces came c.args.self.now handed b) w.if-self.false at).cut.read
    ] in
    let so = c.in_ok-find_ended.ensures.found pieces came handed read in
    with_last pieces came handed found c.note.new.self c.in-Some.piece c.note.result c.note.ensures.noted c.note.ensures.cutter so (c.in-Some.ensures.last pieces came (handed ++ so.more) so.read)
