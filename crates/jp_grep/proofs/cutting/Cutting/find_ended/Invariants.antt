-- The pieces that are noted are those that were handed out.
use Rattle.std.proofs.Common.{◌≡◌, ◌-◌, ◌++◌, ℕ, List, All, length, map}
use Rattle.jp_cut.specs.Cuts.{Piece}
use Rattle.jp_cut.specs.Holding.{HasRead, IsHeld}
use Rattle.jp_cut.specs.declared.machine.Pieces.{Pieces}
use Rattle.jp_grep.specs.Finding.{noted_items}
use Rattle.jp_grep.specs.Items.{piece_item}
use Rattle.jp_grep.proofs.cutting.Cutting.find_ended.Given as goal

abbrev pub invariant-loop-piece : goal.invariant-loop-piece
invariant-loop-piece l = record {
  found : (pieces : Pieces) (stream : List ℕ) (handed : List Piece) → HasRead pieces stream handed l.fn.self.cutter
      → (more : List Piece) × HasRead pieces stream (handed ++ more) l.self.cutter × (noted_items l.self ≡ map piece_item more);
  held : All (IsHeld l.self.cutter) l.self.pieces.items;
  is_first : l.self.is_first ≡ l.fn.self.is_first;
}

abbrev pub decreases-loop-piece : goal.decreases-loop-piece
decreases-loop-piece l = length l.self.cutter.held.items - l.self.cutter.cut
