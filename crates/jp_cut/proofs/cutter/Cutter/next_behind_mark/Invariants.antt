use Rattle.std.proofs.Common.{◌-◌, ◌≡◌, ◌≤◌, ℕ, List, length, false}
use Rattle.jp_cut.specs.Cuts.{Piece}
use Rattle.jp_cut.specs.Holding.{HasRead}
use Rattle.jp_cut.specs.declared.machine.Pieces.{Pieces}
use Rattle.jp_cut.proofs.cutter.Cutter.next_behind_mark.Given as goal

abbrev pub invariant-loop-self : goal.invariant-loop-self
invariant-loop-self l = record {
  read : (pieces : Pieces) (stream : List ℕ) (handed : List Piece) → HasRead pieces stream handed l.initial.self → HasRead pieces stream handed l.self;
  held : l.self.held ≡ l.initial.self.held;
  start : l.initial.self.start ≤ l.self.start;
  cut : l.initial.self.cut ≤ l.self.cut;
  front : l.self.is_front ≡ false;
}

abbrev pub decreases-loop-self : goal.decreases-loop-self
decreases-loop-self l = length l.self.held.items - l.self.cut
