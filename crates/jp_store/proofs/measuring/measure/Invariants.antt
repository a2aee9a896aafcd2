-- The counts so far are those of the lines so far.
use Rattle.std.proofs.Common.{◌≡◌, ◌<◌, ℕ, List, length, map, take, All}
use Rattle.jp_model.specs.declared.Framing.{Framing}
use Rattle.jp_index.specs.LineSetViews.{room_in}
use Rattle.jp_store.specs.Stored.{AreCounted}
use Rattle.jp_lines.specs.Stored.{IsRead, stored_text}
use Rattle.jp_store.proofs.measuring.measure.Given as goal

abbrev pub invariant-loop-line : goal.invariant-loop-line
invariant-loop-line l = record {
  counted : (framing : Framing) (tapes : List ℕ) → All (IsRead framing l.bytes tapes) l.lines → AreCounted framing (map (stored_text l.bytes) (take l.line-index l.lines)) l.counts;
  number : l.number ≡ l.line-index;
  room : length l.lines < room_in l.counts.refused;
}
