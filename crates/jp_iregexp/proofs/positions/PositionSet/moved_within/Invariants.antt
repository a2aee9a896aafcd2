use Rattle.std.proofs.Common.{◌≡◌, ℕ, ◌+◌, ◌-◌, ◌/◌, ◌≤◌, ◌<◌, length}
use Rattle.jp_iregexp.specs.Positions.{Has}
use Rattle.jp_iregexp.specs.Words.{HasBit}
use Rattle.jp_iregexp.proofs.positions.PositionSet.moved_within.Given as goal

-- the words from the first one on, as far as word w
abbrev pub invariant-loop-w : goal.invariant-loop-w
invariant-loop-w l = record {
  size : l.first + length l.words.items ≡ l.w;
  sound : (q : ℕ) → HasBit l.first l.words.items q → l.distance ≤ q × Has l.self (q - l.distance) × Has l.other q;
  complete : (q : ℕ) → l.first ≤ q / 64 → q / 64 < l.w → l.distance ≤ q → Has l.self (q - l.distance) → Has l.other q → HasBit l.first l.words.items q;
}
