use Rattle.std.proofs.Common.{◌≡◌, ℕ, ◌+◌, ◌<◌, ◌≤◌, true, false}
use lib.Bits.{bit_or}
use Rattle.jp_lanes.specs.Word.{bit}
use Rattle.jp_masks.specs.Written.{written}
use Rattle.jp_masks.specs.Positions.{set_bits}
use Rattle.jp_masks.specs.Sinks.{add_positions}
use Rattle.jp_masks.specs.Scanned.{stored, Grows}
use Rattle.jp_masks.proofs.lines.Marks.add_block.Given as goal

-- what is left to take in, over what is stored, gives what all gives over what was stored
abbrev pub invariant-loop-later_ends : goal.invariant-loop-later_ends
invariant-loop-later_ends l = record {
  added : add_positions l.framing l.ends l.base (stored l.self.rows.items (written l.self.positions) l.self.positions_before l.start) (set_bits (bit_or l.later_marks l.later_ends))
      ≡ add_positions l.framing l.ends l.base (stored l.fn.self.rows.items (written l.fn.self.positions) l.fn.self.positions_before l.fn.from) (set_bits (bit_or l.marks l.ends));
  marks_left : (i : ℕ) → i < 64 → bit l.later_marks i ≡ true → (bit (bit_or l.marks l.ends) i ≡ true) × (bit l.ends i ≡ false);
  ends_left : (i : ℕ) → i < 64 → bit l.later_ends i ≡ true → bit l.ends i ≡ true;
  behind : (i : ℕ) → i < 64 → bit l.later_marks i ≡ true → l.start ≤ l.base + i;
  near : l.start ≤ l.base + 64;
  grown : Grows l.fn.self l.self;
}

abbrev pub decreases-loop-later_ends : goal.decreases-loop-later_ends
decreases-loop-later_ends l = l.later_ends
