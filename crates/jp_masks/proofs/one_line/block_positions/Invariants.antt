use Rattle.std.proofs.Common.{◌≡◌, ℕ, ◌+◌, ◌<◌, true, ◌++◌, map}
use Rattle.jp_lanes.specs.Word.{bit}
use Rattle.jp_masks.specs.Positions.{set_bits}
use Rattle.jp_masks.proofs.one_line.block_positions.Given as goal

-- what was gathered, and the positions of the bits that are left
abbrev pub invariant-loop-rest : goal.invariant-loop-rest
invariant-loop-rest l = record {
  gathered : l.positions.items ++ map (λ i. l.base + i) (set_bits l.rest) ≡ map (λ i. l.base + i) (set_bits l.marks);
  left : (i : ℕ) → i < 64 → bit l.rest i ≡ true → bit l.marks i ≡ true;
}

abbrev pub decreases-loop-rest : goal.decreases-loop-rest
decreases-loop-rest l = l.rest
