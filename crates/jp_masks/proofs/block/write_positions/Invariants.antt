use Rattle.std.proofs.Common.{◌≡◌, ◌+◌, ◌-◌, ◌*◌, ◌%◌, ◌^◌, ◌<◌, ◌≤◌, ◌++◌, map, take, length}
use Rattle.jp_masks.specs.Positions.{set_bits}
use Rattle.jp_masks.proofs.block.write_positions.Given as goal

-- the positions of the bits that are left come after those that are written, eight at most to a byte
abbrev pub invariant-loop-byte : goal.invariant-loop-byte
invariant-loop-byte l = record {
  written : take l.count l.positions ++ map (λ i. (l.base + l.byte * 8 + i) % 2 ^ 32) (set_bits l.rest) ≡ map (λ i. (l.base + i) % 2 ^ 32) (set_bits l.word);
  few : l.count ≤ l.byte * 8;
  small : l.rest < 2 ^ (64 - l.byte * 8);
  long : length l.positions ≡ length l.fn.positions;
}
