use Rattle.std.proofs.Common.{length, map, ◌+◌, ◌-◌, arith}
use Rattle.jp_masks.specs.Written.{written}
use Rattle.jp_masks.specs.Positions.{set_bits}
use Rattle.jp_masks.proofs.RowsLaw.{more_positions, positions_came}
use Rattle.jp_masks.proofs.lines.Marks.add_marks.Goals as goal

pub invariant_of-self : goal.invariant_of-self
invariant_of-self c =
    let m = c.args.self.now in
    let before = written m.positions in
    let after = written c.push_block.new.self in
    let more = positions_came c.push_block.result before (map (λ i. c.args.base + i - c.args.start) (set_bits c.args.marks)) after c.push_block.ensures.ok c.push_block.ensures.err in
    record { in_positions = more_positions m.rows.items (length before) (length after) more m.in_positions; in_order = omega (arith, m.in_order, more) }
