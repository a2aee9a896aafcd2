use Rattle.std.proofs.Common.{◌∙◌, List, ap, length, arith}
use Rattle.jp_masks.specs.declared.row.Row.{Row}
use Rattle.jp_masks.specs.Written.{written}
use Rattle.jp_masks.specs.Rows.{rows_within}
use Rattle.jp_masks.proofs.RowsLaw.{rows_pushed}
use Rattle.jp_masks.proofs.lines.Marks.add_row.Goals as goal

pub invariant_of-self : goal.invariant_of-self
invariant_of-self c =
    let m = c.args.self.now in
    record { in_positions = ap (λ (rows : List Row). rows_within rows (length (written m.positions))) c.make_row_room.ensures.same ∙ m.in_positions; in_order = m.in_order }

pub invariant_of-self-2 : goal.invariant_of-self-2
invariant_of-self-2 c =
    let m = c.args.self.now in
    record {
      in_positions = rows_pushed m.rows.items c.make_row_room.new.rows.items c.push_reserved.new.self.items (length (written m.positions)) c.args.start c.args.end m.positions_before c.len.result c.make_row_room.ensures.same c.push_reserved.ensures.items
          (omega (arith, m.in_order, c.len.ensures)) (omega (arith, c.len.ensures)) m.in_positions;
      in_order = m.in_order;
    }
