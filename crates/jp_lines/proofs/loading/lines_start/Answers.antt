-- What follows the mark begins where the mark ends.
use Rattle.std.proofs.Common.{◌-◌, ◌∙◌, length, drop, ap, arith}
use Rattle.jp_lines.proofs.Sizes.{behind_mark, mark_shorter}
use Rattle.jp_lines.proofs.loading.lines_start.Goals as goal

pub overflow_sub-result : goal.overflow_sub-result
overflow_sub-result c = omega (arith, mark_shorter c.args.bytes.now, ap length c.without_byte_order_mark.ensures)

pub returns : goal.returns
returns c = record {
  within = omega arith;
  rest = ap (λ n. drop n c.args.bytes.now) (ap (λ xs. length c.args.bytes.now - length xs) c.without_byte_order_mark.ensures) ∙ behind_mark c.args.bytes.now;
}
