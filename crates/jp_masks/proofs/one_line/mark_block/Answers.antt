use Rattle.std.proofs.Common.{◌≡◌, ◌++◌, length, ap, ◌∙◌, arith, length-append}
use Rattle.jp_masks.proofs.LineBlocks.{more_marked, more_known}
use Rattle.jp_masks.proofs.one_line.mark_block.Goals as goal

pub returns : goal.returns
returns c read was =
    let block = c.args.block.now in
    let long : length block ≡ 64 = omega arith in
    record {
      marked = c.in_ok-extend_from_slice.ensures.items ∙ ap (λ t. c.args.positions.now.items ++ t) (c.deref.ensures.0 ∙ c.block_positions.ensures) ∙ more_marked read block c.args.positions.now.items c.args.known c.args.base c.scan_block-found.result.marks long was.marked was.knows was.long c.scan_block-found.ensures.marks;
      knows = more_known read block c.args.known c.scan_block-found.result.next long was.knows c.scan_block-found.ensures.carry;
      long = omega (arith, was.long, long, length-append read block);
    }
