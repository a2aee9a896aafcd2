use Rattle.std.proofs.Common.{arith}
use Rattle.jp_cut.proofs.Blocks.{all_stay, at_most, block_passes, few_stay, is_scanned, one_at, outside_at, stays_at}
use Rattle.jp_cut.proofs.skipping.pass_block.Goals as goal
use Rattle.jp_cut.proofs.skipping.pass_block.Goals.{then-known-closed+else-end-lt-BLOCK, else-known-closed}

pub pass_to_end-requires-clause-stays : goal.pass_to_end-requires-clause-stays
pass_to_end-requires-clause-stays c =
    let found = c.scan_block-found in
    let brackets = c.find_brackets-brackets in
    let s = is_scanned c.args.known c.args.block.now found.result.next found.result.marks brackets.result.opening brackets.result.closing
    (omega (arith, c.told-block)) found.ensures.marks found.ensures.carry brackets.ensures.opening brackets.ensures.closing in
    stays_at s c.find_end-end.result c.find_end-end.ensures.within c.find_end-end.ensures.stays

pub pass_to_end-requires-clause-one : goal.pass_to_end-requires-clause-one
pass_to_end-requires-clause-one c =
    let found = c.scan_block-found in
    let brackets = c.find_brackets-brackets in
    let s = is_scanned c.args.known c.args.block.now found.result.next found.result.marks brackets.result.opening brackets.result.closing
    (omega (arith, c.told-block)) found.ensures.marks found.ensures.carry brackets.ensures.opening brackets.ensures.closing in
    one_at s c.find_end-end.result c.if-end-lt-BLOCK.true (c.find_end-end.ensures.closes c.if-end-lt-BLOCK.true).0

pub pass_to_end-requires-clause-outside : goal.pass_to_end-requires-clause-outside
pass_to_end-requires-clause-outside c =
    let found = c.scan_block-found in
    let brackets = c.find_brackets-brackets in
    let s = is_scanned c.args.known c.args.block.now found.result.next found.result.marks brackets.result.opening brackets.result.closing
    (omega (arith, c.told-block)) found.ensures.marks found.ensures.carry brackets.ensures.opening brackets.ensures.closing in
    outside_at s c.find_end-end.result c.if-end-lt-BLOCK.true (c.find_end-end.ensures.closes c.if-end-lt-BLOCK.true).1

pub overflow_sub-result : goal.overflow_sub-result
overflow_sub-result c =
    let found = c.scan_block-found in
    let brackets = c.find_brackets-brackets in
    let s = is_scanned c.args.known c.args.block.now found.result.next found.result.marks brackets.result.opening brackets.result.closing
    (omega (arith, c.told-block)) found.ensures.marks found.ensures.carry brackets.ensures.opening brackets.ensures.closing in
    at_most s (elim c.if-known-closed.branch [
      | then-known-closed+else-end-lt-BLOCK w ↦ all_stay s (λ i low. w.find_end-end.ensures.stays i (omega (arith, low, w.if-end-lt-BLOCK.false)))
      | else-known-closed w ↦ few_stay s (omega (arith, w.if-known-closed.false))
    ])

pub returns-clause-passes : goal.returns-clause-passes
returns-clause-passes c =
    let found = c.scan_block-found in
    let brackets = c.find_brackets-brackets in
    let s = is_scanned c.args.known c.args.block.now found.result.next found.result.marks brackets.result.opening brackets.result.closing
    (omega (arith, c.told-block)) found.ensures.marks found.ensures.carry brackets.ensures.opening brackets.ensures.closing in
    block_passes s (elim c.if-known-closed.branch [
      | then-known-closed+else-end-lt-BLOCK w ↦ all_stay s (λ i low. w.find_end-end.ensures.stays i (omega (arith, low, w.if-end-lt-BLOCK.false)))
      | else-known-closed w ↦ few_stay s (omega (arith, w.if-known-closed.false))
    ])
