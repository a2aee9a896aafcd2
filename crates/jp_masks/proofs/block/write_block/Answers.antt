use Rattle.std.proofs.Common.{ℕ, ◌+◌, ◌-◌, ◌<◌, map, sym, ap, ◌∙◌, refl, arith, w64}
use Rattle.std.specs.Int.{trailing_zeros}
use Rattle.jp_masks.specs.Positions.{set_bits}
use Rattle.jp_masks.proofs.Positions.{lowest_within, none_below, set_bits_none}
use Rattle.jp_masks.proofs.ByteSteps.{counted}
use Rattle.jp_masks.proofs.block.write_block.Goals as goal

pub returns-then-word-eq0-clause-written : goal.returns-then-word-eq0-clause-written
returns-then-word-eq0-clause-written c =
    let count : ℕ → ℕ = λ i. c.args.base + i - c.args.start in
    sym (ap (λ w. map count (set_bits w)) c.if-word-eq0.true ∙ ap (map count) set_bits_none)

pub returns-clause-written : goal.returns-clause-written
returns-clause-written c =
    let word = c.args.word in
    let some : 0 < word = omega (arith, c.if-word-eq0.false) in
    let small = c.ranges.word.fits in
    c.write_positions.ensures.written
    ∙ counted c.args.base c.args.start _ (trailing_zeros w64 word) word c.ranges.base.fits c.ranges.start.fits (lowest_within word some small) small refl (none_below word some small) c.requires.fits c.requires.order
