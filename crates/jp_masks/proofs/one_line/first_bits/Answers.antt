use Rattle.std.proofs.Common.{◌≡◌, ◌-◌, ◌*◌, ◌%◌, ◌^◌, ◌<◌, ◌==◌, sym, ap, ◌∙◌, inl, inr, arith}
use Rattle.std.proofs.lemmas.Bool.{cases_lt, lt-ltb, le-ltb}
use Rattle.std.proofs.lemmas.Nat.Bits.{bit_at_ones, bit_at_ones_above}
use Rattle.std.proofs.Math.Pow.{pow-lt}
use Rattle.jp_lanes.specs.Word.{bit}
use Rattle.jp_masks.proofs.one_line.first_bits.Goals as goal

pub returns : goal.returns
unfolding bit
returns c i within =
    let below : 2 ^ c.args.count < 2 ^ 64 = pow-lt c.requires in
    let whole : 1 * 2 ^ c.args.count % 2 ^ 64 - 1 ≡ 2 ^ c.args.count - 1 = omega arith in
    ap (λ n. bit n i) whole
    ∙ (elim (cases_lt i c.args.count) [
      | inl low ↦ ap (λ n. n == 1) (bit_at_ones c.args.count i low) ∙ sym (lt-ltb i c.args.count low)
      | inr high ↦ ap (λ n. n == 1) (bit_at_ones_above c.args.count i high) ∙ sym (le-ltb i c.args.count high)
    ])
