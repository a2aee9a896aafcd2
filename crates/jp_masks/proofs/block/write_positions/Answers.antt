use Rattle.std.proofs.Common.{◌≡◌, ℕ, ◌+◌, ◌*◌, ◌/◌, ◌%◌, ◌^◌, ◌++◌, List, map, take, sym, ap, subst, ◌∙◌, arith}
use Rattle.std.proofs.lemmas.List.{append-nil}
use Rattle.jp_masks.specs.Positions.{set_bits}
use Rattle.jp_masks.proofs.Positions.{set_bits_none}
use Rattle.jp_masks.proofs.ByteSteps.{written_more, smaller, none_left, length-byte_bits}
use Rattle.jp_masks.proofs.block.write_positions.Goals as goal

pub loop-byte-preserved : goal.loop-byte-preserved
loop-byte-preserved c =
    let l = c.loop-byte in
    let e = c.write_byte-count.ensures in
    let from = c.args.base + l.byte * 8 in
    let next : from + 8 ≡ c.args.base + (l.byte + 1) * 8 = omega arith in
    let most = length-byte_bits (l.rest % 256) in
    record {
      written = subst (λ n. take (l.count + c.write_byte-count.result) c.write_byte-count.new.positions ++ map (λ i. (n + i) % 2 ^ 32) (set_bits (l.rest / 256)) ≡ map (λ i. (c.args.base + i) % 2 ^ 32) (set_bits c.args.word)) next
          (written_more (take l.count l.positions) _ _ from l.rest l.auto.rest-fits.fits e.written l.invariant.written);
      few = omega (arith, e.count, most, l.invariant.few);
      small = smaller l.byte l.rest (omega (arith, c.loop-byte-test.true)) l.invariant.small;
      long = omega (arith, e.long, l.invariant.long);
    }

-- nothing is left, so all is written
all_written : (front all : List ℕ) (from rest : ℕ) → rest ≡ 0 → front ++ map (λ i. (from + i) % 2 ^ 32) (set_bits rest) ≡ all → front ≡ all
all_written front all from rest e written =
    sym (ap (λ bits. front ++ map (λ i. (from + i) % 2 ^ 32) bits) (ap set_bits e ∙ set_bits_none) ∙ append-nil front) ∙ written

pub returns-then-rest-eq0-clause-written : goal.returns-then-rest-eq0-clause-written
returns-then-rest-eq0-clause-written c = all_written _ _ _ _ c.if-rest-eq0.true c.loop-byte.invariant.written

pub returns-clause-written : goal.returns-clause-written
returns-clause-written c =
    let l = c.loop-byte in
    all_written _ _ _ _ (none_left l.byte l.rest (omega (arith, c.loop-byte-test.false, l.auto.byte-end)) l.invariant.small) l.invariant.written
