-- The other bits stay.
use Rattle.std.proofs.Common.{◌≡◌, ◌∙◌, ◌*◌, ◌/◌, ◌%◌, ◌^◌, ap, arith, cond, get_or, set, sym, bit_and, bit_or, w64}
use Rattle.std.specs.Int.{bit_not}
use Rattle.std.proofs.lemmas.List.{get_or_default}
use Rattle.std.proofs.lemmas.Nat.Bits.{bit_at_set_same, bit_at_set_other, bit_at_clear_same, bit_at_clear_other}
use Rattle.jp_index.specs.LineSets.{bits_of}
use Rattle.jp_index.proofs.SetBits.{bits_set}
use Rattle.jp_index.proofs.line_set.set_bit.Goals as goal

pub returns-then-is_set-clause-bits : goal.returns-then-is_set-clause-bits
returns-then-is_set-clause-bits c =
    let words = c.args.words.now.items in
    let position = c.args.position in
    let word = get_or words (position / 64) 0 in
    let is : c.index_mut.result.now ≡ word = c.index_mut.ensures.value ∙ get_or_default words (position / 64) c.index_mut.result.now 0 (omega (arith, c.requires)) in
    ap (λ w. bits_of (set words (position / 64) (bit_or w (1 * 2 ^ (position % 64) % 2 ^ 64)))) is
    ∙ (bits_set words position (bit_or word (1 * 2 ^ (position % 64) % 2 ^ 64)) 1 c.requires (bit_at_set_same w64 word (position % 64) (omega arith)) (λ j l n. bit_at_set_other w64 word (position % 64) (omega arith) j n)
    ∙ ap (λ b. set (bits_of words) position (cond b 1 0)) (sym c.if-is_set.true))

pub returns-else-is_set-clause-bits : goal.returns-else-is_set-clause-bits
returns-else-is_set-clause-bits c =
    let words = c.args.words.now.items in
    let position = c.args.position in
    let word = get_or words (position / 64) 0 in
    let is : c.index_mut-else-is_set.result.now ≡ word = c.index_mut-else-is_set.ensures.value ∙ get_or_default words (position / 64) c.index_mut-else-is_set.result.now 0 (omega (arith, c.requires)) in
    ap (λ w. bits_of (set words (position / 64) (bit_and w (bit_not w64 (1 * 2 ^ (position % 64) % 2 ^ 64))))) is
    ∙ (bits_set words position (bit_and word (bit_not w64 (1 * 2 ^ (position % 64) % 2 ^ 64))) 0 c.requires (bit_at_clear_same w64 word (position % 64) (omega arith)) (λ j l n. bit_at_clear_other w64 word (position % 64) (omega arith) j l n)
    ∙ ap (λ b. set (bits_of words) position (cond b 1 0)) (sym c.if-is_set.false))
