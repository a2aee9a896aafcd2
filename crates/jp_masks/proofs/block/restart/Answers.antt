use Rattle.std.proofs.Common.{◌≡◌, ◌-◌, ◌^◌, ◌<◌, refl, sym, ◌∙◌, subst, arith, w64}
use Rattle.std.specs.Int.{trailing_zeros}
use Rattle.std.proofs.lemmas.Nat.Bits.{ones_shl}
use lib.Bits.{bit_and, bit_xor, and_le_l, and_le_r}
use Rattle.jp_masks.proofs.Restart.{SameChanges, from_position, flip_keeps, restart_done, none_found, position_room, position_ends, position_rises}
use Rattle.jp_masks.proofs.block.restart.Goals as goal

pub loop-found-preserved : goal.loop-found-preserved
loop-found-preserved c =
    let l = c.loop-found in
    let small : l.found < 2 ^ 64 = omega (arith, and_le_l l.kept c.args.ends, l.invariant.1) in
    let some : 0 < l.found = omega arith in
    let room = position_room l.kept c.args.ends l.found l.invariant.1 small some in
    let position = trailing_zeros w64 l.found in (
      subst (λ m. SameChanges c.args.ends c.args.word (bit_xor l.kept m)) (sym (ones_shl 64 position (omega (arith, room))))
          (flip_keeps c.args.ends c.args.word l.kept position room (position_ends l.kept c.args.ends l.found l.invariant.1 small some) l.invariant.0),
      refl,
    )

pub loop-found-smaller : goal.loop-found-smaller
loop-found-smaller c =
    let l = c.loop-found in
    let small : l.found < 2 ^ 64 = omega (arith, and_le_l l.kept c.args.ends, l.invariant.1) in
    let some : 0 < l.found = omega arith in
    let room = position_room l.kept c.args.ends l.found l.invariant.1 small some in
    let position = trailing_zeros w64 l.found in
    subst (λ m. 64 - trailing_zeros w64 (bit_and (bit_xor l.kept m) c.args.ends) < 64 - position) (sym (ones_shl 64 position (omega (arith, room))))
    (position_rises l.kept c.args.ends l.found l.invariant.1 small some (omega (arith, and_le_r (bit_xor l.kept (from_position position)) c.args.ends)))

pub returns : goal.returns
returns c =
    let l = c.loop-found in
    let nothing : l.found ≡ 0 = omega arith in
    restart_done c.args.ends c.args.word l.kept l.invariant.0 (none_found l.kept c.args.ends (sym l.invariant.1 ∙ nothing))
