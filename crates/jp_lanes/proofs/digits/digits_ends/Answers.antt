use Rattle.std.proofs.Common.{◌≡◌, ◌∙◌, ◌+◌, ◌-◌, ◌/◌, ◌^◌, ◌≤◌, ℕ, length, map, ap, arith, shr-shr}
use lib.Lanes.{mask_l, chunk}
use lib.Count.{count_trailing_zeros}
use Rattle.jp_lanes.specs.First.{is_other}
use Rattle.jp_lanes.proofs.FirstLanes.{first_of_mask, lowest_inside, mask_later}
use Rattle.jp_lanes.proofs.digits.digits_ends.Goals as goal

pub returns : goal.returns
returns c =
    let bytes = c.args.bytes.now in
    let from = c.args.from in
    let mask = c.other_lanes-others.result in
    let first : ℕ = count_trailing_zeros 64 mask in
    let behind : ℕ = from + first + 1 in
    let later : ℕ = mask / 2 ^ first / 2 in
    let inside : from + 16 ≤ length bytes = omega (arith, c.if-bytes-from-lt-QUARTER.false, c.requires) in
    let low = lowest_inside is_other bytes from 16 mask (omega arith) inside c.other_lanes-others.ensures c.if-others-eq0.false in
    let place : from + (first + 1) ≡ behind = omega arith in
    let are : later ≡ mask_l (map is_other (chunk behind (16 - (first + 1)) bytes)) =
    shr-shr mask first 1 ∙ (mask_later is_other bytes from 16 (first + 1) mask (omega (arith, low)) c.other_lanes-others.ensures ∙ ap (λ at. mask_l (map is_other (chunk at (16 - (first + 1)) bytes))) place) in
    let rest : behind + (16 - (first + 1)) ≤ length bytes = omega (arith, inside, low) in
    let next = lowest_inside is_other bytes behind (16 - (first + 1)) later (omega arith) rest are c.if-later-eq0.false in
    record {
      first = first_of_mask is_other bytes from from 16 mask (omega arith) (omega arith) inside (λ k low high. absurd (omega (arith, low, high))) c.other_lanes-others.ensures c.if-others-eq0.false;
      second = first_of_mask is_other bytes behind behind (16 - (first + 1)) later (omega arith) (omega arith) rest (λ k low high. absurd (omega (arith, low, high))) are c.if-later-eq0.false;
      inside = omega (arith, rest, next);
    }
