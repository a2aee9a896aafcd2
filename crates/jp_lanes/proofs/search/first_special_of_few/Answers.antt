use Rattle.std.proofs.Common.{◌≡◌, ◌+◌, ◌-◌, ◌/◌, ◌<◌, ◌≤◌, ◌^◌, ℕ, List, length, map, arith}
use lib.Lanes.{mask_l, chunk}
use Rattle.jp_lanes.specs.First.{IsFirst}
use Rattle.jp_lanes.specs.Search.{is_special, IsFirstSpecial}
use Rattle.jp_lanes.proofs.FirstLanes.{mask_of_rest, first_at_end, first_of_mask}
use Rattle.jp_lanes.proofs.search.first_special_of_few.Goals as goal

first_there : (bytes : List ℕ) (from at : ℕ) → IsFirst is_special bytes from at → IsFirstSpecial bytes from at
first_there bytes from at f = record { order = f.order; within = f.within; plain = f.before; stops = f.stops }

pub returns-then-special-eq0 : goal.returns-then-special-eq0
returns-then-special-eq0 c =
    let bytes = c.args.bytes.now in
    let from = c.args.from in
    let r = c.requires in
    first_there bytes from (length bytes)
    (first_at_end is_special bytes from from (length bytes - from) _ (omega arith) (omega (arith, r.within)) (λ k low high. absurd (omega (arith, low, high)))
    (mask_of_rest is_special bytes 16 from c.special_lanes.result (omega arith) r.within (omega (arith, r.few)) c.special_lanes.ensures) c.if-special-eq0.true)

pub returns : goal.returns
returns c =
    let bytes = c.args.bytes.now in
    let from = c.args.from in
    let r = c.requires in
    first_there bytes from _
    (first_of_mask is_special bytes from from (length bytes - from) _ (omega arith) (omega (arith, r.few)) (omega (arith, r.within)) (λ k low high. absurd (omega (arith, low, high)))
    (mask_of_rest is_special bytes 16 from c.special_lanes.result (omega arith) r.within (omega (arith, r.few)) c.special_lanes.ensures) c.if-special-eq0.false)
