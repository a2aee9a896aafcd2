use Rattle.std.proofs.Common.{◌-◌, length, arith}
use Rattle.jp_lanes.specs.First.{is_escape}
use Rattle.jp_lanes.proofs.FirstLanes.{mask_of_rest, first_at_end, first_of_mask}
use Rattle.jp_lanes.proofs.escapes.first_escape_of_rest.Goals as goal

pub returns-then-escapes-eq0 : goal.returns-then-escapes-eq0
returns-then-escapes-eq0 g c =
    let bytes = c.args.bytes.now in
    let from = c.args.from in
    let r = c.requires in
    first_at_end is_escape bytes from from (length bytes - from) _ (omega arith) (omega (arith, r.within)) (λ k low high. absurd (omega (arith, low, high)))
    (mask_of_rest is_escape bytes g.row.N from c.escapes_at.result r.block r.within (omega (arith, r.rest)) c.escapes_at.ensures) c.if-escapes-eq0.true

pub returns : goal.returns
returns g c =
    let bytes = c.args.bytes.now in
    let from = c.args.from in
    let r = c.requires in
    first_of_mask is_escape bytes from from (length bytes - from) _ (omega arith) (omega (arith, r.few, r.rest)) (omega (arith, r.within)) (λ k low high. absurd (omega (arith, low, high)))
    (mask_of_rest is_escape bytes g.row.N from c.escapes_at.result r.block r.within (omega (arith, r.rest)) c.escapes_at.ensures) c.if-escapes-eq0.false
