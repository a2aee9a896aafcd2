use Rattle.std.proofs.Common.{◌≡◌, ◌∙◌, ◌<◌, sym, arith, subst, Some, true}
use Rattle.jp_lanes.specs.Search.{is_special}
use Rattle.jp_model.specs.Json.Places.{byte_at}
use Rattle.jp_model.specs.Json.Reader.{character_at}
use Rattle.jp_strings.proofs.Runs.{run_advances, escape_advances, special_stops, no_units, at_none}
use Rattle.jp_strings.proofs.checks.advance.Goals as goal

pub returns-in_err-unit : goal.returns-in_err-unit
returns-in_err-unit c = at_none c.from_residual.result _ _ c.from_residual.ensures (no_units c.args.body.now c.args.at c.requires.inside (sym c.read_escape.ensures ∙ c.in_err-unit.was))

pub returns-then-body-at-eq92 : goal.returns-then-body-at-eq92
returns-then-body-at-eq92 c =
    let character : character_at c.args.body.now c.args.at ≡ Some (c.in_ok-unit.unit, c.in_ok-unit.end) = sym c.read_escape.ensures ∙ c.in_ok-unit.was in
    escape_advances c.args.body.now c.args.at c.in_ok-unit.unit c.in_ok-unit.end c.args.seen c.with_unit.result c.requires.inside c.requires.utf8 character c.with_unit.ensures

pub returns-then-at-end : goal.returns-then-at-end
returns-then-at-end c =
    let special : is_special (byte_at c.args.body.now c.args.at) ≡ true = subst (λ k. is_special (byte_at c.args.body.now k) ≡ true) (sym c.if-at-end.true) ((c.special_end-end.ensures c.args.body.now c.requires.place (omega (arith, c.requires.inside))).stops (omega arith)) in
    special_stops c.args.body.now c.args.at c.requires.inside special c.if-body-at-eq92.false

pub returns : goal.returns
returns c =
    let run = c.special_end-end.ensures c.args.body.now c.requires.place (omega (arith, c.requires.inside)) in
    let some : c.args.at < c.special_end-end.result = omega (arith, run.order) in
    run_advances c.args.body.now c.args.at c.special_end-end.result c.args.seen c.with_scalars.result some run.within c.requires.utf8 run.plain run.stops c.with_scalars.ensures.high c.with_scalars.ensures.first

pub special_end-end-requires : goal.special_end-end-requires
special_end-end-requires c = (c.args.body.now, c.requires.place, omega (arith, c.requires.inside))
