use Rattle.std.proofs.Common.{◌≡◌, ◌++◌, sym, subst, arith, true}
use Rattle.std.specs.String.{string_bytes}
use Rattle.jp_lanes.specs.Search.{is_special}
use Rattle.jp_model.specs.Json.Places.{byte_at}
use Rattle.jp_strings.specs.Unescaped.{Unescapes}
use Rattle.jp_strings.proofs.Counts.{run_points, run_unescapes, scalar_unescapes, special_is_backslash}
use Rattle.jp_strings.proofs.order.unescape_some.Goals as goal

pub from_utf8_unchecked-requires : goal.from_utf8_unchecked-requires
from_utf8_unchecked-requires c =
    let run = c.first_special-end.ensures in
    let points = run_points c.args.body.now c.args.at c.first_special-end.result c.if-at-end.true run.within c.requires.text run.plain run.stops in
    (points.0, (points.1, points.2))

pub escaped_scalar_at-scalar-requires-clause-backslash : goal.escaped_scalar_at-scalar-requires-clause-backslash
escaped_scalar_at-scalar-requires-clause-backslash c =
    let order = c.first_special-end.ensures.order in
    let here : c.first_special-end.result ≡ c.args.at = omega (arith, order) in
    let special : is_special (byte_at c.args.body.now c.args.at) ≡ true = subst (λ k. is_special (byte_at c.args.body.now k) ≡ true) here (c.first_special-end.ensures.stops (omega arith)) in
    special_is_backslash c.args.body.now c.args.at c.requires.text c.requires.inside special

pub returns-then-at-end : goal.returns-then-at-end
returns-then-at-end c =
    let run = c.first_special-end.ensures in
    let before = string_bytes c.args.text.now in
    let bytes : string_bytes c.push_str.new.self ≡ before ++ c.from_utf8_unchecked.result.now = c.in_ok-push_str.ensures.bytes in
    subst (Unescapes c.args.body.now c.args.at c.first_special-end.result before) (sym bytes)
    (subst (λ (xs : _). Unescapes c.args.body.now c.args.at c.first_special-end.result before (before ++ xs)) (sym c.from_utf8_unchecked.ensures)
    (run_unescapes c.args.body.now before c.args.at c.first_special-end.result c.if-at-end.true run.within c.requires.text run.plain run.stops))

pub returns : goal.returns
returns c =
    let before = string_bytes c.args.text.now in
    subst (Unescapes c.args.body.now c.args.at c.escaped_scalar_at-scalar.result.1 before) (sym c.in_ok-push.ensures.bytes)
    (scalar_unescapes c.args.body.now before c.args.at c.escaped_scalar_at-scalar.result.0 c.escaped_scalar_at-scalar.result.1 c.escaped_scalar_at-scalar.ensures)
