use Rattle.std.proofs.Common.{◌≡◌, sym, subst, arith, true}
use Rattle.jp_lanes.specs.Search.{is_special}
use Rattle.jp_model.specs.Json.Places.{byte_at}
use Rattle.jp_strings.specs.Counts.{Counts}
use Rattle.jp_strings.proofs.Counts.{run_counts, special_is_backslash}
use Rattle.jp_strings.proofs.order.count_some.Goals as goal

pub returns-then-at-end : goal.returns-then-at-end
returns-then-at-end c =
    let run = c.first_special-end.ensures in
    subst (λ n. Counts c.args.body.now c.args.at c.first_special-end.result n) (sym c.char_count.ensures)
    (run_counts c.args.body.now c.args.at c.first_special-end.result c.if-at-end.true run.within c.requires.text run.plain run.stops)

pub escaped_scalar_at-end-requires-clause-backslash : goal.escaped_scalar_at-end-requires-clause-backslash
escaped_scalar_at-end-requires-clause-backslash c =
    let order = c.first_special-end.ensures.order in
    let here : c.first_special-end.result ≡ c.args.at = omega (arith, order) in
    let special : is_special (byte_at c.args.body.now c.args.at) ≡ true = subst (λ k. is_special (byte_at c.args.body.now k) ≡ true) here (c.first_special-end.ensures.stops (omega arith)) in
    special_is_backslash c.args.body.now c.args.at c.requires.text c.requires.inside special
