use Rattle.std.proofs.Common.{rules, ◌≡◌, ◌++◌, encode_utf8_all, get_or, string_bytes}
use Rattle.jp_shown.specs.Texts.{shown_scalar}
use Rattle.jp_shown.proofs.Showing.{shown_more}
use Rattle.jp_shown.proofs.text.push_all.Goals as goal

pub loop-scalar-preserved : goal.loop-scalar-preserved
loop-scalar-preserved c =
    let xs = c.args.scalars.now in let i = c.loop-scalar.scalar-index in let d = c.scalar-item.result in
    let after : string_bytes c.push_shown.new.text ≡ string_bytes c.loop-scalar.text ++ encode_utf8_all (shown_scalar (get_or xs i d)) = search (rules, c.in_ok-push_shown.ensures, c.scalar-item.is) in
    shown_more _ _ _ xs i d c.loop-scalar-test.true c.loop-scalar.invariant after
