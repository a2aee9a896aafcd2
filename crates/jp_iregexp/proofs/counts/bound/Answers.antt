use Rattle.std.proofs.Common.{◌≡◌, ℕ, refl, ◌≤◌, ◌<◌, ◌+◌, ◌*◌, ◌-◌, List, [], ◌∷◌, arith, sym, ◌∙◌, rules, length}
use Rattle.jp_model.specs.Pattern.Reading.{bound_value}
use Rattle.jp_iregexp.specs.Tokens.{bound_behind}
use Rattle.jp_iregexp.proofs.Readers.{bound_large}
use Rattle.jp_iregexp.proofs.counts.bound.Goals as goal

nonempty : (digits : List ℕ) → 1 ≤ length digits → bound_value digits ≡ bound_behind 0 digits
nonempty [] l = absurd (omega arith)
nonempty (c ∷ digits) l = refl

pub returns-then-next-from : goal.returns-then-next-from
returns-then-next-from c =
    let h = c.in_ok-digit.ensures in
    let some : 1 ≤ length c.loop-left.left.now = search rules in
    let from_zero : 1 ≤ length c.args.digits.now = search rules in
    let cases = h.cases in
    let value = h.value in
    let large : 999999999 < c.loop-left.value * 10 + (c.digit-item.result - 0x30) = omega (arith, cases) in
    let none = bound_large c.loop-left.value c.digit-item.result c.loop-left.left.now some c.digit-item.is large in
    sym (nonempty c.args.digits.now from_zero ∙ sym c.loop-left.invariant.same ∙ none)
