use Rattle.std.proofs.Common.{sym, refl, ◌∙◌, ◌-◌, ap₂, arith}
use Rattle.std.specs.Ordering.{nat_cmp}
use Rattle.jp_decimal.proofs.Sizes.{order_by_digits, order_by_length}
use Rattle.jp_decimal.proofs.measured.Measured.compare_digits.Goals as goal

pub returns-then-digit-other_digit : goal.returns-then-digit-other_digit
returns-then-digit-other_digit c =
    let x = c.args.self.now in
    let y = c.args.other.now in
    c.cmp.ensures ∙ (ap₂ nat_cmp c.digit-digit.ensures c.digit-other_digit.ensures
    ∙ order_by_digits x.magnitude y.magnitude x.first y.first c.loop-position.position x.zeros y.zeros c.requires.same c.loop-position.invariant
    (λ e. c.if-digit-other_digit.true (c.digit-digit.ensures ∙ (e ∙ sym c.digit-other_digit.ensures))))

pub returns : goal.returns
returns c =
    let x = c.args.self.now in
    let y = c.args.other.now in
    c.cmp-2.ensures ∙ order_by_length x y c.loop-position.position (x.end - x.first) (y.end - y.first) refl refl c.requires.same c.loop-position.invariant (λ l. omega arith) (λ l. omega arith)
