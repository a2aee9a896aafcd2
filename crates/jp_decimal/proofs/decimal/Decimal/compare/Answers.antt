use Rattle.std.proofs.Common.{◌∙◌, ap}
use Rattle.std.proofs.lemmas.Bool.{iff_false}
use Rattle.std.specs.Ordering.{ordering_reverse}
use Rattle.jp_decimal.proofs.Signs.{both_minus, minus_plus, plus_minus}
use Rattle.jp_decimal.proofs.decimal.Decimal.compare.Goals as goal

pub returns-then-other : goal.returns-then-other
returns-then-other c =
    c.reverse.ensures ∙ (ap ordering_reverse c.compare-sizes.ensures ∙ both_minus _ _ c.args.self.now.size.magnitude c.args.other.now.size.magnitude c.if-self.true c.if-other.true)

pub returns-else-are_both_zero : goal.returns-else-are_both_zero
returns-else-are_both_zero c =
    minus_plus _ _ c.args.self.now.size.magnitude c.args.other.now.size.magnitude c.if-self.true c.if-other.false (iff_false c.are_both_zero.ensures c.if-are_both_zero.false)

pub returns-else-are_both_zero-2 : goal.returns-else-are_both_zero-2
returns-else-are_both_zero-2 c =
    plus_minus _ _ c.args.self.now.size.magnitude c.args.other.now.size.magnitude c.if-self.false c.if-other-2.true (iff_false c.are_both_zero-then-other-2.ensures c.if-are_both_zero-2.false)
