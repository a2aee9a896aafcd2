use Rattle.std.proofs.Common.{◌∙◌}
use Rattle.jp_decimal.specs.Magnitudes.{digits}
use Rattle.jp_decimal.proofs.Sizes.{are_the_digits, leads}
use Rattle.jp_decimal.proofs.parts.Magnitude.leading_zeros.Goals as goal

pub returns-then-digit-ne48-clause-lead : goal.returns-then-digit-ne48-clause-lead
returns-then-digit-ne48-clause-lead c _ = leads (digits c.args.self.now) c.loop-position.position (are_the_digits c.args.self.now) (λ e. c.if-digit-ne48.true (c.digit.ensures ∙ e))
