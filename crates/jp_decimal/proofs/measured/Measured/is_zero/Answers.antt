use Rattle.std.proofs.Common.{◌≡◌, ◌<◌, length, eq-eqb, eqb-true, inl, inr, arith}
use Rattle.std.proofs.lemmas.Bool.{cases_lt}
use Rattle.jp_decimal.specs.Magnitudes.{digits, unsigned_mantissa}
use Rattle.jp_decimal.proofs.Sizes.{are_the_digits, value_of_zeros, value_above_zero}
use Rattle.jp_decimal.proofs.measured.Measured.is_zero.Goals as goal

pub returns : goal.returns
returns c =
    let x = c.args.self.now in (
      λ t. value_of_zeros (digits x.magnitude) x.first x.zeros (let e : x.first ≡ c.count.result = eqb-true _ _ t in omega arith),
      λ z. eq-eqb _ _ (elim (cases_lt x.first (length (digits x.magnitude))) [
        | inl l ↦
            let above : 0 < unsigned_mantissa x.magnitude = value_above_zero (digits x.magnitude) x.first (are_the_digits x.magnitude) x.zeros (x.lead l) in
            omega arith
        | inr g ↦ let o = x.in_order in let w = x.within in omega (arith, o, w)
      ]),
    )
