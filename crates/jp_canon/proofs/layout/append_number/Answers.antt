-- The key of a number has the digits and the power of its value.
use Rattle.std.proofs.Common.{◌∷◌, [], subst}
use Rattle.jp_canon.proofs.Appends.{last_appended, text_is}
use Rattle.jp_canon.proofs.Numbers.{key_above, key_below}
use Rattle.jp_decimal.specs.Decimals.{number_of}
use Rattle.jp_decimal.specs.declared.key.DecimalKey.{DecimalKey}
use Rattle.jp_decimal.specs.Keys.{IsKeyOf}
use Rattle.jp_canon.proofs.layout.append_number.Goals as goal

pub returns-in_ok-push-in-Negative : goal.returns-in_ok-push-in-Negative
returns-in_ok-push-in-Negative c =
    let x = number_of c.args.number.now in
    let size = subst (λ (k : DecimalKey). IsKeyOf k x) c.in-Negative.is c.in_ok-canonical.ensures in
    text_is _ _ _ _ _ (key_below c.in-Negative.size.0 x size) (last_appended _ (0x2D ∷ []) _ _ _ _ c.in_ok-push-in-Negative.ensures.items c.append_size.ensures)

pub returns-in-Positive : goal.returns-in-Positive
returns-in-Positive c =
    let x = number_of c.args.number.now in
    let size = subst (λ (k : DecimalKey). IsKeyOf k x) c.in-Positive.is c.in_ok-canonical.ensures in
    text_is _ _ _ _ _ (key_above c.in-Positive.size x size) c.append_size-in-Positive.ensures
