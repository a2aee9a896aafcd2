-- What the exponent is is printed as a whole number after its sign.
use Rattle.std.proofs.Common.{◌≡◌, ◌+◌, ◌-◌, ◌∷◌, [], ◌-ℤ◌, pos, negsuc, ap, decimal, sym, ◌∙◌, arith}
use Rattle.std.proofs.lemmas.Int.{ints}
use Rattle.jp_canon.specs.Layout.{exponent_text}
use Rattle.jp_canon.proofs.Appends.{bytes_appended, last_appended, text_is}
use Rattle.jp_canon.proofs.Exponents.{exponent_above, exponent_below}
use Rattle.jp_canon.proofs.layout.append_exponent.Goals as goal

pub returns-in_ok-push : goal.returns-in_ok-push
returns-in_ok-push c =
    let n = c.unsigned_abs.result - 1 in
    let is : c.args.places -ℤ pos 1 ≡ pos n = omega (arith, ints, c.unsigned_abs.ensures.value) in
    let text : 0x2B ∷ decimal n ≡ exponent_text (c.args.places -ℤ pos 1) = exponent_above n (omega (arith, c.unsigned_abs.ensures.bound)) ∙ ap exponent_text (sym is) in
    let digits = bytes_appended c.extend_from_slice.result _ (decimal n) _ _ c.extend_from_slice.ensures.items (c.as_bytes.ensures.value ∙ c.format.ensures.text) in
    text_is _ _ _ _ _ text (last_appended _ (0x2B ∷ []) _ _ _ _ c.in_ok-push.ensures.items digits)

pub returns-in_ok-push-2 : goal.returns-in_ok-push-2
returns-in_ok-push-2 c =
    let n = c.unsigned_abs-else-places-gt0.result in
    let is : c.args.places -ℤ pos 1 ≡ negsuc n = omega (arith, ints, c.unsigned_abs-else-places-gt0.ensures.value) in
    let text : 0x2D ∷ decimal (n + 1) ≡ exponent_text (c.args.places -ℤ pos 1) = exponent_below n (omega (arith, c.unsigned_abs-else-places-gt0.ensures.bound)) ∙ ap exponent_text (sym is) in
    let digits = bytes_appended c.extend_from_slice-else-places-gt0.result _ (decimal (n + 1)) _ _ c.extend_from_slice-else-places-gt0.ensures.items (c.as_bytes-else-places-gt0.ensures.value ∙ c.format-else-places-gt0.ensures.text) in
    text_is _ _ _ _ _ text (last_appended _ (0x2D ∷ []) _ _ _ _ c.in_ok-push-2.ensures.items digits)
