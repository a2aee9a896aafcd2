-- The layout by where the point stands.
use Rattle.std.proofs.Common.{◌≡◌, ◌++◌, ◌-◌, ◌∷◌, [], ◌∙◌, ap, sym, ap₂, length, List, ℕ, pos, nat_abs, arith, take, drop, to_z, of_z, w64}
use Rattle.std.proofs.lemmas.Int.{ints}
use Rattle.jp_model.specs.Json.Numbers.{fraction_bytes}
use Rattle.jp_canon.specs.Layout.{zeros, with_point}
use Rattle.jp_canon.proofs.Appends.{bytes_appended, last_appended, text_is}
use Rattle.jp_canon.proofs.Layouts.{some_digits, point_inside, point_before}
use Rattle.jp_canon.proofs.layout.append_size.Goals as goal

pub returns-then-places-gt0 : goal.returns-then-places-gt0
returns-then-places-gt0 c =
    let s = c.args.size.now.digits.items in
    let n = nat_abs c.args.size.now.power in
    let is : c.args.size.now.power ≡ pos n = omega (arith, ints) in
    let cast : nat_abs (to_z w64 (of_z w64 c.args.size.now.power)) ≡ n = omega (arith, ints) in
    let layout = point_inside s n (omega (arith, ints)) (omega (arith, ints)) ∙ ap (with_point s) (sym is) in
    text_is _ _ _ _ _ (ap₂ (λ (k : ℕ) (d : List ℕ). (take k d ++ zeros (k - length d)) ++ fraction_bytes (drop k d)) cast c.as_slice-digits.ensures ∙ layout) c.append_with_places.ensures

pub returns : goal.returns
returns c =
    let s = c.args.size.now.digits.items in
    let z = c.args.size.now.power in
    let layout = point_before s z (some_digits s c.args.size.now.first) (omega (arith, ints)) (omega (arith, ints)) in
    let size : c.unsigned_abs.result ≡ nat_abs z = omega (arith, ints, c.unsigned_abs.ensures.value) in
    let digits = bytes_appended c.extend_from_slice-2.result _ s _ _ c.extend_from_slice-2.ensures.items c.as_slice-digits.ensures in
    let behind = last_appended _ (zeros (nat_abs z)) s _ _ _ (c.in_ok-append_zeros.ensures ∙ ap (λ k. c.extend_from_slice.new.self.items ++ zeros k) size) digits in
    text_is _ _ _ _ _ layout (last_appended _ (0x30 ∷ 0x2E ∷ []) _ _ _ _ c.in_ok-extend_from_slice.ensures.items behind)
