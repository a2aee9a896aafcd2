use Rattle.std.proofs.Common.{◌≡◌, ℕ, zero, suc, ◌+◌, ◌*◌, ◌<◌, nat_lt, Bool, true, false, cond, List, [], ◌∷◌, map, refl, sym, ap₂, ◌∙◌, arith, eqb-true, eq-eqb}
use lib.Lanes.{mask_l}
use Rattle.std.specs.Str.{IsAscii}
use Rattle.std.proofs.lemmas.Bool.Decides.{nat_tests}
use Rattle.jp_lanes.proofs.classes.are_ascii.Goals as goal

abbrev mask : List ℕ → ℕ
mask xs = mask_l (map (nat_lt 0x7F) xs)

first_low : (x rest : ℕ) (high : Bool) → nat_lt 0x7F x ≡ high → cond high 1 0 + 2 * rest ≡ 0 → x < 128
first_low x rest true h e = absurd (omega (arith, e))
first_low x rest false h e = grind (arith, nat_tests, h)

low : (x : ℕ) → x < 128 → nat_lt 0x7F x ≡ false
low x l = grind (arith, nat_tests, l)

none_high : (xs : List ℕ) → mask xs ≡ 0 → IsAscii xs
none_high [] e i = omega arith
none_high (x ∷ xs) e zero = first_low x (mask xs) (nat_lt 0x7F x) refl e
none_high (x ∷ xs) e (suc i) = none_high xs (omega (arith, e)) i

all_low : (xs : List ℕ) → IsAscii xs → mask xs ≡ 0
all_low [] a = refl
all_low (x ∷ xs) a = ap₂ (λ h m. cond h 1 0 + 2 * m) (low x (a 0)) (all_low xs (λ i. a (suc i)))

pub returns : goal.returns
returns c =
    let bytes = c.args.bytes.now in
    let word = c.high_of.ensures in (
      λ told. none_high bytes (sym word ∙ eqb-true _ _ told),
      λ ascii. eq-eqb _ _ (word ∙ all_low bytes ascii),
    )
