-- Digits with zeros before and after them, and without those after.
use Rattle.std.proofs.Common.{◌≡◌, ℕ, zero, suc, Bool, true, cond, ◌&&◌, ◌==◌, List, [], ◌∷◌, ◌++◌, length, refl, ap, ap₂}
use Rattle.std.specs.List.{list_all}
use Rattle.std.proofs.lemmas.Bool.{cond_both, and_parts, eqb-true}
use Rattle.jp_canon.specs.Layout.{zeros, without_trailing_zeros}
use Rattle.jp_model.specs.Characters.{digits_value}
use Rattle.jp_model.specs.Json.Numbers.{AreDigits}

-- ---- digits and zeros

pub zeros_value : (z : ℕ) → digits_value (zeros z) ≡ 0
zeros_value zero = refl
zeros_value (suc z) = zeros_value z

pub zeros_digits : (z : ℕ) → AreDigits (zeros z)
zeros_digits zero = tt
zeros_digits (suc z) = (refl, zeros_digits z)

pub digits_append : (xs ys : List ℕ) → AreDigits xs → AreDigits ys → AreDigits (xs ++ ys)
digits_append [] ys a b = b
digits_append (x ∷ xs) ys a b = (a.0, digits_append xs ys a.1 b)

-- zeros before digits do not count
pub value_behind_zeros : (z : ℕ) (ds : List ℕ) → digits_value (zeros z ++ ds) ≡ digits_value ds
value_behind_zeros zero ds = refl
value_behind_zeros (suc z) ds = value_behind_zeros z ds

-- ---- without the zeros after

abbrev is_zero : ℕ → Bool
is_zero digit = digit == 0x30

all_zeros : (ds : List ℕ) → list_all is_zero ds ≡ true → ds ≡ zeros (length ds)
all_zeros [] h = refl
all_zeros (d ∷ ds) h = let p = and_parts (d == 0x30) (list_all is_zero ds) h in ap₂ (λ (c : ℕ) (l : List ℕ). c ∷ l) (eqb-true d 0x30 p.0) (all_zeros ds p.1)

pub record Trimmed (ds : List ℕ) (s : List ℕ) : Type 0 where
  pub count : ℕ
  pub is : ds ≡ s ++ zeros count

pub trimmed : (ds : List ℕ) → Trimmed ds (without_trailing_zeros ds)
trimmed [] = record { count = 0; is = refl }
trimmed (d ∷ ds) =
    cond_both (list_all is_zero (d ∷ ds)) [] (d ∷ without_trailing_zeros ds) (Trimmed (d ∷ ds)) (λ h. record { count = length (d ∷ ds); is = all_zeros (d ∷ ds) h })
    (λ h. let t = trimmed ds in record { count = t.count; is = ap (λ (l : List ℕ). d ∷ l) t.is })

all_push : (ds : List ℕ) → list_all is_zero (ds ++ 0x30 ∷ []) ≡ list_all is_zero ds
all_push [] = refl
all_push (d ∷ ds) = ap (λ b. is_zero d && b) (all_push ds)

pub trimmed_push : (ds : List ℕ) → without_trailing_zeros (ds ++ 0x30 ∷ []) ≡ without_trailing_zeros ds
trimmed_push [] = refl
trimmed_push (d ∷ ds) = ap₂ (λ (b : Bool) (l : List ℕ). cond b [] (d ∷ l)) (all_push (d ∷ ds)) (trimmed_push ds)
