-- What std prints and reads as decimal digits are the digits of the definitions.
use Rattle.std.proofs.Common.{◌≡◌, ℕ, ◌≤◌, true, refl, arith}
use Rattle.std.proofs.lemmas.Bool.Decides.{nat_tests}
use Rattle.std.proofs.lemmas.Str.Parse.{IsNumeralModel, IsDigitsTest, numerals_by_fold, FoldsDigits}
use Rattle.jp_model.specs.Characters.{is_digit, digits_value, value_behind}
use Rattle.jp_model.specs.Json.Numbers.{AreDigits}

digit_range : (c : ℕ) → is_digit c ≡ true → (48 ≤ c) × (c ≤ 57)
digit_range c h = grind (arith, nat_tests, h)

digit_in_range : (c : ℕ) → 48 ≤ c → c ≤ 57 → is_digit c ≡ true
digit_in_range c l h = grind (arith, nat_tests, l, h)

digits_test : IsDigitsTest AreDigits
digits_test = record { empty = tt; parts = λ c cs h. (digit_range c h.0, h.1); more = λ c cs r h. (digit_in_range c r.0 r.1, h) }

folds : FoldsDigits value_behind
folds = record { empty = λ n. refl; more = λ n c cs r. refl }

pub digits_model : IsNumeralModel AreDigits digits_value
digits_model = numerals_by_fold AreDigits digits_test value_behind folds
