-- A number is its size with its sign, and of an exponent's digits no more count than there are.
use Rattle.std.proofs.Common.{◌≡◌, ℕ, ◌≤◌, Bool, true, false, ◌==◌, List, [], ◌∷◌, length, ℤ, pos, nat_abs, arith}
use Rattle.std.specs.Prelude.{int_lt}
use Rattle.std.proofs.lemmas.Bool.{cond_both}
use Rattle.std.proofs.lemmas.Int.{ints}
use Rattle.jp_model.specs.Json.Numbers.{signed, without_leading_zeros}

pub its_sign : (m : ℤ) (negative : Bool) → int_lt m (pos 0) ≡ negative → m ≡ signed negative (nat_abs m)
its_sign m true h = grind (arith, ints, h)
its_sign m false h = grind (arith, ints, h)

pub counted_digits : (ds : List ℕ) → length (without_leading_zeros ds) ≤ length ds
counted_digits [] = omega arith
counted_digits (d ∷ ds) = cond_both (d == 0x30) (without_leading_zeros ds) (d ∷ ds) (λ l. length l ≤ length (d ∷ ds)) (λ e. let h = counted_digits ds in omega arith) (λ e. omega arith)
