-- The hexadecimal digits of a control character stand for it.
use Rattle.std.proofs.Common.{◌≡◌, ℕ, ◌/◌, ◌%◌, ◌<◌, Bool, true, false, eqb, Option, Some, None, refl, ap}
use Rattle.std.proofs.lemmas.Bool.{agree_below_at, eqb-true}
use Rattle.jp_model.specs.Characters.{four_digits}
use Rattle.jp_model.specs.Meaning.Paths.{hex_digit}

is_spelled : Option ℕ → ℕ → Bool
is_spelled None n = false
is_spelled (Some m) n = eqb m n

hex_of : ℕ → Option ℕ
hex_of c = four_digits 48 48 (hex_digit (c / 16)) (hex_digit (c % 16))

low_hex : (c : ℕ) → c < 32 → is_spelled (hex_of c) c ≡ true
unfolding is_spelled hex_of
low_hex c h = agree_below_at (λ n. is_spelled (hex_of n) n) (λ n. true) 32 c refl h

spelled_is : (o : Option ℕ) (n : ℕ) → is_spelled o n ≡ true → o ≡ Some n
unfolding is_spelled
spelled_is None n h = absurd (cc)
spelled_is (Some m) n h = ap Some (eqb-true m n h)

pub low_is : (c : ℕ) → c < 32 → four_digits 48 48 (hex_digit (c / 16)) (hex_digit (c % 16)) ≡ Some c
unfolding hex_of
low_is c h = spelled_is (hex_of c) c (low_hex c h)
