-- The parts of a number without an exponent.
use Rattle.std.specs.Prelude.{ℕ, ◌<◌, List}
use Rattle.jp_model.specs.Json.Places.{Reads}
use Rattle.jp_model.specs.Json.Numbers.{AreDigits, IsInt, fraction_bytes}
use Rattle.jp_tape.specs.Places.{Ended}

-- an int and a fraction part stand from a place up to another, where no number goes on (RFC 8259, section 6)
pub record HasParts (line : List ℕ) (from to : ℕ) : Type 0 where
  pub point : ℕ
  pub int : List ℕ
  pub fraction : List ℕ
  pub is_int : IsInt int
  pub some : from < point
  pub int_read : Reads line from point int
  pub are_digits : AreDigits fraction
  pub fraction_read : Reads line point to (fraction_bytes fraction)
  pub ended : Ended line to
