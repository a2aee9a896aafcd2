-- For which numbers a key stands: its digits, and zeros after them, are the digits of the number.
use Rattle.std.specs.Prelude.{◌≡◌, ℕ, ◌*◌, ◌^◌, Bool, true, false, length, ℤ, pos, ◌+ℤ◌, ◌-ℤ◌}
use Rattle.std.specs.declared.cmp.Ordering.{Ordering}
use Rattle.std.specs.declared.cmp.Ordering.TheVariants.{Less, Equal, Greater}
use Rattle.std.specs.Ordering.{ordering_then, int_cmp, nat_cmp}
use Rattle.std.specs.Cmp.Lexicographic.{slice_cmp}
use Rattle.jp_decimal.specs.declared.key.KeySize.{KeySize}
use Rattle.jp_decimal.specs.declared.key.DecimalKey.{DecimalKey}
use Rattle.jp_decimal.specs.declared.key.DecimalKey.TheVariants.{Negative, Zero, Positive}
use Rattle.jp_model.specs.Characters.{digits_value}
use Rattle.jp_model.specs.Json.Numbers.{signed}
use Rattle.jp_decimal.specs.Values.{Number}

-- without the sign
pub record IsSizeOf (key : KeySize) (mantissa : ℕ) (scale : ℤ) : Type 0 where
  pub zeros : ℕ
  pub is_mantissa : mantissa ≡ digits_value key.digits.items * 10 ^ zeros
  pub is_scale : scale +ℤ pos zeros ≡ key.power -ℤ pos (length key.digits.items)

-- with this sign
pub record IsSignedSizeOf (key : KeySize) (negative : Bool) (x : Number) : Type 0 where
  pub unsigned : ℕ
  pub is_signed : x.mantissa ≡ signed negative unsigned
  pub is_size : IsSizeOf key unsigned x.scale

-- the key of a value
abbrev pub IsKeyOf : DecimalKey → Number → Type 0
IsKeyOf (Negative key) x = IsSignedSizeOf key.0 true x
IsKeyOf Zero x = x.mantissa ≡ pos 0
IsKeyOf (Positive key) x = IsSignedSizeOf key false x

-- the power of ten above the first digit, then the digits from the left
abbrev pub size_key_order : KeySize → KeySize → Ordering
size_key_order k l = ordering_then (int_cmp k.power l.power) (slice_cmp nat_cmp k.digits.items l.digits.items)

-- negative numbers, the greater sizes first, then zero, then the others
abbrev pub key_order : DecimalKey → DecimalKey → Ordering
key_order (Negative k) (Negative l) = size_key_order l.0 k.0
key_order (Negative k) Zero = Less
key_order (Negative k) (Positive l) = Less
key_order Zero (Negative l) = Greater
key_order Zero Zero = Equal
key_order Zero (Positive l) = Less
key_order (Positive k) (Negative l) = Greater
key_order (Positive k) Zero = Greater
key_order (Positive k) (Positive l) = size_key_order k l
