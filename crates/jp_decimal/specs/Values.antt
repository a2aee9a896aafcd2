-- The exact value of a number, and the order of such values (RFC 8259, section 6; RFC 9535, section 2.3.5.2.2).
use Rattle.std.specs.Prelude.{ℕ, ◌*◌, ℤ}
use Rattle.std.specs.declared.cmp.Ordering.{Ordering}
use Rattle.std.specs.Ordering.{nat_cmp}
use Rattle.jp_model.specs.Json.Numbers.{smaller, power_from, number_order}

-- a number stands for its mantissa times ten to its scale
pub record Number : Type 0 where
  pub mantissa : ℤ
  pub scale : ℤ

-- the order of two values
abbrev pub order : Number → Number → Ordering
order x y = number_order x.mantissa x.scale y.mantissa y.scale

-- the same order of numbers without a sign
abbrev pub size_order : ℕ → ℤ → ℕ → ℤ → Ordering
size_order a e b f = nat_cmp (a * power_from (smaller e f) e) (b * power_from (smaller e f) f)
