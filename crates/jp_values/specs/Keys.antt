-- For which values a key stands, and the order of such values.
use Rattle.std.specs.Prelude.{◌≡◌, ℕ, true, false, chars, string_bytes}
use Rattle.std.specs.declared.cmp.Ordering.{Ordering}
use Rattle.std.specs.Ordering.{nat_cmp}
use Rattle.std.specs.Cmp.Lexicographic.{slice_cmp}
use Rattle.jp_decimal.specs.Values.{Number}
use Rattle.jp_decimal.specs.Keys as decimals
use Rattle.jp_model.specs.Json.Numbers.{number_order}
use Rattle.jp_model.specs.Json.Tree as tree
use Rattle.jp_values.specs.declared.key.Key.{Key}
use Rattle.jp_values.specs.declared.key.Key.TheVariants as keys

-- the key stands for the value
abbrev pub IsKeyOf : Key → tree.Value → Type 0
IsKeyOf keys.Null v = v ≡ tree.null
IsKeyOf keys.False v = v ≡ tree.boolean false
IsKeyOf keys.True v = v ≡ tree.boolean true
IsKeyOf (keys.Number k) v = (x : Number) × (v ≡ tree.number x.mantissa x.scale) × decimals.IsKeyOf k x
IsKeyOf (keys.Text s) v = v ≡ tree.string (chars (string_bytes s))

-- kinds in their order: null, false, true, numbers, strings, and what has no key
abbrev pub rank : tree.Value → ℕ
rank tree.null = 0
rank (tree.boolean false) = 1
rank (tree.boolean true) = 2
rank (tree.number m e) = 3
rank (tree.string points) = 4
rank (tree.container kind children) = 5

-- numbers by value, strings by scalars, a proper prefix being less, and else by kind
abbrev pub value_order : tree.Value → tree.Value → Ordering
value_order (tree.number m e) (tree.number n f) = number_order m e n f
value_order (tree.string x) (tree.string y) = slice_cmp nat_cmp x y
value_order v w = nat_cmp (rank v) (rank w)

-- the same of keys
abbrev pub key_rank : Key → ℕ
key_rank keys.Null = 0
key_rank keys.False = 1
key_rank keys.True = 2
key_rank (keys.Number k) = 3
key_rank (keys.Text s) = 4

-- numbers and strings by what they hold, and else by kind
abbrev pub key_order : Key → Key → Ordering
key_order (keys.Number k) (keys.Number l) = decimals.key_order k l
key_order (keys.Text s) (keys.Text t) = slice_cmp nat_cmp (string_bytes s) (string_bytes t)
key_order k l = nat_cmp (key_rank k) (key_rank l)
