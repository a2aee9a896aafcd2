-- A line that spells its tree, by the grammar of RFC 8259.
use Rattle.std.proofs.Common.{◌≡◌, ℕ, ◌<◌, ◌≤◌, inl, pos, List, [], ◌∷◌, Some, None, false, refl, arith, codes}
use lib.Utf8.{encode}
use Rattle.jp_model.specs.Json.Places.{byte_at, White, Has}
use Rattle.jp_model.specs.Json.Numbers.{SpellsNumber}
use Rattle.jp_model.specs.Json.Strings.{Unescaped, SpellsBody}
use Rattle.jp_model.specs.Json.Spelling.{SpellsName, SpellsMore, Text}
use Rattle.jp_model.specs.Json.Tree.{Tree, number, container, object, no_child, child}
use Rattle.jp_model.specs.Json.Reader.{spanned}

-- {"a":1}
abbrev line : List ℕ
line = codes "{\"a\":1}"

abbrev tree : Tree
tree = spanned 0 7 (container object (child (Some (record { body = record { start = 2; end = 3 }; points = 97 ∷ [] })) (spanned 5 6 (number (pos 1) (pos 0))) no_child))

-- no white space
nothing_white : (i : ℕ) → i ≤ 7 → White line i i
nothing_white i h = record { order = omega arith; within = h; white = λ k l m. absurd (omega (arith, l, m)) }

has : (i byte : ℕ) → i < 7 → byte_at line i ≡ byte → Has line i byte
has i byte l e = record { inside = l; is = e }

letter : Unescaped line 2 3 97
unfolding encode
letter = record { scalar = refl; no_control = omega arith; no_quote = λ e. absurd (omega (arith, e)); no_backslash = λ e. absurd (omega (arith, e)); bytes = record { order = omega arith; within = omega arith; are = refl } }

body : SpellsBody line 2 3 (97 ∷ [])
body = record { order = omega arith; units = 97 ∷ []; characters = (3, inl letter, refl); are = refl }

name : SpellsName line 1 5 (record { body = record { start = 2; end = 3 }; points = 97 ∷ [] })
name = record {
  opens = has 1 0x22 (omega arith) refl;
  body = body;
  closes = has 3 0x22 (omega arith) refl;
  behind_quote = refl;
  colon = record { place = 4; before = nothing_white 4 (omega arith); is = has 4 0x3A (omega arith) refl; after = nothing_white 5 (omega arith) };
}

one : SpellsNumber line 5 6 (pos 1) (pos 0)
one = record {
  numeral = record { negative = false; int = 49 ∷ []; fraction = []; exponent = None };
  correct = record { int = refl; fraction = tt; exponent = tt };
  bytes = record { order = omega arith; within = omega arith; are = refl };
  is_mantissa = refl;
  is_scale = refl;
}

closed : SpellsMore line object 6 7 no_child
closed = record { place = 6; white = nothing_white 6 (omega arith); bracket = has 6 0x7D (omega arith) refl; end = refl }

pub an_object : Text line tree
an_object = record {
  before = nothing_white 0 (omega arith);
  value = (has 0 0x7B (omega arith) refl, (1, nothing_white 1 (omega arith), name, one, closed));
  after = nothing_white 7 (omega arith);
}
