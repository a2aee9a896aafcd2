-- What the readers of single tokens answer.
use Rattle.std.specs.Prelude.{◌≡◌, ℕ, ◌+◌, ◌^◌, ◌<◌, true, false, List, [], length, Option, Some, IsUtf8}
use Rattle.jp_model.specs.declared.LineFault.TheVariants as line_faults
use Rattle.jp_model.specs.Json.Places.{Has}
use Rattle.jp_model.specs.Json.Strings.{SpellsBody, has_lone_surrogate}
use Rattle.jp_model.specs.Json.Marks.{may_begin}
use Rattle.jp_tape.specs.Ahead.{IsClosed, IsPassed}
use Rattle.jp_model.specs.Json.Tree.{Tree, node, Value, Container, object, Name, span}
use Rattle.jp_model.specs.Json.Faults.{value_depth, value_has_surrogate, value_has_long_exponent, value_has_duplicate}
use Rattle.jp_model.specs.Json.Spelling.{Spells, SpellsValue, SpellsLabel}
use Rattle.jp_tape.specs.declared.builder.BuildFault.{BuildFault}
use Rattle.jp_tape.specs.declared.builder.BuildFault.TheVariants as faults
use Rattle.jp_tape.specs.declared.builder.tokens.Scalar.{Scalar}
use Rattle.jp_tape.specs.declared.builder.tokens.Label.{Label}
use Rattle.jp_strings.specs.Plain.{ArePlain}
use Rattle.jp_tape.specs.Places.{Ended, Stops, IsUnescaped, IsUnquoted}
use Rattle.jp_nodes.specs.Kinds.{code_of}
use Rattle.jp_nodes.specs.Words.{kind_code, nodes_below, words_below}

-- a line that can be read: it is UTF-8, has at most 4,294,967,295 bytes, and no escape before this place
pub record IsReadable (line : List ℕ) (escape : ℕ) : Type 0 where
  pub utf8 : IsUtf8 line
  pub room : length line < 2 ^ 32
  pub unescaped : IsUnescaped line escape

-- a value that is no container stands there, and no other one can
pub record FoundScalar (line : List ℕ) (from : ℕ) (r : Scalar) : Type 0 where
  pub value : Value
  pub is_kind : kind_code value ≡ code_of r.kind
  pub leaf : nodes_below value ≡ 0
  pub bare : (place : ℕ) → words_below place value ≡ []
  pub flat : value_depth value ≡ 0
  pub surrogate : value_has_surrogate value ≡ r.is_lone
  pub exponent : value_has_long_exponent line (record { start = from; end = r.end }) value ≡ r.is_long
  pub duplicate : value_has_duplicate value ≡ false
  pub spelled : SpellsValue line (record { start = from; end = r.end }) value
  pub only : (t : Tree) → (span t).start ≡ from → Spells line t → Ended line (span t).end → t ≡ node (record { start = from; end = r.end }) value

-- the quote at `last` closes the string at `from`
pub record Closes (line ms : List ℕ) (from last : ℕ) : Type 0 where
  pub order : from < last
  pub quote : Has line last 0x22
  pub only : (to : ℕ) (points : List ℕ) → SpellsBody line (from + 1) to points → Has line to 0x22 → to ≡ last
  pub first : IsUnquoted line (from + 1) last
  pub ahead : IsPassed line ms 2 (last + 1)
  pub begins : may_begin line (last + 1) ≡ true
  pub more : IsClosed line ms → 2 < length ms

-- no value does
abbrev pub NoValue : List ℕ → ℕ → Type 0
NoValue line from = (t : Tree) → (span t).start ≡ from → Spells line t → Ended line (span t).end → ⊥

-- this name, or none, stands before a child's value, and nothing else can
pub record IsLabel (line : List ℕ) (kind : Container) (from value : ℕ) (name : Option Name) : Type 0 where
  pub spelled : SpellsLabel line kind from value name
  pub only : (own : Option Name) (place : ℕ) → SpellsLabel line kind from place own → Stops line place → (own ≡ name) × (place ≡ value)

-- the name of a member does
pub record FoundLabel (line : List ℕ) (from : ℕ) (r : Label) : Type 0 where
  pub name : Name
  pub is_body : r.name ≡ name.body
  pub surrogate : r.is_lone ≡ has_lone_surrogate name.points
  pub label : IsLabel line object from r.value (Some name)

-- where the label says so, each byte of the name stands for itself
abbrev pub IsPlainLabel : List ℕ → Label → Type 0
IsPlainLabel line r = r.is_plain ≡ true → ArePlain line r.name.start r.name.end

-- nothing stands before a value there
abbrev pub NoLabel : List ℕ → Container → ℕ → Type 0
NoLabel line kind from = (own : Option Name) (place : ℕ) → SpellsLabel line kind from place own → Stops line place → place < length line → ⊥

-- what a fault of the grammar promises; want of memory promises nothing, and there is no other fault while a line is read
abbrev pub OnFault : BuildFault → Type 0 → Type 0
OnFault (faults.Line line_faults.Utf8) promise = ⊥
OnFault (faults.Line line_faults.Grammar) promise = promise
OnFault (faults.Line line_faults.Truncated) promise = ⊥
OnFault (faults.Line line_faults.Depth) promise = ⊥
OnFault (faults.Line line_faults.Surrogate) promise = ⊥
OnFault (faults.Line line_faults.Number) promise = ⊥
OnFault (faults.Line line_faults.Duplicate) promise = ⊥
OnFault faults.Memory promise = Unit {0}
