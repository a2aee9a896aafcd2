-- What a packed word holds.
use Rattle.std.proofs.Common.{◌≡◌, ℕ, ◌+◌, ◌*◌, ◌-◌, ◌/◌, ◌%◌, ◌^◌, ◌<◌, ◌∙◌, ap, ap₂, refl, arith, true, false}
use Rattle.std.proofs.lemmas.Bool.Decides.{nat_tests}
use Rattle.jp_model.specs.declared.Span.{Span}
use Rattle.jp_model.specs.Json.Tree.{Value, null, boolean, number, string, container, array, object}
use Rattle.jp_nodes.specs.declared.Kind.TheVariants as kinds
use Rattle.jp_nodes.specs.declared.word.Word.{Word}
use Rattle.jp_nodes.specs.Words.{nodes_below, children_node_count, head_word, span_word, kind_code}
use Rattle.jp_nodes.specs.Forms.{joined}
use Rattle.jp_nodes.specs.Kinds.{kind_of, kind_by}

-- the halves of a word that packs a span are its ends
pub unpacked : (word : Word) (s : Span) → s.end < 2 ^ 32 → joined word ≡ span_word s → record { start = word.high; end = word.low } ≡ s
unfolding span_word
unpacked word s h e =
    let l = word.half in
    let a : word.high ≡ s.start = omega (arith, l, h, e) in
    let b : word.low ≡ s.end = omega (arith, l, h, e) in
    ap₂ (λ (x y : ℕ). record { start = x; end = y }) a b

-- ---- the first word

-- The high half of the number of a kind, and the bit of an object.
abbrev shape : Value → ℕ
shape null = 0
shape (boolean false) = 1
shape (boolean true) = 2
shape (number m e) = 3
shape (string points) = 4
shape (container kind children) = 5 + children_node_count children

abbrev bit : Value → ℕ
bit (container object children) = 1
bit v = 0

record Halves (word : Word) (v : Value) (parent : ℕ) : Type 0 where
  pub high : word.high ≡ shape v
  pub low : word.low ≡ parent * 2 + bit v

halves : (word : Word) (v : Value) (parent : ℕ) → joined word ≡ head_word (kind_code v) (nodes_below v) parent → parent < 2 ^ 31 → nodes_below v < 2 ^ 31 → Halves word v parent
unfolding head_word
halves word null parent e p b = let l = word.half in record { high = omega (arith, l, e, p, b); low = omega (arith, l, e, p, b) }
halves word (boolean true) parent e p b = let l = word.half in record { high = omega (arith, l, e, p, b); low = omega (arith, l, e, p, b) }
halves word (boolean false) parent e p b = let l = word.half in record { high = omega (arith, l, e, p, b); low = omega (arith, l, e, p, b) }
halves word (number m x) parent e p b = let l = word.half in record { high = omega (arith, l, e, p, b); low = omega (arith, l, e, p, b) }
halves word (string points) parent e p b = let l = word.half in record { high = omega (arith, l, e, p, b); low = omega (arith, l, e, p, b) }
halves word (container array children) parent e p b = let l = word.half in record { high = omega (arith, l, e, p, b); low = omega (arith, l, e, p, b) }
halves word (container object children) parent e p b = let l = word.half in record { high = omega (arith, l, e, p, b); low = omega (arith, l, e, p, b) }

array_kind : (below low : ℕ) → low % 2 ≡ 0 → kind_by (5 + below) low ≡ kinds.Array
array_kind below low h = grind (arith, nat_tests)

object_kind : (below low : ℕ) → low % 2 ≡ 1 → kind_by (5 + below) low ≡ kinds.Object
object_kind below low h = grind (arith, nat_tests)

kind_shaped : (v : Value) (low parent : ℕ) → low ≡ parent * 2 + bit v → kind_by (shape v) low ≡ kind_of v
kind_shaped null low parent e = refl
kind_shaped (boolean true) low parent e = refl
kind_shaped (boolean false) low parent e = refl
kind_shaped (number m x) low parent e = refl
kind_shaped (string points) low parent e = refl
kind_shaped (container array children) low parent e = array_kind (children_node_count children) low (omega (arith, e))
kind_shaped (container object children) low parent e = object_kind (children_node_count children) low (omega (arith, e))

below_shaped : (v : Value) → shape v - 5 ≡ nodes_below v
below_shaped null = refl
below_shaped (boolean true) = refl
below_shaped (boolean false) = refl
below_shaped (number m e) = refl
below_shaped (string points) = refl
below_shaped (container kind children) = omega arith

bit_small : (v : Value) → bit v < 2
bit_small null = omega arith
bit_small (boolean b) = omega arith
bit_small (number m e) = omega arith
bit_small (string points) = omega arith
bit_small (container array children) = omega arith
bit_small (container object children) = omega arith

module _ (word : Word) (v : Value) (parent : ℕ) (e : joined word ≡ head_word (kind_code v) (nodes_below v) parent) (p : parent < 2 ^ 31) (b : nodes_below v < 2 ^ 31) where
  pub kind-packed : kind_by word.high word.low ≡ kind_of v
  kind-packed = let h = halves word v parent e p b in ap (λ n. kind_by n word.low) h.high ∙ kind_shaped v word.low parent h.low

  pub parent-packed : word.low / 2 ≡ parent
  parent-packed = let h = (halves word v parent e p b).low in let s = bit_small v in omega (arith, h, s)

  pub below-packed : word.high - 5 ≡ nodes_below v
  below-packed = let h = halves word v parent e p b in ap (λ n. n - 5) h.high ∙ below_shaped v
