-- In a short line the halves of all words are small.
use Rattle.std.proofs.Common.{ℕ, ◌+◌, ◌*◌, ◌/◌, ◌%◌, ◌<◌, ◌≤◌, ◌^◌, List, length, arith, Option, Some, None, true, false, All}
use Rattle.std.proofs.lemmas.List.Elements.{All-from_get_or}
use Rattle.jp_model.specs.declared.Span.{Span}
use Rattle.jp_model.specs.Steps.{Step}
use Rattle.jp_model.specs.Json.Tree.{Tree, Value, null, boolean, number, string, container, array, object, Name, span, value_of}
use Rattle.jp_model.specs.Json.Spelling.{Text}
use Rattle.jp_nodes.specs.Words.{node_count, nodes_below, kind_code, head_word, span_word, label_word}
use Rattle.jp_nodes.specs.Spots.{Spot, root_spot, spots, spot_at}
use Rattle.jp_nodes.proofs.Bounds.{room}
use Rattle.jp_nodes.proofs.Spots.{length-spots}
use Rattle.jp_nodes.proofs.Places as places
use Rattle.jp_nodes.proofs.Stands.{stands, NameStands}
use Rattle.jp_nodes.proofs.Parents.{up_inside, index_inside}

-- both halves of a word are below a bound
pub record IsSmall (bound word : ℕ) : Type 0 where
  pub high : word / 2 ^ 32 < bound
  pub low : word % 2 ^ 32 < bound

-- the words of a spot
pub record AreSmall (bound : ℕ) (s : Spot) : Type 0 where
  pub head : IsSmall bound (head_word (kind_code (value_of s.node.tree)) (nodes_below (value_of s.node.tree)) s.up)
  pub span : IsSmall bound (span_word (span s.node.tree))
  pub label : IsSmall bound (label_word s.index s.name)

-- a line of fewer bytes than the bound, which is above the numbers of all kinds
module _ (bound : ℕ) (least : 2 ^ 10 ≤ bound) (most : bound ≤ 2 ^ 21) where
  head_small : (v : Value) (parent : ℕ) → nodes_below v + 5 < bound → parent * 2 + 1 < bound → IsSmall bound (head_word (kind_code v) (nodes_below v) parent)
  unfolding head_word
  head_small null parent b p = record { high = omega arith; low = omega arith }
  head_small (boolean true) parent b p = record { high = omega arith; low = omega arith }
  head_small (boolean false) parent b p = record { high = omega arith; low = omega arith }
  head_small (number m e) parent b p = record { high = omega arith; low = omega arith }
  head_small (string points) parent b p = record { high = omega arith; low = omega arith }
  head_small (container array children) parent b p = record { high = omega arith; low = omega arith }
  head_small (container object children) parent b p = record { high = omega arith; low = omega arith }

  span_small : (s : Span) → s.start < bound → s.end < bound → IsSmall bound (span_word s)
  unfolding span_word
  span_small s a b = record { high = omega arith; low = omega arith }

  label_small : (line : List ℕ) (index : ℕ) (name : Option Name) (location : List Step) → length line < bound → index < bound → NameStands line name location → IsSmall bound (label_word index name)
  label_small line index None location l i s = record { high = omega arith; low = omega arith }
  label_small line index (Some n) location l i s =
      let o = s.2.body.order in
      let e = s.2.closes.inside in
      span_small n.body (omega (arith, l, o, e)) (omega (arith, l, e))

  spot_small : (line : List ℕ) (t : Tree) (place : ℕ) → Text line t → length line < bound → place < node_count t → AreSmall bound (spot_at t place)
  spot_small line t place h l w =
      let s : Spot = spot_at t place in
      let st = stands line t place h w in
      let all = room line t h.value in
      let own = room line s.node.tree st.spells in
      let some = places.some_node s.node.tree in
      let below = places.count-below s.node.tree in
      let up = up_inside t place w in
      let index = index_inside t place w in
      record {
        head = head_small (value_of s.node.tree) s.up (omega (arith, l, own, below)) (omega (arith, l, all, up));
        span = span_small (span s.node.tree) (omega (arith, l, own, some)) (omega (arith, l, own));
        label = label_small line s.index s.name s.node.location l (omega (arith, l, all, index)) st.name;
      }

  pub all_small : (line : List ℕ) (t : Tree) → Text line t → length line < bound → All (AreSmall bound) (spots t)
  all_small line t h l =
      let n = length-spots t in
      All-from_get_or (AreSmall bound) (spots t) (root_spot t) (λ i w. spot_small line t i h l (omega (arith, n, w)))
