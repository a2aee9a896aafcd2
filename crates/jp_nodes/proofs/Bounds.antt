-- A spelled tree has two bytes at least to a node but one, and stands inside the line.
use Rattle.std.proofs.Common.{ℕ, ◌+◌, ◌*◌, ◌<◌, ◌≤◌, true, false, List, ◌++◌, length, arith}
use Rattle.jp_model.specs.declared.Span.{Span}
use Rattle.jp_model.specs.Json.Numbers.{fraction_bytes, exponent_bytes}
use Rattle.jp_model.specs.Json.Tree.{Tree, node, Value, null, boolean, number, string, container, Container, Children, no_child, child, span}
use Rattle.jp_model.specs.Json.Spelling.{Spells, SpellsValue, SpellsFirst, SpellsMore, Closes}
use Rattle.jp_model.proofs.Reader.Lexical.{reads_end}
use Rattle.jp_model.proofs.Reader.Whole.{int_long, label_order}
use Rattle.jp_nodes.specs.Words.{node_count, value_node_count, children_node_count}

closes_order : (line : List ℕ) (kind : Container) (from to : ℕ) → Closes line kind from to → (from < to) × (to ≤ length line)
closes_order line kind from to h =
    let a = h.white.order in
    let b = h.end in
    let c = h.bracket.inside in
    (omega (arith, a, b, c), omega (arith, a, b, c))

mutual
  -- a byte and a comma or a bracket
  pub room : (line : List ℕ) (t : Tree) → Spells line t → (2 * node_count t + (span t).start ≤ (span t).end + 1) × ((span t).end ≤ length line)
  room line (node s v) h = value_room line v s h

  value_room : (line : List ℕ) (v : Value) (s : Span) → SpellsValue line s v → (2 * value_node_count v + s.start ≤ s.end + 1) × (s.end ≤ length line)
  value_room line null s h = let e = reads_end line s.start s.end _ h in (omega (arith, e), h.within)
  value_room line (boolean true) s h = let e = reads_end line s.start s.end _ h in (omega (arith, e), h.within)
  value_room line (boolean false) s h = let e = reads_end line s.start s.end _ h in (omega (arith, e), h.within)
  value_room line (number m x) s h =
      let e = reads_end line s.start s.end _ h.bytes in
      let l = int_long h.numeral.negative h.numeral.int (fraction_bytes h.numeral.fraction ++ exponent_bytes h.numeral.exponent) h.correct.int in
      (omega (arith, e, l), h.bytes.within)
  value_room line (string points) s h =
      let e = h.end in
      let o = h.body.order in
      let i = h.closes.inside in
      (omega (arith, e, o, i), omega (arith, e, o, i))
  value_room line (container kind children) s h = let o = first_room line children kind (s.start + 1) s.end h.1 in (omega (arith, o), o.1)

  first_room : (line : List ℕ) (c : Children) (kind : Container) (from to : ℕ) → SpellsFirst line kind from to c → (2 * children_node_count c + from ≤ to) × (to ≤ length line)
  first_room line no_child kind from to h = let o = closes_order line kind from to h in (omega (arith, o), o.1)
  first_room line (child name t more) kind from to h =
      let a = h.1.order in
      let b = label_order line kind h.0 (span t).start name h.2 in
      let c = room line t h.3 in
      let d = more_room line more kind (span t).end to h.4 in
      (omega (arith, a, b, c, d), d.1)

  more_room : (line : List ℕ) (c : Children) (kind : Container) (from to : ℕ) → SpellsMore line kind from to c → (2 * children_node_count c + from < to) × (to ≤ length line)
  more_room line no_child kind from to h = let o = closes_order line kind from to h in (omega (arith, o), o.1)
  more_room line (child name t more) kind from to h =
      let a = h.1.before.order in
      let z = h.1.after.order in
      let b = label_order line kind h.0 (span t).start name h.2 in
      let c = room line t h.3 in
      let d = more_room line more kind (span t).end to h.4 in
      (omega (arith, a, z, b, c, d), d.1)
