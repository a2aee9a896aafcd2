use Rattle.std.proofs.Common.{◌≡◌, ◌+◌, ◌-◌, ◌*◌, ◌≤◌, ◌++◌, drop, length, vec_capacity}
use Rattle.jp_nodes.specs.Forms.{in_one, nodes_by}
use Rattle.jp_nodes.proofs.forms.append_compact.Given as goal

abbrev pub invariant-loop-place : goal.invariant-loop-place
invariant-loop-place l = record {
  room : length l.tapes.items + (l.count - l.place) ≤ vec_capacity l.tapes;
  nodes : l.tapes.items ++ nodes_by in_one (drop (3 * l.place) l.words) ≡ l.fn.tapes.items ++ nodes_by in_one l.words;
}
