use Rattle.std.proofs.Common.{◌≡◌, ◌+◌, ◌-◌, ◌*◌, ◌≤◌, ◌++◌, drop, length, vec_capacity}
use Rattle.jp_nodes.specs.Forms.{in_two, nodes_by}
use Rattle.jp_nodes.proofs.forms.append_medium.Given as goal

abbrev pub invariant-loop-place : goal.invariant-loop-place
invariant-loop-place l = record {
  room : length l.tapes.items + 2 * (l.count - l.place) ≤ vec_capacity l.tapes;
  nodes : l.tapes.items ++ nodes_by in_two (drop (3 * l.place) l.words) ≡ l.fn.tapes.items ++ nodes_by in_two l.words;
}
