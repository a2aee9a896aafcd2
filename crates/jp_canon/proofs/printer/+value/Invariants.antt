-- What is appended so far, with the texts that are still to come, is what was there, the bracket, and all texts.
use Rattle.std.proofs.Common.{◌≡◌, ◌++◌, ◌∷◌, [], map, drop, nat_eq, ◌+◌, ◌*◌, ◌<◌}
use Rattle.std.specs.List.{join_with_byte}
use Rattle.jp_canon.specs.Canonical.{element_texts}
use Rattle.jp_canon.specs.Members.{text_of}
use Rattle.jp_canon.proofs.Joined.{joined_from}
use Rattle.jp_model.specs.Json.Tree.{value_of}
use Rattle.jp_nodes.specs.Cursors.{node_of, children_from}
use Rattle.jp_nodes.specs.Spots.{children_in}
use Rattle.jp_nodes.specs.Words.{node_count, children_node_count}
use Rattle.jp_canon.proofs.printer.+value.Given as goal

abbrev pub decreases-append_array : goal.decreases-append_array
decreases-append_array l = 3 * node_count (node_of l.array).tree

abbrev pub decreases-append_member : goal.decreases-append_member
decreases-append_member l = 3 * node_count (node_of l.member.node).tree + 2

abbrev pub decreases-append_object : goal.decreases-append_object
decreases-append_object l = 3 * node_count (node_of l.object).tree

abbrev pub decreases-append_value : goal.decreases-append_value
decreases-append_value l = 3 * node_count (node_of l.node).tree + 1

abbrev pub invariant-append_array-loop-next : goal.invariant-append_array-loop-next
invariant-append_array-loop-next l = record {
  text : l.text.items ++ joined_from l.is_first (element_texts (children_from l.next)) ≡ (l.fn.text.items ++ 0x5B ∷ []) ++ join_with_byte 0x2C (element_texts (children_in (value_of (node_of l.array).tree)));
  members : l.members.items ≡ l.fn.members.items;
  fewer : children_node_count (children_from l.next) < node_count (node_of l.array).tree;
}

abbrev pub decreases-append_array-loop-next : goal.decreases-append_array-loop-next
decreases-append_array-loop-next l = children_node_count (children_from l.next)

abbrev pub invariant-append_object-loop-index : goal.invariant-append_object-loop-index
invariant-append_object-loop-index l = record {
  text : l.text.items ++ joined_from (nat_eq l.index l.from) (map text_of (drop l.index l.initial.members.items)) ≡ (l.fn.text.items ++ 0x7B ∷ []) ++ join_with_byte 0x2C (map text_of (drop l.from l.initial.members.items));
  members : l.members.items ≡ l.initial.members.items;
}
