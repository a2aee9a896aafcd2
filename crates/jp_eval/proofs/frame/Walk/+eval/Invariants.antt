-- How far each loop has come, and how large the part of the query is that each function goes into.
use Rattle.std.proofs.Common.{◌≡◌, ◌≤◌, ◌<◌, ◌+◌, ◌-◌, ◌*◌, ◌∷◌, map, length, filter, flat_map, drop}
use Rattle.std.specs.Prelude.{IfSome}
use Rattle.jp_model.specs.Meaning.Nodes.{Node, children, children_where, subtree}
use Rattle.jp_model.specs.Meaning.Selecting.{nodes, selected, truth}
use Rattle.jp_model.specs.Meaning.Slices.{is_index}
use Rattle.jp_nodes.specs.Cursors.{line_of, place_of, node_of, nodes_from}
use Rattle.jp_eval.specs.Answers.{table_in, tree_in}
use Rattle.jp_eval.specs.Expressions.{all_are}
use Rattle.jp_eval.specs.Frames.{IsKept}
use Rattle.jp_eval.specs.Indexing.{AreKnown}
use Rattle.jp_eval.specs.Programs.{logical_at, side_at, tail_at, steps_view, choices_view, choice_view, conditions_view, condition_view, test_view, operand_view, spelled_view, sought_view, found_view}
use Rattle.jp_children.specs.Walks.{IsAt, rises}
use Rattle.jp_eval.proofs.Goes.{Goes}
use Rattle.jp_children.proofs.Walks.{chosen_from}
use Rattle.jp_eval.proofs.Sizes.{size_of_segments, size_of_selectors, size_of_selector, size_of_logical, size_of_logicals, size_of_comparable, size_of_argument}
use Rattle.jp_eval.proofs.frame.Walk.+eval.Given as goal

abbrev pub decreases-push_steps : goal.decreases-push_steps
decreases-push_steps l = size_of_segments (steps_view (table_in l.self.run.now) l.steps.now) + 3 + 68719476736 * (l.self.run.now.known + 1)

abbrev pub decreases-push_step : goal.decreases-push_step
decreases-push_step l = size_of_segments (steps_view (table_in l.self.run.now) (l.step.now ∷ l.rest.now)) + 2 + 68719476736 * (l.self.run.now.known + 1)

abbrev pub decreases-push_subtree : goal.decreases-push_subtree
decreases-push_subtree l = size_of_selectors (choices_view (table_in l.self.run.now) l.choices.now) + size_of_segments (steps_view (table_in l.self.run.now) l.rest.now) + 10 + 68719476736 * (l.self.run.now.known + 1)

abbrev pub decreases-push_choices : goal.decreases-push_choices
decreases-push_choices l = size_of_selectors (choices_view (table_in l.self.run.now) l.choices.now) + size_of_segments (steps_view (table_in l.self.run.now) l.rest.now) + 9 + 68719476736 * (l.self.run.now.known + 1)

abbrev pub decreases-push_several : goal.decreases-push_several
decreases-push_several l = size_of_selectors (choices_view (table_in l.self.run.now) l.choices.now) + size_of_segments (steps_view (table_in l.self.run.now) l.rest.now) + 8 + 68719476736 * (l.self.run.now.known + 1)

abbrev pub decreases-push_one_of : goal.decreases-push_one_of
decreases-push_one_of l = size_of_selector (choice_view (table_in l.self.run.now) l.choice.now) + size_of_segments (steps_view (table_in l.self.run.now) l.rest.now) + 7 + 68719476736 * (l.self.run.now.known + 1)

abbrev pub decreases-push_found : goal.decreases-push_found
decreases-push_found l = size_of_segments (steps_view (table_in l.self.run.now) l.rest.now) + 4 + 68719476736 * (l.self.run.now.known + 1)

abbrev pub decreases-push_choice : goal.decreases-push_choice
decreases-push_choice l = size_of_selector (choice_view (table_in l.self.run.now) l.choice.now) + size_of_segments (steps_view (table_in l.self.run.now) l.rest.now) + 6 + 68719476736 * (l.self.run.now.known + 1)

abbrev pub decreases-push_children : goal.decreases-push_children
decreases-push_children l = size_of_segments (steps_view (table_in l.self.run.now) l.rest.now) + 4 + 68719476736 * (l.self.run.now.known + 1)

abbrev pub decreases-push_slice : goal.decreases-push_slice
decreases-push_slice l = size_of_segments (steps_view (table_in l.self.run.now) l.rest.now) + 5 + 68719476736 * (l.self.run.now.known + 1)

abbrev pub decreases-push_rising : goal.decreases-push_rising
decreases-push_rising l = size_of_segments (steps_view (table_in l.self.run.now) l.rest.now) + 4 + 68719476736 * (l.self.run.now.known + 1)

abbrev pub decreases-push_each : goal.decreases-push_each
decreases-push_each l = size_of_segments (steps_view (table_in l.self.run.now) l.rest.now) + 4 + 68719476736 * (l.self.run.now.known + 1)

abbrev pub decreases-push_where : goal.decreases-push_where
decreases-push_where l = size_of_logical (condition_view (table_in l.self.run.now) l.condition.now) + size_of_segments (steps_view (table_in l.self.run.now) l.rest.now) + 7 + 68719476736 * (l.self.run.now.known + 1)

abbrev pub decreases-push_tested : goal.decreases-push_tested
decreases-push_tested l = size_of_logical (condition_view (table_in l.self.run.now) l.condition.now) + size_of_segments (steps_view (table_in l.self.run.now) l.rest.now) + 6 + 68719476736 * (l.self.run.now.known + 1)

abbrev pub decreases-holds : goal.decreases-holds
decreases-holds l = size_of_logical (condition_view (table_in l.self.run.now) l.condition.now) + 2 + 68719476736 * (l.self.run.now.known + 1)

abbrev pub decreases-passes : goal.decreases-passes
decreases-passes l = size_of_logical (test_view (table_in l.self.run.now) l.test.now) + 1 + 68719476736 * (l.self.run.now.known + 1)

abbrev pub decreases-passes_any : goal.decreases-passes_any
decreases-passes_any l = size_of_logical (test_view (table_in l.self.run.now) l.test.now) + 68719476736 * (l.self.run.now.known + 1)

abbrev pub decreases-holds_once : goal.decreases-holds_once
decreases-holds_once l = size_of_logical (logical_at (table_in l.self.run.now) l.position) + 1 + 68719476736 * (l.self.run.now.known + 1)

abbrev pub decreases-are_all : goal.decreases-are_all
decreases-are_all l = size_of_logicals (conditions_view (table_in l.self.run.now) l.parts.now) + 68719476736 * (l.self.run.now.known + 1)

abbrev pub decreases-has_node : goal.decreases-has_node
decreases-has_node l = size_of_segments (steps_view (table_in l.self.run.now) l.steps.now) + 5 + 68719476736 * (l.self.run.now.known + 1)

abbrev pub decreases-only_value : goal.decreases-only_value
decreases-only_value l = size_of_segments (steps_view (table_in l.self.run.now) l.steps.now) + 5 + 68719476736 * (l.self.run.now.known + 1)

abbrev pub decreases-count_nodes : goal.decreases-count_nodes
decreases-count_nodes l = size_of_segments (steps_view (table_in l.self.run.now) l.steps.now) + 5 + 68719476736 * (l.self.run.now.known + 1)

abbrev pub decreases-sum : goal.decreases-sum
decreases-sum l = size_of_segments (steps_view (table_in l.self.run.now) l.steps.now) + 4 + 68719476736 * (l.self.run.now.known + 1)

-- the steps of a slot are taken from a node, and from those below it: a place is below 2 ^ 32
abbrev pub decreases-push_below : goal.decreases-push_below
decreases-push_below l = size_of_segments (tail_at (table_in l.self.run.now) l.position) + 4 * (4294967296 - place_of l.node.now) + 0 + 34359738368 + 68719476736 * l.self.run.now.known

abbrev pub decreases-push_parts : goal.decreases-push_parts
decreases-push_parts l = size_of_segments (tail_at (table_in l.self.run.now) l.position) + 4 * (4294967296 - place_of l.node.now) + 1 + 34359738368 + 68719476736 * l.self.run.now.known

abbrev pub decreases-push_noted : goal.decreases-push_noted
decreases-push_noted l = size_of_segments (tail_at (table_in l.self.run.now) l.position) + 4 * (4294967296 - place_of l.node.now) + 2 + 34359738368 + 68719476736 * l.self.run.now.known

abbrev pub decreases-push_slot : goal.decreases-push_slot
decreases-push_slot l = size_of_segments (tail_at (table_in l.self.run.now) l.position) + 4 * (4294967296 - place_of l.node.now) + 2 + 34359738368 + 68719476736 * l.self.run.now.known

abbrev pub decreases-push_known : goal.decreases-push_known
decreases-push_known l = size_of_segments (tail_at (table_in l.self.run.now) l.position) + 4 * (4294967296 - place_of l.node.now) + 3 + 34359738368 + 68719476736 * l.self.run.now.known

abbrev pub decreases-compare_values : goal.decreases-compare_values
decreases-compare_values l = size_of_comparable (operand_view (table_in l.self.run.now) l.left.now) + size_of_comparable (operand_view (table_in l.self.run.now) l.right.now) + 5 + 68719476736 * (l.self.run.now.known + 1)

abbrev pub decreases-passes_pattern : goal.decreases-passes_pattern
decreases-passes_pattern l = size_of_comparable (operand_view (table_in l.self.run.now) l.text.now) + size_of_argument (spelled_view (table_in l.self.run.now) l.pattern.now) + 6 + 68719476736 * (l.self.run.now.known + 1)

abbrev pub decreases-value_of : goal.decreases-value_of
decreases-value_of l = size_of_comparable (operand_view (table_in l.self.run.now) l.operand.now) + 4 + 68719476736 * (l.self.run.now.known + 1)

abbrev pub decreases-sought_value : goal.decreases-sought_value
decreases-sought_value l = size_of_comparable (sought_view (table_in l.self.run.now) l.sought.now) + 3 + 68719476736 * (l.self.run.now.known + 1)

abbrev pub decreases-found_value : goal.decreases-found_value
decreases-found_value l = size_of_comparable (found_view (table_in l.self.run.now) l.found.now) + 68719476736 * (l.self.run.now.known + 1)

abbrev pub decreases-find_at_root : goal.decreases-find_at_root
decreases-find_at_root l = size_of_comparable (side_at (table_in l.self.run.now) l.position) + 1 + 68719476736 * (l.self.run.now.known + 1)

abbrev pub decreases-value_once : goal.decreases-value_once
decreases-value_once l = size_of_comparable (side_at (table_in l.self.run.now) l.position) + 2 + 68719476736 * (l.self.run.now.known + 1)

abbrev pub decreases-passes_once : goal.decreases-passes_once
decreases-passes_once l = size_of_comparable (side_at (table_in l.self.run.now) l.position) + 3 + 68719476736 * (l.self.run.now.known + 1)

abbrev pub invariant-are_all-loop-part : goal.invariant-are_all-loop-part
invariant-are_all-loop-part l =
    let n = node_of l.node in
    let t = tree_in l.self.run.now in
    record {
      same : l.frame.found.items ≡ l.fn.frame.found.items;
      sum : l.frame.sum ≡ l.fn.frame.sum;
      kept : IsKept l.self.run.now l.frame;
      told : all_are l.answer (conditions_view (table_in l.self.run.now) (drop l.part-index l.parts)) n t ≡ all_are l.answer (conditions_view (table_in l.self.run.now) l.parts) n t;
      size : size_of_logicals (conditions_view (table_in l.self.run.now) (drop l.part-index l.parts)) ≤ size_of_logicals (conditions_view (table_in l.self.run.now) l.parts);
    }

abbrev pub invariant-push_children-loop-next : goal.invariant-push_children-loop-next
invariant-push_children-loop-next l =
    let t = tree_in l.self.run.now in
    record {
      goes : Goes l.self l.fn.frame l.frame (nodes (steps_view (table_in l.self.run.now) l.rest) (nodes_from l.next) t) (nodes (steps_view (table_in l.self.run.now) l.rest) (children (node_of l.node)) t);
      line : IfSome l.next (λ c. line_of c ≡ line_of l.self.run.now.root.now);
    }

abbrev pub decreases-push_children-loop-next : goal.decreases-push_children-loop-next
decreases-push_children-loop-next l = length (nodes_from l.next)

abbrev pub invariant-push_below-loop-next : goal.invariant-push_below-loop-next
invariant-push_below-loop-next l =
    let t = tree_in l.self.run.now in
    let ss = tail_at (table_in l.self.run.now) l.position in
    record {
      goes : Goes l.self l.fn.frame l.frame (nodes ss (nodes_from l.next) t) (nodes ss (children (node_of l.node)) t);
      line : IfSome l.next (λ c. line_of c ≡ line_of l.self.run.now.root.now);
      place : IfSome l.next (λ c. place_of l.node < place_of c);
    }

abbrev pub decreases-push_below-loop-next : goal.decreases-push_below-loop-next
decreases-push_below-loop-next l = length (nodes_from l.next)

abbrev pub invariant-push_subtree-loop-place : goal.invariant-push_subtree-loop-place
invariant-push_subtree-loop-place l =
    let t = tree_in l.self.run.now in
    let f = λ (d : Node). selected (choices_view (table_in l.self.run.now) l.choices) d t in
    record {
      goes : Goes l.self l.fn.frame l.frame (nodes (steps_view (table_in l.self.run.now) l.rest) (flat_map f (drop (l.place - place_of l.node) (subtree (node_of l.node)))) t) (nodes (steps_view (table_in l.self.run.now) l.rest) (flat_map f (subtree (node_of l.node))) t);
    }

abbrev pub invariant-push_tested-loop-next : goal.invariant-push_tested-loop-next
invariant-push_tested-loop-next l =
    let t = tree_in l.self.run.now in
    let p = λ (c : Node). truth (condition_view (table_in l.self.run.now) l.condition) c t in
    record {
      goes : Goes l.self l.fn.frame l.frame (nodes (steps_view (table_in l.self.run.now) l.rest) (filter p (nodes_from l.next)) t) (nodes (steps_view (table_in l.self.run.now) l.rest) (filter p (children (node_of l.node))) t);
      line : IfSome l.next (λ c. line_of c ≡ line_of l.self.run.now.root.now);
    }

abbrev pub decreases-push_tested-loop-next : goal.decreases-push_tested-loop-next
decreases-push_tested-loop-next l = length (nodes_from l.next)

abbrev pub invariant-push_each-loop-node : goal.invariant-push_each-loop-node
invariant-push_each-loop-node l =
    let t = tree_in l.self.run.now in
    record {
      goes : Goes l.self l.fn.frame l.frame (nodes (steps_view (table_in l.self.run.now) l.rest) (map node_of (drop l.node-index l.nodes)) t) (nodes (steps_view (table_in l.self.run.now) l.rest) (map node_of l.nodes) t);
    }

abbrev pub invariant-push_rising-loop-next : goal.invariant-push_rising-loop-next
invariant-push_rising-loop-next l =
    let t = tree_in l.self.run.now in
    let passes = is_index (rises l.slice.low l.slice.high l.slice.step) in
    record {
      goes : Goes l.self l.fn.frame l.frame (nodes (steps_view (table_in l.self.run.now) l.rest) (chosen_from passes (node_of l.node) l.index l.next) t) (nodes (steps_view (table_in l.self.run.now) l.rest) (children_where passes (node_of l.node)) t);
      at : IsAt (node_of l.node) l.index l.next;
      line : IfSome l.next (λ c. line_of c ≡ line_of l.self.run.now.root.now);
    }

abbrev pub decreases-push_rising-loop-next : goal.decreases-push_rising-loop-next
decreases-push_rising-loop-next l = length (nodes_from l.next)

abbrev pub invariant-push_several-loop-choice : goal.invariant-push_several-loop-choice
invariant-push_several-loop-choice l =
    let t = tree_in l.self.run.now in
    let n = node_of l.node in
    record {
      goes : Goes l.self l.fn.frame l.frame (nodes (steps_view (table_in l.self.run.now) l.rest) (selected (choices_view (table_in l.self.run.now) (drop l.choice-index l.choices)) n t) t) (nodes (steps_view (table_in l.self.run.now) l.rest) (selected (choices_view (table_in l.self.run.now) l.choices) n t) t);
      size : size_of_selectors (choices_view (table_in l.self.run.now) (drop l.choice-index l.choices)) ≤ size_of_selectors (choices_view (table_in l.self.run.now) l.choices);
      known : AreKnown l.elements;
      node : l.elements.node ≡ l.node;
    }
