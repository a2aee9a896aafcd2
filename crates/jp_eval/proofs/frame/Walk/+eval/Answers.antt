-- What was added is what the steps select, and what was answered is what the parts of a filter mean.
use Rattle.std.proofs.Common.{rules, w64, ℤ, Bool, ◌≡◌, ◌∙◌, ◌<◌, ◌+◌, ◌-◌, ◌++◌, [], ◌∷◌, List, ℕ, true, false, refl, map, drop, length, filter, flat_map, sym, ap, ap₂, subst, arith, Some, None, Option, Ok, Box, Vec, Global}
use Rattle.std.specs.Prelude.{IfOk, IfSome, OnOk, not, option_map, slice_get}
use Rattle.jp_model.specs.Json.Tree.{Tree, Value, value_of}
use Rattle.jp_model.specs.Meaning.Nodes.{Node, children, children_where, root_node, subtree}
use Rattle.jp_model.specs.Steps.{Step}
use Rattle.jp_model.specs.Meaning.Selecting.{nodes, selected, select, truth, given_by, compared_value}
use Rattle.jp_model.specs.Meaning.Slices.{sliced, is_index}
use Rattle.jp_model.specs.Meaning.Functions.{in_pattern, literal_value}
use Rattle.jp_model.specs.Query.Syntax as syntax
use Rattle.jp_model.specs.Query.Syntax.{Segments}
use Rattle.jp_model.proofs.Seek.{no_nodes}
use Rattle.jp_nodes.specs.declared.cursor.Cursor.{Cursor}
use Rattle.jp_nodes.specs.Cursors.{line_of, place_of, node_of, nodes_from, nodes_after}
use Rattle.jp_nodes.specs.Tapes.{spelled}
use Rattle.jp_nodes.proofs.Cursors.{after_short}
use Rattle.jp_values.specs.Values.{value_view}
use Rattle.jp_eval.specs.Answers.{IsAnswer, IsValue, table_in, slot_truth, slot_value}
use Rattle.jp_children.specs.Found.{node_list}
use Rattle.jp_eval.specs.Found.{Adds}
use Rattle.jp_eval.specs.Frames.{AreKept, Pushes, reached}
use Rattle.jp_iregexp.specs.Trees.{pattern_view}
use Rattle.jp_iregexp.specs.declared.pattern.Pattern.{Pattern}
use Rattle.jp_eval.specs.Functions.{passing, pattern_in}
use Rattle.jp_eval.specs.Programs.{Onward, Table, argument_of, logical_at, side_at, tail_at, step_view, steps_view, choices_view, choice_view, condition_view, test_view, operand_view, spelled_view, sought_view, found_view}
use Rattle.jp_eval.specs.Tallies.{tally}
use Rattle.jp_children.specs.Walks.{IsAt, rises}
use Rattle.jp_eval.specs.declared.frame.Answer.{Answer}
use Rattle.jp_eval.specs.declared.frame.Frame.{Frame}
use Rattle.jp_eval.specs.declared.frame.Run.{Run}
use Rattle.jp_eval.specs.declared.program.Choice.{Choice}
use Rattle.jp_eval.specs.declared.program.Condition.{Condition}
use Rattle.jp_eval.specs.declared.leaves.LiteralPattern.{LiteralPattern}
use Rattle.jp_eval.specs.declared.program.Step.{Step as ProgramStep}
use Rattle.jp_eval.specs.declared.program.Test.{Test}
use Rattle.jp_eval.specs.declared.program.Operand.{Operand}
use Rattle.jp_eval.specs.declared.program.Spelled.{Spelled}
use Rattle.jp_eval.specs.declared.program.Spelled.TheVariants as spellings
use Rattle.jp_eval.specs.declared.program.Sought.{Sought}
use Rattle.jp_eval.specs.declared.program.Sought.TheVariants as things
use Rattle.jp_eval.specs.declared.program.Found.{Found}
use Rattle.jp_syntax.specs.View.{literal_view}
use Rattle.std.proofs.Math.Logic.{∥∥₁_elim}
use Rattle.jp_eval.proofs.Childless.{none_first, none_selected}
use Rattle.jp_eval.proofs.Compiled.{child_is, descendant_is, found_is, known_is, literal_is, once_is, passes_is, slice_is, sought_once, spelled_is}
use Rattle.jp_eval.proofs.Descendants.{below_at}
use Rattle.jp_eval.proofs.Entered.{once_found, once_given, once_told}
use Rattle.jp_eval.proofs.FromRoot.{logical_size, side_size}
use Rattle.jp_eval.proofs.Given.{given_size, given_so, passes_told}
use Rattle.jp_eval.proofs.Goes.{Goes, begins, both_pushed, lent_first, others_are, goes_past, goes_lent, is_done, is_full, filter_taken, filter_passed, filter_all, filter_none, nothing_added}
use Rattle.jp_eval.proofs.Kept.{adds_more, kept_grown, listed_known, range_behind}
use Rattle.jp_eval.proofs.Nodelists.{from_one}
use Rattle.jp_eval.proofs.Totals.{counted_all, has_some, is_all, listed_behind, only_one, same_node}
use Rattle.jp_children.proofs.Lines.{line_on, line_of_some}
use Rattle.jp_eval.proofs.Lists.{item_at, no_item}
use Rattle.jp_eval.proofs.Patterns.{told, one_proof}
use Rattle.jp_eval.proofs.Runs.{below_size, frame_in, kept_back, kept_in, lent_back, lent_from, lent_room, pushed_back, slot_below, slot_leaf, slot_reached, slot_size}
use Rattle.jp_eval.proofs.Sizes.{size_of_argument, size_of_comparable, size_of_logical, size_of_segments, size_of_selectors}
use Rattle.jp_children.proofs.Slices.{none_risen}
use Rattle.jp_children.proofs.Walks.{chosen_from, chosen_here, passed_here, at_next, index_fits}
use Rattle.std.proofs.lemmas.List.{drop_all}
use Rattle.std.proofs.lemmas.Option.{slice_get_within}
use mir.Val.{to_z, of_z}
use Rattle.jp_eval.proofs.frame.Walk.+eval.Goals as goal
use Rattle.jp_eval.proofs.frame.Walk.+eval.Goals.{push_tested-then-branch+in_ok-push_steps, push_tested-else-branch, push_rising-then-has-2+in_ok-push_steps, push_rising-else-has-2, push_rising-then-has-via-then-has, push_rising-then-has-via-else-has+then-ends_before}

-- ---- children

pub push_children-returns-in_err-push_steps : goal.push_children-returns-in_err-push_steps
push_children-returns-in_err-push_steps t c =
    record { adds = adds_more c.loop-next.invariant.goes.adds c.in_err-push_steps.ensures.adds; kept = c.in_err-push_steps.ensures.kept; told = search rules }

pub push_children-loop-next-preserved : goal.push_children-loop-next-preserved
push_children-loop-next-preserved t c =
    let u : Tree = (node_of c.args.self.run.now.root.now).tree in
    let ss : Segments = steps_view (table_in c.args.self.run.now) c.args.rest.now in
    let child : Cursor = c.in-Some.child in
    let kept = c.loop-next.invariant in
    record {
      goes = others_are (nodes ss (nodes_from c.next_sibling-next.result) u) (ap (λ (l : List Node). nodes ss l u) (sym c.next_sibling-next.ensures.nodes))
          (goes_past c.push_steps.new.frame ss u (node_of child ∷ []) (nodes_after child)
          (others_are (nodes ss (nodes_from (Some child)) u) (ap (λ (o : Option Cursor). nodes ss (nodes_from o) u) c.in-Some.is) kept.goes)
          c.in_ok-push_steps.ensures);
      line = line_on c.next_sibling-next.result _ _ c.next_sibling-next.ensures.line (line_of_some _ child _ c.in-Some.is kept.line);
    }

pub push_children-returns : goal.push_children-returns
push_children-returns t c =
    let u : Tree = (node_of c.args.self.run.now.root.now).tree in
    let ss : Segments = steps_view (table_in c.args.self.run.now) c.args.rest.now in
    is_done c.loop-next.invariant.goes (ap (λ (o : Option Cursor). nodes ss (nodes_from o) u) c.in_default.is ∙ no_nodes ss u)

pub push_children-returns-then-has : goal.push_children-returns-then-has
push_children-returns-then-has t c =
    is_full c.loop-next.invariant.goes (c.has.ensures c.if-has.true)

-- ---- descendants

pub push_subtree-returns-in_err-push_choices : goal.push_subtree-returns-in_err-push_choices
push_subtree-returns-in_err-push_choices t c =
    record { adds = adds_more c.loop-place.invariant.goes.adds c.in_err-push_choices.ensures.adds; kept = c.in_err-push_choices.ensures.kept; told = search rules }

pub push_subtree-returns-then-has : goal.push_subtree-returns-then-has
push_subtree-returns-then-has t c =
    is_full c.loop-place.invariant.goes (c.has.ensures c.if-has.true)

pub push_subtree-loop-place-preserved : goal.push_subtree-loop-place-preserved
push_subtree-loop-place-preserved t c =
    let u : Tree = (node_of c.args.self.run.now.root.now).tree in
    let ss : Segments = steps_view (table_in c.args.self.run.now) c.args.rest.now in
    let f = λ (d : Node). selected (choices_view (table_in c.args.self.run.now) c.args.choices.now) d u in
    let n : Cursor = c.args.node.now in
    let d : Cursor = c.go_to.result in
    let place : ℕ = c.loop-place.place in
    let all : List Node = subtree (node_of n) in
    let low = c.loop-place.auto.place in
    let start = c.place-place.ensures.value in
    let stop = c.after-place-end.ensures.value in
    let here : drop (place - place_of n) all ≡ node_of d ∷ drop (place + 1 - place_of n) all =
    below_at n d place c.go_to.ensures.line c.go_to.ensures.place (omega (arith, low, start)) (omega (arith, c.loop-place-test.true, stop)) in
    record {
      goes = goes_past c.push_choices.new.frame ss u (f (node_of d)) (flat_map f (drop (place + 1 - place_of n) all))
          (others_are (nodes ss (f (node_of d) ++ flat_map f (drop (place + 1 - place_of n) all)) u) (ap (λ (l : List Node). nodes ss (flat_map f l) u) here) c.loop-place.invariant.goes)
          c.in_ok-push_choices.ensures;
    }

pub push_subtree-returns : goal.push_subtree-returns
push_subtree-returns t c =
    let u : Tree = (node_of c.args.self.run.now.root.now).tree in
    let ss : Segments = steps_view (table_in c.args.self.run.now) c.args.rest.now in
    let f = λ (d : Node). selected (choices_view (table_in c.args.self.run.now) c.args.choices.now) d u in
    let n : Cursor = c.args.node.now in
    let all : List Node = subtree (node_of n) in
    let stop = c.after-place-end.ensures.value in
    let none : drop (c.loop-place.place - place_of n) all ≡ [] = drop_all (c.loop-place.place - place_of n) all (omega (arith, stop, c.loop-place-test.false)) in
    is_done c.loop-place.invariant.goes (ap (λ (l : List Node). nodes ss (flat_map f l) u) none ∙ no_nodes ss u)

-- ---- filters

pub push_tested-returns-in_err-holds : goal.push_tested-returns-in_err-holds
push_tested-returns-in_err-holds t c =
    record { adds = adds_more c.loop-next.invariant.goes.adds c.in_err-holds.ensures.lends.adds; kept = c.in_err-holds.ensures.lends.kept; told = search rules }

pub push_tested-returns-in_err-push_steps : goal.push_tested-returns-in_err-push_steps
push_tested-returns-in_err-push_steps t c =
    record { adds = adds_more c.loop-next.invariant.goes.adds (adds_more c.in_ok-holds.ensures.lends.adds c.in_err-push_steps.ensures.adds); kept = c.in_err-push_steps.ensures.kept; told = search rules }

pub push_tested-returns-then-has : goal.push_tested-returns-then-has
push_tested-returns-then-has t c =
    is_full c.loop-next.invariant.goes (c.has.ensures c.if-has.true)

pub push_tested-loop-next-preserved : goal.push_tested-loop-next-preserved
push_tested-loop-next-preserved t c =
    let u : Tree = (node_of c.args.self.run.now.root.now).tree in
    let ss : Segments = steps_view (table_in c.args.self.run.now) c.args.rest.now in
    let p = λ (n : Node). truth (condition_view (table_in c.args.self.run.now) c.args.condition.now) n u in
    let child : Cursor = c.in-Some.child in
    let kept = c.loop-next.invariant in
    let next : Option Cursor = c.next_sibling-next.result in
    let total : List Node = nodes ss (filter p (children (node_of c.args.node.now))) u in
    let here : Goes c.args.self c.args.frame.now c.holds.new.frame (nodes ss (filter p (node_of child ∷ nodes_after child)) u) total =
    goes_lent c.holds.new.frame (others_are (nodes ss (filter p (nodes_from (Some child))) u) (ap (λ (o : Option Cursor). nodes ss (filter p (nodes_from o)) u) c.in-Some.is) kept.goes) c.in_ok-holds.ensures.lends in
    let goes : Goes c.args.self c.args.frame.now c.if-branch.frame (nodes ss (filter p (nodes_after child)) u) total =
    elim c.if-branch.branch [
      | push_tested-then-branch+in_ok-push_steps w ↦
          (let taken : p (node_of child) ≡ true = sym c.in_ok-holds.ensures.value ∙ w.if-branch.true in
          subst (λ (f : Frame). Goes c.args.self c.args.frame.now f (nodes ss (filter p (nodes_after child)) u) total) (sym w.frame-is)
          (goes_past w.push_steps.new.frame ss u (node_of child ∷ []) (filter p (nodes_after child))
          (others_are (nodes ss (node_of child ∷ filter p (nodes_after child)) u) (ap (λ (l : List Node). nodes ss l u) (filter_taken p (node_of child) (nodes_after child) taken)) here)
          w.in_ok-push_steps.ensures))
      | push_tested-else-branch w ↦
          (let passed : p (node_of child) ≡ false = sym c.in_ok-holds.ensures.value ∙ w.if-branch.false in
          subst (λ (f : Frame). Goes c.args.self c.args.frame.now f (nodes ss (filter p (nodes_after child)) u) total) (sym w.frame-is)
          (others_are (nodes ss (filter p (nodes_after child)) u) (ap (λ (l : List Node). nodes ss l u) (filter_passed p (node_of child) (nodes_after child) passed)) here))
    ] in
    record {
      goes = others_are (nodes ss (filter p (nodes_from next)) u) (ap (λ (l : List Node). nodes ss (filter p l) u) (sym c.next_sibling-next.ensures.nodes)) goes;
      line = line_on next _ _ c.next_sibling-next.ensures.line (line_of_some _ child _ c.in-Some.is kept.line);
    }

pub push_tested-returns : goal.push_tested-returns
push_tested-returns t c =
    let u : Tree = (node_of c.args.self.run.now.root.now).tree in
    let ss : Segments = steps_view (table_in c.args.self.run.now) c.args.rest.now in
    let p = λ (n : Node). truth (condition_view (table_in c.args.self.run.now) c.args.condition.now) n u in
    is_done c.loop-next.invariant.goes (ap (λ (o : Option Cursor). nodes ss (filter p (nodes_from o)) u) c.in_default.is ∙ no_nodes ss u)

-- ---- from each of some nodes

pub push_each-returns-in_err-push_steps : goal.push_each-returns-in_err-push_steps
push_each-returns-in_err-push_steps t c =
    record { adds = adds_more c.loop-node.invariant.goes.adds c.in_err-push_steps.ensures.adds; kept = c.in_err-push_steps.ensures.kept; told = search rules }

pub push_each-loop-node-preserved : goal.push_each-loop-node-preserved
push_each-loop-node-preserved t c =
    let u : Tree = (node_of c.args.self.run.now.root.now).tree in
    let ss : Segments = steps_view (table_in c.args.self.run.now) c.args.rest.now in
    let i : ℕ = c.loop-node.node-index in
    let starts : List Cursor = c.args.nodes.now in
    let start : Cursor = c.node-item.result in
    let here : drop i starts ≡ start ∷ drop (i + 1) starts = item_at starts i start c.loop-node-test.true c.node-item.is in
    record {
      goes = goes_past c.push_steps.new.frame ss u (node_of start ∷ []) (map node_of (drop (i + 1) starts))
          (others_are (nodes ss (node_of start ∷ map node_of (drop (i + 1) starts)) u) (ap (λ (l : List Cursor). nodes ss (map node_of l) u) here) c.loop-node.invariant.goes)
          c.in_ok-push_steps.ensures;
    }

pub push_each-returns : goal.push_each-returns
push_each-returns t c =
    let u : Tree = (node_of c.args.self.run.now.root.now).tree in
    let ss : Segments = steps_view (table_in c.args.self.run.now) c.args.rest.now in
    is_done c.loop-node.invariant.goes (ap (λ (l : List Cursor). nodes ss (map node_of l) u) (drop_all c.loop-node.node-index c.args.nodes.now c.loop-node-test.false) ∙ no_nodes ss u)

-- ---- selectors

pub push_choices-returns-then-is_none : goal.push_choices-returns-then-is_none
push_choices-returns-then-is_none t c =
    let u : Tree = (node_of c.args.self.run.now.root.now).tree in
    let ss : Segments = steps_view (table_in c.args.self.run.now) c.args.rest.now in
    let n : Node = node_of c.args.node.now in
    let none : children n ≡ [] = sym c.first_child.ensures.nodes ∙ none_first c.first_child.result (c.is_none.ensures ∙ ap not c.if-is_none.true) in
    nothing_added c.args.self c.args.frame.now ss u _ c.requires.kept (none_selected (choices_view (table_in c.args.self.run.now) c.args.choices.now) n u none)

pub push_several-returns-in_err-push_one_of : goal.push_several-returns-in_err-push_one_of
push_several-returns-in_err-push_one_of t c =
    record { adds = adds_more c.loop-choice.invariant.goes.adds c.in_err-push_one_of.ensures.pushes.adds; kept = c.in_err-push_one_of.ensures.pushes.kept; told = search rules }

pub push_several-loop-choice-preserved : goal.push_several-loop-choice-preserved
push_several-loop-choice-preserved t c =
    let u : Tree = (node_of c.args.self.run.now.root.now).tree in
    let ss : Segments = steps_view (table_in c.args.self.run.now) c.args.rest.now in
    let n : Node = node_of c.args.node.now in
    let i : ℕ = c.loop-choice.choice-index in
    let all : List Choice = c.args.choices.now in
    let first : Choice = c.choice-item.result in
    let others : List Choice = drop (i + 1) all in
    let kept = c.loop-choice.invariant in
    let here : drop i all ≡ first ∷ others = item_at all i first c.loop-choice-test.true c.choice-item.is in
    let size = ap (λ (l : List Choice). size_of_selectors (choices_view (table_in c.args.self.run.now) l)) here in
    let before = kept.size in
    record {
      goes = goes_past c.push_one_of.new.frame ss u (select (choice_view (table_in c.args.self.run.now) first) n u) (selected (choices_view (table_in c.args.self.run.now) others) n u)
          (others_are (nodes ss (select (choice_view (table_in c.args.self.run.now) first) n u ++ selected (choices_view (table_in c.args.self.run.now) others) n u) u) (ap (λ (l : List Choice). nodes ss (selected (choices_view (table_in c.args.self.run.now) l) n u) u) here) kept.goes)
          (subst (λ (d : Cursor). Pushes c.args.self c.loop-choice.frame c.push_one_of.new.frame (Ok _) (nodes ss (select (choice_view (table_in c.args.self.run.now) first) (node_of d) u) u)) kept.node c.in_ok-push_one_of.ensures.pushes);
      size = omega (arith, size, before);
      known = c.in_ok-push_one_of.ensures.known;
      node = c.in_ok-push_one_of.ensures.node ∙ kept.node;
    }

pub push_several-returns : goal.push_several-returns
push_several-returns t c =
    let u : Tree = (node_of c.args.self.run.now.root.now).tree in
    let ss : Segments = steps_view (table_in c.args.self.run.now) c.args.rest.now in
    let n : Node = node_of c.args.node.now in
    is_done c.loop-choice.invariant.goes (ap (λ (l : List Choice). nodes ss (selected (choices_view (table_in c.args.self.run.now) l) n u) u) (drop_all c.loop-choice.choice-index c.args.choices.now c.loop-choice-test.false) ∙ no_nodes ss u)

-- ---- slices

pub push_choice-returns-in-Slice : goal.push_choice-returns-in-Slice
push_choice-returns-in-Slice t c =
    let n : Node = node_of c.args.node.now in
    let u : Tree = (node_of c.args.self.run.now.root.now).tree in
    let fits : to_z w64 (of_z w64 c.unwrap_or.result) ≡ c.unwrap_or.result = search rules in
    let seen = ap (choice_view (table_in c.args.self.run.now)) c.in-Slice.is ∙ slice_is (table_in c.args.self.run.now) c.in-Slice.first c.in-Slice.last c.in-Slice.step in
    let same : sliced c.in-Slice.first c.in-Slice.last (to_z w64 (of_z w64 c.unwrap_or.result)) n ≡ select (choice_view (table_in c.args.self.run.now) c.args.choice.now) n u =
    ap (λ (z : ℤ). sliced c.in-Slice.first c.in-Slice.last z n) (fits ∙ c.unwrap_or.ensures) ∙ sym (ap (λ (x : syntax.Selector). select x n u) seen) in
    record { adds = c.push_slice.ensures.adds; kept = c.push_slice.ensures.kept; told = subst (λ (l : List Node). OnOk c.push_slice.result (tally (line_of c.args.self.run.now.root.now) c.args.self.most c.push_slice.new.frame [] ≡ tally (line_of c.args.self.run.now.root.now) c.args.self.most c.args.frame.now (nodes (steps_view (table_in c.args.self.run.now) c.args.rest.now) l u))) same c.push_slice.ensures.told }

pub push_slice-returns-then-slice-gt0 : goal.push_slice-returns-then-slice-gt0
push_slice-returns-then-slice-gt0 t c =
    let u : Tree = (node_of c.args.self.run.now.root.now).tree in
    record { adds = c.push_rising.ensures.adds; kept = c.push_rising.ensures.kept; told = subst (λ (l : List Node). OnOk c.push_rising.result (tally (line_of c.args.self.run.now.root.now) c.args.self.most c.push_rising.new.frame [] ≡ tally (line_of c.args.self.run.now.root.now) c.args.self.most c.args.frame.now (nodes (steps_view (table_in c.args.self.run.now) c.args.rest.now) l u))) c.of.ensures c.push_rising.ensures.told }

pub push_slice-returns : goal.push_slice-returns
push_slice-returns t c =
    let u : Tree = (node_of c.args.self.run.now.root.now).tree in
    let same = ap (map node_of) c.deref.ensures.value ∙ c.in_ok-found.ensures.nodes in
    record { adds = c.push_each.ensures.adds; kept = c.push_each.ensures.kept; told = subst (λ (l : List Node). OnOk c.push_each.result (tally (line_of c.args.self.run.now.root.now) c.args.self.most c.push_each.new.frame [] ≡ tally (line_of c.args.self.run.now.root.now) c.args.self.most c.args.frame.now (nodes (steps_view (table_in c.args.self.run.now) c.args.rest.now) l u))) same c.push_each.ensures.told }

pub push_rising-returns-in_err-push_steps : goal.push_rising-returns-in_err-push_steps
push_rising-returns-in_err-push_steps t c =
    record { adds = adds_more c.loop-next.invariant.goes.adds c.in_err-push_steps.ensures.adds; kept = c.in_err-push_steps.ensures.kept; told = search rules }

pub push_rising-loop-next-preserved : goal.push_rising-loop-next-preserved
push_rising-loop-next-preserved t c =
    let u : Tree = (node_of c.args.self.run.now.root.now).tree in
    let ss : Segments = steps_view (table_in c.args.self.run.now) c.args.rest.now in
    let n : Node = node_of c.args.node.now in
    let passes : Step → Bool = is_index (rises c.args.slice.low c.args.slice.high c.args.slice.step) in
    let i : ℕ = c.loop-next.index in
    let child : Cursor = c.in-Some.child in
    let next : Option Cursor = c.next_sibling-next.result in
    let kept = c.loop-next.invariant in
    let total : List Node = nodes ss (children_where passes n) u in
    let rest : List Node = nodes ss (chosen_from passes n (i + 1) next) u in
    let at : IsAt n i (Some child) = subst (λ (o : Option Cursor). IsAt n i o) c.in-Some.is kept.at in
    let here : Goes c.args.self c.args.frame.now c.loop-next.frame (nodes ss (chosen_from passes n i (Some child)) u) total =
    others_are (nodes ss (chosen_from passes n i (Some child)) u) (ap (λ (o : Option Cursor). nodes ss (chosen_from passes n i o) u) c.in-Some.is) kept.goes in
    record {
      goes = elim c.if-has-2.branch [
        | push_rising-then-has-2+in_ok-push_steps w ↦
            (let chosen = chosen_here passes n i child next at c.next_sibling-next.ensures.children (sym c.has-in-Some.ensures ∙ w.if-has-2.true) in
            subst (λ (f : Frame). Goes c.args.self c.args.frame.now f rest total) (sym w.frame-is)
            (goes_past w.push_steps.new.frame ss u (node_of child ∷ []) (chosen_from passes n (i + 1) next)
            (others_are (nodes ss (node_of child ∷ chosen_from passes n (i + 1) next) u) (ap (λ (l : List Node). nodes ss l u) chosen) here)
            w.in_ok-push_steps.ensures))
        | push_rising-else-has-2 w ↦
            (let passed = passed_here passes n i child next c.next_sibling-next.ensures.children (sym c.has-in-Some.ensures ∙ w.if-has-2.false) in
            subst (λ (f : Frame). Goes c.args.self c.args.frame.now f rest total) (sym w.frame-is)
            (others_are rest (ap (λ (l : List Node). nodes ss l u) passed) here))
      ];
      at = at_next n i child next at c.next_sibling-next.ensures.nodes c.next_sibling-next.ensures.children;
      line = line_on next _ _ c.next_sibling-next.ensures.line (line_of_some _ child _ c.in-Some.is kept.line);
    }

pub push_rising-returns : goal.push_rising-returns
push_rising-returns t c =
    let u : Tree = (node_of c.args.self.run.now.root.now).tree in
    let ss : Segments = steps_view (table_in c.args.self.run.now) c.args.rest.now in
    let n : Node = node_of c.args.node.now in
    is_done c.loop-next.invariant.goes (ap (λ (o : Option Cursor). nodes ss (chosen_from (is_index (rises c.args.slice.low c.args.slice.high c.args.slice.step)) n c.loop-next.index o) u) c.in_default.is ∙ no_nodes ss u)

pub push_rising-overflow_add-index : goal.push_rising-overflow_add-index
push_rising-overflow_add-index t c =
    let n : Node = node_of c.args.node.now in
    let i : ℕ = c.loop-next.index in
    let at : IsAt n i (Some c.in-Some.child) = subst (λ (o : Option Cursor). IsAt n i o) c.in-Some.is c.loop-next.invariant.at in
    let small = index_fits c.args.node.now i c.in-Some.child at in
    omega (arith, small)

-- ---- what is found of a name or an index

pub push_found-returns-in-None : goal.push_found-returns-in-None
push_found-returns-in-None t c =
    let u : Tree = (node_of c.args.self.run.now.root.now).tree in
    let ss : Segments = steps_view (table_in c.args.self.run.now) c.args.rest.now in
    nothing_added c.args.self c.args.frame.now ss u _ c.requires.kept (ap node_list c.in-None.is)

-- ---- slices that end, and where a walk begins

pub push_rising-returns-then-has : goal.push_rising-returns-then-has
push_rising-returns-then-has t c =
    let u : Tree = (node_of c.args.self.run.now.root.now).tree in
    let ss : Segments = steps_view (table_in c.args.self.run.now) c.args.rest.now in
    let n : Node = node_of c.args.node.now in
    let r = c.args.slice in
    elim c.then-has.branch [
      | push_rising-then-has-via-then-has w ↦ is_full c.loop-next.invariant.goes (c.has.ensures w.if-has.true)
      | push_rising-then-has-via-else-has+then-ends_before w ↦
          (let none = none_risen r.low r.high r.step n c.loop-next.index c.loop-next.next (sym w.ends_before.ensures ∙ w.if-ends_before.true) in
          is_done c.loop-next.invariant.goes (ap (λ (l : List Node). nodes ss l u) none ∙ no_nodes ss u))
    ]

pub push_subtree-loop-place-init : goal.push_subtree-loop-place-init
push_subtree-loop-place-init t c =
    let u : Tree = (node_of c.args.self.run.now.root.now).tree in
    let ss : Segments = steps_view (table_in c.args.self.run.now) c.args.rest.now in
    let f = λ (d : Node). selected (choices_view (table_in c.args.self.run.now) c.args.choices.now) d u in
    let n : Cursor = c.args.node.now in
    let start = c.place-place.ensures.value in
    let zero : c.place-place.result - place_of n ≡ 0 = omega (arith, start) in
    record { goes = begins c.args.self c.args.frame.now c.args.frame.now _ _ c.requires.kept refl refl (ap (λ (k : ℕ). nodes ss (flat_map f (drop k (subtree (node_of n)))) u) zero) }

-- ---- what is asked of the root

pub push_where-holds_once-requires : goal.push_where-holds_once-requires
push_where-holds_once-requires t c =
    let table : Table = table_in c.args.self.run.now in
    let position : ℕ = c.in-Once.position in
    let size = ap (λ (x : Condition). size_of_logical (condition_view table x)) c.in-Once.is ∙ (ap size_of_logical (once_is table position) ∙ logical_size (logical_at table position)) in
    (omega (arith, size, c.decreases), c.requires.kept)

pub holds-holds_once-requires : goal.holds-holds_once-requires
holds-holds_once-requires t c =
    let table : Table = table_in c.args.self.run.now in
    let position : ℕ = c.in-Once.position in
    let size = ap (λ (x : Condition). size_of_logical (condition_view table x)) c.in-Once.is ∙ (ap size_of_logical (once_is table position) ∙ logical_size (logical_at table position)) in
    (omega (arith, size, c.decreases), c.requires.kept)

pub holds-returns-in-Once-clause-value : goal.holds-returns-in-Once-clause-value
holds-returns-in-Once-clause-value t c =
    let run : Run = c.args.self.run.now in
    let n : Node = node_of c.args.node.now in
    let u : Tree = (node_of c.args.self.run.now.root.now).tree in
    let seen = ap (λ (x : Condition). truth (condition_view (table_in run) x) n u) c.in-Once.is ∙ once_told run c.in-Once.position n in
    subst (λ (v : Bool). IfOk c.holds_once.result (λ b. b ≡ v)) (sym seen) c.holds_once.ensures.value

pub push_where-returns-then-branch : goal.push_where-returns-then-branch
push_where-returns-then-branch t c =
    let run : Run = c.args.self.run.now in
    let u : Tree = (node_of c.args.self.run.now.root.now).tree in
    let ss : Segments = steps_view (table_in c.args.self.run.now) c.args.rest.now in
    let p = λ (n : Node). truth (condition_view (table_in run) c.args.condition.now) n u in
    let below : List Node = children (node_of c.args.node.now) in
    let told : (n : Node) → p n ≡ slot_truth run c.in-Once.position = λ n. ap (λ (x : Condition). truth (condition_view (table_in run) x) n u) c.in-Once.is ∙ once_told run c.in-Once.position n in
    let all : filter p below ≡ below = filter_all p below (λ n. told n ∙ (sym c.in_ok-holds_once.ensures.value ∙ c.if-branch.true)) in
    subst (λ (l : List Node). Pushes c.args.self c.args.frame.now c.push_children.new.frame c.push_children.result (nodes ss l u)) (sym all)
    (lent_first c.push_children.result c.in_ok-holds_once.ensures.lends c.push_children.ensures)

pub push_where-returns-in-Once : goal.push_where-returns-in-Once
push_where-returns-in-Once t c =
    let run : Run = c.args.self.run.now in
    let u : Tree = (node_of c.args.self.run.now.root.now).tree in
    let ss : Segments = steps_view (table_in c.args.self.run.now) c.args.rest.now in
    let p = λ (n : Node). truth (condition_view (table_in run) c.args.condition.now) n u in
    let below : List Node = children (node_of c.args.node.now) in
    let told : (n : Node) → p n ≡ slot_truth run c.in-Once.position = λ n. ap (λ (x : Condition). truth (condition_view (table_in run) x) n u) c.in-Once.is ∙ once_told run c.in-Once.position n in
    let none : filter p below ≡ [] = filter_none p below (λ n. told n ∙ (sym c.in_ok-holds_once.ensures.value ∙ c.if-branch.false)) in
    is_done (goes_lent c.holds_once.new.frame (begins c.args.self c.args.frame.now c.args.frame.now [] (nodes ss (filter p below) u) c.requires.kept refl refl (sym (ap (λ (l : List Node). nodes ss l u) none ∙ no_nodes ss u))) c.in_ok-holds_once.ensures.lends) refl

-- ---- slots

pub find_at_root-prepare-requires : goal.find_at_root-prepare-requires
find_at_root-prepare-requires t c = kept_in c.args.self.run.now c.in-Some.inner c.in-Some.ensures.run c.args.frame.now c.requires

pub find_at_root-found_value-requires : goal.find_at_root-found_value-requires
find_at_root-found_value-requires t c =
    let size = ap size_of_comparable c.in-Some.ensures.view in
    let known = c.in-Some.ensures.known in
    (omega (arith, size, known, c.decreases), record { line = refl; kept = c.in_ok-prepare.ensures.kept })

pub find_at_root-returns-clause-lends : goal.find_at_root-returns-clause-lends
find_at_root-returns-clause-lends t c =
    let room = c.prepare.ensures in
    lent_from c.args.self c.args.frame.now room.found room.sum (lent_back c.args.self c.in-Some.ensures.run c.found_value.ensures.lends)

pub find_at_root-returns-in_err-prepare-clause-lends : goal.find_at_root-returns-in_err-prepare-clause-lends
find_at_root-returns-in_err-prepare-clause-lends t c =
    let room = c.prepare.ensures in
    lent_room c.args.self c.args.frame.now c.prepare.new.frame c.from_residual.result (kept_back c.args.self.run.now c.in-Some.inner c.in-Some.ensures.run c.prepare.new.frame room.kept) room.found room.sum

pub holds_once-prepare-requires : goal.holds_once-prepare-requires
holds_once-prepare-requires t c = kept_in c.args.self.run.now c.in-Some.inner c.in-Some.ensures.run c.args.frame.now c.requires

pub holds_once-passes_any-requires : goal.holds_once-passes_any-requires
holds_once-passes_any-requires t c =
    let size = ap size_of_logical c.in-Some.ensures.view in
    let known = c.in-Some.ensures.known in
    (omega (arith, size, known, c.decreases), record { line = refl; kept = c.in_ok-prepare.ensures.kept })

pub holds_once-returns-in_err-truth-clause-lends : goal.holds_once-returns-in_err-truth-clause-lends
holds_once-returns-in_err-truth-clause-lends t c =
    let room = c.prepare.ensures in
    let lent = lent_from c.args.self c.args.frame.now room.found room.sum (lent_back c.args.self c.in-Some.ensures.run c.in_err-truth.ensures.lends) in
    record { adds = lent.adds; kept = lent.kept; same = search rules; sum = search rules }

pub holds_once-returns-in_err-prepare-clause-lends : goal.holds_once-returns-in_err-prepare-clause-lends
holds_once-returns-in_err-prepare-clause-lends t c =
    let room = c.prepare.ensures in
    lent_room c.args.self c.args.frame.now c.prepare.new.frame c.from_residual.result (kept_back c.args.self.run.now c.in-Some.inner c.in-Some.ensures.run c.prepare.new.frame room.kept) room.found room.sum

pub holds_once-keep_at-requires-clause-kept : goal.holds_once-keep_at-requires-clause-kept
holds_once-keep_at-requires-clause-kept t c = (lent_back c.args.self c.in-Some.ensures.run c.in_ok-truth.ensures.lends).kept

pub sought_value-value_once-requires : goal.sought_value-value_once-requires
sought_value-value_once-requires t c =
    let table : Table = table_in c.args.self.run.now in
    let position : ℕ = c.in-Once.position in
    let size = ap (λ (x : Sought). size_of_comparable (sought_view table x)) c.in-Once.is ∙ (ap size_of_comparable (sought_once table position) ∙ side_size (side_at table position)) in
    (omega (arith, size, c.decreases), c.requires.kept)

pub sought_value-returns-in-Once-clause-value : goal.sought_value-returns-in-Once-clause-value
sought_value-returns-in-Once-clause-value t c =
    let run : Run = c.args.self.run.now in
    let n : Node = node_of c.args.node.now in
    let u : Tree = (node_of c.args.self.run.now.root.now).tree in
    let seen = ap (λ (x : Sought). compared_value (sought_view (table_in run) x) n u) c.in-Once.is ∙ once_found run c.in-Once.position n in
    subst (λ (v : Option Value). IfOk c.value_once.result (λ x. IsValue x v)) (sym seen) c.value_once.ensures.value

-- ---- texts and patterns

spelled_so : (table : Table) (x : Spelled) (s : Box Sought Global) (y : Sought) → x ≡ spellings.Sought s → s.value ≡ y → spelled_view table x ≡ argument_of (sought_view table y)
spelled_so table x s y e f = ap (spelled_view table) e ∙ (spelled_is table s ∙ ap (λ (z : Sought). argument_of (sought_view table z)) f)

pub passes_any-returns-in-Passes-clause-value : goal.passes_any-returns-in-Passes-clause-value
passes_any-returns-in-Passes-clause-value t c =
    let table : Table = table_in c.args.self.run.now in
    let n : Node = node_of c.args.node.now in
    let u : Tree = (node_of c.args.self.run.now.root.now).tree in
    let whole : Bool = c.in-Passes.whole in
    let text : Operand = c.in-Passes.text in
    let pattern : Spelled = c.in-Passes.pattern in
    let seen : in_pattern (passing whole) (compared_value (operand_view table text) n u) (given_by (spelled_view table pattern) n u).value ≡ truth (test_view table c.args.test.now) n u =
    passes_told whole (operand_view table text) (spelled_view table pattern) n u
    ∙ sym (ap (λ (x : Test). truth (test_view table x) n u) c.in-Passes.is ∙ ap (λ (l : syntax.Logical). truth l n u) (passes_is table whole text pattern)) in
    subst (λ (v : Bool). IfOk c.passes_pattern.result (λ b. b ≡ v)) seen c.passes_pattern.ensures.value

pub passes_once-returns-in-Some-Pattern-clause-value : goal.passes_once-returns-in-Some-Pattern-clause-value
passes_once-returns-in-Some-Pattern-clause-value t c =
    let run : Run = c.args.self.run.now in
    let kept = subst (λ (a : Answer). IsAnswer run c.args.frame.now.found.items (slice_get (table_in run) c.args.position) a) c.in-Some-Pattern.field-0-is c.in-Some-Pattern.ensures in
    let spelled = ap (λ (o : Option Pattern). option_map pattern_view o) c.deref.ensures ∙ kept in
    told c.read_passes.result (passing c.args.whole) _ (value_view c.args.text) (slot_value run c.args.position) spelled c.read_passes.ensures

pub passes_once-returns-clause-value : goal.passes_once-returns-clause-value
passes_once-returns-clause-value t c =
    let run : Run = c.args.self.run.now in
    let boxed : c.in_ok-read.read.value ≡ c.in_ok-read_pattern.field-0 = search (rules, c.in_ok-read.ensures) in
    let spelled = ap (λ (o : Option Pattern). option_map pattern_view o) (c.deref-2.ensures ∙ boxed) ∙ (c.in_ok-read_pattern.ensures ∙ ap pattern_in c.in_ok-value.ensures.value.value) in
    told {E = ℕ} (Ok c.in_ok-passes.passes) (passing c.args.whole) _ (value_view c.args.text) (slot_value run c.args.position) spelled c.in_ok-passes.ensures

pub passes_pattern-passes_once-requires : goal.passes_pattern-passes_once-requires
passes_pattern-passes_once-requires t c =
    let table : Table = table_in c.args.self.run.now in
    let position : ℕ = c.in-Once.position in
    let seen = spelled_so table c.args.pattern.now c.in-Sought.sought (things.Once position) c.in-Sought.is (sym c.deref-in-Sought.ensures ∙ c.in-Once.is) in
    let size = ap size_of_argument seen ∙ (given_size (sought_view table (things.Once position)) ∙ (ap size_of_comparable (sought_once table position) ∙ side_size (side_at table position))) in
    (omega (arith, size, c.decreases), c.in_ok-text.ensures.lends.kept)

pub passes_pattern-returns-in-Literal-clause-value : goal.passes_pattern-returns-in-Literal-clause-value
passes_pattern-returns-in-Literal-clause-value t c =
    let run : Run = c.args.self.run.now in
    let n : Node = node_of c.args.node.now in
    let u : Tree = (node_of c.args.self.run.now.root.now).tree in
    let given = λ (x : Spelled). (given_by (spelled_view (table_in run) x) n u).value in
    let test = passing c.args.whole in
    let own : Option Value = value_view c.in_ok-text.text in
    let pattern : LiteralPattern = c.in-Literal.pattern.value in
    let spelled : Option Value = Some (literal_value (literal_view pattern.constant.literal)) in
    let second : spelled ≡ given c.args.pattern.now = sym (ap given c.in-Literal.is ∙ ap (λ (a : syntax.Argument). (given_by a n u).value) (literal_is (table_in run) c.in-Literal.pattern)) in
    let is = ap₂ (in_pattern test) c.in_ok-text.ensures.value.value second in
    ∥∥₁_elim pattern.spelled (one_proof c.read_passes.result _)
    (λ e. subst (λ (b : Bool). IfOk c.read_passes.result (λ a. a ≡ b)) is (told c.read_passes.result test _ own spelled (ap (λ (p : LiteralPattern). option_map pattern_view p.read) c.deref.ensures ∙ e) c.read_passes.ensures))

pub passes_pattern-returns-in-Once-clause-value : goal.passes_pattern-returns-in-Once-clause-value
passes_pattern-returns-in-Once-clause-value t c =
    let run : Run = c.args.self.run.now in
    let n : Node = node_of c.args.node.now in
    let u : Tree = (node_of c.args.self.run.now.root.now).tree in
    let given = λ (x : Spelled). (given_by (spelled_view (table_in run) x) n u).value in
    let test = passing c.args.whole in
    let own : Option Value = value_view c.in_ok-text.text in
    let position : ℕ = c.in-Once.position in
    let seen = spelled_so (table_in run) c.args.pattern.now c.in-Sought.sought (things.Once position) c.in-Sought.is (sym c.deref-in-Sought.ensures ∙ c.in-Once.is) in
    let second : slot_value run position ≡ given c.args.pattern.now = sym (ap (λ (a : syntax.Argument). (given_by a n u).value) seen ∙ once_given run position n) in
    subst (λ (v : Bool). IfOk c.passes_once.result (λ b. b ≡ v)) (ap₂ (in_pattern test) c.in_ok-text.ensures.value.value second) c.passes_once.ensures.value

pub passes_pattern-returns-in_ok-read-in-Found-clause-value : goal.passes_pattern-returns-in_ok-read-in-Found-clause-value
passes_pattern-returns-in_ok-read-in-Found-clause-value t c =
    let run : Run = c.args.self.run.now in
    let n : Node = node_of c.args.node.now in
    let u : Tree = (node_of c.args.self.run.now.root.now).tree in
    let given = λ (x : Spelled). (given_by (spelled_view (table_in run) x) n u).value in
    let test = passing c.args.whole in
    let own : Option Value = value_view c.in_ok-text.text in
    let found : Found = c.in-Found.found in
    let seen = spelled_so (table_in run) c.args.pattern.now c.in-Sought.sought (things.Found found) c.in-Sought.is (sym c.deref-in-Sought.ensures ∙ c.in-Found.is) in
    let there : given c.args.pattern.now ≡ compared_value (found_view (table_in run) found) n u =
    ap (λ (a : syntax.Argument). (given_by a n u).value) seen ∙ (given_so (sought_view (table_in run) (things.Found found)) n u ∙ ap (λ (a : syntax.Comparable). compared_value a n u) (found_is (table_in run) found)) in
    let second = c.in_ok-value-in-Found.ensures.value.value ∙ sym there in
    subst (λ (v : Bool). IfOk c.read_passes-in-Found.result (λ b. b ≡ v)) (ap₂ (in_pattern test) c.in_ok-text.ensures.value.value second)
    (told c.read_passes-in-Found.result test _ own _ c.in_ok-read-in-Found.ensures c.read_passes-in-Found.ensures)

-- ---- steps

pub push_step-push_choices-requires : goal.push_step-push_choices-requires
push_step-push_choices-requires t c =
    let table : Table = table_in c.args.self.run.now in
    let seen = ap (λ (x : ProgramStep). size_of_segments (step_view table x (steps_view table c.args.rest.now))) c.in-Child.is ∙ ap (λ (f : Onward). size_of_segments (f (steps_view table c.args.rest.now))) (child_is table c.in-Child.choices) in
    let same = ap (λ (l : List Choice). size_of_selectors (choices_view table l)) c.deref.ensures.value in
    (omega (arith, seen, same, c.decreases), c.requires)

pub push_step-push_subtree-requires : goal.push_step-push_subtree-requires
push_step-push_subtree-requires t c =
    let table : Table = table_in c.args.self.run.now in
    let seen = ap (λ (x : ProgramStep). size_of_segments (step_view table x (steps_view table c.args.rest.now))) c.in-Descendant.is ∙ ap (λ (f : Onward). size_of_segments (f (steps_view table c.args.rest.now))) (descendant_is table c.in-Descendant.choices) in
    let same = ap (λ (l : List Choice). size_of_selectors (choices_view table l)) c.deref-in-Descendant.ensures.value in
    (omega (arith, seen, same, c.decreases), c.requires)

pub push_step-push_known-requires : goal.push_step-push_known-requires
push_step-push_known-requires t c =
    let table : Table = table_in c.args.self.run.now in
    let seen = ap (λ (x : ProgramStep). size_of_segments (step_view table x (steps_view table c.args.rest.now))) c.in-Known.is ∙ ap (λ (f : Onward). size_of_segments (f (steps_view table c.args.rest.now))) (known_is table c.in-Known.position) in
    (omega (arith, seen, c.decreases), c.requires)

pub push_slot-returns : goal.push_slot-returns
push_slot-returns t c =
    let run : Run = c.args.self.run.now in
    let n : Node = node_of c.args.node.now in
    let none : children n ≡ [] = sym c.first_child.ensures.nodes ∙ none_first c.first_child.result (c.is_none.ensures ∙ ap not c.if-is_none.true) in
    is_done
    (begins c.args.self c.args.frame.now c.args.frame.now [] (nodes (tail_at (table_in run) c.args.position) (n ∷ []) (node_of run.root.now).tree) c.requires.kept refl refl
    (sym (slot_leaf run c.in-Some.inner c.args.position c.in-Some-Descendant-default.field-0-0-0 c.in-Some-Descendant-default.field-0-0.now c.in-Some.steps.now c.in-Some-Descendant-default.field-0-1.now n c.in-Some.ensures.run c.in-Some.ensures.view c.in-Some-Descendant-default.ensures.cases.0 c.in-Some-Descendant-default.field-0-0-is none)))
    refl

-- ---- sums

pub count_nodes-returns-clause-value : goal.count_nodes-returns-clause-value
count_nodes-returns-clause-value t c =
    let run : Run = c.args.self.run.now in
    counted_all (line_of run.root.now) 18446744073709551614 c.in_ok-sum.sum (reached run c.args.steps.now (node_of c.args.node.now ∷ [])) c.in_ok-sum.ensures.value c.if-sum-ge-COUNTED.false

pub has_node-returns-clause-value : goal.has_node-returns-clause-value
has_node-returns-clause-value t c =
    let run : Run = c.args.self.run.now in
    has_some (line_of run.root.now) c.in_ok-sum.field-0 (reached run c.args.steps.now (node_of c.args.node.now ∷ [])) c.in_ok-sum.ensures.value

pub only_value-go_to-requires : goal.only_value-go_to-requires
only_value-go_to-requires t c =
    let run : Run = c.args.self.run.now in
    let last : ℕ = c.in_ok-sum.sum.last in
    let one = only_one (line_of run.root.now) c.in_ok-sum.sum (reached run c.args.steps.now (node_of c.args.node.now ∷ [])) c.in_ok-sum.ensures.value c.if-sum-eq1.true in
    subst (λ (l : List ℕ). last < length (subtree (root_node (spelled l)))) (sym c.requires.line) (slice_get_within (subtree (root_node (spelled (line_of run.root.now)))) last one.0 one.1.0)

pub only_value-returns-then-sum-eq1-clause-value : goal.only_value-returns-then-sum-eq1-clause-value
only_value-returns-then-sum-eq1-clause-value t c =
    let run : Run = c.args.self.run.now in
    let last : ℕ = c.in_ok-sum.sum.last in
    let line : List ℕ = line_of c.args.node.now in
    let one = only_one (line_of run.root.now) c.in_ok-sum.sum (reached run c.args.steps.now (node_of c.args.node.now ∷ [])) c.in_ok-sum.ensures.value c.if-sum-eq1.true in
    let there = subst (λ (l : List ℕ). slice_get (subtree (root_node (spelled l))) last ≡ Some one.0) (sym c.requires.line) one.1.0 in
    let same : node_of c.go_to.result ≡ one.0 = same_node (subtree (root_node (spelled line))) last (node_of c.go_to.result) one.0 c.go_to.ensures.node there in
    record { value = ap (λ (n : Node). Some (value_of n.tree)) same ∙ one.1.1; sound = refl }

-- ---- slots that have steps

pub push_slot-push_steps-requires : goal.push_slot-push_steps-requires
push_slot-push_steps-requires t c =
    let size = slot_size c.args.self.run.now c.in-Some.inner c.args.position c.in-Some.steps.now c.in-Some.ensures.view in
    let known = c.in-Some.ensures.known in
    (omega (arith, size, known, c.decreases), frame_in c.args.node.now c.args.frame.now c.in-Some.ensures.run c.requires.line c.requires.kept)

pub push_slot-returns-2 : goal.push_slot-returns-2
push_slot-returns-2 t c =
    let n : Node = node_of c.args.node.now in
    subst (λ (l : List Node). Pushes c.args.self c.args.frame.now c.push_steps.new.frame c.push_steps.result l)
    (slot_reached c.args.self.run.now c.in-Some.inner c.args.position c.in-Some.steps.now (n ∷ []) c.in-Some.ensures.run c.in-Some.ensures.view)
    (pushed_back c.args.self c.in-Some.ensures.run refl c.push_steps.ensures)

pub push_parts-push_steps-requires : goal.push_parts-push_steps-requires
push_parts-push_steps-requires t c =
    let size = slot_size c.args.self.run.now c.in-Some.inner c.args.position c.in-Some.steps.now c.in-Some.ensures.view in
    let known = c.in-Some.ensures.known in
    (omega (arith, size, known, c.decreases), frame_in c.args.node.now c.args.frame.now c.in-Some.ensures.run c.requires.line c.requires.kept)

pub push_parts-returns : goal.push_parts-returns
push_parts-returns t c =
    let n : Node = node_of c.args.node.now in
    subst (λ (l : List Node). Pushes c.args.self c.args.frame.now c.push_steps.new.frame c.push_steps.result l)
    (slot_reached c.args.self.run.now c.in-Some.inner c.args.position c.in-Some.steps.now (n ∷ []) c.in-Some.ensures.run c.in-Some.ensures.view)
    (pushed_back c.args.self c.in-Some.ensures.run refl c.push_steps.ensures)

pub push_parts-returns-in_err-push_choices : goal.push_parts-returns-in_err-push_choices
push_parts-returns-in_err-push_choices t c =
    let pushed = pushed_back c.args.self c.in-Some.ensures.run refl c.in_err-push_choices.ensures in
    record { adds = pushed.adds; kept = pushed.kept; told = search rules }

pub push_parts-push_below-requires : goal.push_parts-push_below-requires
push_parts-push_below-requires t c =
    let pushed = pushed_back c.args.self c.in-Some.ensures.run refl c.in_ok-push_choices.ensures in
    (omega (arith, c.decreases), record { line = c.requires.line; kept = pushed.kept })

pub push_noted-note-requires-clause-is : goal.push_noted-note-requires-clause-is
push_noted-note-requires-clause-is t c =
    let run : Run = c.args.self.run.now in
    let line : List ℕ = line_of run.root.now in
    let old : List Cursor = c.args.frame.now.found.items in
    let new : List Cursor = c.push_parts.new.frame.found.items in
    let ns : List Node = nodes (tail_at (table_in run) c.args.position) (node_of c.args.node.now ∷ []) (node_of run.root.now).tree in
    listed_known line new c.args.self.most ns c.len-start.result c.len-end.result (is_all c.args.self.most c.if-self-eq-LISTED.true)
    (range_behind line old new ns c.len-start.result c.len-end.result c.in_ok-push_parts.ensures.adds (listed_behind line c.args.self.most c.push_parts.new.frame (record { found = c.args.frame.now.found; sum = c.replace-outer.new.dest; answers = c.args.frame.now.answers; walked = c.args.frame.now.walked }) ns c.if-self-eq-LISTED.true c.in_ok-push_parts.ensures.told) (c.len-start.ensures ∙ c.args.frame.now.found.ok.0) (c.len-end.ensures ∙ c.push_parts.new.frame.found.ok.0))

-- ---- below a node

pub push_below-returns-then-has : goal.push_below-returns-then-has
push_below-returns-then-has t c =
    is_full c.loop-next.invariant.goes (c.has.ensures c.if-has.true)

pub push_below-push_known-requires : goal.push_below-push_known-requires
push_below-push_known-requires t c =
    let child : Cursor = c.in-Some.child in
    let further : place_of c.args.node.now < place_of child = subst (λ (o : Option Cursor). IfSome o (λ d. place_of c.args.node.now < place_of d)) c.in-Some.is c.loop-next.invariant.place in
    let short : place_of child + length (subtree (node_of child)) < 4294967296 = after_short child in
    (omega (arith, further, short, c.decreases), record { line = line_of_some _ child _ c.in-Some.is c.loop-next.invariant.line; kept = c.loop-next.invariant.goes.kept })

pub push_below-returns-in_err-push_known : goal.push_below-returns-in_err-push_known
push_below-returns-in_err-push_known t c =
    record { adds = adds_more c.loop-next.invariant.goes.adds c.in_err-push_known.ensures.adds; kept = c.in_err-push_known.ensures.kept; told = search rules }

place_behind : (o : Option Cursor) (k m n : ℕ) → k < m → IfSome o (λ d. place_of d ≡ m + n) → IfSome o (λ d. k < place_of d)
place_behind None k m n h e = tt
place_behind (Some d) k m n h e = omega (arith, h, e)

pub push_below-loop-next-preserved : goal.push_below-loop-next-preserved
push_below-loop-next-preserved t c =
    let u : Tree = (node_of c.args.self.run.now.root.now).tree in
    let ss : Segments = tail_at (table_in c.args.self.run.now) c.args.position in
    let child : Cursor = c.in-Some.child in
    let kept = c.loop-next.invariant in
    let further : place_of c.args.node.now < place_of child = subst (λ (o : Option Cursor). IfSome o (λ d. place_of c.args.node.now < place_of d)) c.in-Some.is kept.place in
    record {
      goes = others_are (nodes ss (nodes_from c.next_sibling-next.result) u) (ap (λ (l : List Node). nodes ss l u) (sym c.next_sibling-next.ensures.nodes))
          (goes_past c.push_known.new.frame ss u (node_of child ∷ []) (nodes_after child)
          (others_are (nodes ss (nodes_from (Some child)) u) (ap (λ (o : Option Cursor). nodes ss (nodes_from o) u) c.in-Some.is) kept.goes)
          c.in_ok-push_known.ensures);
      line = line_on c.next_sibling-next.result _ _ c.next_sibling-next.ensures.line (line_of_some _ child _ c.in-Some.is kept.line);
      place = place_behind c.next_sibling-next.result (place_of c.args.node.now) (place_of child) (length (subtree (node_of child))) further c.next_sibling-next.ensures.place;
    }

pub push_below-returns : goal.push_below-returns
push_below-returns t c =
    let u : Tree = (node_of c.args.self.run.now.root.now).tree in
    let ss : Segments = tail_at (table_in c.args.self.run.now) c.args.position in
    is_done c.loop-next.invariant.goes (ap (λ (o : Option Cursor). nodes ss (nodes_from o) u) c.in_default.is ∙ no_nodes ss u)

pub push_step-returns-in-Descendant : goal.push_step-returns-in-Descendant
push_step-returns-in-Descendant t c =
    let run : Run = c.args.self.run.now in
    let table : Table = table_in run in
    let u : Tree = (node_of run.root.now).tree in
    let n : Node = node_of c.args.node.now in
    let ss : Segments = steps_view table c.args.rest.now in
    let all = c.in-Descendant.choices in
    let seen = ap (λ (x : ProgramStep). nodes (step_view table x ss) (n ∷ []) u) c.in-Descendant.is
    ∙ (ap (λ (f : Onward). nodes (f ss) (n ∷ []) u) (descendant_is table all)
    ∙ (from_one (syntax.descendant_segment (choices_view table all.items)) ss n u
    ∙ ap (λ (l : List Choice). nodes ss (flat_map (λ (d : Node). selected (choices_view table l) d u) (subtree n)) u) (sym c.deref-in-Descendant.ensures.value))) in
    subst (λ (l : List Node). Pushes c.args.self c.args.frame.now c.push_subtree.new.frame c.push_subtree.result l) (sym seen) c.push_subtree.ensures

-- ---- a slot that begins with a descendant segment

pub push_parts-push_choices-requires : goal.push_parts-push_choices-requires
push_parts-push_choices-requires t c =
    let run : Run = c.args.self.run.now in
    let inner : Run = c.in-Some.inner in
    let all = c.in-Some-Descendant-default.choices in
    let rest : List ProgramStep = c.in-Some-Descendant-default.rest.now in
    let are = c.in-Some-Descendant-default.ensures.cases.0 ∙ ap (λ (x : ProgramStep). x ∷ rest) c.in-Some-Descendant-default.field-0-0-is in
    let view = c.in-Some.ensures.view ∙ ap (steps_view (table_in inner)) are in
    let same = c.deref.ensures.value ∙ ap (λ (v : Vec Choice Global). v.items) c.in-Some-Descendant-default.choices-is in
    let size = below_size run inner c.args.position all c.deref.result.now rest view same in
    let known = c.in-Some.ensures.known in
    (omega (arith, size, known, c.decreases), frame_in c.args.node.now c.args.frame.now c.in-Some.ensures.run c.requires.line c.requires.kept)

pub push_parts-returns-in-Some-Descendant-default : goal.push_parts-returns-in-Some-Descendant-default
push_parts-returns-in-Some-Descendant-default t c =
    let run : Run = c.args.self.run.now in
    let inner : Run = c.in-Some.inner in
    let all = c.in-Some-Descendant-default.choices in
    let rest : List ProgramStep = c.in-Some-Descendant-default.rest.now in
    let are = c.in-Some-Descendant-default.ensures.cases.0 ∙ ap (λ (x : ProgramStep). x ∷ rest) c.in-Some-Descendant-default.field-0-0-is in
    let view = c.in-Some.ensures.view ∙ ap (steps_view (table_in inner)) are in
    let same = c.deref.ensures.value ∙ ap (λ (v : Vec Choice Global). v.items) c.in-Some-Descendant-default.choices-is in
    subst (λ (l : List Node). Pushes c.args.self c.args.frame.now c.push_below.new.frame c.push_below.result l)
    (slot_below run inner c.args.position all c.deref.result.now rest (node_of c.args.node.now) c.in-Some.ensures.run view same)
    (both_pushed c.push_below.result (pushed_back c.args.self c.in-Some.ensures.run refl c.in_ok-push_choices.ensures) c.push_below.ensures)

-- ---- where no step is left

pub push_steps-returns : goal.push_steps-returns
push_steps-returns t c =
    let run : Run = c.args.self.run.now in
    let u : Tree = (node_of run.root.now).tree in
    let n : Node = node_of c.args.node.now in
    let old : Frame = c.args.frame.now in
    let new : Frame = c.add.new.self in
    let most : ℕ = c.args.self.most in
    let none = no_item c.args.steps.now c.in_default.ensures.cases in
    let found : n ∷ [] ≡ nodes (steps_view (table_in run) c.args.steps.now) (n ∷ []) u = sym (ap (λ (l : List ProgramStep). nodes (steps_view (table_in run) l) (n ∷ []) u) none) in
    let adds = subst (λ (l : List ℕ). Adds l old.found.items new.found.items) c.requires.line c.add.ensures.adds in
    record {
      adds = adds;
      kept = subst (λ (v : Vec (Option Answer) Global). AreKept run new.found.items v.items) (sym c.add.ensures.answers) (kept_grown run old.found.items new.found.items old.answers.items (line_of run.root.now) adds c.requires.kept);
      told = subst (λ (l : List Node). OnOk c.add.result (tally (line_of run.root.now) most new [] ≡ tally (line_of run.root.now) most old l)) found
          (subst (λ (l : List ℕ). OnOk c.add.result (tally l most new [] ≡ tally l most old (n ∷ []))) c.requires.line c.add.ensures.told);
    }
