-- What was compiled means what it was made of.
use Rattle.std.proofs.Common.{rules, arith, ◌≡◌, ◌∙◌, ℕ, ◌+◌, ◌&&◌, Bool, true, List, [], ◌∷◌, ◌++◌, map, drop, sym, ap, ap₂, refl, subst, Option, Box, Vec, Global, Result, Ok, Err}
use Rattle.std.specs.Prelude.{IfOk, IfSome}
use Rattle.std.proofs.Math.Bool.{and-true}
use Rattle.std.proofs.lemmas.Bool.{and_parts}
use Rattle.jp_model.specs.Query.Syntax as syntax
use Rattle.jp_model.specs.Query.Limits.{segments_pass, selectors_pass, logicals_pass, logical_passes, comparable_passes, call_passes, argument_passes}
use Rattle.jp_model.specs.Query.Typing.{segments_typed, selectors_typed, logicals_typed, logical_typed, comparable_typed, logical_kind}
use Rattle.jp_syntax.specs.View.{origin_view, op_view, literal_view, selectors_of, logicals_of, segments_view, segment_view, selectors_view, selector_view, logicals_view, logical_view, comparable_view, path_view, call_view, argument_view}
use Rattle.jp_syntax.specs.declared.tree.Segment.{Segment}
use Rattle.jp_syntax.specs.declared.tree.Selector.{Selector}
use Rattle.jp_syntax.specs.declared.tree.Logical.{Logical}
use Rattle.jp_syntax.specs.declared.tree.Path.{Path}
use Rattle.jp_eval.specs.Calls.{called, length_call, count_call, value_call}
use Rattle.jp_eval.specs.Expressions.{readable}
use Rattle.jp_eval.specs.Keys.{keys_view}
use Rattle.jp_eval.specs.Questions.{passing_name, question_view}
use Rattle.jp_eval.specs.Roots.{argument_asks_root, argument_from, asks_from, call_asks_root, is_root, logical_asks_root, logicals_ask_root, logical_from, logical_from_root, path_asks_root, side_asks_root, side_from, side_from_root}
use Rattle.jp_eval.specs.Programs.{Means, Onward, Table, argument_of, steps_in, table_of, steps_view, step_view, choice_view, condition_view, test_view, operand_view, spelled_view, sought_view, found_view}
use Rattle.jp_eval.specs.declared.program.Slot.{Slot}
use Rattle.jp_eval.specs.declared.compile.Compiler.{Compiler}
use Rattle.jp_eval.specs.declared.program.Step.{Step}
use Rattle.jp_eval.specs.declared.program.Choice.TheVariants as choices
use Rattle.jp_eval.specs.declared.program.Condition.{Condition}
use Rattle.jp_eval.specs.declared.program.Condition.TheVariants as conditions
use Rattle.jp_eval.specs.declared.program.Test.{Test}
use Rattle.jp_eval.specs.declared.program.Test.TheVariants as tests
use Rattle.jp_eval.specs.declared.program.Operand.TheVariants as operands
use Rattle.jp_eval.specs.declared.program.Spelled.TheVariants as spellings
use Rattle.jp_eval.specs.declared.program.Sought.{Sought}
use Rattle.jp_eval.specs.declared.program.Sought.TheVariants as things
use Rattle.jp_eval.specs.declared.program.Found.TheVariants as finds
use Rattle.jp_eval.specs.declared.question.Key.{Key}
use Rattle.jp_eval.specs.declared.question.Question.TheVariants as questions
use Rattle.std.proofs.lemmas.List.{drop_all}
use Rattle.jp_eval.proofs.Called.{fits, values_given}
use Rattle.jp_eval.proofs.Linking.{onward_from, onward_is}
use Rattle.jp_eval.proofs.Kept.{on_ok_so}
use Rattle.jp_eval.proofs.Lists.{item_at}
use Rattle.jp_eval.proofs.Origins.{from_or, from_and, from_not, from_compare, from_exists, from_question, from_passes, from_single, from_length, from_count, from_value, from_argument, asked_so, both_asked, begins_at, path_from}
use Rattle.jp_eval.proofs.Sizes.{size_of_segments, size_of_selectors, size_of_logical, size_of_logicals, size_of_call}
use Rattle.jp_eval.proofs.Views.{compare_viewed, nodes_viewed, result_viewed}
use Rattle.jp_eval.proofs.Compiled.{child_seen, descendant_seen, filter_seen, or_seen, and_seen, not_seen, exists_seen, test_seen, constant_seen, single_seen, result_seen, child_is, descendant_is, filter_is, tests_is, single_is, or_is, and_is, exists_is, compare_is, passes_is, operand_is, spelled_is, found_is, only_found, length_found, count_found, value_found}
use Rattle.jp_eval.proofs.Meanings.{means_behind, means_by, means_so, both_mean, one_more, none_more, whole}
use Rattle.jp_eval.proofs.compile.Compiler.+compile.Goals as goal
use Rattle.jp_eval.proofs.compile.Compiler.+compile.Goals.{push_segment-in-Child+in_ok-compile_selectors-in-Child, push_segment-in-Descendant+in_ok-compile_selectors-in-Descendant}

pub push_segment-returns-then-branch : goal.push_segment-returns-then-branch
push_segment-returns-then-branch t c =
    let made = c.in_ok-add_key.ensures.added c.if-branch.true in
    (made.0, (made.1.0, means_so _ _ (λ (table : Table). step_view table made.0) (syntax.segment (segment_view c.args.segment.now)) refl made.1.1))

pub push_segment-returns : goal.push_segment-returns
push_segment-returns t c =
    let old : List Slot = c.args.self.now.slots.items in
    let step : Step = c.match-segment.step in
    let seen : Onward = syntax.segment (segment_view c.args.segment.now) in
    let kept : steps_in c.add_key.new.self ≡ steps_in c.args.parts.now = ap steps_in (c.in_ok-add_key.ensures.none c.if-branch.false) in
    let means : Means old c.match-segment.self.slots.items (λ (table : Table). step_view table step) seen = elim c.match-segment.branch [
      | push_segment-in-Child+in_ok-compile_selectors-in-Child w ↦
          (let x = w.in_ok-compile_selectors-in-Child.field-0 in
          let is = ap (λ (s : Segment). syntax.segment (segment_view s)) w.in-Child.is ∙ ap (λ (y : syntax.Segment). syntax.segment y) (child_seen w.in-Child.selectors ∙ ap (λ (l : List Selector). syntax.child_segment (selectors_view l)) (sym w.deref.ensures.value)) in
          subst (λ (s : Compiler). Means old s.slots.items (λ (table : Table). step_view table step) seen) (sym w.self-is)
          (means_by (λ (ss : syntax.Selectors). syntax.segment (syntax.child_segment ss)) (λ (table : Table). step_view table step) seen (λ table. ap (step_view table) w.step-is ∙ child_is table x) is w.in_ok-compile_selectors-in-Child.ensures))
      | push_segment-in-Descendant+in_ok-compile_selectors-in-Descendant w ↦
          (let x = w.in_ok-compile_selectors-in-Descendant.field-0 in
          let is = ap (λ (s : Segment). syntax.segment (segment_view s)) w.in-Descendant.is ∙ ap (λ (y : syntax.Segment). syntax.segment y) (descendant_seen w.in-Descendant.selectors ∙ ap (λ (l : List Selector). syntax.descendant_segment (selectors_view l)) (sym w.deref-in-Descendant.ensures.value)) in
          subst (λ (s : Compiler). Means old s.slots.items (λ (table : Table). step_view table step) seen) (sym w.self-is)
          (means_by (λ (ss : syntax.Selectors). syntax.segment (syntax.descendant_segment ss)) (λ (table : Table). step_view table step) seen (λ table. ap (step_view table) w.step-is ∙ descendant_is table x) is w.in_ok-compile_selectors-in-Descendant.ensures))
    ] in
    on_ok_so c.add.result (λ e. (step, (e ∙ ap (λ (l : List Step). l ++ step ∷ []) kept, means))) c.add.ensures

pub push_selector-returns-in_ok-condition-in-Filter : goal.push_selector-returns-in_ok-condition-in-Filter
push_selector-returns-in_ok-condition-in-Filter t c =
    let x : Condition = c.in_ok-condition-in-Filter.condition in
    let seen = ap selector_view c.in-Filter.is ∙ (filter_seen c.in-Filter.expression ∙ ap (λ (l : Logical). syntax.filter_selector (logical_view l)) (sym c.deref.ensures)) in
    on_ok_so {P = c.push_filter.new.all.items ≡ c.args.all.now.items ++ choices.Filter x ∷ []} c.push_filter.result (λ e. (choices.Filter x, (e, means_by syntax.filter_selector (λ (table : Table). choice_view table (choices.Filter x)) (selector_view c.args.selector.now) (λ table. filter_is table x) seen c.in_ok-condition-in-Filter.ensures))) c.push_filter.ensures

pub push_selector-returns-in_default : goal.push_selector-returns-in_default
push_selector-returns-in_default t c =
    on_ok_so c.push_simple.result (λ made. (made.0, (made.1.0, means_so _ _ (λ (table : Table). choice_view table made.0) (selector_view c.args.selector.now) refl made.1.1))) c.push_simple.ensures

-- ---- parts in their order

pub compile_segments-loop-segment-preserved : goal.compile_segments-loop-segment-preserved
compile_segments-loop-segment-preserved t c =
    let i : ℕ = c.loop-segment.segment-index in
    let all : List Segment = c.args.segments.now in
    let first : Segment = c.segment-item.result in
    let here : drop i all ≡ first ∷ drop (i + 1) all = item_at all i first c.loop-segment-test.true c.segment-item.is in
    let size = ap (λ (l : List Segment). size_of_segments (segments_view l)) here in
    let before = c.loop-segment.invariant.size in
    let made = c.in_ok-push_segment.ensures in
    record {
      means = one_more step_view (steps_in c.loop-segment.parts) made.0 (onward_from first) (map onward_from (drop (i + 1) all)) (steps_in c.push_segment.new.parts) (ap (map onward_from) here) made.1.0 c.loop-segment.invariant.means made.1.1;
      literals = (and_parts _ _ (subst (λ (l : List Segment). segments_pass (segments_view l) readable ≡ true) here c.loop-segment.invariant.literals)).1;
      typed = (and_parts _ _ (subst (λ (l : List Segment). segments_typed (segments_view l) ≡ true) here c.loop-segment.invariant.typed)).1;
      size = omega (arith, size, before);
    }

pub compile_segments-returns : goal.compile_segments-returns
compile_segments-returns t c =
    let all : List Segment = c.args.segments.now in
    let old : List Slot = c.args.self.now.slots.items in
    let mid : List Slot = c.loop-segment.self.slots.items in
    let made : Means old mid (λ (table : Table). map (step_view table) (steps_in c.loop-segment.parts)) (map onward_from all) =
    none_more step_view (steps_in c.loop-segment.parts) (λ (l : List Onward). l) (ap (map onward_from) (drop_all c.loop-segment.segment-index all c.loop-segment-test.false)) c.loop-segment.invariant.means in
    subst (λ (ss : syntax.Segments). IfOk c.link.result (λ steps. Means old c.link.new.self.slots.items (λ (table : Table). steps_view table steps.items) ss)) (onward_is all) (c.link.ensures old (map onward_from all) made)

pub compile_selectors-loop-selector-preserved : goal.compile_selectors-loop-selector-preserved
compile_selectors-loop-selector-preserved t c =
    let i : ℕ = c.loop-selector.selector-index in
    let all : List Selector = c.args.selectors.now in
    let first : Selector = c.selector-item.result in
    let here : drop i all ≡ first ∷ drop (i + 1) all = item_at all i first c.loop-selector-test.true c.selector-item.is in
    let size = ap (λ (l : List Selector). size_of_selectors (selectors_view l)) here in
    let before = c.loop-selector.invariant.size in
    let made = c.in_ok-push_selector.ensures in
    record {
      means = one_more choice_view c.loop-selector.compiled.items made.0 (selector_view first) (map selector_view (drop (i + 1) all)) c.push_selector.new.all.items (ap (map selector_view) here) made.1.0 c.loop-selector.invariant.means made.1.1;
      literals = (and_parts _ _ (subst (λ (l : List Selector). selectors_pass (selectors_view l) readable ≡ true) here c.loop-selector.invariant.literals)).1;
      typed = (and_parts _ _ (subst (λ (l : List Selector). selectors_typed (selectors_view l) ≡ true) here c.loop-selector.invariant.typed)).1;
      size = omega (arith, size, before);
    }

pub compile_selectors-returns : goal.compile_selectors-returns
compile_selectors-returns t c =
    none_more choice_view c.loop-selector.compiled.items selectors_of (ap (map selector_view) (drop_all c.loop-selector.selector-index c.args.selectors.now c.loop-selector-test.false)) c.loop-selector.invariant.means

pub compile_logicals-loop-part-preserved : goal.compile_logicals-loop-part-preserved
compile_logicals-loop-part-preserved t c =
    let o = origin_view c.args.from in
    let i : ℕ = c.loop-part.part-index in
    let all : List Logical = c.args.parts.now in
    let first : Logical = c.part-item.result in
    let others : List Logical = drop (i + 1) all in
    let here : drop i all ≡ first ∷ others = item_at all i first c.loop-part-test.true c.part-item.is in
    let size = ap (λ (l : List Logical). size_of_logicals (logicals_view l)) here in
    let before = c.loop-part.invariant.size in
    record {
      means = one_more (λ (table : Table) (x : Condition). logical_from o (condition_view table x)) c.loop-part.compiled.items c.in_ok-one.one (logical_view first) (map logical_view others) c.push_condition.new.all.items (ap (map logical_view) here) c.in_ok-push_condition.ensures c.loop-part.invariant.means c.in_ok-one.ensures;
      literals = (and_parts _ _ (subst (λ (l : List Logical). logicals_pass (logicals_view l) readable ≡ true) here c.loop-part.invariant.literals)).1;
      typed = (and_parts _ _ (subst (λ (l : List Logical). logicals_typed (logicals_view l) ≡ true) here c.loop-part.invariant.typed)).1;
      root = (both_asked o (logical_asks_root (logical_view first)) (logicals_ask_root (logicals_view others)) (subst (λ (l : List Logical). asks_from o (logicals_ask_root (logicals_view l)) ≡ true) here c.loop-part.invariant.root)).1;
      size = omega (arith, size, before);
    }

pub compile_logicals-returns : goal.compile_logicals-returns
compile_logicals-returns t c =
    let o = origin_view c.args.from in
    none_more (λ (table : Table) (x : Condition). logical_from o (condition_view table x)) c.loop-part.compiled.items logicals_of (ap (map logical_view) (drop_all c.loop-part.part-index c.args.parts.now c.loop-part-test.false)) c.loop-part.invariant.means

-- ---- conditions and tests

-- what was made is what another view of it says
ok_then : {A E : Type 0} (r : Result A E) (P Q : A → Type 0) → ((x : A) → P x → Q x) → IfOk r P → IfOk r Q
ok_then (Ok x) P Q f h = f x h
ok_then (Err e) P Q f h = tt

-- the test that was made means what it was made for
test_made : {E : Type 0} (r : Result (Box Test Global) E) (x : Test) (o : syntax.Origin) (old new : List Slot) (l : syntax.Logical)
    → Means old new (λ (table : Table). logical_from o (test_view table x)) l → IfOk r (λ test. test.value ≡ x) → IfOk r (λ test. Means old new (λ (table : Table). logical_from o (test_view table test.value)) l)
test_made (Ok b) x o old new l m e = subst (λ (v : Test). Means old new (λ (table : Table). logical_from o (test_view table v)) l) (sym e) m
test_made (Err e) x o old new l m h = tt

pub compile_once-returns : goal.compile_once-returns
compile_once-returns t c =
    let l : syntax.Logical = logical_view c.args.expression.now in
    let mid : List Slot = c.compile_test.new.self.slots.items in
    let own : syntax.Logical = logical_from_root (test_view (table_of mid) c.in_ok-test.test.value) in
    ok_then c.add_test.result (λ (x : Condition). Means mid c.add_test.new.self.slots.items (λ (table : Table). condition_view table x) own) (λ (x : Condition). Means c.args.self.now.slots.items c.add_test.new.self.slots.items (λ (table : Table). condition_view table x) l)
    (λ x m. means_behind c.in_ok-test.ensures.grows (means_by (λ (y : syntax.Logical). y) (λ (table : Table). condition_view table x) l (λ table. refl) (sym (whole _ _ c.in_ok-test.ensures)) m)) c.add_test.ensures

pub compile_logical-returns-then-becomes_slot : goal.compile_logical-returns-then-becomes_slot
compile_logical-returns-then-becomes_slot t c =
    let o = origin_view c.args.from in
    let l : syntax.Logical = logical_view c.args.expression.now in
    let at : o ≡ syntax.current = c.becomes_slot.ensures.yes c.if-becomes_slot.true in
    ok_then c.compile_once.result (λ (x : Condition). Means c.args.self.now.slots.items c.compile_once.new.self.slots.items (λ (table : Table). condition_view table x) l) (λ (x : Condition). Means c.args.self.now.slots.items c.compile_once.new.self.slots.items (λ (table : Table). logical_from o (condition_view table x)) l)
    (λ x m. means_by (λ (y : syntax.Logical). y) (λ (table : Table). logical_from o (condition_view table x)) l (λ table. ap (λ p. logical_from p (condition_view table x)) at) refl m) c.compile_once.ensures

-- ---- filters

pub compile_logical-compile_once-requires : goal.compile_logical-compile_once-requires
compile_logical-compile_once-requires t c =
    (omega (arith, c.decreases), (c.requires.literals, (c.requires.typed, sym c.logical_asks_root.ensures ∙ c.becomes_slot.ensures.asks c.if-becomes_slot.true)))

pub compile_logical-returns : goal.compile_logical-returns
compile_logical-returns t c =
    let o = origin_view c.args.from in
    means_by (λ (x : syntax.Logical). x) (λ (table : Table). logical_from o (condition_view table (conditions.Test c.in_ok-compile_test.field-0))) (logical_view c.args.expression.now)
    (λ table. ap (logical_from o) (tests_is table c.in_ok-compile_test.field-0)) refl c.in_ok-compile_test.ensures

pub compile_test-returns-in_ok-parts-in-Or : goal.compile_test-returns-in_ok-parts-in-Or
compile_test-returns-in_ok-parts-in-Or t c =
    let o = origin_view c.args.from in
    let parts = c.in_ok-parts-in-Or.parts in
    test_made c.or_test.result (tests.Or parts) o _ _ (logical_view c.args.expression.now)
    (means_by syntax.or_all (λ (table : Table). logical_from o (test_view table (tests.Or parts))) (logical_view c.args.expression.now)
    (λ table. ap (logical_from o) (or_is table parts) ∙ from_or o (condition_view table) parts.items)
    (ap logical_view c.in-Or.is ∙ (or_seen c.in-Or.parts ∙ ap (λ (l : List Logical). syntax.or_all (logicals_view l)) (sym c.deref.ensures.value)))
    c.in_ok-parts-in-Or.ensures) c.or_test.ensures

pub compile_test-returns-in_ok-parts-in-And : goal.compile_test-returns-in_ok-parts-in-And
compile_test-returns-in_ok-parts-in-And t c =
    let o = origin_view c.args.from in
    let parts = c.in_ok-parts-in-And.parts in
    test_made c.and_test.result (tests.And parts) o _ _ (logical_view c.args.expression.now)
    (means_by syntax.and_all (λ (table : Table). logical_from o (test_view table (tests.And parts))) (logical_view c.args.expression.now)
    (λ table. ap (logical_from o) (and_is table parts) ∙ from_and o (condition_view table) parts.items)
    (ap logical_view c.in-And.is ∙ (and_seen c.in-And.parts ∙ ap (λ (l : List Logical). syntax.and_all (logicals_view l)) (sym c.deref-in-And.ensures.value)))
    c.in_ok-parts-in-And.ensures) c.and_test.ensures

pub compile_test-returns-in_ok-inner-in-Not : goal.compile_test-returns-in_ok-inner-in-Not
compile_test-returns-in_ok-inner-in-Not t c =
    let o = origin_view c.args.from in
    let l : syntax.Logical = logical_view c.args.expression.now in
    let inner : Condition = c.in_ok-inner-in-Not.inner in
    ok_then c.not_test.result (λ (x : Box Test Global). (table : Table) → test_view table x.value ≡ syntax.negated (condition_view table inner)) (λ (x : Box Test Global). Means c.args.self.now.slots.items _ (λ (table : Table). logical_from o (test_view table x.value)) l)
    (λ x is. means_by syntax.negated (λ (table : Table). logical_from o (test_view table x.value)) l
    (λ table. ap (logical_from o) (is table) ∙ from_not o (condition_view table inner))
    (ap logical_view c.in-Not.is ∙ (not_seen c.in-Not.inner ∙ ap (λ (y : Logical). syntax.negated (logical_view y)) (sym c.deref-in-Not.ensures)))
    c.in_ok-inner-in-Not.ensures) c.not_test.ensures

pub compile_test-returns-in-Compare : goal.compile_test-returns-in-Compare
compile_test-returns-in-Compare t c =
    let o = origin_view c.args.from in
    let seen = ap logical_view c.in-Compare.is ∙ compare_viewed c.in-Compare.left c.in-Compare.op c.in-Compare.right in
    subst (λ (l : syntax.Logical). IfOk c.compile_comparison.result (λ x. Means c.args.self.now.slots.items c.compile_comparison.new.self.slots.items (λ (table : Table). logical_from o (test_view table x.value)) l)) (sym seen) c.compile_comparison.ensures

pub compile_test-compile_comparison-requires : goal.compile_test-compile_comparison-requires
compile_test-compile_comparison-requires t c =
    let o = origin_view c.args.from in
    let seen = ap logical_view c.in-Compare.is ∙ compare_viewed c.in-Compare.left c.in-Compare.op c.in-Compare.right in
    let a = comparable_view c.in-Compare.left in
    let b = comparable_view c.in-Compare.right in
    let both = and_parts (comparable_passes a readable) (comparable_passes b readable) (subst (λ (l : syntax.Logical). logical_passes l readable ≡ true) seen c.requires.literals) in
    let typed = and_parts (comparable_typed a) (comparable_typed b) (subst (λ (l : syntax.Logical). logical_typed l ≡ true) seen c.requires.typed) in
    let size = ap size_of_logical seen in
    (omega (arith, size, c.decreases), (both.0, (both.1, (typed.0, (typed.1, sym (ap logical_asks_root seen) ∙ c.requires.root)))))

-- ---- comparisons

pub compile_comparison-returns-2 : goal.compile_comparison-returns-2
compile_comparison-returns-2 t c =
    let o = origin_view c.args.from in
    let left = c.in_ok-left.left in
    let right = c.in_ok-right.right in
    let op = op_view c.args.op in
    test_made c.compare_test.result (tests.Compare left c.args.op right) o _ _ _
    (both_mean (λ (x y : syntax.Comparable). syntax.compare x op y) (λ (table : Table). logical_from o (test_view table (tests.Compare left c.args.op right))) _
    (λ table. ap (logical_from o) (compare_is table left c.args.op right) ∙ from_compare o (operand_view table left) op (operand_view table right)) refl c.in_ok-left.ensures c.in_ok-right.ensures) c.compare_test.ensures

pub compile_test-returns-in-Exists : goal.compile_test-returns-in-Exists
compile_test-returns-in-Exists t c =
    let o = origin_view c.args.from in
    let p : Path = c.in-Exists.path in
    let seen : logical_view c.args.expression.now ≡ syntax.exists (path_view p) = ap logical_view c.in-Exists.is ∙ exists_seen p in
    let at : origin_view p.origin ≡ o = begins_at p o (sym (ap logical_asks_root seen) ∙ c.requires.root) in
    subst (λ (q : syntax.Origin). IfOk c.compile_exists.result (λ x. Means c.args.self.now.slots.items c.compile_exists.new.self.slots.items (λ (table : Table). logical_from q (test_view table x.value)) (logical_view c.args.expression.now))) at
    (subst (λ (l : syntax.Logical). IfOk c.compile_exists.result (λ x. Means c.args.self.now.slots.items c.compile_exists.new.self.slots.items (λ (table : Table). logical_from (origin_view p.origin) (test_view table x.value)) l)) (sym seen) c.compile_exists.ensures)

pub compile_test-returns-in-Test : goal.compile_test-returns-in-Test
compile_test-returns-in-Test t c =
    let o = origin_view c.args.from in
    let seen = ap logical_view c.in-Test.is ∙ test_seen c.in-Test.call in
    subst (λ (l : syntax.Logical). IfOk c.compile_passes.result (λ x. Means c.args.self.now.slots.items c.compile_passes.new.self.slots.items (λ (table : Table). logical_from o (test_view table x.value)) l)) (sym seen) c.compile_passes.ensures

pub compile_comparison-returns : goal.compile_comparison-returns
compile_comparison-returns t c =
    let o = origin_view c.args.from in
    let p : Path = c.in-Single.path in
    let keys = c.in-Some.keys in
    let q = questions.Compares c.args.op c.in_ok-constant.constant in
    let sl : comparable_view c.args.left.now ≡ syntax.single (path_view p) = ap comparable_view c.in-Single.is ∙ single_seen p in
    let sr : comparable_view c.args.right.now ≡ syntax.constant (literal_view c.in-Constant.literal) = ap comparable_view c.in-Constant.is ∙ constant_seen c.in-Constant.literal in
    let at : origin_view p.origin ≡ o = begins_at p o (sym (and-true (path_asks_root (path_view p))) ∙ (sym (ap₂ (λ (x y : syntax.Comparable). side_asks_root x && side_asks_root y) sl sr) ∙ c.requires.root)) in
    let there = path_from p o (keys_view keys.items) at (subst (λ (found : Option (Vec Key Global)). IfSome found (λ ks. keys_view ks.items ≡ segments_view c.deref.result.now)) c.in-Some.is c.in_ok-keys.ensures ∙ ap segments_view c.deref.ensures.value) in
    let made : syntax.compare (comparable_view c.args.left.now) (op_view c.args.op) (comparable_view c.args.right.now) ≡ question_view q (syntax.path o (keys_view keys.items)) =
    ap₂ (λ (x y : syntax.Comparable). syntax.compare x (op_view c.args.op) y) (sl ∙ ap syntax.single there) (sr ∙ ap syntax.constant (sym c.in_ok-constant.ensures)) in
    test_made c.single_test.result (tests.Single keys q) o _ _ _
    (means_so c.args.self.now.slots.items _ (λ (table : Table). logical_from o (test_view table (tests.Single keys q))) _ refl (λ table. ap (logical_from o) (single_is table keys q) ∙ (from_question o q (keys_view keys.items) ∙ sym made))) c.single_test.ensures

pub compile_exists-returns : goal.compile_exists-returns
compile_exists-returns t c =
    let p : Path = c.args.path.now in
    let o = origin_view p.origin in
    let x = c.in_ok-steps.steps in
    test_made c.exists_test.result (tests.Exists x) o _ _ _
    (means_by (λ (ss : syntax.Segments). syntax.exists (syntax.path o ss)) (λ (table : Table). logical_from o (test_view table (tests.Exists x))) (syntax.exists (path_view p))
    (λ table. ap (logical_from o) (exists_is table x) ∙ from_exists o (steps_view table x.items))
    (ap syntax.exists (path_from p o (segments_view c.deref-2.result.now) refl (ap segments_view c.deref-2.ensures.value)))
    c.in_ok-steps.ensures) c.exists_test.ensures

pub compile_only-returns : goal.compile_only-returns
compile_only-returns t c =
    let p : Path = c.args.path.now in
    let o = origin_view p.origin in
    let x = c.in_ok-steps.steps in
    means_by (λ (ss : syntax.Segments). syntax.single (syntax.path o ss)) (λ (table : Table). side_from o (found_view table (finds.Only x))) (syntax.single (path_view p))
    (λ table. ap (side_from o) (only_found table x) ∙ from_single o (steps_view table x.items))
    (ap syntax.single (path_from p o (segments_view c.deref-2.result.now) refl (ap segments_view c.deref-2.ensures.value)))
    c.in_ok-steps.ensures

-- ---- texts and patterns

pub compile_passes-returns-2 : goal.compile_passes-returns-2
compile_passes-returns-2 t c =
    let o = origin_view c.args.from in
    let whole : Bool = c.pattern_call-whole.result.0 in
    let text = c.in_ok-text.text in
    let pattern = c.in_ok-pattern-2.pattern in
    test_made c.passes_test.result (tests.Passes whole text pattern) o _ _ _
    (both_mean (λ (x y : syntax.Argument). syntax.test (syntax.call (passing_name whole) (syntax.argument x (syntax.argument y syntax.no_arguments)))) (λ (table : Table). logical_from o (test_view table (tests.Passes whole text pattern))) (syntax.test (call_view c.args.call.now))
    (λ table. ap (logical_from o) (passes_is table whole text pattern) ∙ from_passes o whole (argument_of (operand_view table text)) (spelled_view table pattern)) (ap syntax.test (sym c.pattern_call-whole.ensures)) c.in_ok-text.ensures c.in_ok-pattern-2.ensures) c.passes_test.ensures

pub compile_passes-compile_spelled-requires : goal.compile_passes-compile_spelled-requires
compile_passes-compile_spelled-requires t c =
    let o = origin_view c.args.from in
    let whole : Bool = c.pattern_call-whole.result.0 in
    let a : syntax.Argument = argument_view c.pattern_call-whole.result.1.now in
    let b : syntax.Argument = argument_view c.pattern_call-whole.result.2.now in
    let seen = sym c.pattern_call-whole.ensures in
    let pass = and_parts (argument_passes a readable) (argument_passes b readable && true) (subst (λ (v : syntax.Call). call_passes v readable ≡ true) seen c.requires.literals) in
    let asks = both_asked o (argument_asks_root a) (argument_asks_root b && true) (asked_so o _ (subst (λ (v : syntax.Call). call_asks_root v ≡ is_root o) seen c.requires.root)) in
    let size = ap size_of_call seen in
    (omega (arith, size, c.decreases), ((and_parts (argument_passes b readable) true pass.1).0, ((values_given whole a b (subst (λ (v : syntax.Call). fits logical_kind v ≡ true) seen c.requires.typed)).1, (both_asked o (argument_asks_root b) true asks.1).0)))

-- ---- values

pub compile_side-returns-in_ok-boxed_sought-in-Single : goal.compile_side-returns-in_ok-boxed_sought-in-Single
compile_side-returns-in_ok-boxed_sought-in-Single t c =
    let o = origin_view c.args.from in
    let x = c.in_ok-boxed_sought-in-Single.field-0 in
    let is : x.value ≡ c.in_ok-sought-in-Single.sought = c.in_ok-boxed_sought-in-Single.ensures in
    means_by (λ (a : syntax.Comparable). a) (λ (table : Table). side_from o (operand_view table (operands.Sought x))) (comparable_view c.args.side.now) (λ table. ap (side_from o) (operand_is table x ∙ ap (sought_view table) is)) (ap comparable_view c.in-Single.is ∙ single_seen c.in-Single.path) c.in_ok-sought-in-Single.ensures

pub compile_side-returns-in_ok-boxed_sought-in-Result : goal.compile_side-returns-in_ok-boxed_sought-in-Result
compile_side-returns-in_ok-boxed_sought-in-Result t c =
    let o = origin_view c.args.from in
    let x = c.in_ok-boxed_sought-in-Result.field-0 in
    let is : x.value ≡ c.in_ok-sought-in-Result.sought = c.in_ok-boxed_sought-in-Result.ensures in
    means_by (λ (a : syntax.Comparable). a) (λ (table : Table). side_from o (operand_view table (operands.Sought x))) (comparable_view c.args.side.now) (λ table. ap (side_from o) (operand_is table x ∙ ap (sought_view table) is)) (ap comparable_view c.in-Result.is ∙ result_seen c.in-Result.call) c.in_ok-sought-in-Result.ensures

pub compile_argument-returns-in_ok-boxed_sought-in-Nodes : goal.compile_argument-returns-in_ok-boxed_sought-in-Nodes
compile_argument-returns-in_ok-boxed_sought-in-Nodes t c =
    let o = origin_view c.args.from in
    let x = c.in_ok-boxed_sought-in-Nodes.field-0 in
    let is : x.value ≡ c.in_ok-sought-in-Nodes.sought = c.in_ok-boxed_sought-in-Nodes.ensures in
    means_by argument_of (λ (table : Table). argument_from o (argument_of (operand_view table (operands.Sought x)))) (argument_view c.args.argument.now) (λ table. ap (λ (a : syntax.Comparable). argument_from o (argument_of a)) (operand_is table x ∙ ap (sought_view table) is) ∙ from_argument o (sought_view table c.in_ok-sought-in-Nodes.sought)) (ap argument_view c.in-Nodes.is ∙ nodes_viewed c.in-Nodes.path) c.in_ok-sought-in-Nodes.ensures

pub compile_spelled-returns-in_ok-boxed_sought-in-Nodes : goal.compile_spelled-returns-in_ok-boxed_sought-in-Nodes
compile_spelled-returns-in_ok-boxed_sought-in-Nodes t c =
    let o = origin_view c.args.from in
    let x = c.in_ok-boxed_sought-in-Nodes.field-0 in
    let is : x.value ≡ c.in_ok-sought-in-Nodes.sought = c.in_ok-boxed_sought-in-Nodes.ensures in
    means_by argument_of (λ (table : Table). argument_from o (spelled_view table (spellings.Sought x))) (argument_view c.args.argument.now) (λ table. ap (argument_from o) (spelled_is table x ∙ ap (λ (y : Sought). argument_of (sought_view table y)) is) ∙ from_argument o (sought_view table c.in_ok-sought-in-Nodes.sought)) (ap argument_view c.in-Nodes.is ∙ nodes_viewed c.in-Nodes.path) c.in_ok-sought-in-Nodes.ensures

pub compile_argument-returns-in_ok-boxed_sought-in-Result : goal.compile_argument-returns-in_ok-boxed_sought-in-Result
compile_argument-returns-in_ok-boxed_sought-in-Result t c =
    let o = origin_view c.args.from in
    let x = c.in_ok-boxed_sought-in-Result.field-0 in
    let is : x.value ≡ c.in_ok-sought-in-Result.sought = c.in_ok-boxed_sought-in-Result.ensures in
    means_by argument_of (λ (table : Table). argument_from o (argument_of (operand_view table (operands.Sought x)))) (argument_view c.args.argument.now) (λ table. ap (λ (a : syntax.Comparable). argument_from o (argument_of a)) (operand_is table x ∙ ap (sought_view table) is) ∙ from_argument o (sought_view table c.in_ok-sought-in-Result.sought)) (ap argument_view c.in-Result.is ∙ result_viewed c.in-Result.call) c.in_ok-sought-in-Result.ensures

pub compile_spelled-returns-in_ok-boxed_sought-in-Result : goal.compile_spelled-returns-in_ok-boxed_sought-in-Result
compile_spelled-returns-in_ok-boxed_sought-in-Result t c =
    let o = origin_view c.args.from in
    let x = c.in_ok-boxed_sought-in-Result.field-0 in
    let is : x.value ≡ c.in_ok-sought-in-Result.sought = c.in_ok-boxed_sought-in-Result.ensures in
    means_by argument_of (λ (table : Table). argument_from o (spelled_view table (spellings.Sought x))) (argument_view c.args.argument.now) (λ table. ap (argument_from o) (spelled_is table x ∙ ap (λ (y : Sought). argument_of (sought_view table y)) is) ∙ from_argument o (sought_view table c.in_ok-sought-in-Result.sought)) (ap argument_view c.in-Result.is ∙ result_viewed c.in-Result.call) c.in_ok-sought-in-Result.ensures

pub compile_path-returns-then-becomes_slot : goal.compile_path-returns-then-becomes_slot
compile_path-returns-then-becomes_slot t c =
    let o = origin_view c.args.from in
    let first : origin_view c.args.path.now.origin ≡ syntax.root = begins_at c.args.path.now syntax.root (sym c.path_asks_root.ensures ∙ c.becomes_slot.ensures.asks c.if-becomes_slot.true) in
    let mid : List Slot = c.compile_only.new.self.slots.items in
    let own : syntax.Comparable = side_from_root (found_view (table_of mid) c.in_ok-found.found) in
    let at : o ≡ syntax.current = c.becomes_slot.ensures.yes c.if-becomes_slot.true in
    ok_then c.add_value.result (λ (x : Sought). Means mid c.add_value.new.self.slots.items (λ (table : Table). sought_view table x) own) (λ (x : Sought). Means c.args.self.now.slots.items c.add_value.new.self.slots.items (λ (table : Table). side_from o (sought_view table x)) (syntax.single (path_view c.args.path.now)))
    (λ x m. means_behind c.in_ok-found.ensures.grows (means_by (λ (y : syntax.Comparable). y) (λ (table : Table). side_from o (sought_view table x)) (syntax.single (path_view c.args.path.now)) (λ table. ap (λ p. side_from p (sought_view table x)) at) (sym (whole _ _ c.in_ok-found.ensures) ∙ ap (λ p. side_from p (found_view (table_of mid) c.in_ok-found.found)) first) m)) c.add_value.ensures

pub compile_call-returns-then-becomes_slot : goal.compile_call-returns-then-becomes_slot
compile_call-returns-then-becomes_slot t c =
    let o = origin_view c.args.from in
    let mid : List Slot = c.compile_value.new.self.slots.items in
    let own : syntax.Comparable = side_from_root (found_view (table_of mid) c.in_ok-found.found) in
    let at : o ≡ syntax.current = c.becomes_slot.ensures.yes c.if-becomes_slot.true in
    ok_then c.add_value.result (λ (x : Sought). Means mid c.add_value.new.self.slots.items (λ (table : Table). sought_view table x) own) (λ (x : Sought). Means c.args.self.now.slots.items c.add_value.new.self.slots.items (λ (table : Table). side_from o (sought_view table x)) (syntax.result (call_view c.args.call.now)))
    (λ x m. means_behind c.in_ok-found.ensures.grows (means_by (λ (y : syntax.Comparable). y) (λ (table : Table). side_from o (sought_view table x)) (syntax.result (call_view c.args.call.now)) (λ table. ap (λ p. side_from p (sought_view table x)) at) (sym (whole _ _ c.in_ok-found.ensures)) m)) c.add_value.ensures

pub compile_path-returns : goal.compile_path-returns
compile_path-returns t c =
    let o = origin_view c.args.from in
    let p : Path = c.args.path.now in
    let x = c.in_ok-compile_only.field-0 in
    let at : origin_view p.origin ≡ o = begins_at p o (sym c.path_asks_root.ensures ∙ c.becomes_slot.ensures.no c.if-becomes_slot.false) in
    means_by (λ (a : syntax.Comparable). a) (λ (table : Table). side_from o (sought_view table (things.Found x))) (syntax.single (path_view p)) (λ table. ap (side_from o) (found_is table x) ∙ ap (λ r. side_from r (found_view table x)) (sym at)) refl c.in_ok-compile_only.ensures

pub compile_call-returns : goal.compile_call-returns
compile_call-returns t c =
    let o = origin_view c.args.from in
    let x = c.in_ok-compile_value.field-0 in
    means_by (λ (a : syntax.Comparable). a) (λ (table : Table). side_from o (sought_view table (things.Found x))) (syntax.result (call_view c.args.call.now)) (λ table. ap (side_from o) (found_is table x)) refl c.in_ok-compile_value.ensures

pub compile_call-compile_value-requires : goal.compile_call-compile_value-requires
compile_call-compile_value-requires t c =
    (omega (arith, c.decreases), (c.requires.literals, (c.requires.typed, sym c.call_asks_root.ensures ∙ c.becomes_slot.ensures.asks c.if-becomes_slot.true)))

pub compile_value-returns-in_ok-new-in-Length : goal.compile_value-returns-in_ok-new-in-Length
compile_value-returns-in_ok-new-in-Length t c =
    let o = origin_view c.args.from in
    let operand = c.in_ok-operand-in-Length.operand in
    let seen : length_call (argument_view c.in-Length.argument.now) ≡ call_view c.args.call.now = sym (ap called c.in-Length.is) ∙ c.value_call.ensures in
    means_by (λ (a : syntax.Argument). syntax.result (length_call a)) (λ (table : Table). side_from o (found_view table (finds.Length c.in_ok-new-in-Length.field-0))) (syntax.result (call_view c.args.call.now))
    (λ table. ap (side_from o) (length_found table c.in_ok-new-in-Length.field-0 ∙ search (rules, c.in_ok-new-in-Length.ensures)) ∙ from_length o (argument_of (operand_view table operand)))
    (ap syntax.result (sym seen)) c.in_ok-operand-in-Length.ensures

pub compile_value-returns-in_ok-steps-in-Count : goal.compile_value-returns-in_ok-steps-in-Count
compile_value-returns-in_ok-steps-in-Count t c =
    let o = origin_view c.args.from in
    let p : Path = c.in-Count.path.now in
    let x = c.in_ok-steps-in-Count.steps in
    let seen : count_call (path_view p) ≡ call_view c.args.call.now = sym (ap called c.in-Count.is) ∙ c.value_call.ensures in
    let at : origin_view p.origin ≡ o = begins_at p o (sym (and-true (path_asks_root (path_view p))) ∙ (ap call_asks_root seen ∙ c.requires.root)) in
    means_by (λ (ss : syntax.Segments). syntax.result (count_call (syntax.path o ss))) (λ (table : Table). side_from o (found_view table (finds.Count x))) (syntax.result (call_view c.args.call.now))
    (λ table. ap (side_from o) (count_found table x) ∙ from_count o (steps_view table x.items))
    (ap syntax.result (sym seen ∙ ap count_call (path_from p o (segments_view c.deref.result.now) at (ap segments_view c.deref.ensures.value))))
    c.in_ok-steps-in-Count.ensures

pub compile_value-returns-in_ok-steps-in-Value : goal.compile_value-returns-in_ok-steps-in-Value
compile_value-returns-in_ok-steps-in-Value t c =
    let o = origin_view c.args.from in
    let p : Path = c.in-Value.path.now in
    let x = c.in_ok-steps-in-Value.steps in
    let seen : value_call (path_view p) ≡ call_view c.args.call.now = sym (ap called c.in-Value.is) ∙ c.value_call.ensures in
    let at : origin_view p.origin ≡ o = begins_at p o (sym (and-true (path_asks_root (path_view p))) ∙ (ap call_asks_root seen ∙ c.requires.root)) in
    means_by (λ (ss : syntax.Segments). syntax.result (value_call (syntax.path o ss))) (λ (table : Table). side_from o (found_view table (finds.Value x))) (syntax.result (call_view c.args.call.now))
    (λ table. ap (side_from o) (value_found table x) ∙ from_value o (steps_view table x.items))
    (ap syntax.result (sym seen ∙ ap value_call (path_from p o (segments_view c.deref-in-Value.result.now) at (ap segments_view c.deref-in-Value.ensures.value))))
    c.in_ok-steps-in-Value.ensures
