use Rattle.std.proofs.Common.{◌≡◌, [], ◌∷◌, ◌++◌, Some, length, map}
use Rattle.std.proofs.lemmas.Result.{err_from_is_err_and}
use Rattle.std.proofs.lemmas.List.{map_push}
use Rattle.jp_query.specs.Integers.{clamp}
use Rattle.jp_query.specs.Reading.Scalars.{◌>>=◌, all_of, with_front}
use Rattle.jp_query.specs.Parsing.{with_last}
use Rattle.jp_query.specs.Reading.Queries.{next_selector, next_segment, next_argument, next_basic, next_and, logical_at}
use Rattle.jp_syntax.specs.View.{selector_view, segment_view, logical_view, argument_view}
use Rattle.jp_query.proofs.Loop.{adds, goes_on, fails, fails_behind, stops, is_done}
use Rattle.jp_query.proofs.Segments.{segments_fail, segments_given}
use Rattle.jp_query.proofs.parser.Parser.+query.Goals as goal
use Rattle.jp_query.proofs.parser.Parser.+query.Goals.{segments-else-loop-test, segments-then-loop-test+in_ok-one+in_default}

pub push_more_selectors-returns-in_err-push_next_selector : goal.push_more_selectors-returns-in_err-push_next_selector
push_more_selectors-returns-in_err-push_next_selector t c =
    let p = err_from_is_err_and c.from_residual.result c.from_residual.ensures.1 in
    rw (p.1, p.2) (fails_behind (map selector_view c.args.all.now.items) (all_of (next_selector clamp (logical_at clamp c.args.depth)) c.args.self.now.rest.now) c.in_err-push_next_selector.field-0.0 (fails (next_selector clamp (logical_at clamp c.args.depth)) (map selector_view c.loop.all.items) (length c.args.self.now.rest.now) c.loop.counter c.loop.self.rest.now (with_front (map selector_view c.args.all.now.items) (all_of (next_selector clamp (logical_at clamp c.args.depth)) c.args.self.now.rest.now)) c.in_err-push_next_selector.field-0.0 c.loop-test.true c.in_err-push_next_selector.ensures c.loop.invariant))

pub push_more_selectors-loop-preserved : goal.push_more_selectors-loop-preserved
push_more_selectors-loop-preserved t c =
    let one : ((next_selector clamp (logical_at clamp c.args.depth)) c.loop.self.rest.now >>= with_last (map selector_view c.loop.all.items)) ≡ Some (map selector_view c.push_next_selector.new.all.items, c.push_next_selector.new.self.rest.now) = rw c.if-not-branch.false at c.in_ok-push_next_selector.ensures in
    adds (next_selector clamp (logical_at clamp c.args.depth)) (map selector_view c.loop.all.items) (length c.args.self.now.rest.now) c.loop.counter c.loop.self.rest.now (with_front (map selector_view c.args.all.now.items) (all_of (next_selector clamp (logical_at clamp c.args.depth)) c.args.self.now.rest.now)) (map selector_view c.push_next_selector.new.all.items) c.push_next_selector.new.self.rest.now c.loop-test.true one c.loop.invariant

pub push_more_selectors-returns-after-loop : goal.push_more_selectors-returns-after-loop
push_more_selectors-returns-after-loop t c = is_done (next_selector clamp (logical_at clamp c.args.depth)) (map selector_view c.loop.all.items) (length c.args.self.now.rest.now) c.loop.counter c.loop.self.rest.now (with_front (map selector_view c.args.all.now.items) (all_of (next_selector clamp (logical_at clamp c.args.depth)) c.args.self.now.rest.now)) c.loop-test.false c.loop.invariant

pub push_more_selectors-returns-then-not-branch : goal.push_more_selectors-returns-then-not-branch
push_more_selectors-returns-then-not-branch t c =
    let h = rw c.if-not-branch.true at c.in_ok-push_next_selector.ensures in
    rw (h.1.0, h.1.1) (stops (next_selector clamp (logical_at clamp c.args.depth)) (map selector_view c.loop.all.items) (length c.args.self.now.rest.now) c.loop.counter c.loop.self.rest.now (with_front (map selector_view c.args.all.now.items) (all_of (next_selector clamp (logical_at clamp c.args.depth)) c.args.self.now.rest.now)) c.loop-test.true h.0 c.loop.invariant)

pub segments-returns-in_err-one : goal.segments-returns-in_err-one
segments-returns-in_err-one t c =
    let p = err_from_is_err_and c.from_residual.result c.from_residual.ensures.1 in
    rw (p.1, p.2) (segments_fail clamp (logical_at clamp c.args.depth) c.args.self.now.rest.now c.in_err-one.field-0.0 (fails (next_segment clamp (logical_at clamp c.args.depth)) (map segment_view c.loop.all.items) (length c.args.self.now.rest.now) c.loop.counter c.loop.self.rest.now (all_of (next_segment clamp (logical_at clamp c.args.depth)) c.args.self.now.rest.now) c.in_err-one.field-0.0 c.loop-test.true c.in_err-one.ensures c.loop.invariant))

pub segments-loop-preserved : goal.segments-loop-preserved
segments-loop-preserved t c =
    let e : map segment_view c.push.new.self.items ≡ map segment_view c.loop.all.items ++ segment_view c.in-Some.one ∷ [] = rw c.in_ok-push.ensures.items (map_push _ c.loop.all.items c.in-Some.one) in
    let next = c.next_segment.new.self.rest.now in
    let one : (next_segment clamp (logical_at clamp c.args.depth)) c.loop.self.rest.now ≡ Some (Some (segment_view c.in-Some.one, next)) = rw c.in-Some.is at c.in_ok-one.ensures in
    rw e (goes_on (next_segment clamp (logical_at clamp c.args.depth)) (map segment_view c.loop.all.items) (length c.args.self.now.rest.now) c.loop.counter c.loop.self.rest.now (all_of (next_segment clamp (logical_at clamp c.args.depth)) c.args.self.now.rest.now) (segment_view c.in-Some.one) next c.loop-test.true one c.loop.invariant)

pub segments-returns : goal.segments-returns
segments-returns t c = elim c.loop-test.branch [
  | segments-else-loop-test w ↦ rw w.self-is (segments_given clamp (logical_at clamp c.args.depth) c.args.self.now.rest.now (map segment_view c.loop.all.items) c.loop.self.rest.now (is_done (next_segment clamp (logical_at clamp c.args.depth)) (map segment_view c.loop.all.items) (length c.args.self.now.rest.now) c.loop.counter c.loop.self.rest.now (all_of (next_segment clamp (logical_at clamp c.args.depth)) c.args.self.now.rest.now) w.loop-test.false c.loop.invariant))
  | segments-then-loop-test+in_ok-one+in_default w ↦ let h = rw w.in_default.is at w.in_ok-one.ensures in rw (w.self-is, h.1) (segments_given clamp (logical_at clamp c.args.depth) c.args.self.now.rest.now (map segment_view c.loop.all.items) c.loop.self.rest.now (stops (next_segment clamp (logical_at clamp c.args.depth)) (map segment_view c.loop.all.items) (length c.args.self.now.rest.now) c.loop.counter c.loop.self.rest.now (all_of (next_segment clamp (logical_at clamp c.args.depth)) c.args.self.now.rest.now) w.loop-test.true h.0 c.loop.invariant))
]

pub push_more_arguments-returns-in_err-push_next_argument : goal.push_more_arguments-returns-in_err-push_next_argument
push_more_arguments-returns-in_err-push_next_argument t c =
    let p = err_from_is_err_and c.from_residual.result c.from_residual.ensures.1 in
    rw (p.1, p.2) (fails_behind (map argument_view c.args.all.now.items) (all_of (next_argument clamp (logical_at clamp c.args.depth)) c.args.self.now.rest.now) c.in_err-push_next_argument.field-0.0 (fails (next_argument clamp (logical_at clamp c.args.depth)) (map argument_view c.loop.all.items) (length c.args.self.now.rest.now) c.loop.counter c.loop.self.rest.now (with_front (map argument_view c.args.all.now.items) (all_of (next_argument clamp (logical_at clamp c.args.depth)) c.args.self.now.rest.now)) c.in_err-push_next_argument.field-0.0 c.loop-test.true c.in_err-push_next_argument.ensures c.loop.invariant))

pub push_more_arguments-loop-preserved : goal.push_more_arguments-loop-preserved
push_more_arguments-loop-preserved t c =
    let one : ((next_argument clamp (logical_at clamp c.args.depth)) c.loop.self.rest.now >>= with_last (map argument_view c.loop.all.items)) ≡ Some (map argument_view c.push_next_argument.new.all.items, c.push_next_argument.new.self.rest.now) = rw c.if-not-branch.false at c.in_ok-push_next_argument.ensures in
    adds (next_argument clamp (logical_at clamp c.args.depth)) (map argument_view c.loop.all.items) (length c.args.self.now.rest.now) c.loop.counter c.loop.self.rest.now (with_front (map argument_view c.args.all.now.items) (all_of (next_argument clamp (logical_at clamp c.args.depth)) c.args.self.now.rest.now)) (map argument_view c.push_next_argument.new.all.items) c.push_next_argument.new.self.rest.now c.loop-test.true one c.loop.invariant

pub push_more_arguments-returns-after-loop : goal.push_more_arguments-returns-after-loop
push_more_arguments-returns-after-loop t c = is_done (next_argument clamp (logical_at clamp c.args.depth)) (map argument_view c.loop.all.items) (length c.args.self.now.rest.now) c.loop.counter c.loop.self.rest.now (with_front (map argument_view c.args.all.now.items) (all_of (next_argument clamp (logical_at clamp c.args.depth)) c.args.self.now.rest.now)) c.loop-test.false c.loop.invariant

pub push_more_arguments-returns-then-not-branch : goal.push_more_arguments-returns-then-not-branch
push_more_arguments-returns-then-not-branch t c =
    let h = rw c.if-not-branch.true at c.in_ok-push_next_argument.ensures in
    rw (h.1.0, h.1.1) (stops (next_argument clamp (logical_at clamp c.args.depth)) (map argument_view c.loop.all.items) (length c.args.self.now.rest.now) c.loop.counter c.loop.self.rest.now (with_front (map argument_view c.args.all.now.items) (all_of (next_argument clamp (logical_at clamp c.args.depth)) c.args.self.now.rest.now)) c.loop-test.true h.0 c.loop.invariant)

pub push_more_basics-returns-in_err-push_next_basic : goal.push_more_basics-returns-in_err-push_next_basic
push_more_basics-returns-in_err-push_next_basic t c =
    let p = err_from_is_err_and c.from_residual.result c.from_residual.ensures.1 in
    rw (p.1, p.2) (fails_behind (map logical_view c.args.all.now.items) (all_of (next_basic clamp (logical_at clamp c.args.depth)) c.args.self.now.rest.now) c.in_err-push_next_basic.field-0.0 (fails (next_basic clamp (logical_at clamp c.args.depth)) (map logical_view c.loop.all.items) (length c.args.self.now.rest.now) c.loop.counter c.loop.self.rest.now (with_front (map logical_view c.args.all.now.items) (all_of (next_basic clamp (logical_at clamp c.args.depth)) c.args.self.now.rest.now)) c.in_err-push_next_basic.field-0.0 c.loop-test.true c.in_err-push_next_basic.ensures c.loop.invariant))

pub push_more_basics-loop-preserved : goal.push_more_basics-loop-preserved
push_more_basics-loop-preserved t c =
    let one : ((next_basic clamp (logical_at clamp c.args.depth)) c.loop.self.rest.now >>= with_last (map logical_view c.loop.all.items)) ≡ Some (map logical_view c.push_next_basic.new.all.items, c.push_next_basic.new.self.rest.now) = rw c.if-not-branch.false at c.in_ok-push_next_basic.ensures in
    adds (next_basic clamp (logical_at clamp c.args.depth)) (map logical_view c.loop.all.items) (length c.args.self.now.rest.now) c.loop.counter c.loop.self.rest.now (with_front (map logical_view c.args.all.now.items) (all_of (next_basic clamp (logical_at clamp c.args.depth)) c.args.self.now.rest.now)) (map logical_view c.push_next_basic.new.all.items) c.push_next_basic.new.self.rest.now c.loop-test.true one c.loop.invariant

pub push_more_basics-returns-after-loop : goal.push_more_basics-returns-after-loop
push_more_basics-returns-after-loop t c = is_done (next_basic clamp (logical_at clamp c.args.depth)) (map logical_view c.loop.all.items) (length c.args.self.now.rest.now) c.loop.counter c.loop.self.rest.now (with_front (map logical_view c.args.all.now.items) (all_of (next_basic clamp (logical_at clamp c.args.depth)) c.args.self.now.rest.now)) c.loop-test.false c.loop.invariant

pub push_more_basics-returns-then-not-branch : goal.push_more_basics-returns-then-not-branch
push_more_basics-returns-then-not-branch t c =
    let h = rw c.if-not-branch.true at c.in_ok-push_next_basic.ensures in
    rw (h.1.0, h.1.1) (stops (next_basic clamp (logical_at clamp c.args.depth)) (map logical_view c.loop.all.items) (length c.args.self.now.rest.now) c.loop.counter c.loop.self.rest.now (with_front (map logical_view c.args.all.now.items) (all_of (next_basic clamp (logical_at clamp c.args.depth)) c.args.self.now.rest.now)) c.loop-test.true h.0 c.loop.invariant)

pub push_more_conjunctions-returns-in_err-push_next_conjunction : goal.push_more_conjunctions-returns-in_err-push_next_conjunction
push_more_conjunctions-returns-in_err-push_next_conjunction t c =
    let p = err_from_is_err_and c.from_residual.result c.from_residual.ensures.1 in
    rw (p.1, p.2) (fails_behind (map logical_view c.args.all.now.items) (all_of (next_and clamp (logical_at clamp c.args.depth)) c.args.self.now.rest.now) c.in_err-push_next_conjunction.field-0.0 (fails (next_and clamp (logical_at clamp c.args.depth)) (map logical_view c.loop.all.items) (length c.args.self.now.rest.now) c.loop.counter c.loop.self.rest.now (with_front (map logical_view c.args.all.now.items) (all_of (next_and clamp (logical_at clamp c.args.depth)) c.args.self.now.rest.now)) c.in_err-push_next_conjunction.field-0.0 c.loop-test.true c.in_err-push_next_conjunction.ensures c.loop.invariant))

pub push_more_conjunctions-loop-preserved : goal.push_more_conjunctions-loop-preserved
push_more_conjunctions-loop-preserved t c =
    let one : ((next_and clamp (logical_at clamp c.args.depth)) c.loop.self.rest.now >>= with_last (map logical_view c.loop.all.items)) ≡ Some (map logical_view c.push_next_conjunction.new.all.items, c.push_next_conjunction.new.self.rest.now) = rw c.if-not-branch.false at c.in_ok-push_next_conjunction.ensures in
    adds (next_and clamp (logical_at clamp c.args.depth)) (map logical_view c.loop.all.items) (length c.args.self.now.rest.now) c.loop.counter c.loop.self.rest.now (with_front (map logical_view c.args.all.now.items) (all_of (next_and clamp (logical_at clamp c.args.depth)) c.args.self.now.rest.now)) (map logical_view c.push_next_conjunction.new.all.items) c.push_next_conjunction.new.self.rest.now c.loop-test.true one c.loop.invariant

pub push_more_conjunctions-returns-after-loop : goal.push_more_conjunctions-returns-after-loop
push_more_conjunctions-returns-after-loop t c = is_done (next_and clamp (logical_at clamp c.args.depth)) (map logical_view c.loop.all.items) (length c.args.self.now.rest.now) c.loop.counter c.loop.self.rest.now (with_front (map logical_view c.args.all.now.items) (all_of (next_and clamp (logical_at clamp c.args.depth)) c.args.self.now.rest.now)) c.loop-test.false c.loop.invariant

pub push_more_conjunctions-returns-then-not-branch : goal.push_more_conjunctions-returns-then-not-branch
push_more_conjunctions-returns-then-not-branch t c =
    let h = rw c.if-not-branch.true at c.in_ok-push_next_conjunction.ensures in
    rw (h.1.0, h.1.1) (stops (next_and clamp (logical_at clamp c.args.depth)) (map logical_view c.loop.all.items) (length c.args.self.now.rest.now) c.loop.counter c.loop.self.rest.now (with_front (map logical_view c.args.all.now.items) (all_of (next_and clamp (logical_at clamp c.args.depth)) c.args.self.now.rest.now)) c.loop-test.true h.0 c.loop.invariant)
