use Rattle.std.proofs.Common.{◌≡◌, ◌+◌, ◌-◌, ◌*◌, map, length}
use Rattle.jp_query.specs.Integers.{clamp}
use Rattle.jp_query.specs.Reading.Scalars.{many, all_of, with_front}
use Rattle.jp_query.specs.Reading.Queries.{next_selector, next_segment, next_argument, next_basic, next_and, logical_at}
use Rattle.jp_syntax.specs.View.{selector_view, segment_view, logical_view, argument_view}
use Rattle.jp_query.proofs.parser.Parser.+query.Given as goal

abbrev pub decreases-logical : goal.decreases-logical
decreases-logical l = 32 * l.depth + 0

abbrev pub decreases-push_selector : goal.decreases-push_selector
decreases-push_selector l = 32 * l.depth + 1

abbrev pub decreases-push_next_selector : goal.decreases-push_next_selector
decreases-push_next_selector l = 32 * l.depth + 2

abbrev pub decreases-push_more_selectors : goal.decreases-push_more_selectors
decreases-push_more_selectors l = 32 * l.depth + 3

abbrev pub decreases-push_selectors : goal.decreases-push_selectors
decreases-push_selectors l = 32 * l.depth + 4

abbrev pub decreases-brackets : goal.decreases-brackets
decreases-brackets l = 32 * l.depth + 5

abbrev pub decreases-descendants : goal.decreases-descendants
decreases-descendants l = 32 * l.depth + 6

abbrev pub decreases-next_segment : goal.decreases-next_segment
decreases-next_segment l = 32 * l.depth + 7

abbrev pub decreases-segments : goal.decreases-segments
decreases-segments l = 32 * l.depth + 8

abbrev pub decreases-closed : goal.decreases-closed
decreases-closed l = 32 * l.depth + 1

abbrev pub decreases-push_argument : goal.decreases-push_argument
decreases-push_argument l = 32 * l.depth + 1

abbrev pub decreases-push_next_argument : goal.decreases-push_next_argument
decreases-push_next_argument l = 32 * l.depth + 2

abbrev pub decreases-push_more_arguments : goal.decreases-push_more_arguments
decreases-push_more_arguments l = 32 * l.depth + 3

abbrev pub decreases-push_arguments : goal.decreases-push_arguments
decreases-push_arguments l = 32 * l.depth + 4

abbrev pub decreases-arguments : goal.decreases-arguments
decreases-arguments l = 32 * l.depth + 5

abbrev pub decreases-call : goal.decreases-call
decreases-call l = 32 * l.depth + 6

abbrev pub decreases-comparable : goal.decreases-comparable
decreases-comparable l = 32 * l.depth + 7

abbrev pub decreases-comparison : goal.decreases-comparison
decreases-comparison l = 32 * l.depth + 8

abbrev pub decreases-query_or_comparison : goal.decreases-query_or_comparison
decreases-query_or_comparison l = 32 * l.depth + 10

abbrev pub decreases-single_comparison : goal.decreases-single_comparison
decreases-single_comparison l = 32 * l.depth + 9

abbrev pub decreases-call_or_comparison : goal.decreases-call_or_comparison
decreases-call_or_comparison l = 32 * l.depth + 9

abbrev pub decreases-literal_comparison : goal.decreases-literal_comparison
decreases-literal_comparison l = 32 * l.depth + 9

abbrev pub decreases-call_test : goal.decreases-call_test
decreases-call_test l = 32 * l.depth + 7

abbrev pub decreases-test : goal.decreases-test
decreases-test l = 32 * l.depth + 10

abbrev pub decreases-negated : goal.decreases-negated
decreases-negated l = 32 * l.depth + 11

abbrev pub decreases-plain : goal.decreases-plain
decreases-plain l = 32 * l.depth + 11

abbrev pub decreases-basic : goal.decreases-basic
decreases-basic l = 32 * l.depth + 12

abbrev pub decreases-push_next_basic : goal.decreases-push_next_basic
decreases-push_next_basic l = 32 * l.depth + 13

abbrev pub decreases-push_more_basics : goal.decreases-push_more_basics
decreases-push_more_basics l = 32 * l.depth + 14

abbrev pub decreases-conjunction : goal.decreases-conjunction
decreases-conjunction l = 32 * l.depth + 15

abbrev pub decreases-push_next_conjunction : goal.decreases-push_next_conjunction
decreases-push_next_conjunction l = 32 * l.depth + 16

abbrev pub decreases-push_more_conjunctions : goal.decreases-push_more_conjunctions
decreases-push_more_conjunctions l = 32 * l.depth + 17

-- what was read so far, and then what is still read
abbrev pub invariant-push_more_selectors-loop : goal.invariant-push_more_selectors-loop
invariant-push_more_selectors-loop l = with_front (map selector_view l.all.items) (many (next_selector clamp (logical_at clamp l.depth)) (length l.fn.self.rest.now - l.counter) l.self.rest.now) ≡ with_front (map selector_view l.fn.all.items) (all_of (next_selector clamp (logical_at clamp l.depth)) l.fn.self.rest.now)

-- what was read so far, and then what is still read
abbrev pub invariant-segments-loop : goal.invariant-segments-loop
invariant-segments-loop l = with_front (map segment_view l.all.items) (many (next_segment clamp (logical_at clamp l.depth)) (length l.fn.self.rest.now - l.counter) l.self.rest.now) ≡ all_of (next_segment clamp (logical_at clamp l.depth)) l.fn.self.rest.now

-- what was read so far, and then what is still read
abbrev pub invariant-push_more_arguments-loop : goal.invariant-push_more_arguments-loop
invariant-push_more_arguments-loop l = with_front (map argument_view l.all.items) (many (next_argument clamp (logical_at clamp l.depth)) (length l.fn.self.rest.now - l.counter) l.self.rest.now) ≡ with_front (map argument_view l.fn.all.items) (all_of (next_argument clamp (logical_at clamp l.depth)) l.fn.self.rest.now)

-- what was read so far, and then what is still read
abbrev pub invariant-push_more_basics-loop : goal.invariant-push_more_basics-loop
invariant-push_more_basics-loop l = with_front (map logical_view l.all.items) (many (next_basic clamp (logical_at clamp l.depth)) (length l.fn.self.rest.now - l.counter) l.self.rest.now) ≡ with_front (map logical_view l.fn.all.items) (all_of (next_basic clamp (logical_at clamp l.depth)) l.fn.self.rest.now)

-- what was read so far, and then what is still read
abbrev pub invariant-push_more_conjunctions-loop : goal.invariant-push_more_conjunctions-loop
invariant-push_more_conjunctions-loop l = with_front (map logical_view l.all.items) (many (next_and clamp (logical_at clamp l.depth)) (length l.fn.self.rest.now - l.counter) l.self.rest.now) ≡ with_front (map logical_view l.fn.all.items) (all_of (next_and clamp (logical_at clamp l.depth)) l.fn.self.rest.now)
