use Rattle.std.proofs.Common.{◌≡◌, ◌++◌, [], ◌∷◌, Some, length, map}
use Rattle.std.proofs.lemmas.Result.{err_from_is_err_and}
use Rattle.std.proofs.lemmas.List.{map_push}
use Rattle.jp_query.specs.Integers.{clamp}
use Rattle.jp_query.specs.Reading.Scalars.{all_of}
use Rattle.jp_query.specs.Reading.Queries.{next_singular}
use Rattle.jp_syntax.specs.View.{segment_view}
use Rattle.jp_query.proofs.Loop.{goes_on, fails, stops, is_done}
use Rattle.jp_query.proofs.parser.Parser.singular_list.Goals as goal
use Rattle.jp_query.proofs.parser.Parser.singular_list.Goals.{else-loop-test, then-loop-test+in_ok-one+in_default}

pub returns-in_err-one : goal.returns-in_err-one
returns-in_err-one c =
    let p = err_from_is_err_and c.from_residual.result c.from_residual.ensures.1 in
    rw (p.1, p.2) (fails (next_singular clamp) (map segment_view c.loop.all.items) (length c.args.self.now.rest.now) c.loop.counter c.loop.self.rest.now (all_of (next_singular clamp) c.args.self.now.rest.now) c.in_err-one.field-0.0 c.loop-test.true c.in_err-one.ensures c.loop.invariant)

pub loop-preserved : goal.loop-preserved
loop-preserved c =
    let e : map segment_view c.push.new.self.items ≡ map segment_view c.loop.all.items ++ segment_view c.in-Some.one ∷ [] = rw c.in_ok-push.ensures.items (map_push _ c.loop.all.items c.in-Some.one) in
    let next = c.next_singular.new.self.rest.now in
    let one : (next_singular clamp) c.loop.self.rest.now ≡ Some (Some (segment_view c.in-Some.one, next)) = rw c.in-Some.is at c.in_ok-one.ensures in
    rw e (goes_on (next_singular clamp) (map segment_view c.loop.all.items) (length c.args.self.now.rest.now) c.loop.counter c.loop.self.rest.now (all_of (next_singular clamp) c.args.self.now.rest.now) (segment_view c.in-Some.one) next c.loop-test.true one c.loop.invariant)

pub returns : goal.returns
returns c = elim c.loop-test.branch [
  | else-loop-test w ↦ rw w.self-is (is_done (next_singular clamp) (map segment_view c.loop.all.items) (length c.args.self.now.rest.now) c.loop.counter c.loop.self.rest.now (all_of (next_singular clamp) c.args.self.now.rest.now) w.loop-test.false c.loop.invariant)
  | then-loop-test+in_ok-one+in_default w ↦ let h = rw w.in_default.is at w.in_ok-one.ensures in rw (w.self-is, h.1) (stops (next_singular clamp) (map segment_view c.loop.all.items) (length c.args.self.now.rest.now) c.loop.counter c.loop.self.rest.now (all_of (next_singular clamp) c.args.self.now.rest.now) w.loop-test.true h.0 c.loop.invariant)
]
