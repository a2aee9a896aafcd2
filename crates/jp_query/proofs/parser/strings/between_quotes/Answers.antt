use Rattle.std.proofs.Common.{◌≡◌, Some, chars, string_bytes, length, sym}
use Rattle.std.proofs.lemmas.Str.{chars-nil}
use Rattle.jp_query.specs.Reading.Scalars.{all_of}
use Rattle.jp_query.specs.Reading.Strings.{next_scalar}
use Rattle.jp_query.proofs.Loop.{begun, goes_on, refused, stops, is_done}
use Rattle.jp_query.proofs.Quotes.{is_refused, is_open, is_closed}
use Rattle.jp_query.proofs.parser.strings.between_quotes.Goals as goal
use Rattle.jp_query.proofs.parser.strings.between_quotes.Goals.{else-loop-test, then-loop-test+in-Some+in_default-next}

pub loop-init : goal.loop-init
loop-init c = rw (c.new-spelled.ensures.bytes, chars-nil) (begun (next_scalar c.args.quote) c.args.text.now)

pub returns-in_default : goal.returns-in_default
returns-in_default c = is_refused c.args.quote c.args.text.now (refused (next_scalar c.args.quote) (chars (string_bytes c.loop.spelled)) (length c.args.text.now) c.loop.counter c.loop.rest.now (all_of (next_scalar c.args.quote) c.args.text.now) c.loop-test.true (sym c.in_default.ensures) c.loop.invariant)

pub loop-preserved : goal.loop-preserved
loop-preserved c =
    let one : next_scalar c.args.quote c.loop.rest.now ≡ Some (Some (c.in-Some-next.scalar, c.in-Some-next.others.now)) = sym (rw c.in-Some-next.is at c.in-Some.ensures) in
    rw c.in_ok-push_scalar.ensures (goes_on (next_scalar c.args.quote) (chars (string_bytes c.loop.spelled)) (length c.args.text.now) c.loop.counter c.loop.rest.now (all_of (next_scalar c.args.quote) c.args.text.now) c.in-Some-next.scalar c.in-Some-next.others.now c.loop-test.true one c.loop.invariant)

pub returns-in-Some-after : goal.returns-in-Some-after
returns-in-Some-after c =
    let read : all_of (next_scalar c.args.quote) c.args.text.now ≡ Some (chars (string_bytes c.loop.spelled), c.loop.rest.now) = elim c.loop-test.branch [
      | else-loop-test w ↦ is_done (next_scalar c.args.quote) (chars (string_bytes c.loop.spelled)) (length c.args.text.now) c.loop.counter c.loop.rest.now (all_of (next_scalar c.args.quote) c.args.text.now) w.loop-test.false c.loop.invariant
      | then-loop-test+in-Some+in_default-next w ↦ stops (next_scalar c.args.quote) (chars (string_bytes c.loop.spelled)) (length c.args.text.now) c.loop.counter c.loop.rest.now (all_of (next_scalar c.args.quote) c.args.text.now) w.loop-test.true (sym (rw w.in_default-next.is at w.in-Some.ensures)) c.loop.invariant
    ] in
    is_closed c.args.quote c.args.text.now (chars (string_bytes c.loop.spelled)) c.loop.rest.now c.in-Some-after.rest.now read (sym c.in-Some-after.ensures)

pub returns : goal.returns
returns c =
    let read : all_of (next_scalar c.args.quote) c.args.text.now ≡ Some (chars (string_bytes c.loop.spelled), c.loop.rest.now) = elim c.loop-test.branch [
      | else-loop-test w ↦ is_done (next_scalar c.args.quote) (chars (string_bytes c.loop.spelled)) (length c.args.text.now) c.loop.counter c.loop.rest.now (all_of (next_scalar c.args.quote) c.args.text.now) w.loop-test.false c.loop.invariant
      | then-loop-test+in-Some+in_default-next w ↦ stops (next_scalar c.args.quote) (chars (string_bytes c.loop.spelled)) (length c.args.text.now) c.loop.counter c.loop.rest.now (all_of (next_scalar c.args.quote) c.args.text.now) w.loop-test.true (sym (rw w.in_default-next.is at w.in-Some.ensures)) c.loop.invariant
    ] in
    is_open c.args.quote c.args.text.now (chars (string_bytes c.loop.spelled)) c.loop.rest.now read (sym c.in-None.ensures)
