-- Where the collection was not loaded, no byte of the script came and none was written; else the run ends as the script does.
use Rattle.std.proofs.Common.{◌∙◌, ◌||◌, ◌≡◌, true, sym, ap, subst, inl}
use Rattle.jp_model.specs.Script.Headline.{GivenToRun, RunEnded, WasStarved, lines_within}
use Rattle.jp_devices.proofs.Devices.{nothing_came, or_true, received_none}
use Rattle.std.specs.Prelude.{MatchResult}
use Rattle.jp_model.specs.declared.Setup.{Setup}
use Rattle.jp_cli.specs.Runs.{setup_of, setup_with, state_of}
use Rattle.jp_cli.specs.Sessions.{HasRun, HasRunFirst, HasStopped}
use Rattle.jp_store.specs.Collections.{Collection}
use Rattle.jp_model.specs.Script.Commands.{command_of}
use Rattle.jp_query.specs.Status.{query_of}
use Rattle.jp_cli.proofs.Ending.{only_collection, ends, told_of_all, both_ended, passed_by_all}
use Rattle.jp_cli.proofs.engine.run.Goals as goal

pub returns-in-Err-Read-clause-output : goal.returns-in-Err-Read-clause-output
returns-in-Err-Read-clause-output g c =
    let came = c.in-Err-Read.ensures.came in
    let why = rw c.in-Err-Read.field-0-is at came.2 in
    (only_collection came.0, came.1, nothing_came g.R.Read.remaining c.args.script.now c.requires.script, (why.0, why.1, received_none g.W.Write.contents c.args.out.now))

pub returns-in-Err-Size-clause-output : goal.returns-in-Err-Size-clause-output
returns-in-Err-Size-clause-output g c =
    let came = c.in-Err-Size.ensures.came in
    let why = rw c.in-Err-Size.field-0-is at came.2 in
    (only_collection came.0, came.1, nothing_came g.R.Read.remaining c.args.script.now c.requires.script, (why.0, why.1, received_none g.W.Write.contents c.args.out.now))

pub returns-in-Err-Framing-clause-output : goal.returns-in-Err-Framing-clause-output
returns-in-Err-Framing-clause-output g c =
    let came = c.in-Err-Framing.ensures.came in
    let why = rw c.in-Err-Framing.field-0-is at came.2 in
    (only_collection came.0, came.1, nothing_came g.R.Read.remaining c.args.script.now c.requires.script, (why.0, why.1, why.2, received_none g.W.Write.contents c.args.out.now))

pub returns-in-Err-Memory-clause-output : goal.returns-in-Err-Memory-clause-output
returns-in-Err-Memory-clause-output g c =
    let came = c.in-Err-Memory.ensures.came in
    let why = rw c.in-Err-Memory.field-0-is at came.2 in
    let starved : WasStarved c.args.setup came.0 = record { within = why.0; framed = why.1 } in
    (only_collection came.0, came.1, nothing_came g.R.Read.remaining c.args.script.now c.requires.script, inl (starved, received_none g.W.Write.contents c.args.out.now))

pub returns-clause-output : goal.returns-clause-output
returns-clause-output g c =
    let came = c.in-Ok.ensures.came in
    let given = c.run.ensures.output in
    let all : GivenToRun = record { collection = came.0; script = given.0 } in
    let setup_is : setup_of c.new-session.result ≡ c.args.setup =
    c.new-session.ensures.setup ∙ ap (λ (s : Collection). setup_with s c.args.setup.script_most) came.2.3 in
    let state_is = c.new-session.ensures.state ∙ ap (λ (s : Collection). s.state) came.2.3 in (
      all,
      came.1,
      given.1,
      ends query_of c.args.setup g.W.Write.contents c.args.out.now c.run.new.out c.run.result (state_of c.new-session.result) (state_of c.run.new.self) all
          (came.2.0, (came.2.1, came.2.2)) state_is
          (subst (λ (s : Setup). MatchResult c.run.result
          (λ _. (given.0.ended ≡ true) × HasRun query_of command_of g.W.Write.contents c.args.out.now c.run.new.out s (state_of c.new-session.result) given.0.bytes (state_of c.run.new.self))
          (λ fault. HasStopped query_of command_of g.W.Write.contents c.args.out.now c.run.new.out s (state_of c.new-session.result) fault given.0
          × HasRunFirst query_of command_of g.W.Write.contents c.args.out.now c.run.new.out s (state_of c.new-session.result) (lines_within s given.0) (state_of c.run.new.self))) setup_is given.2),
    )

pub returns-clause-told : goal.returns-clause-told
returns-clause-told g c =
    let came = c.in-Ok.ensures.came in
    let out = returns-clause-output g c in
    told_of_all c.run.result _ _ _ _ _ out.0.collection.bytes out.0.script.bytes (RunEnded query_of command_of g.W.Write.contents c.args.out.now c.run.new.out c.args.setup) out.1.0.left out.2.0.left
    (both_ended c.run.result _ _ (came.1.3 came.2.0) c.run.ensures.ended) out.3

pub returns-clause-ended : goal.returns-clause-ended
returns-clause-ended g c =
    let came = c.in-Ok.ensures.came in both_ended c.run.result _ _ (came.1.3 came.2.0) c.run.ensures.ended

pub returns-clause-ends : goal.returns-clause-ends
returns-clause-ends g c =
    let came = c.in-Ok.ensures.came in
    both_ended c.run.result _ _ (came.1.1 ∙ (ap (λ b. c.args.collection.now.ended || b) came.2.0 ∙ sym (or_true c.args.collection.now.ended))) c.run.ensures.end

pub returns-clause-passed : goal.returns-clause-passed
returns-clause-passed g c =
    let out = returns-clause-output g c in
    passed_by_all c.run.result _ g.C.Read.remaining g.R.Read.remaining _ _ _ _ out.0.collection.bytes out.0.script.bytes
    (RunEnded query_of command_of g.W.Write.contents c.args.out.now c.run.new.out c.args.setup) out.1.0 out.2.0 out.3
