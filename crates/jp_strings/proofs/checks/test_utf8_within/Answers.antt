use Rattle.std.proofs.Common.{◌≡◌, ◌∙◌, sym, arith, length, true, false}
use Rattle.jp_model.specs.Json.Places.{bytes_between}
use Rattle.jp_strings.proofs.Answers.{no_body, reached}
use Rattle.jp_strings.proofs.Slices.{between_stands}
use Rattle.jp_strings.proofs.checks.test_utf8_within.Goals as goal

pub returns-then-has_lone : goal.returns-then-has_lone
returns-then-has_lone c =
    let end : c.loop-at.at ≡ length (bytes_between c.args.line.now c.args.from c.args.to) = (let w = c.loop-at.invariant.within in omega arith) in
    reached (bytes_between c.args.line.now c.args.from c.args.to) c.loop-at.at c.loop-at.seen true c.loop-at.invariant.same end (sym c.has_lone.ensures ∙ c.if-has_lone.true)

pub returns : goal.returns
returns c =
    let end : c.loop-at.at ≡ length (bytes_between c.args.line.now c.args.from c.args.to) = (let w = c.loop-at.invariant.within in omega arith) in
    let found = reached (bytes_between c.args.line.now c.args.from c.args.to) c.loop-at.at c.loop-at.seen false c.loop-at.invariant.same end (sym c.has_lone.ensures ∙ c.if-has_lone.false) in
    record { points = found.0; spelled = found.1; is_whole = found.2 }

pub returns-in_default : goal.returns-in_default
returns-in_default c = no_body (bytes_between c.args.line.now c.args.from c.args.to) c.loop-at.at c.loop-at.seen c.loop-at.invariant.same c.in_default.ensures

pub advance-requires-clause-place : goal.advance-requires-clause-place
advance-requires-clause-place c = between_stands c.args.line.now c.args.from c.args.to c.requires.order c.requires.within c.requires.closes
