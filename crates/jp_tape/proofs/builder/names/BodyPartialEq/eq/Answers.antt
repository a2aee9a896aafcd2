use Rattle.jp_tape.proofs.Repeated.{text_is, plain_equal}
use Rattle.jp_tape.proofs.builder.names.BodyPartialEq.eq.Goals as goal

pub equal-requires-clause-first : goal.equal-requires-clause-first
equal-requires-clause-first c = text_is c.args.self.now.bytes.now c.args.self.now.is_text

pub equal-requires-clause-second : goal.equal-requires-clause-second
equal-requires-clause-second c = text_is c.args.other.now.bytes.now c.args.other.now.is_text

pub returns-then-other : goal.returns-then-other
returns-then-other c =
    let a = c.args.self.now in
    let b = c.args.other.now in
    plain_equal a.bytes.now b.bytes.now c.equal_bytes.result a.is_text b.is_text (a.stands_for_itself c.if-self.true) (b.stands_for_itself c.if-other.true) c.equal_bytes.ensures
