use Rattle.std.proofs.Common.{◌∙◌}
use Rattle.jp_strings.proofs.Orders.{plain_ordered}
use Rattle.jp_tape.proofs.Repeated.{text_is}
use Rattle.jp_tape.proofs.builder.names.BodyOrd.cmp.Goals as goal

pub compare-requires-clause-first : goal.compare-requires-clause-first
compare-requires-clause-first c = text_is c.args.self.now.bytes.now c.args.self.now.is_text

pub compare-requires-clause-second : goal.compare-requires-clause-second
compare-requires-clause-second c = text_is c.args.other.now.bytes.now c.args.other.now.is_text

pub returns-then-other : goal.returns-then-other
returns-then-other c =
    let a = c.args.self.now in
    let b = c.args.other.now in
    c.cmp.ensures ∙ plain_ordered a.bytes.now b.bytes.now (text_is a.bytes.now a.is_text) (text_is b.bytes.now b.is_text) (a.stands_for_itself c.if-self.true) (b.stands_for_itself c.if-other.true)
