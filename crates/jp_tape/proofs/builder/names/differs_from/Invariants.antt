use Rattle.jp_tape.specs.Names.{DiffersFrom}
use Rattle.jp_tape.proofs.builder.names.differs_from.Given as goal

abbrev pub invariant-loop-other : goal.invariant-loop-other
invariant-loop-other l = DiffersFrom l.line l.name l.others l.other-index
