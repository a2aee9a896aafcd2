use Rattle.std.proofs.Common.{◌+◌, ◌-◌, length, sym, ◌∙◌, arith}
use Rattle.jp_model.proofs.Reader.Lexical.{clash}
use Rattle.jp_tape.proofs.Scans.{reads_equal}
use Rattle.jp_tape.proofs.builder.scan.word_end.Goals as goal

pub returns-else-eq-clause-none : goal.returns-else-eq-clause-none
returns-else-eq-clause-none c to r =
    clash _ (reads_equal c.args.line.now c.args.word.now c.args.from to (c.args.from + length c.args.word.now - c.args.from) r (omega arith)) (sym c.eq.ensures ∙ c.if-eq.false)
