use Rattle.std.proofs.Common.{ℕ, ◌+◌, List, length, sym, ◌∙◌, ap, arith}
use Rattle.jp_tape.proofs.builder.fault_of_deep.Goals as goal

pub read_text-requires-clause-told : goal.read_text-requires-clause-told
read_text-requires-clause-told c =
    let b = (c.new-reader.ensures.begun c.args.line.now c.requires.marks).marks_are in
    let n = ap (λ (ms : List ℕ). length ms) (b ∙ sym c.requires.marks) in
    (length c.args.marks.now + c.new-reader.result.most_depth + 1, omega (arith, n), tt)
