use Rattle.std.proofs.Common.{take, sym, ◌∙◌}
use Rattle.jp_cut.proofs.Passing.{keeps_open}
use Rattle.jp_cut.proofs.skipping.pass_on.Goals as goal

pub returns-then-is_inside-clause-keeps : goal.returns-then-is_inside-clause-keeps
returns-then-is_inside-clause-keeps c =
    let passes = c.pass_open.ensures.passes in
    let keeps = keeps_open c.args.pieces c.args.known (take c.pass_open.result.len c.args.bytes.now) (sym c.is_inside.ensures ∙ c.if-is_inside.true) passes.stays in
    record { are = keeps.0; same = passes.same ∙ sym keeps.1 }
