use Rattle.std.proofs.Common.{◌-◌, get_or, arith}
use Rattle.std.proofs.lemmas.Bool.Decides.{eqb_tells}
use Rattle.jp_cut.proofs.Blocks.{passes_to}
use Rattle.jp_cut.proofs.skipping.pass_to_end.Goals as goal

pub returns-clause-passes : goal.returns-clause-passes
returns-clause-passes c =
    passes_to c.args.known c.args.block.now c.args.end (omega (arith, c.if-end-eq0.false)) (omega (arith, c.requires.within, c.told-block)) c.if-block-end-eq92.false
    c.requires.stays c.requires.one c.requires.outside
