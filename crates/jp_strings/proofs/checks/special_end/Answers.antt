use Rattle.std.proofs.Common.{arith}
use Rattle.jp_strings.proofs.Slices.{special_within}
use Rattle.jp_strings.proofs.checks.special_end.Goals as goal

pub first_special-requires : goal.first_special-requires
first_special-requires c = let p = c.requires in omega (arith, p.1.inside, p.2)

pub returns : goal.returns
returns c body s w = let f = c.first_special.ensures in special_within c.args.line.now body c.args.from c.args.at c.first_special.result s w (record { order = f.order; within = f.within; plain = f.plain; stops = f.stops })
