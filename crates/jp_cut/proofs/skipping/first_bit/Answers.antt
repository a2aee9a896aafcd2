use Rattle.std.proofs.Common.{◌/◌, ◌^◌, ◌<◌, arith}
use Rattle.jp_cut.proofs.BracketBits.{is_first, none_from}
use Rattle.jp_cut.proofs.skipping.first_bit.Goals as goal

pub returns-then-rest-eq0-clause-between : goal.returns-then-rest-eq0-clause-between
returns-then-rest-eq0-clause-between c = λ i order low. none_from c.args.word c.args.from c.if-rest-eq0.true i order

pub returns-clause-within : goal.returns-clause-within
returns-clause-within c = omega (arith, (is_first c.args.word c.args.from c.ranges.word.fits c.if-rest-eq0.false).within)

pub returns-clause-between : goal.returns-clause-between
returns-clause-between c = (is_first c.args.word c.args.from c.ranges.word.fits c.if-rest-eq0.false).between

pub returns-clause-there : goal.returns-clause-there
returns-clause-there c = λ low. (is_first c.args.word c.args.from c.ranges.word.fits c.if-rest-eq0.false).there
