use Rattle.jp_iregexp.proofs.Law.{patterns_read}
use Rattle.jp_iregexp.proofs.laws.patterns_are_read.Goals as goal

pub returns : goal.returns
returns c = patterns_read
