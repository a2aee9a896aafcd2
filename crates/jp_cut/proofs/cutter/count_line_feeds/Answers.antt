use Rattle.std.proofs.Common.{arith}
use Rattle.jp_cut.proofs.LineFeeds.{none_counted}
use Rattle.jp_cut.proofs.cutter.count_line_feeds.Goals as goal

pub returns-in-None : goal.returns-in-None
returns-in-None c = none_counted c.args.bytes.now (λ k low e. c.in-None.ensures k (omega arith) low e)
