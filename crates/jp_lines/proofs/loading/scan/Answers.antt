-- The text is fed at once.
use Rattle.std.proofs.Common.{[]}
use Rattle.jp_lines.proofs.LinesRead.{as_many}
use Rattle.jp_lines.proofs.loading.scan.Goals as goal

pub returns-clause-all : goal.returns-clause-all
returns-clause-all c =
    let started = c.new-scanner.ensures.start c.clear.new.self c.clear.ensures.empty in
    c.in_ok-finish.ensures.all c.args.framing c.args.text.now (c.in_ok-feed.ensures.scanned c.args.framing [] started)

pub returns-clause-count : goal.returns-clause-count
returns-clause-count c =
    let text = c.args.text.now in
    as_many c.args.framing text _ (returns-clause-all c).lines (c.lines_are_those_of_the_text.ensures.bytes c.args.framing text)
