use Rattle.jp_tape.proofs.Quotes.{closes}
use Rattle.jp_tape.proofs.builder.tokens.closing_quote.Goals as goal

pub returns : goal.returns
returns c line from opens ahead = closes line c.args.marks.now from opens ahead c.requires.two
