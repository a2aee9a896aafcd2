use Rattle.jp_tape.proofs.Escapes.{plain_before_escape}
use Rattle.jp_tape.proofs.builder.tokens.is_plain_between.Goals as goal

pub returns-then-last-escape : goal.returns-then-last-escape
returns-then-last-escape c told = plain_before_escape c.args.line.now c.args.from c.args.last c.args.escape c.if-last-escape.true c.requires.unescaped c.requires.first
