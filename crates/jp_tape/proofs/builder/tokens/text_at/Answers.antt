use Rattle.jp_tape.proofs.Scalars.{found_string, no_string}
use Rattle.jp_tape.proofs.builder.tokens.text_at.Goals as goal

pub returns-clause-found : goal.returns-clause-found
returns-clause-found c =
    let f = c.in-Some.ensures.found in
    found_string c.args.line.now c.args.from c.in-Some.string.end c.in-Some.string.is_lone f.0 f.1 f.2

pub returns-in_default-clause-none : goal.returns-in_default-clause-none
returns-in_default-clause-none c = no_string c.args.line.now c.args.from c.requires.opens.is c.in_default.ensures.none
