-- Between quotes the body decides.
use Rattle.std.proofs.Common.{◌∙◌, sym, arith}
use Rattle.jp_strings.proofs.Texts.{text_of_body}
use Rattle.jp_tally.specs.Texts.{body_in}
use Rattle.jp_tally.proofs.Bodies.{between_quotes, no_text}
use Rattle.jp_tally.proofs.cells.string_body.Goals as goal

pub returns-in-Ok-clause-is : goal.returns-in-Ok-clause-is
returns-in-Ok-clause-is c = sym (between_quotes c.args.text.now (omega arith) c.if-text-ne34.false c.if-text-ne34-2.false ∙ text_of_body (body_in c.args.text.now) c.in-Ok.ensures)

pub returns-in-Err-clause-is : goal.returns-in-Err-clause-is
returns-in-Err-clause-is c = sym (between_quotes c.args.text.now (omega arith) c.if-text-ne34.false c.if-text-ne34-2.false ∙ no_text (body_in c.args.text.now) c.in-Err.field-0 c.in-Err.ensures)
