use Rattle.std.proofs.Common.{sym}
use Rattle.jp_query.proofs.Spellings.{number_cut}
use Rattle.jp_query.proofs.parser.numbers.number.Goals as goal

pub overflow_sub-text : goal.overflow_sub-text
overflow_sub-text c = (number_cut c.args.text.now c.in_ok-rest.rest.now (sym c.in_ok-rest.ensures)).0

pub returns : goal.returns
returns c = rw (c.split_at.ensures.front, c.split_at.ensures.back) (sym (number_cut c.args.text.now c.in_ok-rest.rest.now (sym c.in_ok-rest.ensures)).1)
