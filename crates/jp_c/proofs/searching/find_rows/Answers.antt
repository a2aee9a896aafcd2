-- The rows are the text of what the search told.
use Rattle.std.proofs.Common.{[]}
use Rattle.jp_c.proofs.searching.find_rows.Goals as goal

pub returns-clause-found : goal.returns-clause-found
returns-clause-found c = c.in_ok-refused.ensures.found [] c.new-rows.ensures.text
