use Rattle.jp_laws.proofs.EndIndexes.{from_the_end, before_the_front, past_the_end}
use Rattle.jp_laws.proofs.slices.negative_indexes_count_from_the_end.Goals as goal

pub returns-clause-negative : goal.returns-clause-negative
returns-clause-negative c = from_the_end

pub returns-clause-before : goal.returns-clause-before
returns-clause-before c = before_the_front

pub returns-clause-past : goal.returns-clause-past
returns-clause-past c = past_the_end
