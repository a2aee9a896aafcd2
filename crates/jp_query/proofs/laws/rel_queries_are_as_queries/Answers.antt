use Rattle.jp_query.proofs.Relatives.{same_status}
use Rattle.jp_query.proofs.laws.rel_queries_are_as_queries.Goals as goal

pub returns : goal.returns
returns c = same_status
