use Rattle.jp_laws.proofs.Defaults.{nodes_own, nodes_same, rows_same}
use Rattle.jp_laws.proofs.calls.no_default_is_reached.Goals as goal

pub returns-clause-own : goal.returns-clause-own
returns-clause-own c = nodes_own

pub returns-clause-queries : goal.returns-clause-queries
returns-clause-queries c = λ d q list t h. nodes_same d q h list t

pub returns-clause-rows : goal.returns-clause-rows
returns-clause-rows c = rows_same
