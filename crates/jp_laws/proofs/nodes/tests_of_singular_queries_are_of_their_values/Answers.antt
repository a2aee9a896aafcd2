use Rattle.jp_laws.proofs.SingularNodes.{test_is_value}
use Rattle.jp_laws.proofs.nodes.tests_of_singular_queries_are_of_their_values.Goals as goal

pub returns-clause-test : goal.returns-clause-test
returns-clause-test c = test_is_value
