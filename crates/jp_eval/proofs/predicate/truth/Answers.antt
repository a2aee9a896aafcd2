-- What was compiled means the expression.
use Rattle.std.proofs.Common.{subst}
use Rattle.std.specs.Prelude.{◌≡◌, IfOk}
use Rattle.jp_model.specs.Meaning.Selecting.{truth}
use Rattle.jp_model.specs.Query.Syntax.{Logical}
use Rattle.jp_nodes.specs.Cursors.{node_of}
use Rattle.jp_eval.proofs.predicate.truth.Goals as goal

pub returns : goal.returns
returns c = subst (λ (l : Logical). IfOk c.holds_in.result (λ answer. answer ≡ truth l (node_of c.args.node) (node_of c.args.root).tree)) c.in_ok-predicate.ensures c.holds_in.ensures.truth
