-- Without a member no node is selected.
use Rattle.std.proofs.Common.{◌∙◌, ap, sym}
use Rattle.jp_model.proofs.Seek.{no_nodes}
use Rattle.jp_eval.specs.Compiled.{program_view}
use Rattle.jp_grep.specs.Asked.{asked_tree}
use Rattle.jp_grep.specs.Matching.{has_nodes}
use Rattle.jp_grep.proofs.asked.AskedQuery.selects.Goals as goal

pub returns-in_default-begin-clause-some : goal.returns-in_default-begin-clause-some
returns-in_default-begin-clause-some c =
    ap has_nodes (sym (no_nodes (program_view c.args.self.now.program) (asked_tree c.args.asked.now)) ∙ c.in_default-begin.ensures.nodes)
