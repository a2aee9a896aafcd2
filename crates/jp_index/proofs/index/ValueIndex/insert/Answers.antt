-- What changes is put in, for which room was made.
use Rattle.std.proofs.Common.{subst}
use Rattle.jp_nodes.specs.Cursors.{root_of}
use Rattle.jp_index.specs.Entries.{entry_of}
use Rattle.jp_index.specs.Indexes.{IsChange}
use Rattle.jp_index.proofs.index.ValueIndex.insert.Goals as goal

pub returns-clause-ok : goal.returns-clause-ok
returns-clause-ok c = λ path entries is.
    c.set.ensures.entries path entries c.args.line (entry_of path c.args.line (root_of c.args.root)) (c.reserve.ensures.same path entries is)
    (subst (λ p. IsChange c.in_ok-changes.changes p c.args.line (entry_of p c.args.line (root_of c.args.root))) is.path_is c.in_ok-changes.ensures)
