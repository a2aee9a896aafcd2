-- From child to child.
use Rattle.std.proofs.Common.{◌≡◌, ◌+◌, arith, subst, ℕ, Option}
use Rattle.jp_nodes.specs.declared.cursor.Cursor.{Cursor}
use Rattle.jp_children.specs.Walks.{IsAt}
use Rattle.jp_children.proofs.Lines.{line_on, line_of_some}
use Rattle.jp_children.proofs.Walks.{at_next, at_none}
use Rattle.jp_children.proofs.children.skip_siblings.Goals as goal

pub returns-in-None-clause-at : goal.returns-in-None-clause-at
returns-in-None-clause-at c = λ parent index at.
    let passed : ℕ = c.loop-passed._passed in
    at_none parent (index + passed) (index + c.args.count) (subst (λ (o : Option Cursor). IsAt parent (index + passed) o) c.in-None.is (c.loop-passed.invariant.at parent index at)) (omega arith)

pub loop-passed-preserved : goal.loop-passed-preserved
loop-passed-preserved c =
    let passed : ℕ = c.loop-passed._passed in
    let child : Cursor = c.in-Some.child in
    let next : Option Cursor = c.next_sibling-next.result in
    record {
      at = λ parent index at.
          let more : index + passed + 1 ≡ index + (passed + 1) = omega arith in
          subst (λ k. IsAt parent k next) more (at_next parent (index + passed) child next (subst (λ (o : Option Cursor). IsAt parent (index + passed) o) c.in-Some.is (c.loop-passed.invariant.at parent index at)) c.next_sibling-next.ensures.nodes c.next_sibling-next.ensures.children);
      line = λ line within. line_on next _ _ c.next_sibling-next.ensures.line (line_of_some _ child _ c.in-Some.is (c.loop-passed.invariant.line line within));
    }
