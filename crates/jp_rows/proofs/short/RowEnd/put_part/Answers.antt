-- The part is the last bytes of the block that ends with it.
use Rattle.std.proofs.Common.{◌≡◌, ◌++◌, List, ℕ, subst, arith}
use Rattle.std.specs.Prelude.{IfSome}
use Rattle.jp_rows.proofs.Blocks.{last_between}
use Rattle.jp_rows.proofs.short.RowEnd.put_part.Goals as goal

pub returns-then-stop-ge-BLOCK : goal.returns-then-stop-ge-BLOCK
returns-then-stop-ge-BLOCK c =
    let part = c.args.part in
    let is = last_between c.args.line.now part.start part.end c.requires.order (omega (arith, c.if-stop-ge-BLOCK.true)) (omega (arith, c.if-stop-start-le-BLOCK.true)) in
    subst (λ (t : List ℕ). IfSome c.put_last.result (λ _. c.put_last.new.self ≡ t ++ c.args.self.now)) is c.put_last.ensures
