-- The numbers that are kept are those of the entries.
use Rattle.std.proofs.Common.{◌≡◌, ◌∙◌, IfOk, subst, sym}
use Rattle.jp_index.proofs.Found.{lines_are}
use Rattle.jp_index.proofs.index.ValueIndex.lines.Goals as goal

pub returns : goal.returns
returns c = λ path entries is.
    subst (λ ls. IfOk c.numbers.result (λ lines. lines.items ≡ ls)) (c.args.self.now.kept_are ∙ sym (lines_are path 1 c.args.self.now.cells.items entries is.cells_are)) c.numbers.ensures
