-- One cell is another, and its line is kept or is not.
use Rattle.std.proofs.Common.{◌∙◌, ◌-◌, Bool, List, ℕ, ap₂, arith}
use Rattle.std.specs.Option.{is_some}
use Rattle.jp_index.specs.Numbered.{with_number}
use Rattle.jp_index.proofs.Numbered.{lines_set}
use Rattle.jp_index.proofs.index.ValueIndex.set_cell.Goals as goal

pub invariant_of-self-clause-kept_are : goal.invariant_of-self-clause-kept_are
invariant_of-self-clause-kept_are c =
    c.set.ensures.lines
    ∙ (ap₂ (λ (b : Bool) (ns : List ℕ). with_number c.args.line b ns) c.is_some.ensures c.args.self.now.kept_are
    ∙ lines_set is_some 1 c.args.self.now.cells.items (c.args.line - 1) c.args.line c.args.cell (omega (arith, c.requires.line, c.requires.there)) (omega (arith, c.requires.line)))
