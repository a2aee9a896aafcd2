-- There is no cell.
use Rattle.std.proofs.Common.{◌∙◌, length, ap, sym, refl}
use Rattle.jp_model.specs.Numbered.{numbers_where}
use Rattle.jp_index.specs.Cells.{has_key}
use Rattle.jp_index.proofs.Cells.{no_cells}
use Rattle.jp_index.proofs.builder.IndexBuilder.new.Goals as goal

pub returns : goal.returns
returns c = record { path_is = refl; lines_are = ap length c.new.ensures.items; cells_are = no_cells _ 1 _ c.new.ensures.items; keyed_are = c.new-2.ensures.items ∙ sym (ap (numbers_where has_key 1) c.new.ensures.items) }
