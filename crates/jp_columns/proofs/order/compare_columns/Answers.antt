-- The bytes of two names are ordered as their scalars.
use Rattle.std.proofs.Common.{◌∙◌, ap₂}
use Rattle.std.specs.Cmp.Lexicographic.{slice_cmp}
use Rattle.std.specs.Ordering.{nat_cmp}
use Rattle.jp_strings.proofs.Orders.{texts_ordered}
use Rattle.jp_columns.proofs.order.compare_columns.Goals as goal

pub returns : goal.returns
returns c =
    c.cmp.ensures ∙ (texts_ordered c.name_of.result.now c.name_of-2.result.now c.name_of.utf8 c.name_of-2.utf8
    ∙ ap₂ (slice_cmp nat_cmp) c.name_of.ensures c.name_of-2.ensures)
