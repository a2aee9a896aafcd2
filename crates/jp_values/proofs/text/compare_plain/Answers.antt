-- Bytes are ordered as the scalars that they spell.
use Rattle.std.proofs.Common.{◌∙◌, ap₂, List, ℕ}
use Rattle.std.specs.Cmp.Lexicographic.{slice_cmp}
use Rattle.std.specs.Ordering.{nat_cmp}
use Rattle.jp_strings.proofs.Orders.{texts_ordered}
use Rattle.jp_values.proofs.text.compare_plain.Goals as goal

pub returns : goal.returns
returns c =
    c.cmp.ensures
    ∙ (ap₂ (λ (a b : List ℕ). slice_cmp nat_cmp a b) c.as_bytes.ensures.value c.as_bytes-2.ensures.value
    ∙ texts_ordered c.args.plain.now c.args.other.now c.utf8.plain c.utf8.other)
