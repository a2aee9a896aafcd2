-- Bytes are ordered as the scalars that they spell.
use Rattle.std.proofs.Common.{◌∙◌, ap, List, ℕ}
use Rattle.std.specs.Cmp.Lexicographic.{slice_cmp}
use Rattle.std.specs.Ordering.{nat_cmp}
use Rattle.jp_strings.proofs.Orders.{plain_text_ordered}
use Rattle.jp_strings.proofs.order.compare_text.Goals as goal

pub returns-then-is_plain : goal.returns-then-is_plain
returns-then-is_plain c =
    c.cmp.ensures
    ∙ (ap (λ (bytes : List ℕ). slice_cmp nat_cmp c.args.body.now bytes) c.as_bytes.ensures.value
    ∙ plain_text_ordered c.args.body.now c.args.text.now c.requires (c.is_plain.ensures.plain c.if-is_plain.true) c.utf8.text)
