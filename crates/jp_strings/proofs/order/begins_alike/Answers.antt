-- A body whose first byte is neither a backslash nor the first of a text spells another.
use Rattle.std.proofs.Common.{◌∙◌, sym, ap, arith, ℕ, List, slice_index_or}
use Rattle.std.proofs.lemmas.Bool.{eqb-false}
use Rattle.jp_strings.proofs.Widths.{unlike_starts}
use Rattle.jp_strings.proofs.order.begins_alike.Goals as goal

pub returns-else-body-eq92 : goal.returns-else-body-eq92
returns-else-body-eq92 c =
    let none = eqb-false _ _ (sym (c.if-is_empty.ensures)) in
    λ f. unlike_starts c.args.body.now c.args.text.now c.requires c.utf8.text (omega (arith, none)) c.if-body-eq92.false (λ e. eqb-false _ _ f (e ∙ sym (ap (λ (xs : List ℕ). slice_index_or xs 0 0) c.as_bytes.ensures.value)))
