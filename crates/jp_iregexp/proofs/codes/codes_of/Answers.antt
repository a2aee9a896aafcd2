use Rattle.std.proofs.Common.{List, map, sym, subst, ap, bit_or, bit_and}
use Rattle.std.specs.Int.{bit_not, w128}
use Rattle.std.specs.List.{list_any}
use Rattle.jp_model.specs.Pattern.Classes.{in_class, in_item}
use Rattle.jp_iregexp.specs.declared.class.Item.{Item}
use Rattle.jp_iregexp.specs.Nodes.{class_of, item_of}
use Rattle.jp_iregexp.specs.States.{AreCodes}
use Rattle.jp_iregexp.proofs.AsciiSets.{dot_codes, negated_codes, plain_codes}
use Rattle.jp_iregexp.proofs.codes.codes_of.Goals as goal

pub returns-in-Dot : goal.returns-in-Dot
returns-in-Dot c =
    let a = c.up_to.result in
    let b = c.up_to-in-Dot.result in
    let d = c.up_to-in-Dot-2.result in
    let e = c.up_to-in-Dot-3.result in
    subst (λ k. AreCodes (in_class (class_of k)) (bit_not w128 (bit_or (bit_and a (bit_not w128 b)) (bit_and d (bit_not w128 e))))) (sym c.in-Dot.is)
    (dot_codes a b d e c.up_to.type_inv c.up_to-in-Dot.type_inv c.up_to-in-Dot-2.type_inv c.up_to-in-Dot-3.type_inv c.up_to.ensures c.up_to-in-Dot.ensures c.up_to-in-Dot-2.ensures c.up_to-in-Dot-3.ensures)

pub returns-then-negated : goal.returns-then-negated
returns-then-negated c =
    let codes = c.codes_of_items-codes.result in
    negated_codes c.in-Members.negated (map item_of c.in-Members.items.items) (class_of c.args.class.now) codes (ap class_of c.in-Members.is) c.if-negated.true c.codes_of_items-codes.type_inv
    (subst (λ (l : List Item). AreCodes (λ s. list_any (in_item s) (map item_of l)) codes) c.as_slice.ensures.value c.codes_of_items-codes.ensures)

pub returns-else-negated : goal.returns-else-negated
returns-else-negated c =
    let codes = c.codes_of_items-codes.result in
    plain_codes c.in-Members.negated (map item_of c.in-Members.items.items) (class_of c.args.class.now) codes (ap class_of c.in-Members.is) c.if-negated.false
    (subst (λ (l : List Item). AreCodes (λ s. list_any (in_item s) (map item_of l)) codes) c.as_slice.ensures.value c.codes_of_items-codes.ensures)
