use Rattle.std.proofs.Common.{sym, subst}
use Rattle.jp_model.specs.Pattern.Classes.{in_item, in_property}
use Rattle.std.specs.Int.{bit_not, w128}
use Rattle.jp_iregexp.specs.Nodes.{item_of, property_of}
use Rattle.jp_iregexp.specs.States.{AreCodes}
use Rattle.jp_iregexp.proofs.AsciiSets.{other_codes}
use Rattle.jp_iregexp.proofs.codes.codes_of_item.Goals as goal

pub returns-in-Without : goal.returns-in-Without
returns-in-Without c =
    let codes = c.codes_of_property-in-Without.result in
    subst (λ i. AreCodes (λ scalar. in_item scalar (item_of i)) (bit_not w128 codes)) (sym c.in-Without.is)
    (other_codes (in_property (property_of c.in-Without.property)) codes c.codes_of_property-in-Without.type_inv c.codes_of_property-in-Without.ensures)
