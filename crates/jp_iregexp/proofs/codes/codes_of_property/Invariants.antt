use Rattle.jp_model.specs.Pattern.Classes.{in_property}
use Rattle.jp_iregexp.specs.Nodes.{property_of}
use Rattle.jp_iregexp.proofs.Masks.{IsMaskBelow}
use Rattle.jp_iregexp.proofs.codes.codes_of_property.Given as goal

abbrev pub invariant-loop-code : goal.invariant-loop-code
invariant-loop-code l = IsMaskBelow (in_property (property_of l.property)) l.code l.all
