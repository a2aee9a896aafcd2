use Rattle.std.proofs.Common.{◌≡◌, ◌+◌, true, arith, sym, ◌∙◌, ap, subst}
use Rattle.std.specs.Int.{w128}
use Rattle.jp_model.specs.Pattern.Classes.{in_property}
use Rattle.jp_iregexp.specs.Nodes.{property_of}
use Rattle.jp_iregexp.proofs.Masks.{IsMaskBelow, no_mask, take_mask, skip_mask}
use Rattle.jp_iregexp.proofs.AsciiSets.{tested_codes}
use Rattle.jp_iregexp.proofs.codes.codes_of_property.Goals as goal
use Rattle.jp_iregexp.proofs.codes.codes_of_property.Goals.{then-has_property, else-has_property}

pub loop-code-init : goal.loop-code-init
loop-code-init c = no_mask (in_property (property_of c.args.property))

pub loop-code-preserved : goal.loop-code-preserved
loop-code-preserved c =
    let l = c.loop-code in
    let test = in_property (property_of c.args.property) in
    let asked : test l.code ≡ c.has_property.result = ap test (sym c.from.ensures) ∙ sym c.has_property.ensures in
    elim c.if-has_property.branch [
      | then-has_property w ↦ subst (IsMaskBelow test (l.code + 1)) (sym w.all-is) (take_mask w128 test l.code l.all (omega arith) l.invariant (asked ∙ w.if-has_property.true))
      | else-has_property w ↦ subst (IsMaskBelow test (l.code + 1)) (sym w.all-is) (skip_mask test l.code l.all l.invariant (λ h. let t : c.has_property.result ≡ true = sym asked ∙ h in let f = w.if-has_property.false in cc))
    ]

pub returns : goal.returns
returns c = tested_codes (in_property (property_of c.args.property)) c.loop-code.code c.loop-code.all (omega arith) c.loop-code.invariant
