-- A body that is no longer than a text, and not its bytes, spells another.
use Rattle.std.proofs.Common.{◌∙◌, sym, arith}
use Rattle.std.proofs.lemmas.Bool.{iff_false}
use Rattle.jp_strings.proofs.Widths.{unlike_texts}
use Rattle.jp_strings.proofs.order.may_spell.Goals as goal

pub returns-else-body-text-clause-other : goal.returns-else-body-text-clause-other
returns-else-body-text-clause-other c =
    let same = c.as_bytes.ensures.value in
    let short = c.if-body-text.false in
    λ f. unlike_texts c.args.body.now c.args.text.now c.requires c.utf8.text (omega (arith, short)) (λ e. iff_false c.equal_bytes.ensures f (e ∙ sym same))

pub returns-else-body-text-clause-bytes : goal.returns-else-body-text-clause-bytes
returns-else-body-text-clause-bytes c = λ h le. c.equal_bytes.ensures.0 h ∙ c.as_bytes.ensures.value
