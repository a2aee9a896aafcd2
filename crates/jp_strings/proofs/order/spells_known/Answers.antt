-- A body that is the bytes of a plain text spells it.
use Rattle.std.proofs.Common.{ℕ, List, length, sym, subst, true, refl}
use Rattle.jp_strings.specs.Plain.{ArePlain}
use Rattle.jp_strings.proofs.Runs.{plain_text_equal}
use Rattle.jp_strings.proofs.order.spells_known.Goals as goal

pub returns-then-body-text : goal.returns-then-body-text
returns-then-body-text c =
    let same = c.may_spell.ensures.bytes c.if-not-may_spell.false c.if-body-text.true in
    plain_text_equal true c.args.body.now c.args.text.now c.requires.body
    (subst (λ (bytes : List ℕ). ArePlain bytes 0 (length bytes)) (sym same) (c.requires.text c.if-plain.true)) c.utf8.text (λ h. same) (λ e. refl)
