use Rattle.std.proofs.Common.{ℕ, List, [], ◌∷◌, ◌++◌, ◌∙◌, ap₂, sym, arith}
use Rattle.std.proofs.lemmas.List.Edits.{between_more}
use Rattle.jp_decimal.specs.Magnitudes.{digits}
use Rattle.jp_decimal.proofs.parts.Magnitude.digits_between.Goals as goal

pub loop-position-preserved : goal.loop-position-preserved
loop-position-preserved c =
    c.in_ok-push.ensures.ok
    ∙ (ap₂ (λ (xs : List ℕ) (d : ℕ). xs ++ d ∷ []) c.loop-position.invariant c.digit.ensures
    ∙ sym (between_more (digits c.args.self.now) c.args.from c.loop-position.position 0x30 (omega arith) (omega arith)))
