-- Other than two arguments have no such text.
use Rattle.std.proofs.Common.{◌≡◌, ◌∷◌, ℕ, List, [], Option, None, length, refl}
use Rattle.jp_syntax.specs.View.{arguments_view}
use Rattle.jp_syntax.specs.declared.tree.Argument.{Argument}
use Rattle.jp_patterns.specs.Patterns.{second_text}
use Rattle.jp_patterns.proofs.literals.second_text.Goals as goal

not_two : (xs : List Argument) → (length xs ≡ 2 → ⊥) → ◌≡◌ {A = Option (List ℕ)} None (second_text (arguments_view xs))
not_two [] h = refl
not_two (x ∷ []) h = refl
not_two (x ∷ y ∷ []) h = absurd (h refl)
not_two (x ∷ y ∷ z ∷ xs) h = refl

pub returns-then-arguments-ne2 : goal.returns-then-arguments-ne2
returns-then-arguments-ne2 c = not_two c.args.arguments.now c.if-arguments-ne2.true
