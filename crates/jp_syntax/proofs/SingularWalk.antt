-- Singular queries, segment by segment.
use Rattle.std.proofs.Common.{◌≡◌, ◌+◌, List, [], ◌∷◌, ◌++◌, length, Option, None, option_map, refl}
use Rattle.jp_model.specs.Steps.{Step}
use Rattle.jp_model.specs.Query.Syntax.{child_segment}
use Rattle.jp_model.specs.Query.Singular.{singular_step}
use Rattle.jp_syntax.specs.View.{selectors_view}
use Rattle.jp_syntax.specs.declared.tree.Selector.{Selector}

-- a segment of no selector, or of two
pub not_singular : (xs : List Selector) → (length xs ≡ 1 → ⊥) → singular_step (child_segment (selectors_view xs)) ≡ None
not_singular [] h = refl
not_singular (x ∷ []) h = absurd (h refl)
not_singular (x ∷ y ∷ ys) h = refl

-- steps in front of others, where those are there
abbrev pub with_front : List Step → Option (List Step) → Option (List Step)
with_front front steps = option_map (λ ss. front ++ ss) steps
