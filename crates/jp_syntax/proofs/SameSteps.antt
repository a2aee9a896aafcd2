-- Equality of steps as the program has them.
use Rattle.std.proofs.Common.{◌≡◌, ℕ, List, [], ◌∷◌, ◌&&◌, map, bytes_eq, refl, sym, ap, ◌∙◌}
use Rattle.std.specs.Prelude.{chars, IsUtf8}
use Rattle.std.proofs.lemmas.Bool.Decides.{same_from_decides}
use Rattle.std.proofs.lemmas.Slice.Eq.{bytes_eq-Decides}
use Rattle.std.proofs.lemmas.Str.{encodes-chars}
use lib.Pointwise.{pointwise}
use lib.Utf8.{encodes}
use Rattle.jp_model.specs.Characters.{text_equal}
use Rattle.jp_model.specs.Steps.{step_equal, steps_equal}
use Rattle.jp_syntax.specs.SingularPaths.{step_view}
use Rattle.jp_syntax.specs.declared.paths.Step.{Step}

-- texts are equal where their scalars are
pub same_texts : (x y : List ℕ) → IsUtf8 x → IsUtf8 y → bytes_eq x y ≡ text_equal (chars x) (chars y)
same_texts x y u v =
    same_from_decides {P = x ≡ y} (bytes_eq x y) (text_equal (chars x) (chars y)) (bytes_eq-Decides x y)
    (λ h. sym (encodes-chars x u) ∙ (ap encodes ((bytes_eq-Decides (chars x) (chars y)).0 h) ∙ encodes-chars y v), λ e. (bytes_eq-Decides (chars x) (chars y)).1 (ap chars e))

pub same_paths : (ss ts : List Step) → pointwise (λ a b. step_equal (step_view a) (step_view b)) ss ts ≡ steps_equal (map step_view ss) (map step_view ts)
same_paths [] [] = refl
same_paths [] (t ∷ ts) = refl
same_paths (s ∷ ss) [] = refl
same_paths (s ∷ ss) (t ∷ ts) = ap (λ b. step_equal (step_view s) (step_view t) && b) (same_paths ss ts)
