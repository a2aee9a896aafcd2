-- The lines of the nodes that are told, one after another.
use Rattle.std.proofs.Common.{◌≡◌, ◌∙◌, ◌==◌, ℕ, ◌<◌, List, false, length, [], ◌∷◌, ◌++◌, ap, refl, sym, subst}
use Rattle.std.specs.Prelude.{Err, Ok, OnOk, Option, Result, Some, if◌then◌else◌}
use Rattle.std.proofs.lemmas.Bool.{eqb-true, false_from_ne_true}
use Rattle.jp_survey.specs.Foldings.{is_over}
use Rattle.jp_survey.specs.Paths.{Line}
use Rattle.jp_survey.specs.Seen.{HasSeen, HasTold}
use Rattle.jp_survey.specs.Told.{Told, between, line_so_far, lines_before, lines_in, within}
use Rattle.jp_survey.specs.Trees.{HasCounted, IsTree, folded_of, links_of, names_of}
use Rattle.jp_survey.specs.declared.tree.Tree.{Tree}
use Rattle.jp_survey.proofs.Begun.{line_ends}
use Rattle.jp_survey.proofs.Seen.{seen_counted}

-- all lines have ended
pub told_ends : (fold : ℕ) (told : Told) (number : Option ℕ) (tree : Tree) → HasTold fold told number tree → HasSeen fold (lines_in told) tree
told_ends fold (between ended) number tree h = h.1
told_ends fold (within ended last line) number tree h = line_ends fold ended line tree h.1

-- the line of another number does not go on, so the lines before have ended
pub line_is_new : (fold : ℕ) (told : Told) (number : Option ℕ) (next : ℕ) (tree : Tree) → (number ≡ Some next → ⊥) → HasTold fold told number tree
    → HasSeen fold (lines_before told next) tree × (line_so_far told next ≡ [])
line_is_new fold (between ended) number next tree apart h = (h.1, refl)
line_is_new fold (within ended last line) number next tree apart h =
    let other = false_from_ne_true (last == next) (λ e. apart (h.0 ∙ ap (λ (n : ℕ). Some n) (eqb-true last next e))) in
    subst (λ b. HasSeen fold (if b then ended else ended ++ line ∷ []) tree × ((if b then line else []) ≡ [])) (sym other) (line_ends fold ended line tree h.1, refl)

-- objects are folded in the end

pub all_counted : {A E : Type 0} (r : Result A E) (fold : ℕ) (lines : List Line) (tree : Tree) → OnOk r (HasSeen fold lines tree) → OnOk r (IsTree tree)
    → OnOk r ((place : ℕ) → place < length (links_of tree) → is_over tree.fold (links_of tree) place ≡ false) → OnOk r (HasCounted fold (names_of tree) lines (folded_of tree))
all_counted (Ok done) fold lines tree seen is none = seen_counted fold lines tree is seen none
all_counted (Err e) fold lines tree seen is none = tt
