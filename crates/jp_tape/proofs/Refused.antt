-- The first fault of the tree is the status of the line.
use Rattle.std.proofs.Common.{◌≡◌, ℕ, false, List, ◌∙◌, ap, subst, Some, IsUtf8}
use Rattle.std.proofs.lemmas.Bool.{cond-true, cond-false}
use Rattle.std.proofs.lemmas.Str.{is_utf8-from_IsUtf8}
use Rattle.jp_model.specs.declared.Framing.{Framing}
use Rattle.jp_model.specs.declared.LineFault.{LineFault}
use Rattle.jp_model.specs.Lines.{is_blank}
use Rattle.jp_model.specs.Json.Tree.{Tree}
use Rattle.jp_model.specs.Json.Spelling.{Text}
use Rattle.jp_model.specs.Json.Reader.{status_of_text, status_of_tree}
use Rattle.jp_model.specs.Json.Status.{HasStatus, refused, fault_of_tree}
use Rattle.jp_model.proofs.Reader.Whole.{tree_whole}
use Rattle.jp_model.proofs.Reader.Statuses.{each_status}

pub refused_of : (framing : Framing) (line : List ℕ) (fault : LineFault) (t : Tree) → is_blank line ≡ false → IsUtf8 line → Text line t → fault_of_tree framing line t ≡ Some fault → HasStatus framing line (refused fault)
refused_of framing line fault t n u h e =
    subst (λ x. HasStatus framing line x)
    (cond-false _ _ _ n ∙ (cond-true _ _ _ (is_utf8-from_IsUtf8 line u) ∙ (ap (status_of_text framing line) (tree_whole line t h) ∙ ap (status_of_tree t) e))) (each_status framing line)
