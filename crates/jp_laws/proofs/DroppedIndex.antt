-- A path that is added and taken away again.
use Rattle.std.proofs.Common.{◌≡◌, ◌<◌, ℕ, List, [], ◌∷◌, ◌++◌, length, true, false, nat_le, Option, Some, refl, ap, ◌∙◌, arith, if◌then◌else◌}
use Rattle.std.specs.List.{list_any}
use Rattle.std.proofs.lemmas.Bool.{or_left, or_right, or_parts}
use Rattle.std.proofs.lemmas.Bool.Decides.{nat_tests}
use Rattle.jp_model.specs.declared.Setup.{Setup}
use Rattle.jp_model.specs.Query.Status.{QueryStatus}
use Rattle.jp_model.specs.Script.Commands.{index_line, drop_line}
use Rattle.jp_model.specs.Script.Machine.{State, drop_answer, has_path, index_answer, index_path, step, without_path}
use Rattle.jp_model.specs.Steps.{Step, steps_equal}
use Rattle.jp_syntax.specs.StepEquality.{steps_equal_equiv}

taken_away : (p : List Step) (paths : List (List Step)) → has_path p paths ≡ false → without_path p (paths ++ p ∷ []) ≡ paths
taken_away p [] h = ap (λ b. if b then [] else p ∷ []) (steps_equal_equiv.refl p)
taken_away p (q ∷ paths) h =
    let parts = or_parts (steps_equal p q) (list_any (steps_equal p) paths) h in
    ap (λ b. if b then without_path p (paths ++ p ∷ []) else q ∷ without_path p (paths ++ p ∷ [])) parts.0 ∙ ap (λ l. q ∷ l) (taken_away p paths parts.1)

added : (p : List Step) (paths : List (List Step)) → has_path p (paths ++ p ∷ []) ≡ true
added p [] = or_left (steps_equal p p) false (steps_equal_equiv.refl p)
added p (q ∷ paths) = or_right (steps_equal p q) (has_path p (paths ++ p ∷ [])) (added p paths)

module _ (query_of : List ℕ → QueryStatus) (setup : Setup) (s : State) (x : List ℕ) (p : List Step) where
  few : length s.paths < 16 → nat_le 16 (length s.paths) ≡ false
  few l = search (arith, nat_tests, l)

  indexed : index_path (query_of x) ≡ Some p → has_path p s.paths ≡ false → length s.paths < 16 → (step query_of setup s (index_line x)).after ≡ record s { paths = s.paths ++ p ∷ [] }
  indexed e h l = ap (λ (o : Option (List Step)). (index_answer setup.framing s o).after) e ∙ rw (h, few l) refl

  dropped : index_path (query_of x) ≡ Some p → has_path p s.paths ≡ false → (drop_answer (record s { paths = s.paths ++ p ∷ [] }) (index_path (query_of x))).after ≡ s
  dropped e h =
      ap (λ (o : Option (List Step)). (drop_answer (record s { paths = s.paths ++ p ∷ [] }) o).after) e
      ∙ (rw (added p s.paths) refl ∙ ap (λ (paths : List (List Step)). record s { paths = paths }) (taken_away p s.paths h))

  pub leaves_no_trace : index_path (query_of x) ≡ Some p → has_path p s.paths ≡ false → length s.paths < 16
      → (step query_of setup (step query_of setup s (index_line x)).after (drop_line x)).after ≡ s
  leaves_no_trace e h l = ap (λ (t : State). (drop_answer t (index_path (query_of x))).after) (indexed e h l) ∙ dropped e h
