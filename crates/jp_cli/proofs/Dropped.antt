-- What `drop` answers where there is no such index.
use Rattle.std.proofs.Common.{◌≡◌, ◌∙◌, ℕ, List, [], ◌∷◌, Bool, true, false, ap, sym, refl, if◌then◌else◌, codes}
use Rattle.std.specs.Prelude.{Some, ◌||◌}
use Rattle.jp_model.specs.declared.Setup.{Setup}
use Rattle.jp_model.specs.Query.Status.{QueryStatus}
use Rattle.jp_model.specs.Script.Commands.{drop_line}
use Rattle.jp_model.specs.Script.Machine.{Outcome, step, keeps, error, said, has_path, without_path, index_path, drop_answer}
use Rattle.jp_model.specs.Steps.{Step, steps_equal}
use Rattle.jp_store.specs.Collections.{Collection, without_index}

-- none is left out
without_absent : (p : List Step) (paths : List (List Step)) → has_path p paths ≡ false → without_path p paths ≡ paths
without_absent p [] h = refl
without_absent p (q ∷ qs) h = by_test (steps_equal p q) refl h (without_absent p qs)
  where
    by_test : (b : Bool) → steps_equal p q ≡ b → b || has_path p qs ≡ false → (has_path p qs ≡ false → without_path p qs ≡ qs) → without_path p (q ∷ qs) ≡ q ∷ qs
    by_test true e k rest = absurd (cc)
    by_test false e k rest = ap (λ b. if b then without_path p qs else q ∷ without_path p qs) e ∙ ap (λ (ps : List (List Step)). q ∷ ps) (rest k)

module _ (query_of : List ℕ → QueryStatus) (setup : Setup) (c : Collection) (text : List ℕ) (p : List Step) (is : index_path (query_of text) ≡ Some p) (absent : has_path p c.state.paths ≡ false) where
  keeps_is : step query_of setup c.state (drop_line text) ≡ keeps (error (codes "index missing")) c.state
  keeps_is =
      ap (drop_answer c.state) is
      ∙ ap (λ b. if b then record { written = said (codes "dropped"); after = record c.state { paths = without_path p c.state.paths } } else keeps (error (codes "index missing")) c.state) absent

  pub missing : (new : Collection) → new ≡ without_index p c → (error (codes "index missing") ≡ (step query_of setup c.state (drop_line text)).written) × (new.state ≡ (step query_of setup c.state (drop_line text)).after)
  missing new same =
      let rest : without_path p c.state.paths ≡ c.state.paths = without_absent p c.state.paths absent in (
        sym (ap (λ (o : Outcome). o.written) keeps_is),
        ap (λ (d : Collection). d.state) same ∙ (ap (λ (ps : List (List Step)). record c.state { paths = ps }) rest ∙ sym (ap (λ (o : Outcome). o.after) keeps_is)),
      )
