-- A line with one byte at its end.
use Rattle.std.proofs.Common.{◌≡◌, ◌∙◌, ℕ, List, [], ◌∷◌, ◌++◌, sym, ap, refl, true, false, Bool, if◌then◌else◌}
use Rattle.std.specs.Prelude.{◌==◌}
use Rattle.std.proofs.lemmas.Bool.{ne_eqb}
use Rattle.jp_model.specs.Script.Commands.{without_final_cr}

-- all but the last byte, by whether it is a CR
last_by : (front : List ℕ) (last : ℕ) (b : Bool) → (last == 0x0D) ≡ b → without_final_cr (front ++ last ∷ []) ≡ (if b then front else front ++ last ∷ [])
last_by [] last true e = ap (λ c. if c then [] else last ∷ []) e
last_by [] last false e = ap (λ c. if c then [] else last ∷ []) e
last_by (c ∷ []) last true e = ap (λ l. c ∷ l) (last_by [] last true e)
last_by (c ∷ []) last false e = ap (λ l. c ∷ l) (last_by [] last false e)
last_by (c ∷ d ∷ front) last true e = ap (λ l. c ∷ l) (last_by (d ∷ front) last true e)
last_by (c ∷ d ∷ front) last false e = ap (λ l. c ∷ l) (last_by (d ∷ front) last false e)

pub with_return : (line front : List ℕ) (last : ℕ) → line ≡ front ++ last ∷ [] → last ≡ 0x0D → front ≡ without_final_cr line
with_return line front last e is =
    sym (ap without_final_cr (e ∙ ap (λ c. front ++ c ∷ []) is) ∙ last_by front 0x0D true refl)

pub without_return : (line front : List ℕ) (last : ℕ) → line ≡ front ++ last ∷ [] → (last ≡ 0x0D → ⊥) → line ≡ without_final_cr line
without_return line front last e not = sym (ap without_final_cr e ∙ last_by front last false (ne_eqb last 0x0D not) ∙ sym e)
