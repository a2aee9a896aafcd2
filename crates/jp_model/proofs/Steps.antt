-- Steps that test as equal are equal.
use Rattle.std.proofs.Common.{◌≡◌, ℤ, pos, negsuc, List, [], ◌∷◌, true, refl, ap, le_antisymm}
use Rattle.std.proofs.lemmas.Bool.{and_parts, leb-true}
use Rattle.std.proofs.lemmas.Slice.Eq.{bytes_eq-Decides}
use Rattle.jp_model.specs.Steps.{Step, name_step, index_step, same_int, step_equal, steps_equal}

pub int_same : (i j : ℤ) → same_int i j ≡ true → i ≡ j
int_same (pos a) (pos b) h = let p = and_parts _ _ h in ap pos (le_antisymm (leb-true a b p.0) (leb-true b a p.1))
int_same (pos a) (negsuc b) h = absurd (cc)
int_same (negsuc a) (pos b) h = absurd (cc)
int_same (negsuc a) (negsuc b) h = let p = and_parts _ _ h in ap negsuc (le_antisymm (leb-true a b p.1) (leb-true b a p.0))

pub step_same : (s t : Step) → step_equal s t ≡ true → s ≡ t
step_same (name_step x) (name_step y) h = ap name_step ((bytes_eq-Decides x y).0 h)
step_same (index_step i) (index_step j) h = ap index_step (int_same i j h)
step_same (name_step x) (index_step j) h = absurd (cc)
step_same (index_step i) (name_step y) h = absurd (cc)

pub steps_same : (ss ts : List Step) → steps_equal ss ts ≡ true → ss ≡ ts
steps_same [] [] h = refl
steps_same (s ∷ ss) (t ∷ ts) h =
    let p = and_parts _ _ h in
    let e : s ≡ t = step_same s t p.0 in
    let f : ss ≡ ts = steps_same ss ts p.1 in
    cc
steps_same [] (t ∷ ts) h = absurd (cc)
steps_same (s ∷ ss) [] h = absurd (cc)
