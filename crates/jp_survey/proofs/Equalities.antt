-- Equal strides, paths and links are the same.
use Rattle.std.proofs.Common.{◌≡◌, ◌∙◌, ◌&&◌, ◌⊎◌, inl, inr, ℕ, [], ◌∷◌, Bool, true, ap, ap₂, eqb, refl, sym}
use Rattle.std.proofs.lemmas.Bool.{and_parts, cases_eq, eqb-true, eq-eqb, ne_eqb}
use Rattle.std.proofs.lemmas.Cmp.{nat_list_eq_equiv}
use Rattle.std.proofs.lemmas.Slice.Eq.{bytes_eq-Decides}
use Rattle.jp_survey.specs.Paths.{Path, Stride, element, member, others, path_equal, stride_equal}
use Rattle.jp_survey.specs.Places.{link_equal, step_equal}
use Rattle.jp_survey.specs.declared.links.Link.{Link}
use Rattle.jp_survey.specs.declared.links.Step.{Step}
use Rattle.jp_survey.specs.declared.links.Step.TheVariants as steps

pub stride_itself : (s : Stride) → stride_equal s s ≡ true
stride_itself element = refl
stride_itself (member x) = (bytes_eq-Decides x x).1 refl
stride_itself others = refl

pub path_itself : (path : Path) → path_equal path path ≡ true
path_itself [] = refl
path_itself (s ∷ ss) = rw (stride_itself s) (path_itself ss)

pub stride_same : (s t : Stride) → stride_equal s t ≡ true → s ≡ t
stride_same element element e = refl
stride_same element (member y) e = absurd (cc)
stride_same element others e = absurd (cc)
stride_same (member x) element e = absurd (cc)
stride_same (member x) (member y) e = ap member ((bytes_eq-Decides x y).0 e)
stride_same (member x) others e = absurd (cc)
stride_same others element e = absurd (cc)
stride_same others (member y) e = absurd (cc)
stride_same others others e = refl

pub path_same : (x y : Path) → path_equal x y ≡ true → x ≡ y
path_same [] [] e = refl
path_same [] (t ∷ ts) e = absurd (cc)
path_same (s ∷ ss) [] e = absurd (cc)
path_same (s ∷ ss) (t ∷ ts) e =
    let parts = and_parts (stride_equal s t) (path_equal ss ts) e in
    ap₂ (λ (a : Stride) (b : Path). a ∷ b) (stride_same s t parts.0) (path_same ss ts parts.1)

stride_symm : (s t : Stride) → stride_equal s t ≡ stride_equal t s
stride_symm element element = refl
stride_symm element (member y) = refl
stride_symm element others = refl
stride_symm (member x) element = refl
stride_symm (member x) (member y) = nat_list_eq_equiv.symm x y
stride_symm (member x) others = refl
stride_symm others element = refl
stride_symm others (member y) = refl
stride_symm others others = refl

pub path_symm : (x y : Path) → path_equal x y ≡ path_equal y x
path_symm [] [] = refl
path_symm [] (t ∷ ts) = refl
path_symm (s ∷ ss) [] = refl
path_symm (s ∷ ss) (t ∷ ts) = ap₂ (λ (a b : Bool). a && b) (stride_symm s t) (path_symm ss ts)

pub step_itself : (s : Step) → step_equal s s ≡ true
step_itself steps.Start = refl
step_itself steps.Element = refl
step_itself (steps.Member n) = eq-eqb n n refl
step_itself steps.Others = refl

pub step_same : (s t : Step) → step_equal s t ≡ true → s ≡ t
step_same steps.Start steps.Start e = refl
step_same steps.Start steps.Element e = absurd (cc)
step_same steps.Start (steps.Member n) e = absurd (cc)
step_same steps.Start steps.Others e = absurd (cc)
step_same steps.Element steps.Start e = absurd (cc)
step_same steps.Element steps.Element e = refl
step_same steps.Element (steps.Member n) e = absurd (cc)
step_same steps.Element steps.Others e = absurd (cc)
step_same (steps.Member m) steps.Start e = absurd (cc)
step_same (steps.Member m) steps.Element e = absurd (cc)
step_same (steps.Member m) (steps.Member n) e = ap (λ k. steps.Member k) (eqb-true m n e)
step_same (steps.Member m) steps.Others e = absurd (cc)
step_same steps.Others steps.Start e = absurd (cc)
step_same steps.Others steps.Element e = absurd (cc)
step_same steps.Others (steps.Member n) e = absurd (cc)
step_same steps.Others steps.Others e = refl

pub link_itself : (l : Link) → link_equal l l ≡ true
link_itself l = rw (eq-eqb l.parent l.parent refl) (step_itself l.step)

pub link_same : (k l : Link) → link_equal k l ≡ true → k ≡ l
link_same k l e =
    let parts = and_parts _ (step_equal k.step l.step) e in
    let parent = eqb-true k.parent l.parent parts.0 in
    let step = step_same k.step l.step parts.1 in
    ap₂ (λ (p : ℕ) (s : Step). record { parent = p; step = s }) parent step

pub number_symm : (a b : ℕ) → eqb a b ≡ eqb b a
number_symm a b = by (cases_eq a b)
  where
    by : ((a ≡ b) ⊎ (a ≡ b → ⊥)) → eqb a b ≡ eqb b a
    by (inl e) = eq-eqb a b e ∙ sym (eq-eqb b a (sym e))
    by (inr ne) = ne_eqb a b ne ∙ sym (ne_eqb b a (λ e. ne (sym e)))
