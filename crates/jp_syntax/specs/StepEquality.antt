-- Equality of steps and of paths is equality.
use Rattle.std.proofs.Common.{◌≡◌, ℤ, List, [], ◌∷◌, Bool, true, refl, sym, ap, subst, arith, ℕ, pos, negsuc, leb}
use Rattle.std.specs.Cmp.{IsEquivalence}
use Rattle.std.proofs.lemmas.Bool.Decides.{same_from_decides, nat_tests}
use Rattle.std.proofs.lemmas.Slice.Eq.{bytes_eq-Decides}
use Rattle.jp_model.proofs.Steps.{step_same, steps_same}
use Rattle.jp_model.specs.Steps.{Step, name_step, index_step, same_int, step_equal, steps_equal}

-- a test of equality is an equivalence
equality_equiv : {K : Type 0} (E : K → K → Bool) → ((x : K) → E x x ≡ true) → ((x y : K) → E x y ≡ true → x ≡ y) → IsEquivalence E
equality_equiv {K} E itself same = record {
  refl = itself;
  symm = λ x y. same_from_decides {P = x ≡ y} (E x y) (E y x) (same x y, λ e. subst (λ z. E x z ≡ true) e (itself x)) (λ h. sym (same y x h), λ e. subst (λ z. E z x ≡ true) e (itself x));
  congr = λ x y z h. ap (λ w. E w z) (same x y h);
}

leb_itself : (n : ℕ) → leb n n ≡ true
leb_itself n = search (arith, nat_tests)

int_itself : (i : ℤ) → same_int i i ≡ true
int_itself (pos n) = rw leb_itself refl
int_itself (negsuc n) = rw leb_itself refl

step_itself : (s : Step) → step_equal s s ≡ true
step_itself (name_step x) = (bytes_eq-Decides x x).1 refl
step_itself (index_step i) = int_itself i

steps_itself : (ss : List Step) → steps_equal ss ss ≡ true
steps_itself [] = refl
steps_itself (s ∷ ss) = rw (step_itself s) (steps_itself ss)

pub step_equal_equiv : IsEquivalence step_equal
step_equal_equiv = equality_equiv step_equal step_itself step_same

pub steps_equal_equiv : IsEquivalence steps_equal
steps_equal_equiv = equality_equiv steps_equal steps_itself steps_same
