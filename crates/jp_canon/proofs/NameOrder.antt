-- The order of names.
use Rattle.std.proofs.Common.{◌≡◌, ℕ, true, false, List, sym, ◌∙◌, ap, refl, arith, Ordering, Less, Equal, Greater}
use Rattle.std.specs.Cmp.Lexicographic.{slice_cmp, nat_list_cmp_total}
use Rattle.std.specs.Ordering.{nat_cmp, is_lt, is_eq, ordering_reverse}
use Rattle.std.proofs.lemmas.Bool.Decides.{nat_tests}
use Rattle.std.proofs.lemmas.Cmp.{same_from_slice_cmp}
use Rattle.std.proofs.lemmas.Map.Text.{is_eq-slice_cmp}
use Rattle.std.proofs.lemmas.Slice.Eq.{bytes_eq-Decides}
use Rattle.jp_model.specs.Meaning.Compare.{text_less}

abbrev pub order : List ℕ → List ℕ → Ordering
order = slice_cmp nat_cmp

less_as_order : (xs ys : List ℕ) (o : Ordering) → o ≡ slice_cmp nat_cmp xs ys → is_lt o ≡ text_less xs ys
less_as_order = same_from_slice_cmp nat_cmp is_lt text_less refl (λ _ _. refl) (λ _ _. refl) (λ x y xs ys o h. grind (arith, nat_tests))

-- a text is less than another where its scalars come first
pub less_is : (xs ys : List ℕ) → is_lt (order xs ys) ≡ text_less xs ys
less_is xs ys = less_as_order xs ys (order xs ys) refl

is_less : (o : Ordering) → is_lt o ≡ true → o ≡ Less
is_less Less h = refl
is_less Equal h = absurd (cc)
is_less Greater h = absurd (cc)

in_order : (x y : List ℕ) → text_less x y ≡ true → order x y ≡ Less
in_order x y h = is_less (order x y) (less_is x y ∙ h)

pub less_trans : (x y z : List ℕ) → text_less x y ≡ true → text_less y z ≡ true → text_less x z ≡ true
less_trans x y z p q = sym (less_is x z) ∙ ap is_lt (nat_list_cmp_total.trans x y z (in_order x y p) (in_order y z q))

pub not_both : (x y : List ℕ) → text_less x y ≡ true → text_less y x ≡ true → ⊥
not_both x y p q =
    let turned : Less ≡ Greater = sym (in_order x y p) ∙ (nat_list_cmp_total.antisymm x y ∙ ap ordering_reverse (in_order y x q)) in
    absurd (cc)

-- of two texts that differ one is less
pub less_other : (x y : List ℕ) → (x ≡ y → ⊥) → text_less y x ≡ false → text_less x y ≡ true
less_other x y differ h = by (order y x) refl
  where
    by : (o : Ordering) → order y x ≡ o → text_less x y ≡ true
    by Less e = absurd (let l : true ≡ false = sym (ap is_lt e) ∙ (less_is y x ∙ h) in cc)
    by Equal e = absurd (differ (sym ((bytes_eq-Decides y x).0 (sym (is_eq-slice_cmp y x) ∙ ap is_eq e))))
    by Greater e = sym (less_is x y) ∙ ap is_lt (nat_list_cmp_total.antisymm x y ∙ ap ordering_reverse e)
