-- Sorted texts are repeated only at neighbours, and sorting repeats none.
use Rattle.std.proofs.Common.{◌≡◌, ℕ, zero, suc, ◌+◌, ◌<◌, ◌≤◌, inl, inr, ◌↔◌, Bool, true, false, cond, ◌||◌, List, [], ◌∷◌, length, get_or, sym, ◌∙◌, ap, subst, refl, arith, ap₂}
use Rattle.std.specs.List.{list_any, sum_by, AllByRecursion}
use Rattle.std.specs.List.Sorted.{IsPermutation, IsSorted, IsStrictlySortedBy}
use Rattle.std.specs.Ordering.{nat_cmp, is_eq, is_lt, ordering_reverse}
use Rattle.std.specs.declared.cmp.Ordering.{Ordering}
use Rattle.std.specs.declared.cmp.Ordering.TheVariants.{Less, Equal, Greater}
use Rattle.std.specs.Cmp.Lexicographic.{slice_cmp, nat_list_cmp_total}
use Rattle.std.proofs.lemmas.Bool.{cases_Bool, or_right}
use Rattle.std.proofs.lemmas.List.{get_or-map, length-map}
use Rattle.jp_tape.specs.declared.builder.body.Body.{Body}
use Rattle.jp_tape.specs.Names.{points, all_points}
use Rattle.std.proofs.lemmas.List.Sorted.{sum_by-IsPermutation}
use Rattle.std.proofs.lemmas.List.Sums.{sum_by-cons}
use Rattle.std.proofs.lemmas.Map.Keys.{sorted_from_all_adjacent}
use Rattle.std.proofs.lemmas.Map.Text.{is_eq-slice_cmp}
use Rattle.std.proofs.lemmas.Slice.Eq.{bytes_eq-Decides}
use Rattle.jp_model.specs.Characters.{text_equal}
use Rattle.jp_model.specs.Json.Faults.{has_repeated}
use Rattle.jp_model.proofs.Reader.Lexical.{clash}
use Rattle.jp_model.specs.Json.Strings.{paired}
use Rattle.jp_strings.specs.Plain.{ArePlain}
use Rattle.jp_strings.specs.Points.{IsText, points_of, is_text_from}
use Rattle.jp_strings.proofs.Reading.{units_found}
use Rattle.jp_strings.proofs.Runs.{plain_differ}
use Rattle.jp_strings.proofs.Texts.{text_units}
use Rattle.jp_tape.proofs.Held.{left_false, right_false}

abbrev order : List ℕ → List ℕ → Ordering
order = slice_cmp nat_cmp

same_text : (x y : List ℕ) → x ≡ y → text_equal x y ≡ true
same_text x y e = (bytes_eq-Decides x y).1 e

-- ---- how often a text stands in a list

count : List ℕ → List (List ℕ) → ℕ
count x ps = sum_by (λ y. cond (text_equal x y) 1 0) ps

count-cons : (x y : List ℕ) (ys : List (List ℕ)) → count x (y ∷ ys) ≡ cond (text_equal x y) 1 0 + count x ys
unfolding count
count-cons x y ys = sum_by-cons (λ z. cond (text_equal x z) 1 0) y ys

count-nil : (x : List ℕ) → count x [] ≡ 0
unfolding count
count-nil x = refl

count-permutation : (x : List ℕ) (ps qs : List (List ℕ)) → IsPermutation ps qs → count x qs ≡ count x ps
unfolding count
count-permutation x ps qs h = sum_by-IsPermutation (λ z. cond (text_equal x z) 1 0) ps qs h

count_one : (x y : List ℕ) (ys : List (List ℕ)) → text_equal x y ≡ true → count x (y ∷ ys) ≡ 1 + count x ys
count_one x y ys e = count-cons x y ys ∙ ap (λ b. cond b 1 0 + count x ys) e

count_other : (x y : List ℕ) (ys : List (List ℕ)) → text_equal x y ≡ false → count x (y ∷ ys) ≡ 0 + count x ys
count_other x y ys e = count-cons x y ys ∙ ap (λ b. cond b 1 0 + count x ys) e

count_none : (x : List ℕ) (ys : List (List ℕ)) → list_any (text_equal x) ys ≡ false → count x ys ≡ 0
count_none x [] h = count-nil x
count_none x (y ∷ ys) h =
    let e = count_other x y ys (left_false _ _ h) in
    let i : count x ys ≡ 0 = count_none x ys (right_false (text_equal x y) (list_any (text_equal x) ys) h) in
    omega (arith, e, i)

none_counted : (x : List ℕ) (ys : List (List ℕ)) → count x ys ≡ 0 → list_any (text_equal x) ys ≡ false
none_counted x [] h = refl
none_counted x (y ∷ ys) h =
    elim (cases_Bool (text_equal x y)) [
      | inl t ↦ (let e = count_one x y ys t in absurd (omega (arith, e, h)))
      | inr f ↦ (
          let e = count_other x y ys f in
          let i : list_any (text_equal x) ys ≡ false = none_counted x ys (omega (arith, e, h)) in
          ap (λ b. b || list_any (text_equal x) ys) f ∙ i
          )
    ]

few_of_distinct : (ps : List (List ℕ)) → has_repeated ps ≡ false → (x : List ℕ) → count x ps ≤ 1
few_of_distinct [] h x = let e = count-nil x in omega (arith, e)
few_of_distinct (y ∷ ys) h x =
    elim (cases_Bool (text_equal x y)) [
      | inl t ↦ (
          let e = count_one x y ys t in
          let same : x ≡ y = (bytes_eq-Decides x y).0 t in
          let z = count_none x ys (subst (λ z. list_any (text_equal z) ys ≡ false) (sym same) (left_false _ _ h)) in
          omega (arith, e, z)
          )
      | inr f ↦ (
          let e = count_other x y ys f in
          let i : count x ys ≤ 1 = few_of_distinct ys (right_false (list_any (text_equal y) ys) (has_repeated ys) h) x in
          omega (arith, e, i)
          )
    ]

distinct_of_few : (ps : List (List ℕ)) → ((x : List ℕ) → count x ps ≤ 1) → has_repeated ps ≡ false
distinct_of_few [] h = refl
distinct_of_few (y ∷ ys) h =
    let one = count_one y y ys (same_text y y refl) in
    let few = h y in
    let first : list_any (text_equal y) ys ≡ false = none_counted y ys (omega (arith, one, few)) in
    let rest : has_repeated ys ≡ false = distinct_of_few ys (λ x. fewer x y ys (h x)) in
    ap (λ b. b || has_repeated ys) first ∙ rest
  where
    fewer : (x y : List ℕ) (ys : List (List ℕ)) → count x (y ∷ ys) ≤ 1 → count x ys ≤ 1
    fewer x y ys l =
        elim (cases_Bool (text_equal x y)) [
          | inl t ↦ (let e = count_one x y ys t in omega (arith, e, l))
          | inr f ↦ (let e = count_other x y ys f in omega (arith, e, l))
        ]

-- whatever their order, texts are repeated or not
pub same_repeated : (ps qs : List (List ℕ)) → IsPermutation ps qs → has_repeated qs ≡ has_repeated ps
same_repeated ps qs h =
    elim (cases_Bool (has_repeated ps)) [
      | inl p ↦
          elim (cases_Bool (has_repeated qs)) [
            | inl q ↦ q ∙ sym p
            | inr q ↦ absurd (clash (has_repeated ps) p (distinct_of_few ps (λ x. let e = count-permutation x ps qs h in let l = few_of_distinct qs q x in omega (arith, e, l))))
          ]
      | inr p ↦ distinct_of_few qs (λ x. let e = count-permutation x ps qs h in let l = few_of_distinct ps p x in omega (arith, e, l)) ∙ sym p
    ]

-- ---- neighbours

neighbour : (ps : List (List ℕ)) (i j : ℕ) → j ≡ suc i → j < length ps → get_or ps i [] ≡ get_or ps j [] → has_repeated ps ≡ true
neighbour [] i j e l h = absurd (omega (arith, l))
neighbour (x ∷ []) i j e l h = absurd (omega (arith, e, l))
neighbour (x ∷ y ∷ ys) zero j e l h =
    let same : x ≡ y = h ∙ ap (λ n. get_or (x ∷ y ∷ ys) n []) e in
    ap (λ b. (b || list_any (text_equal x) ys) || has_repeated (y ∷ ys)) (same_text x y same)
neighbour (x ∷ y ∷ ys) (suc i) j e l h =
    or_right _ _ (neighbour (y ∷ ys) i (suc i) refl (omega (arith, e, l)) (h ∙ ap (λ n. get_or (x ∷ y ∷ ys) n []) e))

pub neighbours_repeat : (ps : List (List ℕ)) (i : ℕ) → i + 1 < length ps → get_or ps i [] ≡ get_or ps (i + 1) [] → has_repeated ps ≡ true
neighbours_repeat ps i l h = neighbour ps i (i + 1) (omega arith) l h

none_after : (x : List ℕ) (ys : List (List ℕ)) → AllByRecursion (λ y. order x y ≡ Less) ys → list_any (text_equal x) ys ≡ false
none_after x [] h = refl
none_after x (y ∷ ys) h = ap (λ b. b || list_any (text_equal x) ys) (sym (is_eq-slice_cmp x y) ∙ ap is_eq h.0) ∙ none_after x ys h.1

strictly_distinct : (ps : List (List ℕ)) → IsStrictlySortedBy order ps → has_repeated ps ≡ false
unfolding IsStrictlySortedBy
strictly_distinct [] h = refl
strictly_distinct (x ∷ xs) h = ap (λ b. b || has_repeated xs) (none_after x xs h.0) ∙ strictly_distinct xs h.1

less_by : (r s : Ordering) → s ≡ ordering_reverse r → is_lt s ≡ false → (r ≡ Equal → ⊥) → r ≡ Less
less_by Less s e l n = refl
less_by Equal s e l n = absurd (n refl)
less_by Greater s e l n = absurd (clash (is_lt s) (ap is_lt e) l)

pub sorted_distinct : (ps : List (List ℕ)) → IsSorted order ps → ((i : ℕ) → i + 1 < length ps → get_or ps i [] ≡ get_or ps (i + 1) [] → ⊥) → has_repeated ps ≡ false
sorted_distinct ps s n =
    strictly_distinct ps
    (sorted_from_all_adjacent nat_list_cmp_total ps []
    (λ k l.
    let x = get_or ps k [] in
    let y = get_or ps (k + 1) [] in
    less_by (order x y) (order y x) (nat_list_cmp_total.antisymm y x) (s k [] (omega arith) l) (λ e. n k l ((bytes_eq-Decides x y).0 (sym (is_eq-slice_cmp x y) ∙ ap is_eq e)))))

-- ---- bodies
pub text_is : (body : List ℕ) → is_text_from body 0 ≡ true → IsText body
text_is body h =
    let u = text_units body 0 h in
    record { points = paired u.0; spelled = record { order = omega arith; units = u.0; characters = units_found body 0 u.0 u.1; are = refl }; is_whole = u.2 }

-- bodies in which each character stands for itself are equal where their bytes are
pub plain_equal : (a b : List ℕ) (r : Bool) → is_text_from a 0 ≡ true → is_text_from b 0 ≡ true → ArePlain a 0 (length a) → ArePlain b 0 (length b) → (r ≡ true) ↔ (a ≡ b) → r ≡ text_equal (points_of a) (points_of b)
plain_equal a b r s t p q h =
    elim (cases_Bool r) [
      | inl e ↦ e ∙ sym (same_text (points_of a) (points_of b) (ap points_of (h.0 e)))
      | inr e ↦ e ∙ sym (plain_differ a b (text_is a s) (text_is b t) p q (λ (same : a ≡ b). clash r (h.1 same) e))
    ]

pub point_at : (xs : List Body) (k : ℕ) (b : Body) → b ≡ get_or xs k b → k < length xs → get_or (all_points xs) k [] ≡ points b
point_at xs k b e l = get_or-map points xs k b [] l ∙ ap points (sym e)

pub sorted_points : (xs : List Body) → IsSorted (λ (a b : Body). order (points a) (points b)) xs → IsSorted order (all_points xs)
sorted_points [] s k d a l = absurd (omega (arith, l))
sorted_points (x ∷ xs) s k d a l =
    let n = length-map (x ∷ xs) points in
    let first = get_or-map points (x ∷ xs) k x d (omega (arith, n, l)) in
    let second = get_or-map points (x ∷ xs) (k + 1) x d (omega (arith, n, l)) in
    ap₂ (λ y z. is_lt (order y z)) second first ∙ s k x a (omega (arith, n, l))
