-- A path is folded from the top down as it is by the objects after which paths go on by many names.
use Rattle.std.proofs.Common.{◌≡◌, ◌∙◌, ℕ, ◌+◌, ◌<◌, ◌≤◌, ◌≢◌, ◌⊎◌, inl, inr, List, [], ◌∷◌, ◌++◌, length, take, drop, Bool, true, false, ◌&&◌, ap, ap₂, refl, sym, subst, arith, append-nil, append_assoc}
use Rattle.std.specs.Prelude.{fold, if◌then◌else◌}
use Rattle.std.proofs.lemmas.Bool.{cases_Bool, cases_lt, false_from_ne_true, or_parts}
use Rattle.std.proofs.lemmas.List.{drop_at, length-take, length-take-le, length_push, same_from_push, take-append-drop, take_at}
use Rattle.jp_survey.specs.Foldings.{folded_by, longer, shown_stride}
use Rattle.jp_survey.specs.Folds.{folded, folded_stride, rest_under, rests_under, stands_for}
use Rattle.jp_survey.specs.Justified.{AreFolds, rest_after, rests_after}
use Rattle.jp_survey.specs.Paths.{Path, Stride, element, member, others, path_equal, stride_equal}
use Rattle.jp_survey.specs.Places.{has_path}
use Rattle.jp_survey.specs.Surveys.{is_folded, is_others}
use Rattle.jp_survey.proofs.Equalities.{path_itself, path_same, stride_itself}
use Rattle.jp_survey.proofs.Folded.{folded_push}

-- ---- lengths

length_from : (folds : List Path) (a path : Path) → length (fold (longer folds) a path) ≡ length a + length path
length_from folds a [] = omega arith
length_from folds a (s ∷ path) =
    let rest = length_from folds (longer folds a s) path in
    let one = length_push a (shown_stride folds a s) in
    omega (arith, rest, one)

pub length-folded_by : (folds : List Path) (path : Path) → length (folded_by folds path) ≡ length path
length-folded_by folds path = let all = length_from folds [] path in omega (arith, all)

other_length : (p q : Path) → length p ≢ length q → path_equal p q ≡ false
other_length p q ne = false_from_ne_true (path_equal p q) (λ e. ne (ap length (path_same p q e)))

-- a path is shorter than that, or goes on after so long
pub split_at : (n : ℕ) (path : Path) → (length path < n) ⊎ ((q : Path) × (r : Path) × (length q ≡ n) × (path ≡ q ++ r))
split_at n path = by (cases_lt (length path) n)
  where
    by : ((length path < n) ⊎ (n ≤ length path)) → (length path < n) ⊎ ((q : Path) × (r : Path) × (length q ≡ n) × (path ≡ q ++ r))
    by (inl s) = inl s
    by (inr s) = inr (take n path, drop n path, length-take-le n path s, sym (take-append-drop n path))

-- ---- what follows after the node that is shown at a path

pub rest_at : (folds : List Path) (a q r : Path) → length q ≡ length a → rest_after folds a (q ++ r) ≡ (if path_equal a (folded_by folds q) then r ∷ [] else [])
rest_at folds a q r e =
    ap₂ (λ (front back : Path). if path_equal a (folded_by folds front) then back ∷ [] else []) (take_at q r (length a) e) (drop_at q r (length a) e)

pub rest_none : (folds : List Path) (a path : Path) → length path < length a → rest_after folds a path ≡ []
rest_none folds a path s = ap (λ (b : Bool). if b then drop (length a) path ∷ [] else []) (other_length a (folded_by folds (take (length a) path)) ne)
  where
    ne : length a ≢ length (folded_by folds (take (length a) path))
    ne e = let same = length-folded_by folds (take (length a) path) in let short = length-take (length a) path in omega (arith, same, short, e, s)

-- ---- one stride more

path_equal_push : (a : Path) (s t : Stride) → path_equal (a ++ s ∷ []) (a ++ t ∷ []) ≡ stride_equal s t
path_equal_push [] s t = by (stride_equal s t)
  where
    by : (b : Bool) → (b && true) ≡ b
    by true = refl
    by false = refl
path_equal_push (c ∷ a) s t = ap (λ (b : Bool). b && path_equal (a ++ s ∷ []) (a ++ t ∷ [])) (stride_itself c) ∙ path_equal_push a s t

-- a stride that is shown stands for those that are shown by it
stands_shown : (folds : List Path) (a : Path) (s u : Stride) → is_others s ≡ false → stands_for (shown_stride folds a s) u ≡ stride_equal (shown_stride folds a s) (shown_stride folds a u)
stands_shown folds a element element plain = refl
stands_shown folds a element (member y) plain = by (has_path folds a)
  where
    by : (b : Bool) → false ≡ stride_equal element (if b then others else member y)
    by true = refl
    by false = refl
stands_shown folds a element others plain = refl
stands_shown folds a (member x) element plain = by (has_path folds a)
  where
    by : (b : Bool) → stands_for (if b then others else member x) element ≡ stride_equal (if b then others else member x) element
    by true = refl
    by false = refl
stands_shown folds a (member x) (member y) plain = by (has_path folds a)
  where
    by : (b : Bool) → stands_for (if b then others else member x) (member y) ≡ stride_equal (if b then others else member x) (if b then others else member y)
    by true = refl
    by false = refl
stands_shown folds a (member x) others plain = by (has_path folds a)
  where
    by : (b : Bool) → stands_for (if b then others else member x) others ≡ stride_equal (if b then others else member x) others
    by true = refl
    by false = refl
stands_shown folds a others u plain = absurd (cc)

rests_append : (t : Stride) (xs ys : List Path) → rests_under t (xs ++ ys) ≡ rests_under t xs ++ rests_under t ys
rests_append t [] ys = refl
rests_append t (x ∷ xs) ys = ap (λ (rest : List Path). rest_under t x ++ rest) (rests_append t xs ys) ∙ sym (append_assoc (rest_under t x) (rests_under t xs) (rests_under t ys))

module _ (folds : List Path) (a : Path) (s : Stride) (plain : is_others s ≡ false) where
  one_more : length (longer folds a s) ≡ length a + 1
  one_more = length_push a (shown_stride folds a s)

  at_stride : (q : Path) (u : Stride) (r : Path) → ((path_equal a (folded_by folds q) ≡ true) ⊎ (path_equal a (folded_by folds q) ≡ false))
      → rests_under (shown_stride folds a s) (if path_equal a (folded_by folds q) then (u ∷ r) ∷ [] else [])
      ≡ (if path_equal (longer folds a s) (longer folds (folded_by folds q) u) then r ∷ [] else [])
  at_stride q u r (inl e) =
      ap (λ (b : Bool). rests_under (shown_stride folds a s) (if b then (u ∷ r) ∷ [] else [])) e
      ∙ (append-nil (if stands_for (shown_stride folds a s) u then r ∷ [] else [])
      ∙ (ap (λ (b : Bool). if b then r ∷ [] else []) (stands_shown folds a s u plain ∙ sym (path_equal_push a (shown_stride folds a s) (shown_stride folds a u)))
      ∙ ap (λ (p : Path). if path_equal (longer folds a s) (longer folds p u) then r ∷ [] else []) (path_same a (folded_by folds q) e)))
  at_stride q u r (inr e) =
      ap (λ (b : Bool). rests_under (shown_stride folds a s) (if b then (u ∷ r) ∷ [] else [])) e
      ∙ sym (ap (λ (b : Bool). if b then r ∷ [] else []) (false_from_ne_true (path_equal (longer folds a s) (longer folds (folded_by folds q) u)) other))
    where
      other : path_equal (longer folds a s) (longer folds (folded_by folds q) u) ≡ true → ⊥
      other same =
          let parts = same_from_push a (folded_by folds q) (shown_stride folds a s) (shown_stride folds (folded_by folds q) u) (path_same (longer folds a s) (longer folds (folded_by folds q) u) same) in
          let found : path_equal a (folded_by folds q) ≡ true = ap (path_equal a) (sym parts.0) ∙ path_itself a in
          absurd (cc (found, e))

  rest_step_at : (q r : Path) → length q ≡ length a → rests_under (shown_stride folds a s) (rest_after folds a (q ++ r)) ≡ rest_after folds (longer folds a s) (q ++ r)
  rest_step_at q [] e =
      let one = one_more in let all = ap length (append-nil q) in
      ap (rests_under (shown_stride folds a s)) (rest_at folds a q [] e)
      ∙ (none (path_equal a (folded_by folds q)) ∙ sym (rest_none folds (longer folds a s) (q ++ []) (omega (arith, one, all, e))))
    where
      none : (b : Bool) → rests_under (shown_stride folds a s) (if b then [] ∷ [] else []) ≡ []
      none true = refl
      none false = refl
  rest_step_at q (u ∷ r) e =
      let one = one_more in let next = length_push q u in
      ap (rests_under (shown_stride folds a s)) (rest_at folds a q (u ∷ r) e)
      ∙ (at_stride q u r (cases_Bool (path_equal a (folded_by folds q)))
      ∙ (ap (λ (p : Path). if path_equal (longer folds a s) p then r ∷ [] else []) (sym (folded_push folds q u))
      ∙ (sym (rest_at folds (longer folds a s) (q ++ u ∷ []) r (omega (arith, one, next, e)))
      ∙ ap (rest_after folds (longer folds a s)) (append_assoc q (u ∷ []) r))))

  rest_step : (path : Path) → rests_under (shown_stride folds a s) (rest_after folds a path) ≡ rest_after folds (longer folds a s) path
  rest_step path = by (split_at (length a) path)
    where
      by : ((length path < length a) ⊎ ((q : Path) × (r : Path) × (length q ≡ length a) × (path ≡ q ++ r)))
          → rests_under (shown_stride folds a s) (rest_after folds a path) ≡ rest_after folds (longer folds a s) path
      by (inl short) =
          let one = one_more in
          ap (rests_under (shown_stride folds a s)) (rest_none folds a path short) ∙ sym (rest_none folds (longer folds a s) path (omega (arith, one, short)))
      by (inr parts) = subst (λ (p : Path). rests_under (shown_stride folds a s) (rest_after folds a p) ≡ rest_after folds (longer folds a s) p) (sym parts.3)
          (rest_step_at parts.0 parts.1 parts.2)

  rests_step : (paths : List Path) → rests_under (shown_stride folds a s) (rests_after folds a paths) ≡ rests_after folds (longer folds a s) paths
  rests_step [] = refl
  rests_step (path ∷ paths) =
      rests_append (shown_stride folds a s) (rest_after folds a path) (rests_after folds a paths)
      ∙ ap₂ (λ (x y : List Path). x ++ y) (rest_step path) (rests_step paths)

-- ---- paths that are folded

module _ (limit : ℕ) (paths folds : List Path) (are : AreFolds limit paths folds) where
  folded_from : (a path : Path) → is_folded path ≡ false → fold (longer folds) a path ≡ a ++ folded limit (rests_after folds a paths) path
  folded_from a [] plain = sym (append-nil a)
  folded_from a (s ∷ path) plain =
      let parts = or_parts (is_others s) (is_folded path) plain in
      folded_from (longer folds a s) path parts.1
      ∙ (append_assoc a (shown_stride folds a s ∷ []) (folded limit (rests_after folds (longer folds a s) paths) path)
      ∙ (ap (λ (rests : List Path). a ++ shown_stride folds a s ∷ folded limit rests path) (sym (rests_step folds a s parts.0 paths))
      ∙ ap (λ (t : Stride). a ++ t ∷ folded limit (rests_under t (rests_after folds a paths)) path) (same s)))
    where
      same : (s : Stride) → shown_stride folds a s ≡ folded_stride limit (rests_after folds a paths) s
      same element = refl
      same (member x) = ap (λ (b : Bool). if b then others else member x) (are a)
      same others = refl

all_rests : (folds paths : List Path) → rests_after folds [] paths ≡ paths
all_rests folds [] = refl
all_rests folds (path ∷ paths) = ap (λ (more : List Path). path ∷ more) (all_rests folds paths)

-- the objects that are folded, where they are those after which paths go on by many names, are those that are folded from the top down
pub folded_is : (limit : ℕ) (paths folds : List Path) → AreFolds limit paths folds → (path : Path) → is_folded path ≡ false → folded_by folds path ≡ folded limit paths path
folded_is limit paths folds are path plain =
    folded_from limit paths folds are [] path plain ∙ ap (λ (all : List Path). folded limit all path) (all_rests folds paths)
