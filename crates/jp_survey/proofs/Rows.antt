-- Each node is counted in one row, and each row is of a node.
use Rattle.std.proofs.Common.{◌≡◌, ◌∙◌, ◌+◌, ◌<◌, ◌≤◌, ◌&&◌, ℕ, zero, List, [], ◌∷◌, length, get_or, Bool, true, false, ap, ap₂, arith, sym, refl, cond}
use Rattle.std.specs.Prelude.{suc, All, Any, count_by, sum_by, if◌then◌else◌}
use Rattle.std.proofs.lemmas.Bool.{and_parts}
use Rattle.std.proofs.lemmas.Cmp.{nat_eq_equiv, nat_list_eq_equiv}
use Rattle.std.proofs.lemmas.List.Sums.{sum_by-cons}
use Rattle.jp_survey.specs.Folds.{fits, folded, folded_stride, has_many_names, rests_under, stands_for}
use Rattle.jp_survey.specs.Paths.{Line, Mark, Path, Stride, element, kind_number, member, others, path_equal, same_kind}
use Rattle.jp_survey.specs.Surveys.{Entry, IsSurvey, IsSurveyBy, entries_with, is_at, marks_in, nodes_at, paths_in, shown_by}
use Rattle.jp_survey.proofs.Beside.{kind_same}
use Rattle.jp_survey.proofs.Equalities.{path_itself, path_same, path_symm}

-- ---- sums and counts

same_sums : {X : Type 0} (f g : X → ℕ) (xs : List X) → All (λ (x : X). f x ≡ g x) xs → sum_by f xs ≡ sum_by g xs
same_sums f g [] h = refl
same_sums f g (x ∷ xs) h =
    let first : f x ≡ g x = h 0 x (omega arith) in
    let rest = same_sums f g xs (λ k d l. h (suc k) d (omega arith)) in
    let a = sum_by-cons f x xs in let b = sum_by-cons g x xs in
    omega (arith, first, rest, a, b)

sum_plus : {X : Type 0} (f g : X → ℕ) (xs : List X) → sum_by (λ x. f x + g x) xs ≡ sum_by f xs + sum_by g xs
sum_plus f g [] = refl
sum_plus f g (x ∷ xs) =
    let rest = sum_plus f g xs in
    let a = sum_by-cons (λ y. f y + g y) x xs in let b = sum_by-cons f x xs in let c = sum_by-cons g x xs in
    omega (arith, rest, a, b, c)

no_sum : {X : Type 0} (xs : List X) → sum_by (λ x. 0) xs ≡ 0
no_sum [] = refl
no_sum (x ∷ xs) = let rest = no_sum xs in let a = sum_by-cons (λ y. 0) x xs in omega (arith, rest, a)

ones : {X : Type 0} (xs : List X) → sum_by (λ x. 1) xs ≡ length xs
ones [] = refl
ones (x ∷ xs) = let rest = ones xs in let a = sum_by-cons (λ y. 1) x xs in omega (arith, rest, a)

-- as many pairs pass a test, whichever side is counted first
crossed : {A B : Type 0} (test : A → B → Bool) (xs : List A) (ys : List B) → sum_by (λ x. count_by (test x) ys) xs ≡ sum_by (λ y. count_by (λ x. test x y) xs) ys
crossed test xs [] = no_sum xs
crossed test xs (y ∷ ys) =
    same_sums (λ x. count_by (test x) (y ∷ ys)) (λ x. cond (test x y) 1 0 + count_by (test x) ys) xs (λ k d l. sum_by-cons (λ z. cond (test (get_or xs k d) z) 1 0) y ys)
    ∙ sum_plus (λ x. cond (test x y) 1 0) (λ x. count_by (test x) ys) xs
    ∙ ap (λ n. count_by (λ x. test x y) xs + n) (crossed test xs ys)
    ∙ sym (sum_by-cons (λ z. count_by (λ x. test x z) xs) y ys)

abbrev one_where : Bool → ℕ
one_where b = cond b 1 0

-- what passes a test is counted
is_counted : {X : Type 0} (test : X → Bool) (xs : List X) (k : ℕ) (d : X) → k < length xs → test (get_or xs k d) ≡ true → 1 ≤ count_by test xs
is_counted test [] k d l e = absurd (omega arith)
is_counted test (x ∷ xs) zero d l e = let a = sum_by-cons (λ y. cond (test y) 1 0) x xs in let b : one_where (test x) ≡ 1 = ap one_where e in omega (arith, a, b)
is_counted test (x ∷ xs) (suc k) d l e = let a = sum_by-cons (λ y. cond (test y) 1 0) x xs in let rest = is_counted test xs k d (omega arith) e in omega (arith, a, rest)

-- where some are counted there is one
is_found : {X : Type 0} (test : X → Bool) (xs : List X) → 1 ≤ count_by test xs → Any (λ x. test x ≡ true) xs
is_found test [] l = absurd (omega arith)
is_found test (x ∷ xs) l = by (test x) refl (λ more. is_found test xs more)
  where
    later : Any (λ y. test y ≡ true) xs → Any (λ y. test y ≡ true) (x ∷ xs)
    later h = (suc h.0, h.1, omega (arith, h.2), h.3, h.4)

    by : (b : Bool) → test x ≡ b → (1 ≤ count_by test xs → Any (λ y. test y ≡ true) xs) → Any (λ y. test y ≡ true) (x ∷ xs)
    by true e rest = (0, x, omega arith, refl, e)
    by false e rest =
        let a = sum_by-cons (λ y. cond (test y) 1 0) x xs in
        let b : one_where (test x) ≡ 0 = ap one_where e in
        later (rest (omega (arith, a, b, l)))

-- ---- rows and nodes

module _ (shown : Path → Path) (lines : List Line) (survey : List Entry) (h : IsSurveyBy shown lines survey) where
  rows_of_node : (mark : Mark) → count_by (λ entry. is_at shown entry.path entry.kind mark) survey ≡ entries_with (shown mark.path) mark.kind survey
  rows_of_node mark =
      same_sums (λ entry. cond (is_at shown entry.path entry.kind mark) 1 0)
      (λ (entry : Entry). cond (path_equal (shown mark.path) entry.path && same_kind mark.kind entry.kind) 1 0) survey
      (λ k d l. let entry = get_or survey k d in
      ap (λ b. cond b 1 0) (ap₂ (λ (a b : Bool). a && b) (path_symm entry.path (shown mark.path)) (nat_eq_equiv.symm (kind_number entry.kind) (kind_number mark.kind))))

  is_there : (k : ℕ) (d : Mark) → k < length (marks_in lines) → count_by (λ entry. is_at shown entry.path entry.kind (get_or (marks_in lines) k d)) survey ≡ 1
  is_there k d l =
      let mark = get_or (marks_in lines) k d in
      let some = is_counted (is_at shown (shown mark.path) mark.kind) (marks_in lines) k d l
      (ap₂ (λ (a b : Bool). a && b) (path_itself (shown mark.path)) (nat_eq_equiv.refl (kind_number mark.kind))) in
      let once = h.once (shown mark.path) mark.kind in
      let rows = rows_of_node mark in
      omega (arith, some, once, rows)

  pub nodes_sum : sum_by (λ entry. entry.nodes) survey ≡ length (marks_in lines)
  nodes_sum =
      same_sums (λ (entry : Entry). entry.nodes) (λ entry. count_by (is_at shown entry.path entry.kind) (marks_in lines)) survey h.nodes
      ∙ crossed (λ (entry : Entry). is_at shown entry.path entry.kind) survey (marks_in lines)
      ∙ same_sums (λ mark. count_by (λ entry. is_at shown entry.path entry.kind mark) survey) (λ mark. 1) (marks_in lines) is_there
      ∙ ones (marks_in lines)

  -- a row is of a node that is shown by its path
  row_found : (k : ℕ) (d : Entry) → k < length survey → Any (λ mark. is_at shown (get_or survey k d).path (get_or survey k d).kind mark ≡ true) (marks_in lines)
  row_found k d l =
      let entry = get_or survey k d in
      let there = is_counted (λ (other : Entry). path_equal entry.path other.path && same_kind entry.kind other.kind) survey k d l
      (ap₂ (λ (a b : Bool). a && b) (path_itself entry.path) (nat_eq_equiv.refl (kind_number entry.kind))) in
      let once = h.once entry.path entry.kind in
      is_found (is_at shown entry.path entry.kind) (marks_in lines) (let some : 1 ≤ nodes_at shown lines entry.path entry.kind = omega (arith, there, once) in some)

-- a path is shown by what it is folded to
stands : (fold : ℕ) (paths : List Path) (stride : Stride) → stands_for (folded_stride fold paths stride) stride ≡ true
stands fold paths element = refl
stands fold paths others = refl
stands fold paths (member x) = by (has_many_names fold paths)
  where
    by : (b : Bool) → stands_for (if b then others else member x) (member x) ≡ true
    by true = refl
    by false = nat_list_eq_equiv.refl x

folded_fits : (fold : ℕ) (paths : List Path) (path : Path) → fits (folded fold paths path) path ≡ true
folded_fits fold paths [] = refl
folded_fits fold paths (stride ∷ rest) =
    ap₂ (λ (a b : Bool). a && b) (stands fold paths stride) (folded_fits fold (rests_under (folded_stride fold paths stride) paths) rest)

module _ (fold : ℕ) (lines : List Line) where
  of_node : (entry : Entry) → Any (λ mark. is_at (shown_by fold lines) entry.path entry.kind mark ≡ true) (marks_in lines)
      → Any (λ mark. (fits entry.path mark.path ≡ true) × (mark.kind ≡ entry.kind)) (marks_in lines)
  of_node entry found =
      let mark = found.1 in
      let parts = and_parts (path_equal entry.path (shown_by fold lines mark.path)) (same_kind entry.kind mark.kind) found.4 in (
        found.0,
        mark,
        found.2,
        found.3,
        (ap (λ path. fits path mark.path) (path_same entry.path (shown_by fold lines mark.path) parts.0) ∙ folded_fits fold (paths_in lines) mark.path, sym (kind_same entry.kind mark.kind parts.1)),
      )

  pub rows_of_nodes : (survey : List Entry) → IsSurvey fold lines survey → All (λ entry. Any (λ mark. (fits entry.path mark.path ≡ true) × (mark.kind ≡ entry.kind)) (marks_in lines)) survey
  rows_of_nodes survey h = λ k d l. of_node (get_or survey k d) (row_found (shown_by fold lines) lines survey h k d l)
