-- Lines in another order have the same survey: which objects are folded is decided by what paths there are, and not by their order.
use Rattle.std.proofs.Common.{◌≡◌, ◌∙◌, ◌||◌, ◌+◌, ℕ, List, [], ◌∷◌, Bool, true, false, ap, ap₂, sym, subst, refl, map, cond, get_or, ltb}
use Rattle.std.specs.Prelude.{count_by, sum_by, min, if◌then◌else◌}
use Rattle.std.specs.List.{AllByRecursion, IsDistinct, list_any}
use Rattle.std.specs.List.Sorted.{IsPermutation}
use Rattle.std.specs.Set.{distinct_count, is_member, unique_keys}
use Rattle.std.proofs.lemmas.Bool.{or_parts}
use Rattle.std.proofs.lemmas.Cmp.{nat_list_eq_equiv}
use Rattle.std.proofs.lemmas.List.{map-append}
use Rattle.std.proofs.lemmas.List.Folds.{list_any-append}
use Rattle.std.proofs.lemmas.List.Sorted.{list_any-IsPermutation, sum_by-IsPermutation}
use Rattle.std.proofs.lemmas.List.Sums.{sum_by-append, sum_by-cons}
use Rattle.std.proofs.lemmas.Map.Made.{length-from_keys}
use Rattle.std.proofs.lemmas.Map.Steps.{list_any_congr}
use Rattle.jp_model.specs.Characters.{text_equal}
use Rattle.jp_survey.specs.Folds.{first_name, first_names, folded, folded_stride, rest_under, rests_under}
use Rattle.jp_survey.specs.Paths.{Line, Mark, Path, Stride, element, marks_of, member, others}
use Rattle.jp_survey.specs.Surveys.{Entry, IsSurvey, IsSurveyBy, is_at, lines_at, marks_in, nodes_at, paths_in, shown_by, told_lines}
use Rattle.jp_survey.specs.declared.kind.NodeKind.{NodeKind}
use Rattle.jp_survey.proofs.Told.{survey_shown}

-- ---- the different names among some

none_of : {X : Type 0} (test : X → Bool) (xs : List X) → list_any test xs ≡ false → AllByRecursion (λ x. test x ≡ false) xs
none_of test [] e = tt
none_of test (x ∷ xs) e = let both = or_parts (test x) (list_any test xs) e in (both.0, none_of test xs both.1)

-- these are the different names among some, each once
record AreNamesOf (names : List (List ℕ)) (each : List (List ℕ)) : Type 0 where
  distinct : IsDistinct text_equal each
  same : (name : List ℕ) → is_member text_equal each name ≡ is_member text_equal names name

one_more : (name : List ℕ) (names each : List (List ℕ)) (b : Bool) → is_member text_equal names name ≡ b → AreNamesOf names each → AreNamesOf (name ∷ names) (cond b each (name ∷ each))
unfolding IsDistinct
one_more name names each true among so = record {
  distinct = so.distinct;
  same = λ other. so.same other ∙ sym (again other (text_equal other name) refl);
}
  where
    again : (other : List ℕ) (b : Bool) → text_equal other name ≡ b → (b || is_member text_equal names other) ≡ is_member text_equal names other
    again other false e = refl
    again other true e = sym (list_any_congr nat_list_eq_equiv other name names e ∙ among)
one_more name names each false among so = record {
  distinct = (none_of (text_equal name) each (so.same name ∙ among), so.distinct);
  same = λ other. ap (λ b. text_equal other name || b) (so.same other);
}

names_once : (names : List (List ℕ)) → AreNamesOf names (unique_keys text_equal names)
unfolding IsDistinct
names_once [] = record { distinct = tt; same = λ name. refl }
names_once (name ∷ names) = one_more name names (unique_keys text_equal names) (is_member text_equal names name) refl (names_once names)

-- names are as many as others where the same are among both
same_count : (names more : List (List ℕ)) → ((name : List ℕ) → is_member text_equal names name ≡ is_member text_equal more name) → distinct_count text_equal names ≡ distinct_count text_equal more
same_count names more same =
    let once = names_once names in
    length-from_keys nat_list_eq_equiv (unique_keys text_equal names) more once.distinct (λ name. once.same name ∙ same name)

-- ---- what folds a path

-- a test finds a path among some exactly where it finds one among others
abbrev AreSame : List Path → List Path → Type 0
AreSame paths more = (test : Path → Bool) → list_any test paths ≡ list_any test more

any_name : (test : List ℕ → Bool) (paths : List Path) → list_any test (first_names paths) ≡ list_any (λ path. list_any test (first_name path)) paths
any_name test [] = refl
any_name test (path ∷ more) = list_any-append test (first_name path) (first_names more) ∙ ap (λ b. list_any test (first_name path) || b) (any_name test more)

any_rest : (shown : Stride) (test : Path → Bool) (paths : List Path) → list_any test (rests_under shown paths) ≡ list_any (λ path. list_any test (rest_under shown path)) paths
any_rest shown test [] = refl
any_rest shown test (path ∷ more) = list_any-append test (rest_under shown path) (rests_under shown more) ∙ ap (λ b. list_any test (rest_under shown path) || b) (any_rest shown test more)

same_rests : (left right : Stride) (paths more : List Path) → left ≡ right → AreSame paths more → AreSame (rests_under left paths) (rests_under right more)
same_rests left right paths more is same =
    subst (λ stride. AreSame (rests_under left paths) (rests_under stride more)) is
    (λ test. any_rest left test paths ∙ same (λ path. list_any test (rest_under left path)) ∙ sym (any_rest left test more))

same_stride : (fold : ℕ) (paths more : List Path) (stride : Stride) → AreSame paths more → folded_stride fold paths stride ≡ folded_stride fold more stride
same_stride fold paths more element same = refl
same_stride fold paths more others same = refl
same_stride fold paths more (member name) same =
    ap (λ count. if ltb fold count then others else member name)
    (same_count (first_names paths) (first_names more)
    (λ text. any_name (text_equal text) paths ∙ same (λ path. list_any (text_equal text) (first_name path)) ∙ sym (any_name (text_equal text) more)))

-- a path is folded alike among paths that are the same
same_folded : (fold : ℕ) (path : Path) (paths more : List Path) → AreSame paths more → folded fold paths path ≡ folded fold more path
same_folded fold [] paths more same = refl
same_folded fold (stride ∷ rest) paths more same =
    let is = same_stride fold paths more stride same in
    ap₂ (λ (first : Stride) (after : Path). first ∷ after) is
    (same_folded fold rest (rests_under (folded_stride fold paths stride) paths) (rests_under (folded_stride fold more stride) more)
    (same_rests (folded_stride fold paths stride) (folded_stride fold more stride) paths more is same))

-- ---- texts in another order

any_text : (test : Path → Bool) (lines : List Line) → list_any test (paths_in lines) ≡ list_any (λ t. list_any test (map (λ mark. mark.path) (marks_of t))) lines
any_text test [] = refl
any_text test (t ∷ lines) =
    ap (list_any test) (map-append (λ (mark : Mark). mark.path) (marks_of t) (marks_in lines))
    ∙ list_any-append test (map (λ mark. mark.path) (marks_of t)) (paths_in lines)
    ∙ ap (λ b. list_any test (map (λ mark. mark.path) (marks_of t)) || b) (any_text test lines)

same_shown : (fold : ℕ) (lines other : List Line) (path : Path) → IsPermutation lines other → shown_by fold lines path ≡ shown_by fold other path
same_shown fold lines other path moved =
    same_folded fold path (paths_in lines) (paths_in other)
    (λ test. any_text test lines ∙ list_any-IsPermutation (λ t. list_any test (map (λ mark. mark.path) (marks_of t))) lines other moved ∙ sym (any_text test other))

count_texts : (test : Mark → Bool) (lines : List Line) → count_by test (marks_in lines) ≡ sum_by (λ t. count_by test (marks_of t)) lines
count_texts test [] = refl
count_texts test (t ∷ lines) =
    sum_by-append (λ mark. cond (test mark) 1 0) (marks_of t) (marks_in lines)
    ∙ ap (λ n. count_by test (marks_of t) + n) (count_texts test lines)
    ∙ sym (sum_by-cons (λ t. count_by test (marks_of t)) t lines)

-- a survey of texts is one of them in another order
module _ (shown : Path → Path) (lines other : List Line) (moved : IsPermutation lines other) where
  same_nodes : (path : Path) (kind : NodeKind) → nodes_at shown lines path kind ≡ nodes_at shown other path kind
  same_nodes path kind =
      count_texts (is_at shown path kind) lines
      ∙ sym (sum_by-IsPermutation (λ t. count_by (is_at shown path kind) (marks_of t)) lines other moved)
      ∙ sym (count_texts (is_at shown path kind) other)

  same_lines : (path : Path) (kind : NodeKind) → lines_at shown lines path kind ≡ lines_at shown other path kind
  same_lines path kind = sym (sum_by-IsPermutation (λ t. cond (list_any (is_at shown path kind) (marks_of t)) 1 0) lines other moved)

  reordered : (survey : List Entry) → IsSurveyBy shown lines survey → IsSurveyBy shown other survey
  reordered survey h = record {
    nodes = λ k d l. let entry = get_or survey k d in h.nodes k d l ∙ same_nodes entry.path entry.kind;
    lines = λ k d l. let entry = get_or survey k d in h.lines k d l ∙ ap (told_lines entry.path) (same_lines entry.path entry.kind);
    once = λ path kind. h.once path kind ∙ ap (min 1) (same_nodes path kind);
    order = h.order;
  }

pub survey_moved : (fold : ℕ) (lines other : List Line) (survey : List Entry) → IsPermutation lines other → IsSurvey fold lines survey → IsSurvey fold other survey
survey_moved fold lines other survey moved h =
    reordered (shown_by fold other) lines other moved survey
    (survey_shown (shown_by fold lines) (shown_by fold other) lines survey (λ k d l. same_shown fold lines other (get_or (marks_in lines) k d).path moved) h)
