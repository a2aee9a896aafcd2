-- Where nodes are counted at places, the entries of the places are a survey; and where paths are shown alike, it is one of both.
use Rattle.std.proofs.Common.{◌≡◌, ◌∙◌, ℕ, ◌+◌, ◌||◌, List, [], ◌∷◌, ◌++◌, get_or, Bool, true, false, Some, None, ap, ap₂, refl, subst, sym, arith, cond, min, length-append}
use Rattle.std.specs.Prelude.{All, count_by, if◌then◌else◌}
use Rattle.std.specs.List.{list_any}
use Rattle.std.proofs.lemmas.List.{get_or_append_left}
use Rattle.std.proofs.lemmas.List.Elements.{All-tail}
use Rattle.std.proofs.lemmas.List.Sums.{sum_by-cons}
use Rattle.jp_survey.specs.Counts.{Counted}
use Rattle.jp_survey.specs.Entries.{IsListing}
use Rattle.jp_survey.specs.Paths.{Line, Mark, Path, marks_of, path_equal}
use Rattle.jp_survey.specs.Surveys.{Entry, IsSurveyBy, is_at, is_folded, lines_at, marks_in, nodes_at, told_lines}
use Rattle.jp_survey.specs.declared.count.PlaceCounts.{PlaceCounts}
use Rattle.jp_survey.specs.declared.kind.NodeKind.{NodeKind}

-- ---- the entries of places

-- lines are told alike where they are as many, or where they are not told
told_alike : (path : Path) (few many : ℕ) → (is_folded path ≡ false → few ≡ many) → told_lines path few ≡ told_lines path many
told_alike path few many same = by (is_folded path) refl
  where
    by : (b : Bool) → is_folded path ≡ b → (if b then None else Some few) ≡ (if b then None else Some many)
    by true e = refl
    by false e = ap (λ (n : ℕ). Some n) (same e)

pub survey_of_listing : (shown : Path → Path) (lines : List Line) (newest : ℕ) (paths : List Path) (counts : List PlaceCounts) (survey : List Entry)
    → IsListing paths counts survey → Counted shown lines newest paths counts → IsSurveyBy shown lines survey
survey_of_listing shown lines newest paths counts survey listed counted = record {
  nodes = λ i d l. let entry = get_or survey i d in listed.nodes i d l ∙ counted.nodes (path_equal entry.path) entry.kind;
  lines = λ i d l. let entry = get_or survey i d in listed.lines i d l ∙ told_alike entry.path _ _ (counted.in_lines entry.path entry.kind);
  once = λ path kind. listed.once path kind ∙ ap (min 1) (counted.nodes (path_equal path) kind);
  order = listed.order;
}

-- ---- paths that are shown alike

any_alike : {X : Type 0} (p q : X → Bool) (xs : List X) → All (λ x. p x ≡ q x) xs → list_any p xs ≡ list_any q xs
any_alike p q [] same = refl
any_alike p q (x ∷ xs) same = ap₂ (λ (a b : Bool). a || b) (same 0 x (omega arith)) (any_alike p q xs (All-tail (λ x. p x ≡ q x) x xs same))

count_alike : {X : Type 0} (p q : X → Bool) (xs : List X) → All (λ x. p x ≡ q x) xs → count_by p xs ≡ count_by q xs
count_alike p q [] same = refl
count_alike p q (x ∷ xs) same =
    sum_by-cons (λ y. cond (p y) 1 0) x xs
    ∙ ap₂ (λ (b : Bool) (n : ℕ). cond b 1 0 + n) (same 0 x (omega arith)) (count_alike p q xs (All-tail (λ x. p x ≡ q x) x xs same))
    ∙ sym (sum_by-cons (λ y. cond (q y) 1 0) x xs)

-- what holds of each of two lists after one another holds of each of them
module _ {X : Type 0} (P : X → Type 0) where
  first_part : (xs ys : List X) → All P (xs ++ ys) → All P xs
  first_part xs ys h i d l =
      let long = length-append xs ys in
      subst P (get_or_append_left xs ys d i l) (h i d (omega (arith, long, l)))

  last_part : (xs ys : List X) → All P (xs ++ ys) → All P ys
  last_part [] ys h = h
  last_part (x ∷ xs) ys h = last_part xs ys (All-tail P x (xs ++ ys) h)

module _ (shown other : Path → Path) where
  module _ (path : Path) (kind : NodeKind) where
    seen_alike : (marks : List Mark) → All (λ mark. shown mark.path ≡ other mark.path) marks → All (λ mark. is_at shown path kind mark ≡ is_at other path kind mark) marks
    seen_alike marks same i d l = ap (λ (p : Path). is_at (λ _. p) path kind (get_or marks i d)) (same i d l)

    lines_alike : (lines : List Line) → All (λ mark. shown mark.path ≡ other mark.path) (marks_in lines) → lines_at shown lines path kind ≡ lines_at other lines path kind
    lines_alike [] same = refl
    lines_alike (t ∷ lines) same =
        let first = first_part (λ (mark : Mark). shown mark.path ≡ other mark.path) (marks_of t) (marks_in lines) same in
        let rest = last_part (λ (mark : Mark). shown mark.path ≡ other mark.path) (marks_of t) (marks_in lines) same in
        sum_by-cons (λ (text : Line). cond (list_any (is_at shown path kind) (marks_of text)) 1 0) t lines
        ∙ ap₂ (λ (b : Bool) (n : ℕ). cond b 1 0 + n) (any_alike (is_at shown path kind) (is_at other path kind) (marks_of t) (seen_alike (marks_of t) first)) (lines_alike lines rest)
        ∙ sym (sum_by-cons (λ (text : Line). cond (list_any (is_at other path kind) (marks_of text)) 1 0) t lines)

  -- a survey by one way to show paths is one by another that shows those of all nodes alike
  pub survey_shown : (lines : List Line) (survey : List Entry) → All (λ mark. shown mark.path ≡ other mark.path) (marks_in lines) → IsSurveyBy shown lines survey → IsSurveyBy other lines survey
  survey_shown lines survey same h = record {
    nodes = λ i d l. let entry = get_or survey i d in h.nodes i d l ∙ nodes_alike entry.path entry.kind;
    lines = λ i d l. let entry = get_or survey i d in h.lines i d l ∙ ap (told_lines entry.path) (lines_alike entry.path entry.kind lines same);
    once = λ path kind. h.once path kind ∙ ap (min 1) (nodes_alike path kind);
    order = h.order;
  }
    where
      nodes_alike : (path : Path) (kind : NodeKind) → nodes_at shown lines path kind ≡ nodes_at other lines path kind
      nodes_alike path kind = count_alike (is_at shown path kind) (is_at other path kind) (marks_in lines) (seen_alike path kind (marks_in lines) same)
