-- Where each path is that of one place, each path and kind has one entry at most, which has the counts of its place.
use Rattle.std.proofs.Common.{◌≡◌, ◌∙◌, ◌&&◌, ◌+◌, ◌≤◌, ℕ, List, [], ◌∷◌, ◌++◌, get_or, Bool, true, false, ap, ap₂, arith, refl, cond, min}
use Rattle.std.specs.Prelude.{◌==◌, All, if◌then◌else◌}
use Rattle.std.specs.List.{AllByRecursion, IsDistinct}
use Rattle.std.specs.List.Sorted.{IsPermutation, IsSorted}
use Rattle.std.proofs.lemmas.Bool.Decides.{nat_tests}
use Rattle.std.proofs.lemmas.List.Elements.{All-append, All-cons, All-nil}
use Rattle.std.proofs.lemmas.List.Sorted.{All-permutation, sum_by-IsPermutation}
use Rattle.std.proofs.lemmas.List.Sums.{sum_by-append, sum_by-cons}
use Rattle.jp_survey.specs.Counts.{count_of, lines_of, nodes_of, sum_where}
use Rattle.jp_survey.specs.Entries.{IsListing, counted, entries_at, entries_of, entry_at}
use Rattle.jp_survey.specs.Paths.{Path, path_equal, same_kind}
use Rattle.jp_survey.specs.Surveys.{Entry, entries_with, entry_cmp, told_lines}
use Rattle.jp_survey.specs.declared.count.Count.{Count}
use Rattle.jp_survey.specs.declared.count.PlaceCounts.{PlaceCounts}
use Rattle.jp_survey.specs.declared.kind.NodeKind.{NodeKind}
use Rattle.jp_survey.specs.declared.kind.NodeKind.TheVariants as kinds
use Rattle.jp_survey.proofs.Equalities.{path_itself, path_same, path_symm}

-- ---- how many entries there are

-- one where it is so
abbrev mark : Path → NodeKind → Entry → ℕ
mark path kind e = cond (path_equal path e.path && same_kind kind e.kind) 1 0

with_more : (path : Path) (kind : NodeKind) (front back : List Entry)
    → entries_with path kind (front ++ back) ≡ entries_with path kind front + entries_with path kind back
with_more path kind front back = sum_by-append (mark path kind) front back

-- one entry, where there is a node
at_kind : (path place : Path) (kind k : NodeKind) (count : Count)
    → entries_with path kind (entry_at place k count) ≡ cond (path_equal path place && same_kind kind k) (min 1 count.nodes) 0
at_kind path place kind k count = by (count.nodes == 0) (path_equal path place && same_kind kind k) refl refl
  where
    by : (none test : Bool) → (count.nodes == 0) ≡ none → (path_equal path place && same_kind kind k) ≡ test
        → entries_with path kind (if none then [] else counted place k count ∷ []) ≡ cond test (min 1 count.nodes) 0
    by true true e f = let zero : count.nodes ≡ 0 = grind (arith, nat_tests) in omega arith
    by true false e f = refl
    by false true e f =
        let some : 1 ≤ count.nodes = grind (arith, nat_tests) in
        let one = sum_by-cons (mark path kind) (counted place k count) [] in
        let is : mark path kind (counted place k count) ≡ 1 = ap (λ b. cond b 1 0) f in
        omega (arith, one, is, some)
    by false false e f =
        let one = sum_by-cons (mark path kind) (counted place k count) [] in
        let is : mark path kind (counted place k count) ≡ 0 = ap (λ b. cond b 1 0) f in
        omega (arith, one, is)

picked : (b : Bool) (kind : NodeKind) (c : PlaceCounts)
    → cond (b && same_kind kind kinds.Null) (min 1 c.null.nodes) 0 + cond (b && same_kind kind kinds.Boolean) (min 1 c.boolean.nodes) 0
    + cond (b && same_kind kind kinds.Number) (min 1 c.number.nodes) 0 + cond (b && same_kind kind kinds.String) (min 1 c.string.nodes) 0
    + cond (b && same_kind kind kinds.Array) (min 1 c.array.nodes) 0 + cond (b && same_kind kind kinds.Object) (min 1 c.object.nodes) 0
    ≡ cond b (min 1 (nodes_of kind c)) 0
picked false kind c = refl
picked true kinds.Null c = omega arith
picked true kinds.Boolean c = omega arith
picked true kinds.Number c = omega arith
picked true kinds.String c = omega arith
picked true kinds.Array c = omega arith
picked true kinds.Object c = omega arith

at_place : (path place : Path) (kind : NodeKind) (c : PlaceCounts)
    → entries_with path kind (entries_of place c) ≡ cond (path_equal path place) (min 1 (nodes_of kind c)) 0
at_place path place kind c =
    let n = entry_at place kinds.Null c.null in let b = entry_at place kinds.Boolean c.boolean in let d = entry_at place kinds.Number c.number in
    let s = entry_at place kinds.String c.string in let a = entry_at place kinds.Array c.array in let o = entry_at place kinds.Object c.object in
    let all = picked (path_equal path place) kind c in
    let n-is = at_kind path place kind kinds.Null c.null in let b-is = at_kind path place kind kinds.Boolean c.boolean in
    let d-is = at_kind path place kind kinds.Number c.number in let s-is = at_kind path place kind kinds.String c.string in
    let a-is = at_kind path place kind kinds.Array c.array in let o-is = at_kind path place kind kinds.Object c.object in
    let first = with_more path kind n b in let second = with_more path kind (n ++ b) d in let third = with_more path kind (n ++ b ++ d) s in
    let fourth = with_more path kind (n ++ b ++ d ++ s) a in let fifth = with_more path kind (n ++ b ++ d ++ s ++ a) o in
    omega (arith, all, n-is, b-is, d-is, s-is, a-is, o-is, first, second, third, fourth, fifth)

-- nothing is at the places of other paths
none_placed : (number : PlaceCounts → ℕ) (path : Path) (paths : List Path) (counts : List PlaceCounts) → AllByRecursion (λ other. path_equal path other ≡ false) paths
    → sum_where number (path_equal path) paths counts ≡ 0
none_placed number path [] counts h = refl
none_placed number path (place ∷ paths) [] h = refl
none_placed number path (place ∷ paths) (c ∷ more) h = ap₂ (λ (b : Bool) (n : ℕ). cond b (number c) 0 + n) h.0 (none_placed number path paths more h.1)

once_more : (b : Bool) (n m : ℕ) → (b ≡ true → m ≡ 0) → cond b (min 1 n) 0 + min 1 m ≡ min 1 (cond b n 0 + m)
once_more true n m h = let zero = h refl in omega (arith, zero)
once_more false n m h = omega arith

once_each : (paths : List Path) (counts : List PlaceCounts) → IsDistinct path_equal paths → (path : Path) (kind : NodeKind)
    → entries_with path kind (entries_at paths counts) ≡ min 1 (sum_where (nodes_of kind) (path_equal path) paths counts)
unfolding IsDistinct
once_each [] counts d path kind = refl
once_each (place ∷ paths) [] d path kind = refl
once_each (place ∷ paths) (c ∷ more) d path kind =
    with_more path kind (entries_of place c) (entries_at paths more)
    ∙ ap₂ (λ (m n : ℕ). m + n) (at_place path place kind c) (once_each paths more d.1 path kind)
    ∙ once_more (path_equal path place) (nodes_of kind c) (sum_where (nodes_of kind) (path_equal path) paths more)
    (λ same. ap (λ (p : Path). sum_where (nodes_of kind) (path_equal p) paths more) (path_same path place same) ∙ none_placed (nodes_of kind) place paths more d.0)

-- ---- what entries have

-- a fact of the entries of a place, kind by kind
pub each_kind : (P : Entry → Type 0) (place : Path) (c : PlaceCounts) → ((kind : NodeKind) → P (counted place kind (count_of c kind))) → All P (entries_of place c)
each_kind P place c h =
    let n = entry_at place kinds.Null c.null in let b = entry_at place kinds.Boolean c.boolean in let d = entry_at place kinds.Number c.number in
    let s = entry_at place kinds.String c.string in let a = entry_at place kinds.Array c.array in let o = entry_at place kinds.Object c.object in
    All-append P (n ++ b ++ d ++ s ++ a) o
    (All-append P (n ++ b ++ d ++ s) a
    (All-append P (n ++ b ++ d) s
    (All-append P (n ++ b) d (All-append P n b (one (c.null.nodes == 0) kinds.Null c.null (h kinds.Null)) (one (c.boolean.nodes == 0) kinds.Boolean c.boolean (h kinds.Boolean)))
    (one (c.number.nodes == 0) kinds.Number c.number (h kinds.Number))) (one (c.string.nodes == 0) kinds.String c.string (h kinds.String)))
    (one (c.array.nodes == 0) kinds.Array c.array (h kinds.Array))) (one (c.object.nodes == 0) kinds.Object c.object (h kinds.Object))
  where
    one : (none : Bool) (kind : NodeKind) (count : Count) → P (counted place kind count) → All P (if none then [] else counted place kind count ∷ [])
    one true kind count p = All-nil P
    one false kind count p = All-cons P (counted place kind count) [] p (All-nil P)

-- entries have the paths of places
others_differ : (path : Path) (paths : List Path) (counts : List PlaceCounts) → AllByRecursion (λ other. path_equal path other ≡ false) paths
    → All (λ entry. path_equal entry.path path ≡ false) (entries_at paths counts)
others_differ path [] counts h = All-nil (λ entry. path_equal entry.path path ≡ false)
others_differ path (place ∷ paths) [] h = All-nil (λ entry. path_equal entry.path path ≡ false)
others_differ path (place ∷ paths) (c ∷ more) h =
    All-append (λ entry. path_equal entry.path path ≡ false) (entries_of place c) (entries_at paths more)
    (each_kind (λ entry. path_equal entry.path path ≡ false) place c (λ kind. path_symm place path ∙ h.0)) (others_differ path paths more h.1)

-- an entry has what is at the places of its path
abbrev HasOwn : List Path → List PlaceCounts → Entry → Type 0
HasOwn paths counts entry =
    (entry.nodes ≡ sum_where (nodes_of entry.kind) (path_equal entry.path) paths counts)
    × (entry.lines ≡ told_lines entry.path (sum_where (lines_of entry.kind) (path_equal entry.path) paths counts))

module _ (number : PlaceCounts → ℕ) (place : Path) (paths : List Path) (c : PlaceCounts) (more : List PlaceCounts) where
  own_first : AllByRecursion (λ other. path_equal place other ≡ false) paths → number c ≡ sum_where number (path_equal place) (place ∷ paths) (c ∷ more)
  own_first h =
      let here : cond (path_equal place place) (number c) 0 ≡ number c = ap (λ b. cond b (number c) 0) (path_itself place) in
      let none = none_placed number place paths more h in
      omega (arith, here, none)

  own_later : (path : Path) → path_equal path place ≡ false → sum_where number (path_equal path) paths more ≡ sum_where number (path_equal path) (place ∷ paths) (c ∷ more)
  own_later path e =
      let here : cond (path_equal path place) (number c) 0 ≡ 0 = ap (λ b. cond b (number c) 0) e in
      omega (arith, here)

own_each : (paths : List Path) (counts : List PlaceCounts) → IsDistinct path_equal paths → All (HasOwn paths counts) (entries_at paths counts)
unfolding IsDistinct
own_each [] counts d = All-nil (HasOwn [] counts)
own_each (place ∷ paths) [] d = All-nil (HasOwn (place ∷ paths) [])
own_each (place ∷ paths) (c ∷ more) d =
    All-append (HasOwn (place ∷ paths) (c ∷ more)) (entries_of place c) (entries_at paths more)
    (each_kind (HasOwn (place ∷ paths) (c ∷ more)) place c
    (λ kind. (own_first (nodes_of kind) place paths c more d.0, ap (told_lines place) (own_first (lines_of kind) place paths c more d.0))))
    (later (own_each paths more d.1))
  where
    later : All (HasOwn paths more) (entries_at paths more) → All (HasOwn (place ∷ paths) (c ∷ more)) (entries_at paths more)
    later owns i e l =
        let entry = get_or (entries_at paths more) i e in
        let own = owns i e l in
        let other = others_differ place paths more d.0 i e l in (
          own.0 ∙ own_later (nodes_of entry.kind) place paths c more entry.path other,
          own.1 ∙ ap (told_lines entry.path) (own_later (lines_of entry.kind) place paths c more entry.path other),
        )

-- the entries of places, once they are in order
pub listing_of_places : (paths : List Path) (counts : List PlaceCounts) (survey : List Entry) → IsDistinct path_equal paths
    → IsPermutation (entries_at paths counts) survey → IsSorted entry_cmp survey → IsListing paths counts survey
listing_of_places paths counts survey d moved sorted =
    let own = All-permutation (HasOwn paths counts) (entries_at paths counts) survey moved (own_each paths counts d) in
    record {
      nodes = λ i e l. (own i e l).0;
      lines = λ i e l. (own i e l).1;
      once = λ path kind. sum_by-IsPermutation (mark path kind) (entries_at paths counts) survey moved ∙ once_each paths counts d path kind;
      order = sorted;
    }
