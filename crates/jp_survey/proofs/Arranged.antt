-- Places in order have the entries of all places, in order.
use Rattle.std.proofs.Common.{◌≡◌, ◌∙◌, ℕ, zero, suc, ◌+◌, ◌-◌, ◌<◌, ◌≤◌, ◌⊎◌, inl, inr, List, [], ◌∷◌, ◌++◌, length, get_or, take, drop, Bool, true, false, ◌||◌, ap, ap₂, refl, sym, subst, arith, eqb, append_assoc, append-nil, drop-cons, length-append}
use Rattle.std.specs.Prelude.{◌==◌, All, cond, flat_map, if◌then◌else◌}
use Rattle.std.specs.Cmp.Lexicographic.{slice_cmp}
use Rattle.std.specs.List.{AllByRecursion, IsDistinct, list_any, range_with_len}
use Rattle.std.specs.List.Sorted.{IsPermutation, IsSorted}
use Rattle.std.specs.Ordering.{is_lt, nat_cmp, ordering_then}
use Rattle.std.specs.declared.cmp.Ordering.{Ordering}
use Rattle.std.specs.declared.cmp.Ordering.TheVariants.{Less, Equal, Greater}
use Rattle.std.proofs.Math.Seq.{get_or-append_right}
use Rattle.std.proofs.lemmas.Bool.{cases_Bool, cases_eq, cases_lt, eq-eqb, eqb-true, lt-ltb, or_right}
use Rattle.std.proofs.lemmas.Cmp.{nat_cmp_total}
use Rattle.std.proofs.lemmas.List.{get_or_append_left, get_or_default, take-append-drop, take_more}
use Rattle.std.proofs.lemmas.List.Concat.{flat_map-append}
use Rattle.std.proofs.lemmas.List.Elements.{All-append, All-cons, All-nil}
use Rattle.std.proofs.lemmas.List.Folds.{Any-from_list_any}
use Rattle.std.proofs.lemmas.List.Sorted.{IsPermutation-append_comm, IsPermutation-append_left, IsPermutation-append_right, IsPermutation-middle, IsPermutation-refl, IsPermutation-trans, list_any-IsPermutation}
use Rattle.std.proofs.lemmas.Map.Keys.{IsDistinct-IsPermutation, IsDistinct-head, IsDistinct-tail}
use Rattle.std.proofs.lemmas.Map.Made.{IsDistinct-from_AllPairs}
use Rattle.std.proofs.lemmas.Map.Steps.{length-le_from_distinct_below}
use Rattle.jp_survey.specs.Counts.{counts_at}
use Rattle.jp_survey.specs.Entries.{counted, entries_at, entries_of, entry_at}
use Rattle.jp_survey.specs.Paths.{Path, kind_number}
use Rattle.jp_survey.specs.Places.{path_at}
use Rattle.jp_survey.specs.Surveys.{Entry, entry_cmp, stride_cmp}
use Rattle.jp_survey.specs.Walked.{AreOrdered, IsOrdered, entries_in}
use Rattle.jp_survey.specs.declared.count.Count.{Count}
use Rattle.jp_survey.specs.declared.count.PlaceCounts.{PlaceCounts}
use Rattle.jp_survey.specs.declared.kind.NodeKind.{NodeKind}
use Rattle.jp_survey.specs.declared.kind.NodeKind.TheVariants as kinds
use Rattle.jp_survey.proofs.Equalities.{number_symm}
use Rattle.jp_survey.proofs.Once.{each_kind}
use Rattle.jp_survey.proofs.Orders.{cmp_itself, greater_from_less, path_total}

-- ---- numbers below a number, each once

range_more : (a n : ℕ) → range_with_len a (suc n) ≡ range_with_len a n ++ (a + n) ∷ []
range_more a zero = let same : a ≡ a + 0 = omega arith in ap (λ (k : ℕ). k ∷ []) same
range_more a (suc n) =
    let same : a + 1 + n ≡ a + suc n = omega arith in
    ap (λ (l : List ℕ). a ∷ l) (range_more (a + 1) n ∙ ap (λ (k : ℕ). range_with_len (a + 1) n ++ k ∷ []) same)

from_first : (i : ℕ) → 0 + i ≡ i
from_first i = omega arith

-- a list with an item at some place
parted : {X : Type 0} (xs : List X) (k : ℕ) (d : X) → k < length xs → take k xs ++ get_or xs k d ∷ drop (suc k) xs ≡ xs
parted xs k d l = ap (λ (r : List _). take k xs ++ r) (sym (drop-cons xs k d l)) ∙ take-append-drop k xs

not_again : (n : ℕ) (xs : List ℕ) → IsDistinct eqb (n ∷ xs) → list_any (eqb n) xs ≡ false
not_again n xs d = none xs (IsDistinct-head eqb n xs d)
  where
    none : (ys : List ℕ) → AllByRecursion (λ y. eqb n y ≡ false) ys → list_any (eqb n) ys ≡ false
    none [] h = refl
    none (y ∷ ys) h = ap₂ (λ (a b : Bool). a || b) h.0 (none ys h.1)

module _ {X : Type 0} (f : ℕ → List X) where
  abbrev AllOnce : ℕ → Type 0
  AllOnce n = (xs : List ℕ) → IsDistinct eqb xs → ((q : ℕ) → list_any (eqb q) xs ≡ true → q < n) → length xs ≡ n → IsPermutation (flat_map f (range_with_len 0 n)) (flat_map f xs)

  -- numbers below n that are n, each once, are all of them
  all_once : (n : ℕ) → AllOnce n
  all_once zero [] d below many = IsPermutation-refl []
  all_once zero (x ∷ xs) d below many = absurd (omega (arith, many))
  all_once (suc n) xs d below many = by (λ ys e inside long. all_once n ys e inside long) (cases_Bool (list_any (eqb n) xs))
    where
      by : AllOnce n → ((list_any (eqb n) xs ≡ true) ⊎ (list_any (eqb n) xs ≡ false)) → IsPermutation (flat_map f (range_with_len 0 (suc n))) (flat_map f xs)
      by fewer (inr none) =
          absurd (let few = length-le_from_distinct_below xs n d (λ q there. let most = below q there in other q there most (cases_eq q n)) in omega (arith, few, many))
        where
          other : (q : ℕ) → list_any (eqb q) xs ≡ true → q < suc n → ((q ≡ n) ⊎ (q ≡ n → ⊥)) → q < n
          other q there most (inl same) = absurd (let it : list_any (eqb n) xs ≡ true = ap (λ (k : ℕ). list_any (eqb k) xs) (sym same) ∙ there in cc)
          other q there most (inr ne) = omega (arith, most, ne)
      by fewer (inl there) =
          let found = Any-from_list_any (eqb n) xs there in
          let k = found.0 in
          let it : get_or xs k 0 ≡ n = get_or_default xs k 0 found.1 found.2 ∙ (found.3 ∙ sym (eqb-true n found.1 found.4)) in
          with_front fewer (take k xs) (drop (suc k) xs) (ap (λ (m : ℕ). take k xs ++ m ∷ drop (suc k) xs) (sym it) ∙ parted xs k 0 found.2)
        where
          with_front : AllOnce n → (front back : List ℕ) → front ++ n ∷ back ≡ xs → IsPermutation (flat_map f (range_with_len 0 (suc n))) (flat_map f xs)
          with_front fewer front back is =
              let rest = front ++ back in
              let moved : IsPermutation xs (n ∷ (front ++ back)) = subst (λ (l : List ℕ). IsPermutation l (n ∷ (front ++ back))) is (IsPermutation-middle front n back) in
              let distinct : IsDistinct eqb (n ∷ (front ++ back)) = IsDistinct-IsPermutation eqb (λ x y. number_symm x y) xs (n ∷ (front ++ back)) moved d in
              let long = ap length is in let first = length-append front (n ∷ back) in let second = length-append front back in
              let before = fewer (front ++ back) (IsDistinct-tail eqb n (front ++ back) distinct)
              (λ q there. lower q there (not_again n (front ++ back) distinct) (below q (list_any-IsPermutation (eqb q) xs (n ∷ (front ++ back)) moved ∙ or_right (eqb q n) (list_any (eqb q) (front ++ back)) there)) (cases_eq q n))
              (omega (arith, long, first, second, many)) in
              joined front back is before
            where
              lower : (q : ℕ) → list_any (eqb q) (front ++ back) ≡ true → list_any (eqb n) (front ++ back) ≡ false → q < suc n → ((q ≡ n) ⊎ (q ≡ n → ⊥)) → q < n
              lower q there none most (inl same) = absurd (let it : list_any (eqb n) (front ++ back) ≡ true = ap (λ (k : ℕ). list_any (eqb k) (front ++ back)) (sym same) ∙ there in cc)
              lower q there none most (inr ne) = omega (arith, most, ne)

              joined : (front back : List ℕ) → front ++ n ∷ back ≡ xs → IsPermutation (flat_map f (range_with_len 0 n)) (flat_map f (front ++ back)) → IsPermutation (flat_map f (range_with_len 0 (suc n))) (flat_map f xs)
              joined front back is before =
                  let F = flat_map f front in let B = flat_map f back in let R = flat_map f (range_with_len 0 n) in
                  let whole : flat_map f (range_with_len 0 (suc n)) ≡ flat_map f (range_with_len 0 n) ++ f n =
                  ap (flat_map f) (range_more 0 n ∙ ap (λ (k : ℕ). range_with_len 0 n ++ k ∷ []) (from_first n)) ∙ (flat_map-append f (range_with_len 0 n) (n ∷ []) ∙ ap (λ (t : List X). flat_map f (range_with_len 0 n) ++ t) (append-nil (f n))) in
                  let apart : flat_map f (front ++ n ∷ back) ≡ flat_map f front ++ (f n ++ flat_map f back) = flat_map-append f front (n ∷ back) in
                  let together : flat_map f (front ++ back) ≡ flat_map f front ++ flat_map f back = flat_map-append f front back in
                  subst (λ (l : List X). IsPermutation l (flat_map f xs)) (sym whole)
                  (subst (λ (l : List X). IsPermutation (R ++ f n) l) (ap (flat_map f) is)
                  (subst (λ (l : List X). IsPermutation (R ++ f n) l) (sym apart)
                  (IsPermutation-trans (R ++ f n) ((F ++ B) ++ f n) (F ++ (f n ++ B))
                  (IsPermutation-append_left (f n) R (F ++ B) (subst (λ (l : List X). IsPermutation R l) together before))
                  (subst (λ (l : List X). IsPermutation l (F ++ (f n ++ B))) (sym (append_assoc F B (f n)))
                  (IsPermutation-append_right F (B ++ f n) (f n ++ B) (IsPermutation-append_comm B (f n)))))))

-- ---- the entries of all places

entries_from : (all : List Path) (whole : List PlaceCounts) (a : ℕ) (paths : List Path) (counts : List PlaceCounts) → length paths ≡ length counts
    → ((i : ℕ) → i < length paths → path_at all (a + i) ≡ path_at paths i) → ((i : ℕ) → i < length paths → counts_at whole (a + i) ≡ counts_at counts i)
    → entries_at paths counts ≡ entries_in all whole (range_with_len a (length paths))
entries_from all whole a [] [] e ps cs = refl
entries_from all whole a [] (c ∷ counts) e ps cs = absurd (omega (arith, e))
entries_from all whole a (p ∷ paths) [] e ps cs = absurd (omega (arith, e))
entries_from all whole a (p ∷ paths) (c ∷ counts) e ps cs =
    let at : a + 0 ≡ a = omega arith in
    ap₂ (λ (x y : List Entry). x ++ y)
    (ap₂ entries_of (sym (ps 0 (omega arith)) ∙ ap (path_at all) at) (sym (cs 0 (omega arith)) ∙ ap (counts_at whole) at))
    (entries_from all whole (a + 1) paths counts (omega (arith, e))
    (λ i l. ap (path_at all) (next i) ∙ ps (suc i) (omega (arith, l))) (λ i l. ap (counts_at whole) (next i) ∙ cs (suc i) (omega (arith, l))))
  where
    next : (i : ℕ) → a + 1 + i ≡ a + suc i
    next i = omega arith

-- ---- in order

sorted_append : (xs ys : List Entry) → IsSorted entry_cmp xs → IsSorted entry_cmp ys → All (λ x. All (λ y. is_lt (entry_cmp y x) ≡ false) ys) xs → IsSorted entry_cmp (xs ++ ys)
sorted_append xs ys sx sy cross k d low l = by (cases_lt (k + 1) (length xs)) (cases_lt k (length xs))
  where
    long : length (xs ++ ys) ≡ length xs + length ys
    long = length-append xs ys

    by : ((k + 1 < length xs) ⊎ (length xs ≤ k + 1)) → ((k < length xs) ⊎ (length xs ≤ k)) → is_lt (entry_cmp (get_or (xs ++ ys) (k + 1) d) (get_or (xs ++ ys) k d)) ≡ false
    by (inl s) t =
        ap₂ (λ (a b : Entry). is_lt (entry_cmp a b)) (get_or_append_left xs ys d (k + 1) s) (get_or_append_left xs ys d k (omega (arith, s)))
        ∙ sx k d low s
    by (inr s) (inl t) =
        let all = long in
        let at : k + 1 - length xs ≡ 0 = omega (arith, s, t) in
        ap₂ (λ (a b : Entry). is_lt (entry_cmp a b)) (get_or-append_right xs ys (k + 1) d s ∙ ap (λ (i : ℕ). get_or ys i d) at) (get_or_append_left xs ys d k t)
        ∙ cross k d t 0 d (omega (arith, all, l, s, t))
    by (inr s) (inr t) =
        let all = long in
        let at : k + 1 - length xs ≡ (k - length xs) + 1 = omega (arith, s, t) in
        ap₂ (λ (a b : Entry). is_lt (entry_cmp a b)) (get_or-append_right xs ys (k + 1) d s ∙ ap (λ (i : ℕ). get_or ys i d) at) (get_or-append_right xs ys k d t)
        ∙ sy (k - length xs) d (omega arith) (omega (arith, all, l, t))

pub less_cmp : (a b : ℕ) → a < b → nat_cmp a b ≡ Less
less_cmp a b l = ap (λ (t : Bool). cond t Less (cond (a == b) Equal Greater)) (lt-ltb a b l)

-- entries of a path, of kinds up to this one
abbrev UpTo : Path → NodeKind → List Entry → Type 0
UpTo path kind entries = IsSorted entry_cmp entries × All (λ e. (e.path ≡ path) × (kind_number e.kind ≤ kind_number kind)) entries

module _ (path : Path) where
  alone : (kind : NodeKind) (count : Count) → UpTo path kind (counted path kind count ∷ [])
  alone kind count = (
    (λ k d low l. absurd (omega (arith, l))),
    All-cons (λ (e : Entry). (e.path ≡ path) × (kind_number e.kind ≤ kind_number kind)) (counted path kind count) [] (refl, omega arith) (All-nil (λ (e : Entry). (e.path ≡ path) × (kind_number e.kind ≤ kind_number kind))),
  )

  greater : (kind : NodeKind) (count : Count) (e : Entry) → e.path ≡ path → kind_number e.kind < kind_number kind → is_lt (entry_cmp (counted path kind count) e) ≡ false
  greater kind count e same less =
      let paths : slice_cmp stride_cmp path e.path ≡ Equal = ap (slice_cmp stride_cmp path) same ∙ cmp_itself (slice_cmp stride_cmp) path_total path in
      let kinds-are : nat_cmp (kind_number kind) (kind_number e.kind) ≡ Greater =
      greater_from_less nat_cmp nat_cmp_total (kind_number e.kind) (kind_number kind) (less_cmp (kind_number e.kind) (kind_number kind) less) in
      ap (λ (o : Ordering). is_lt (ordering_then o (nat_cmp (kind_number kind) (kind_number e.kind)))) paths ∙ ap (λ (o : Ordering). is_lt (ordering_then Equal o)) kinds-are

  -- and one kind more
  with_kind : (last kind : NodeKind) (count : Count) (front : List Entry) → kind_number last < kind_number kind → UpTo path last front → UpTo path kind (front ++ entry_at path kind count)
  with_kind last kind count front less up = by (count.nodes == 0)
    where
      P : Entry → Type 0
      P e = (e.path ≡ path) × (kind_number e.kind ≤ kind_number kind)

      more : All (λ e. (e.path ≡ path) × (kind_number e.kind ≤ kind_number kind)) front
      more i d l = ((up.1 i d l).0, let few = (up.1 i d l).1 in omega (arith, few, less))

      by : (none : Bool) → UpTo path kind (front ++ (if none then [] else counted path kind count ∷ []))
      by true = subst (UpTo path kind) (sym (append-nil front)) (up.0, more)
      by false = (
        sorted_append front (counted path kind count ∷ []) up.0 (alone kind count).0
            (λ i d l. All-cons (λ (y : Entry). is_lt (entry_cmp y (get_or front i d)) ≡ false) (counted path kind count) []
            (greater kind count (get_or front i d) (up.1 i d l).0 (let few = (up.1 i d l).1 in omega (arith, few, less))) (All-nil (λ (y : Entry). is_lt (entry_cmp y (get_or front i d)) ≡ false))),
        All-append (λ (e : Entry). (e.path ≡ path) × (kind_number e.kind ≤ kind_number kind)) front (counted path kind count ∷ []) more (alone kind count).1,
      )

  first_kind : (count : Count) → UpTo path kinds.Null (entry_at path kinds.Null count)
  first_kind count = by (count.nodes == 0)
    where
      by : (none : Bool) → UpTo path kinds.Null (if none then [] else counted path kinds.Null count ∷ [])
      by true = ((λ k d low l. absurd (omega (arith, l))), All-nil (λ (e : Entry). (e.path ≡ path) × (kind_number e.kind ≤ 0)))
      by false = alone kinds.Null count

  all_kinds : (c : PlaceCounts) → UpTo path kinds.Object (entries_of path c)
  all_kinds c =
      let n = entry_at path kinds.Null c.null in let b = entry_at path kinds.Boolean c.boolean in let d = entry_at path kinds.Number c.number in
      let s = entry_at path kinds.String c.string in let a = entry_at path kinds.Array c.array in
      with_kind kinds.Array kinds.Object c.object (n ++ b ++ d ++ s ++ a) (omega arith)
      (with_kind kinds.String kinds.Array c.array (n ++ b ++ d ++ s) (omega arith)
      (with_kind kinds.Number kinds.String c.string (n ++ b ++ d) (omega arith)
      (with_kind kinds.Boolean kinds.Number c.number (n ++ b) (omega arith)
      (with_kind kinds.Null kinds.Boolean c.boolean n (omega arith) (first_kind c.null)))))

module _ (paths : List Path) (counts : List PlaceCounts) where
  abbrev AreRising : List ℕ → Type 0
  AreRising order = (i j : ℕ) → i < j → j < length order → slice_cmp stride_cmp (path_at paths (get_or order i 0)) (path_at paths (get_or order j 0)) ≡ Less

  after_all : (path : Path) (order : List ℕ) → ((j : ℕ) → j < length order → slice_cmp stride_cmp path (path_at paths (get_or order j 0)) ≡ Less)
      → All (λ e. slice_cmp stride_cmp path e.path ≡ Less) (entries_in paths counts order)
  after_all path [] h = All-nil (λ (e : Entry). slice_cmp stride_cmp path e.path ≡ Less)
  after_all path (k ∷ order) h =
      All-append (λ (e : Entry). slice_cmp stride_cmp path e.path ≡ Less) (entries_of (path_at paths k) (counts_at counts k)) (entries_in paths counts order)
      (each_kind (λ (e : Entry). slice_cmp stride_cmp path e.path ≡ Less) (path_at paths k) (counts_at counts k) (λ kind. h 0 (omega arith)))
      (after_all path order (λ j l. h (suc j) (omega (arith, l))))

  in_order : (order : List ℕ) → AreRising order → IsSorted entry_cmp (entries_in paths counts order)
  in_order [] h = λ k d low l. absurd (omega (arith, l))
  in_order (k ∷ order) h =
      let own = all_kinds (path_at paths k) (counts_at counts k) in
      sorted_append (entries_of (path_at paths k) (counts_at counts k)) (entries_in paths counts order) own.0 (in_order order (λ i j low l. h (suc i) (suc j) (omega (arith, low)) (omega (arith, l))))
      (λ i d l j e m. less (get_or (entries_of (path_at paths k) (counts_at counts k)) i d) (get_or (entries_in paths counts order) j e) (own.1 i d l).0
      (after_all (path_at paths k) order (λ j l. h 0 (suc j) (omega arith) (omega (arith, l))) j e m))
    where
      less : (x y : Entry) → x.path ≡ path_at paths k → slice_cmp stride_cmp (path_at paths k) y.path ≡ Less → is_lt (entry_cmp y x) ≡ false
      less x y same e =
          ap (λ (o : Ordering). is_lt (ordering_then o (nat_cmp (kind_number y.kind) (kind_number x.kind))))
          (ap (slice_cmp stride_cmp y.path) same ∙ greater_from_less (slice_cmp stride_cmp) path_total (path_at paths k) y.path e)

  rising_from : (order : List ℕ) → IsOrdered paths order → AreRising order
  rising_from order h i zero low l = absurd (omega (arith, low))
  rising_from order h i (suc j) low l = by (λ s. rising_from order h i j s (omega (arith, l))) (cases_eq i j)
    where
      one : slice_cmp stride_cmp (path_at paths (get_or order j 0)) (path_at paths (get_or order (suc j) 0)) ≡ Less
      one = ap (λ (n : ℕ). slice_cmp stride_cmp (path_at paths (get_or order j 0)) (path_at paths (get_or order n 0))) (omega arith) ∙ h.rising j (omega (arith, l))

      by : (i < j → slice_cmp stride_cmp (path_at paths (get_or order i 0)) (path_at paths (get_or order j 0)) ≡ Less) → ((i ≡ j) ⊎ (i ≡ j → ⊥))
          → slice_cmp stride_cmp (path_at paths (get_or order i 0)) (path_at paths (get_or order (suc j) 0)) ≡ Less
      by before (inl same) = ap (λ (n : ℕ). slice_cmp stride_cmp (path_at paths (get_or order n 0)) (path_at paths (get_or order (suc j) 0))) same ∙ one
      by before (inr ne) =
          path_total.trans (path_at paths (get_or order i 0)) (path_at paths (get_or order j 0)) (path_at paths (get_or order (suc j) 0))
          (before (omega (arith, low, ne))) one

  each_other : (order : List ℕ) → IsOrdered paths order → IsDistinct eqb order
  each_other order h =
      IsDistinct-from_AllPairs (λ a b. (eqb-true a b, eq-eqb a b)) order
      (λ i j d low l same.
      let first : i < length order = omega (arith, low, l) in
      let it : get_or order i 0 ≡ get_or order j 0 = get_or_default order i 0 d first ∙ (same ∙ get_or_default order j d 0 l) in
      let less = rising_from order h i j low l in
      let equal : slice_cmp stride_cmp (path_at paths (get_or order i 0)) (path_at paths (get_or order j 0)) ≡ Equal =
      ap (λ (p : ℕ). slice_cmp stride_cmp (path_at paths (get_or order i 0)) (path_at paths p)) (sym it) ∙ cmp_itself (slice_cmp stride_cmp) path_total (path_at paths (get_or order i 0)) in
      absurd (cc (less, equal)))

  pub entries_arranged : (order : List ℕ) → AreOrdered paths order → length counts ≡ length paths → IsPermutation (entries_at paths counts) (entries_in paths counts order)
  entries_arranged order h many =
      subst (λ (l : List Entry). IsPermutation l (entries_in paths counts order))
      (sym (entries_from paths counts 0 paths counts (sym many) (λ i l. ap (path_at paths) (from_first i)) (λ i l. ap (counts_at counts) (from_first i))))
      (all_once (λ (place : ℕ). entries_of (path_at paths place) (counts_at counts place)) (length paths) order (each_other order h.ordered)
      (λ q there.
      let found = Any-from_list_any (eqb q) order there in
      let it : get_or order found.0 0 ≡ q = get_or_default order found.0 0 found.1 found.2 ∙ (found.3 ∙ sym (eqb-true q found.1 found.4)) in
      let within = h.ordered.within found.0 found.2 in omega (arith, it, within)) h.many)

  pub entries_sorted : (order : List ℕ) → AreOrdered paths order → IsSorted entry_cmp (entries_in paths counts order)
  entries_sorted order h = in_order order (rising_from order h.ordered)

-- the rows of one place more
pub rows_more : (row : Entry → List ℕ) (head old new : List ℕ) (paths : List Path) (counts : List PlaceCounts) (order : List ℕ) (i : ℕ) (path : Path) (c : PlaceCounts) → i < length order
    → path ≡ path_at paths (get_or order i 0) → c ≡ counts_at counts (get_or order i 0) → old ≡ head ++ flat_map row (entries_in paths counts (take i order)) → new ≡ old ++ flat_map row (entries_of path c)
    → new ≡ head ++ flat_map row (entries_in paths counts (take (i + 1) order))
rows_more row head old new paths counts order i path c l path-is c-is before added =
    let k = get_or order i 0 in let own = entries_of (path_at paths (get_or order i 0)) (counts_at counts (get_or order i 0)) in let front = entries_in paths counts (take i order) in
    added
    ∙ (ap₂ (λ (t : List ℕ) (es : List Entry). t ++ flat_map row es) before (ap₂ entries_of path-is c-is)
    ∙ (append_assoc head (flat_map row front) (flat_map row own)
    ∙ ap (λ (t : List ℕ). head ++ t)
    (sym (flat_map-append row front own)
    ∙ ap (flat_map row)
    (ap (λ (t : List Entry). entries_in paths counts (take i order) ++ t) (sym (append-nil own))
    ∙ (sym (flat_map-append (λ (place : ℕ). entries_of (path_at paths place) (counts_at counts place)) (take i order) (k ∷ []))
    ∙ ap (entries_in paths counts) (sym (take_more order i 0 l)))))))
