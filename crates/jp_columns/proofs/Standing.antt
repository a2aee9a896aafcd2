-- Columns in the order of their names, and where those of one name stand among them.
use Rattle.std.proofs.Common.{◌≡◌, ◌∙◌, ℕ, ◌-◌, ◌<◌, ◌≤◌, List, length, get_or, take, drop, Bool, true, false, Option, Some, None, sym, ap, refl, subst, inl, inr, Ordering, bytes_eq, arith}
use Rattle.std.specs.Prelude.{String}
use Rattle.std.specs.declared.alloc.Global.{Global}
use Rattle.std.specs.Cmp.{IsStrictWeakOrder}
use Rattle.std.specs.Cmp.Lexicographic.{slice_cmp}
use Rattle.std.specs.List.Sorted.{IsPartitionPoint, IsPartitionedBy}
use Rattle.std.specs.Ordering.{is_eq, is_gt, is_lt, is_ne, nat_cmp, ordering_reverse}
use Rattle.std.specs.declared.cmp.Ordering.TheVariants.{Less, Equal, Greater}
use Rattle.std.proofs.lemmas.Bool.{cases_lt, eqb-true, true≢false}
use Rattle.std.proofs.lemmas.Cmp.{nat_list_cmp_total}
use Rattle.std.proofs.lemmas.List.{get_or_default, length-drop, take_all}
use Rattle.std.proofs.lemmas.List.MinMax.{ranks_by}
use Rattle.std.proofs.lemmas.List.Sorted.{sorted_far}
use Rattle.std.proofs.lemmas.Map.Text.{is_eq-slice_cmp}
use Rattle.std.proofs.lemmas.Map.Views.{Contains-from_any}
use Rattle.std.proofs.lemmas.Slice.Eq.{bytes_eq-Decides}
use Rattle.jp_model.specs.Characters.{text_equal}
use Rattle.jp_columns.specs.Names.{AreAll, Ascend, column_order, name_at}

abbrev order : List ℕ → List ℕ → Ordering
order = slice_cmp nat_cmp

reversed : (o : Ordering) → is_gt (ordering_reverse o) ≡ is_lt o
reversed Less = refl
reversed Equal = refl
reversed Greater = refl

turned : (a b : List ℕ) → is_gt (order a b) ≡ is_lt (order b a)
turned a b = ap is_gt (nat_list_cmp_total.antisymm a b) ∙ reversed (order b a)

-- texts that are the same are level
level : (a b : List ℕ) → text_equal b a ≡ true → is_eq (order a b) ≡ true
level a b e =
    let same : b ≡ a = (bytes_eq-Decides b a).0 e in
    is_eq-slice_cmp a b ∙ (ap (λ x. bytes_eq x b) (sym same) ∙ (ap (bytes_eq b) same ∙ e))

-- and those that are level are the same
pub alike : (a b : List ℕ) → is_eq (order a b) ≡ true → text_equal b a ≡ true
alike a b e =
    let same : a ≡ b = (bytes_eq-Decides a b).0 (sym (is_eq-slice_cmp a b) ∙ e) in
    ap (λ x. bytes_eq x a) (sym same) ∙ (ap (bytes_eq a) same ∙ (sym (is_eq-slice_cmp a b) ∙ e))

pub is_level : (o : Ordering) → is_ne o ≡ false → is_eq o ≡ true
is_level Less e = sym e
is_level Equal e = refl
is_level Greater e = sym e

pub is_apart : (o : Ordering) → is_ne o ≡ true → is_eq o ≡ false
is_apart Less e = refl
is_apart Equal e = sym e
is_apart Greater e = refl

-- the rest of a list from a place on
pub rest_is : (xs : List ℕ) (first : ℕ) → take (length xs - first) (drop first xs) ≡ drop first xs
rest_is xs first = let count = length-drop first xs in take_all (length xs - first) (drop first xs) (omega (arith, count))

level_not_after : (o : Ordering) → is_eq o ≡ true → is_gt o ≡ true → ⊥
level_not_after Less e g = true≢false (sym g)
level_not_after Equal e g = true≢false (sym g)
level_not_after Greater e g = true≢false (sym e)

one_of_three : (o : Ordering) → is_eq o ≡ false → is_gt o ≡ false → is_lt o ≡ false → ⊥
one_of_three Less e g l = true≢false l
one_of_three Equal e g l = true≢false e
one_of_three Greater e g l = true≢false g

module _ (names : List (String Global)) (columns : List ℕ) (text : List ℕ) (up : Ascend names columns) where
  -- a column has no name before that of one in front of it
  far : (i j : ℕ) (d : ℕ) → i ≤ j → j < length columns → is_lt (column_order names (get_or columns j d) (get_or columns i d)) ≡ false
  far = sorted_far (λ a b. is_lt (column_order names a b)) (ranks_by nat_list_cmp_total (name_at names)) columns up

  -- the names before a text stand in front of the others
  pub partitioned : IsPartitionedBy (λ column. is_gt (order text (name_at names column))) columns
  partitioned i j d l m e = pick (is_gt (order text (name_at names (get_or columns i d)))) refl
    where
      weak : IsStrictWeakOrder (λ (a b : List ℕ). is_lt (order a b))
      weak = ranks_by nat_list_cmp_total (λ (a : List ℕ). a)

      pick : (t : Bool) → is_gt (order text (name_at names (get_or columns i d))) ≡ t → is_gt (order text (name_at names (get_or columns i d))) ≡ true
      pick true f = f
      pick false f =
          let later = name_at names (get_or columns j d) in
          let earlier = name_at names (get_or columns i d) in
          absurd (true≢false (sym e ∙ (turned text later ∙ weak.chain later earlier text (far i j d l m) (sym (turned text earlier) ∙ f))))

  module _ (first : ℕ) (cut : IsPartitionPoint (λ column. is_gt (order text (name_at names column)) ≡ true) (λ column. is_gt (order text (name_at names column)) ≡ false) columns first) where
    -- a column of the text stands from the first on that is not before it
    pub from_first : (k : ℕ) → text_equal (name_at names (get_or columns k 0)) text ≡ true → first ≤ k
    from_first k e = elim (cases_lt k first) [
      | inl low ↦ absurd (level_not_after (order text (name_at names (get_or columns k 0))) (level text (name_at names (get_or columns k 0)) e) (cut.0 k 0 (omega arith) low))
      | inr high ↦ high
    ]

    -- and in front of the next that has another name
    pub before_other : (end : ℕ) → first ≤ end → end < length columns → is_eq (order text (name_at names (get_or columns end 0))) ≡ false
        → (k : ℕ) → k < length columns → text_equal (name_at names (get_or columns k 0)) text ≡ true → k < end
    before_other end low within other k m e = elim (cases_lt k end) [
      | inl front ↦ front
      | inr back ↦
          let same : name_at names (get_or columns k 0) ≡ text = (bytes_eq-Decides (name_at names (get_or columns k 0)) text).0 e in
          let next = name_at names (get_or columns end 0) in
          absurd (one_of_three (order text next) other (cut.1 end 0 low within) (subst (λ x. is_lt (order x next) ≡ false) same (far end k 0 back m)))
    ]

    -- so all columns of the text have what each between the two has
    pub all_noted : {A : Type 0} (found : List (Option A)) (x : A) (end : ℕ) → AreAll names columns → ((k : ℕ) → k < length columns → text_equal (name_at names (get_or columns k 0)) text ≡ true → k < end)
        → ((k : ℕ) → first ≤ k → k < end → get_or found (get_or columns k 0) None ≡ Some x)
        → (column : ℕ) → column < length names → text_equal (name_at names column) text ≡ true → get_or found column None ≡ Some x
    all_noted found x end all ends noted column within e =
        let there = Contains-from_any eqb-true column columns (all column within) in
        let k = there.0 in
        let is : get_or columns k 0 ≡ column = get_or_default columns k 0 column there.1 ∙ there.2 in
        let here : text_equal (name_at names (get_or columns k 0)) text ≡ true = ap (λ n. text_equal (name_at names n) text) is ∙ e in
        ap (λ n. get_or found n None) (sym is) ∙ noted k (from_first k here) (ends k there.1 here)
