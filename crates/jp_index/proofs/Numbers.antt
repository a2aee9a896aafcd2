-- The numbers of the lines whose cells pass a test.
use Rattle.std.proofs.Common.{◌≡◌, ◌≢◌, ◌∙◌, ℕ, zero, suc, ◌+◌, ◌<◌, ◌≤◌, Bool, true, false, List, [], ◌∷◌, length, get_or, Option, None, refl, sym, ap, subst, arith, inl, inr, eqb, Ordering, Less, Equal, Greater, if◌then◌else◌}
use Rattle.std.specs.Prelude.{Contains}
use Rattle.std.specs.List.{AllPairs, IsDistinct}
use Rattle.std.specs.List.Sorted.{IsPermutation, IsSorted, IsSortedBy}
use Rattle.std.specs.Option.{is_some}
use Rattle.std.specs.Ordering.{nat_cmp, is_lt, ordering_reverse}
use Rattle.std.proofs.lemmas.Bool.{cases_lt}
use Rattle.std.proofs.lemmas.Bool.Decides.{nat_tests, Decides-eqb}
use Rattle.std.proofs.lemmas.List.{get_or_past}
use Rattle.std.proofs.lemmas.List.Elements.{Contains-get_or}
use Rattle.std.proofs.lemmas.List.Kept.{AllPairs-cons, AllPairs-from_increasing}
use Rattle.std.proofs.lemmas.List.Sorted.{Contains-permutation, IsPermutation-sym, IsNonDecreasingBy-from_sort, ranks_by, sorted_far}
use Rattle.std.proofs.lemmas.Map.Keys.{IsDistinct-IsPermutation, IsStrictlyIncreasing-from_distinct}
use Rattle.std.proofs.lemmas.Map.Made.{AllPairs-from_IsDistinct, IsDistinct-from_AllPairs}
use Rattle.jp_values.specs.declared.key.Key.{Key}
use Rattle.jp_index.specs.ByKey.{line_order, Ascend, AreByKey}
use Rattle.jp_model.specs.Numbered.{numbers_where}
use Rattle.jp_index.specs.Cells.{cell_key, key_at, has_key}
use Rattle.jp_index.specs.declared.slot.Slot.{Slot}
use Rattle.jp_index.proofs.Ascending.{Below, among_cons, among_first, among_rest, among_none}
use Rattle.jp_index.proofs.ByKey.{lines_total, never, apart}

module _ (test : Option Slot → Bool) where
  step_all : (P : ℕ → Type 0) (b : Bool) (n : ℕ) (rest : List ℕ) → P n → ((z : ℕ) → Contains rest z → P z) → (z : ℕ) → Contains (if b then n ∷ rest else rest) z → P z
  step_all P true n rest p f z h = elim (among_cons n z rest h) [ inl e ↦ subst P (sym e) p | inr there ↦ f z there ]
  step_all P false n rest p f z h = f z h

  -- none is below the first
  numbers_from : (n : ℕ) (cs : List (Option Slot)) (z : ℕ) → Contains (numbers_where test n cs) z → n ≤ z
  numbers_from n [] z h = absurd (among_none z h)
  numbers_from n (c ∷ cs) z h = step_all (λ z. n ≤ z) (test c) n (numbers_where test (n + 1) cs) (omega arith) (λ z k. let l = numbers_from (n + 1) cs z k in omega arith) z h

  step_rises : (b : Bool) (n : ℕ) (rest : List ℕ) → ((z : ℕ) → Contains rest z → n < z) → AllPairs Below rest → AllPairs Below (if b then n ∷ rest else rest)
  step_rises true n rest f h = AllPairs-cons Below n rest (λ k d l. f (get_or rest k d) (Contains-get_or rest k d l)) h
  step_rises false n rest f h = h

  -- they ascend
  pub numbers_rise : (n : ℕ) (cs : List (Option Slot)) → AllPairs Below (numbers_where test n cs)
  numbers_rise n [] = λ i j d l m. absurd (omega arith)
  numbers_rise n (c ∷ cs) = step_rises (test c) n (numbers_where test (n + 1) cs) (λ z h. let l = numbers_from (n + 1) cs z h in omega arith) (numbers_rise (n + 1) cs)

  -- such a number is that of a cell that passes
  abbrev IsOf : ℕ → List (Option Slot) → ℕ → Type 0
  IsOf n cs z = (i : ℕ) × (z ≡ n + i) × (i < length cs) × (test (get_or cs i None) ≡ true)

  step_of : (b : Bool) (c : Option Slot) (n : ℕ) (cs : List (Option Slot)) (rest : List ℕ) → test c ≡ b → ((z : ℕ) → Contains rest z → IsOf (n + 1) cs z) → (z : ℕ) → Contains (if b then n ∷ rest else rest) z → IsOf n (c ∷ cs) z
  step_of true c n cs rest e f z h =
      elim (among_cons n z rest h) [
        | inl same ↦ (0, omega (arith, same), omega arith, e)
        | inr there ↦ let k = f z there in (suc k.0, omega (arith, k.1), omega (arith, k.2), k.3)
      ]
  step_of false c n cs rest e f z h = let k = f z h in (suc k.0, omega (arith, k.1), omega (arith, k.2), k.3)

  pub number_of : (n : ℕ) (cs : List (Option Slot)) (z : ℕ) → Contains (numbers_where test n cs) z → IsOf n cs z
  number_of n [] z h = absurd (among_none z h)
  number_of n (c ∷ cs) z h = step_of (test c) c n cs (numbers_where test (n + 1) cs) refl (number_of (n + 1) cs) z h

  step_in : (b : Bool) (n z : ℕ) (rest : List ℕ) → Contains rest z → Contains (if b then n ∷ rest else rest) z
  step_in true n z rest h = among_rest n z rest h
  step_in false n z rest h = h

  step_first : (b : Bool) (n : ℕ) (rest : List ℕ) → b ≡ true → Contains (if b then n ∷ rest else rest) n
  step_first true n rest e = among_first n rest
  step_first false n rest e = absurd (cc)

  -- and each such cell's number is there
  pub number_in : (n : ℕ) (cs : List (Option Slot)) (i z : ℕ) → z ≡ n + i → i < length cs → test (get_or cs i None) ≡ true → Contains (numbers_where test n cs) z
  number_in n [] i z e l t = absurd (omega arith)
  number_in n (c ∷ cs) zero z e l t =
      let same : z ≡ n = omega arith in
      subst (Contains (numbers_where test n (c ∷ cs))) (sym same) (step_first (test c) n (numbers_where test (n + 1) cs) t)
  number_in n (c ∷ cs) (suc i) z e l t = step_in (test c) n z (numbers_where test (n + 1) cs) (number_in (n + 1) cs i z (omega (arith, e)) (omega (arith, l)) t)

-- ---- by their keys

module _ (test : Option Key → Bool) (fails : test None ≡ false) where
  past : (cs : List (Option Slot)) (i : ℕ) → length cs ≤ i → test (cell_key (get_or cs i None)) ≡ false
  past cs i l = ap (λ c. test (cell_key c)) (get_or_past cs i None l) ∙ fails

  abbrev of_cell : Option Slot → Bool
  of_cell c = test (cell_key c)

  pub keyed_passes : (cs : List (Option Slot)) (z : ℕ) → Contains (numbers_where of_cell 1 cs) z → test (key_at cs z) ≡ true
  keyed_passes cs z h =
      let k = number_of of_cell 1 cs z h in
      let e : z ≡ suc k.0 = omega (arith, k.1) in
      ap (λ a. test (key_at cs a)) e ∙ k.3

  pub passes_keyed : (cs : List (Option Slot)) (z : ℕ) → test (key_at cs z) ≡ true → Contains (numbers_where of_cell 1 cs) z
  passes_keyed cs zero t = absurd (cc fails)
  passes_keyed cs (suc i) t =
      elim (cases_lt i (length cs)) [
        | inl low ↦ number_in of_cell 1 cs i (suc i) (omega arith) low t
        | inr high ↦ let f = past cs i high in absurd (cc)
      ]

-- ---- sorted

module _ (keys : ℕ → Option Key) where
  apart_pairs : (lines : List ℕ) → Ascend keys lines → AllPairs (λ x y. x ≢ y) lines
  apart_pairs lines h i j d l m e = never keys (get_or lines j d) (subst (λ a. line_order keys a (get_or lines j d) ≡ Less) e (h i j d l m))

distinct_rise : (lines : List ℕ) → IsDistinct eqb lines → IsSorted nat_cmp lines → AllPairs Below lines
distinct_rise lines d s = AllPairs-from_increasing lines (IsStrictlyIncreasing-from_distinct lines (IsNonDecreasingBy-from_sort (λ x. x) lines s) d)

eqb_turns : (x y : ℕ) → eqb x y ≡ eqb y x
eqb_turns x y = grind (arith, nat_tests)

moved_distinct : (run lines : List ℕ) → AllPairs (λ x y. x ≢ y) run → IsPermutation run lines → IsDistinct eqb lines
moved_distinct run lines h p = IsDistinct-IsPermutation eqb eqb_turns run lines p (IsDistinct-from_AllPairs Decides-eqb run h)

-- lines in order of keys, sorted by their numbers
pub sorted_rise : (keys : ℕ → Option Key) (run lines : List ℕ) → Ascend keys run → IsPermutation run lines → IsSorted nat_cmp lines → AllPairs Below lines
sorted_rise keys run lines h p s = distinct_rise lines (moved_distinct run lines (apart_pairs keys run h) p) s

below_apart : (xs : List ℕ) → AllPairs Below xs → AllPairs (λ x y. x ≢ y) xs
below_apart xs h i j d l m e = let k = h i j d l m in omega arith

less_else : (o p : Ordering) → o ≡ ordering_reverse p → is_lt p ≡ false → (o ≡ Equal → ⊥) → o ≡ Less
less_else Less p e f n = refl
less_else Equal p e f n = absurd (n refl)
less_else Greater Less e f n = absurd (cc)
less_else Greater Equal e f n = absurd (cc)
less_else Greater Greater e f n = absurd (cc)

-- the lines that have a key, sorted by it
pub sorted_are : (cs : List (Option Slot)) (before lines : List ℕ) → before ≡ numbers_where has_key 1 cs → IsPermutation before lines → IsSortedBy (λ a b. is_lt (line_order (key_at cs) a b)) lines → AreByKey (key_at cs) lines
sorted_are cs before lines e p s =
    let moved : IsPermutation (numbers_where has_key 1 cs) lines = subst (λ xs. IsPermutation xs lines) e p in
    let distinct : AllPairs (λ x y. x ≢ y) lines = AllPairs-from_IsDistinct Decides-eqb lines (moved_distinct (numbers_where has_key 1 cs) lines (below_apart (numbers_where has_key 1 cs) (numbers_rise has_key 1 cs)) moved) in
    let total = lines_total (key_at cs) in
    record {
      ascend = λ i j d l m.
          let x = get_or lines i d in
          let y = get_or lines j d in
          less_else (line_order (key_at cs) x y) (line_order (key_at cs) y x) (total.antisymm x y)
          (sorted_far (λ a b. is_lt (line_order (key_at cs) a b)) (ranks_by total (λ a. a)) lines s i j d (omega arith) m)
          (apart (key_at cs) x y (distinct i j d l m));
      have_keys = λ k d l. keyed_passes is_some refl cs (get_or lines k d) (Contains-permutation lines (numbers_where has_key 1 cs) (get_or lines k d) (IsPermutation-sym _ _ moved) (Contains-get_or lines k d l));
      are_all = λ a t. Contains-permutation (numbers_where has_key 1 cs) lines a moved (passes_keyed is_some refl cs a t);
    }
