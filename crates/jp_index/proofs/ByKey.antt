-- Lines in order of their keys: one left out, one put in.
use Rattle.std.proofs.Common.{◌≡◌, ◌≢◌, ◌∙◌, ℕ, ◌<◌, ◌≤◌, ◌==◌, true, false, List, ◌∷◌, length, get_or, Option, Some, None, refl, sym, ap, subst, arith, ◌⊎◌, inl, inr, Ordering, Less, Equal, Greater, if◌then◌else◌}
use Rattle.std.specs.Prelude.{All, Contains, insert, remove}
use Rattle.std.specs.Cmp.{IsTotalOrder}
use Rattle.std.specs.List.Sorted.{IsPartitionPoint, IsPermutation}
use Rattle.std.specs.Option.{is_some, option_cmp}
use Rattle.std.specs.Ordering.{is_eq, is_lt, nat_cmp, ordering_then, ordering_reverse}
use Rattle.std.specs.Cmp.Lexicographic.{options_total}
use Rattle.std.proofs.lemmas.Bool.{cases_lt}
use Rattle.std.proofs.lemmas.Bool.Decides.{nat_tests}
use Rattle.std.proofs.lemmas.Cmp.{alike_right, nat_cmp_total, on_total, then_total, tied_itself}
use Rattle.std.proofs.lemmas.List.Elements.{All-cons, All-tail}
use Rattle.std.proofs.lemmas.List.Quantifiers.{all_pairs_remove}
use Rattle.std.proofs.lemmas.List.Sorted.{All-permutation, Contains-permutation, IsPermutation-insert, IsPermutation-remove}
use Rattle.jp_values.specs.Keys.{key_order}
use Rattle.jp_values.specs.declared.key.Key.{Key}
use Rattle.jp_index.specs.ByKey.{line_order, Ascend, AreByKey, but}
use Rattle.jp_index.proofs.Ascending.{pairs_insert, pairs_other, removed_differs, among_cons, among_first, among_rest}
use Rattle.jp_values.specs.KeyLaws.{keys_total}

equal_numbers : (a b : ℕ) → nat_cmp a b ≡ Equal → a ≡ b
equal_numbers a b e = grind (arith, nat_tests)

then_equal : (o p : Ordering) → ordering_then o p ≡ Equal → p ≡ Equal
then_equal Less p e = absurd (cc)
then_equal Equal p e = e
then_equal Greater p e = absurd (cc)

less_is : (o : Ordering) → is_lt o ≡ true → o ≡ Less
less_is Less e = refl
less_is Equal e = absurd (cc)
less_is Greater e = absurd (cc)

pub equal_is : (o : Ordering) → true ≡ is_eq o → o ≡ Equal
equal_is Less e = absurd (cc)
equal_is Equal e = refl
equal_is Greater e = absurd (cc)

-- what is not less, nor equal, is greater
turned : (o p : Ordering) → o ≡ ordering_reverse p → is_lt o ≡ false → (o ≡ Equal → ⊥) → p ≡ Less
turned Less p e f n = absurd (cc)
turned Equal p e f n = absurd (n refl)
turned Greater Less e f n = refl
turned Greater Equal e f n = absurd (cc)
turned Greater Greater e f n = absurd (cc)

none_is : (o : Option Key) → (is_some o ≡ true → ⊥) → o ≡ None
none_is None n = refl
none_is (Some k) n = absurd (n refl)

pub same_or_not : (a b : ℕ) → (a ≡ b) ⊎ (a ≢ b)
same_or_not a b = elim (cases_lt a b) [
  | inl low ↦ inr (λ e. omega arith)
  | inr high ↦ elim (cases_lt b a) [ inl above ↦ inr (λ e. omega arith) | inr low ↦ inl (omega arith) ]
]

module _ (keys : ℕ → Option Key) where
  pub lines_total : IsTotalOrder (line_order keys)
  lines_total = then_total (on_total keys (options_total keys_total)) nat_cmp_total

  pub never : (a : ℕ) → line_order keys a a ≡ Less → ⊥
  never a e = let f : line_order keys a a ≡ Equal = tied_itself lines_total a in absurd (cc)

  pub apart : (a b : ℕ) → a ≢ b → line_order keys a b ≡ Equal → ⊥
  apart a b n e = n (equal_numbers a b (then_equal (option_cmp key_order (keys a) (keys b)) (nat_cmp a b) e))

  module _ (line : ℕ) where
    but_other : (a : ℕ) → a ≢ line → but line keys a ≡ keys a
    but_other a n = let e : (a == line) ≡ false = search (arith, n) in ap (λ b. if b then None else keys a) e

    but_line : (a : ℕ) → is_some (but line keys a) ≡ true → a ≢ line
    but_line a h e = let f : (a == line) ≡ true = search (arith, e) in let g : but line keys a ≡ None = ap (λ b. if b then None else keys a) f in absurd (cc)

    but_none : keys line ≡ None → (a : ℕ) → but line keys a ≡ keys a
    but_none e a = elim (same_or_not a line) [
      | inl same ↦ let f : (a == line) ≡ true = search (arith, same) in ap (λ b. if b then None else keys a) f ∙ sym (ap keys same ∙ e)
      | inr other ↦ but_other a other
    ]

    order_but : (a b : ℕ) → a ≢ line → b ≢ line → line_order (but line keys) a b ≡ line_order keys a b
    order_but a b n m = ap (λ k. ordering_then (option_cmp key_order k (but line keys b)) (nat_cmp a b)) (but_other a n) ∙ ap (λ k. ordering_then (option_cmp key_order (keys a) k) (nat_cmp a b)) (but_other b m)

    abbrev Other : ℕ → Type 0
    Other a = a ≢ line

    -- the line at its position left out
    pub left_out : (lines : List ℕ) (i : ℕ) → AreByKey keys lines → i < length lines → line ≡ get_or lines i line → AreByKey (but line keys) (remove lines i)
    left_out lines i h l is =
        let others : All Other (remove lines i) = removed_differs (λ a b. line_order keys a b ≡ Less) never lines i line h.ascend l is in
        let moved : IsPermutation lines (line ∷ remove lines i) = IsPermutation-remove lines i line l is in
        let keyed : All (λ a. is_some (keys a) ≡ true) (remove lines i) = All-tail (λ a. is_some (keys a) ≡ true) line (remove lines i) (All-permutation (λ a. is_some (keys a) ≡ true) lines (line ∷ remove lines i) moved h.have_keys) in
        record {
          ascend = pairs_other (λ a b. line_order keys a b ≡ Less) (λ a b. line_order (but line keys) a b ≡ Less) Other (λ a b n m e. order_but a b n m ∙ e) (remove lines i) others (all_pairs_remove (λ a b. line_order keys a b ≡ Less) lines i l h.ascend);
          have_keys = λ k d m. ap is_some (but_other (get_or (remove lines i) k d) (others k d m)) ∙ keyed k d m;
          are_all = λ a e.
              let n = but_line a e in
              elim (among_cons line a (remove lines i) (Contains-permutation lines (line ∷ remove lines i) a moved (h.are_all a (ap is_some (sym (but_other a n)) ∙ e)))) [
                | inl same ↦ absurd (n same)
                | inr there ↦ there
              ];
        }

    -- a line that is not there
    pub none_left_out : (lines : List ℕ) → AreByKey keys lines → (Contains lines line → ⊥) → AreByKey (but line keys) lines
    none_left_out lines h n =
        let none : keys line ≡ None = none_is (keys line) (λ e. n (h.are_all line e)) in
        subst (λ f. AreByKey f lines) (λ i a. sym (but_none none a) i) h

    others_in : (lines : List ℕ) → AreByKey (but line keys) lines → All Other lines
    others_in lines h k d l = but_line (get_or lines k d) (h.have_keys k d l)

    pub ascend_in : (lines : List ℕ) → AreByKey (but line keys) lines → Ascend keys lines
    ascend_in lines h = pairs_other (λ a b. line_order (but line keys) a b ≡ Less) (λ a b. line_order keys a b ≡ Less) Other (λ a b n m e. sym (order_but a b n m) ∙ e) lines (others_in lines h) h.ascend

    -- the line put in at its position
    pub put_in : (lines : List ℕ) (i : ℕ) → AreByKey (but line keys) lines → is_some (keys line) ≡ true → i ≤ length lines
        → IsPartitionPoint (λ a. is_lt (line_order keys a line) ≡ true) (λ a. is_lt (line_order keys a line) ≡ false) lines i → AreByKey keys (insert lines i line)
    put_in lines i h some l at =
        let others = others_in lines h in
        record {
          ascend = pairs_insert (λ a b. line_order keys a b ≡ Less) lines i line l (ascend_in lines h)
              (λ k d low high. less_is (line_order keys (get_or lines k d) line) (at.0 k d low high))
              (λ k d low high. turned (line_order keys (get_or lines k d) line) (line_order keys line (get_or lines k d)) (lines_total.antisymm (get_or lines k d) line) (at.1 k d low high) (apart (get_or lines k d) line (others k d high)));
          have_keys = All-permutation (λ a. is_some (keys a) ≡ true) (line ∷ lines) (insert lines i line) (IsPermutation-insert lines i line)
              (All-cons (λ a. is_some (keys a) ≡ true) line lines some (λ k d m. ap is_some (sym (but_other (get_or lines k d) (others k d m))) ∙ h.have_keys k d m));
          are_all = λ a e. Contains-permutation (line ∷ lines) (insert lines i line) a (IsPermutation-insert lines i line)
              (elim (same_or_not a line) [
                | inl same ↦ subst (Contains (line ∷ lines)) (sym same) (among_first line lines)
                | inr other ↦ among_rest line a lines (h.are_all a (ap is_some (but_other a other) ∙ e))
              ]);
        }

    -- a line that does not stand where it would be is not there
    pub not_there : (lines : List ℕ) (i : ℕ) → Ascend keys lines → IsPartitionPoint (λ a. is_lt (line_order keys a line) ≡ true) (λ a. is_lt (line_order keys a line) ≡ false) lines i
        → (i < length lines → line ≡ get_or lines i line → ⊥) → Contains lines line → ⊥
    not_there lines i h at n (k, l, e) =
        elim (cases_lt k i) [
          | inl low ↦
              let f : is_lt (line_order keys line line) ≡ true = ap (λ a. is_lt (line_order keys a line)) (sym e) ∙ at.0 k line (omega arith) low in
              never line (less_is (line_order keys line line) f)
          | inr high ↦ elim (cases_lt i k) [
            | inl above ↦
                let f : line_order keys (get_or lines i line) line ≡ Less = ap (line_order keys (get_or lines i line)) (sym e) ∙ h i k line above l in
                let g : is_lt (line_order keys (get_or lines i line) line) ≡ false = at.1 i line (omega arith) (omega arith) in
                let f' : is_lt (line_order keys (get_or lines i line) line) ≡ true = ap is_lt f in
                absurd (cc)
            | inr low ↦ let same : i ≡ k = omega arith in n (omega arith) (sym (ap (λ j. get_or lines j line) same ∙ e))
          ]
        ]

-- ---- where a line is to stand

pub before_falls : (keys : ℕ → Option Key) (line a b : ℕ) → line_order keys a b ≡ Less → is_lt (line_order keys b line) ≡ true → is_lt (line_order keys a line) ≡ true
before_falls keys line a b e f = ap is_lt ((lines_total keys).trans a b line e (less_is (line_order keys b line) f))

-- ---- keys that are the same in order

same_some : (k l : Option Key) → option_cmp key_order k l ≡ Equal → is_some k ≡ is_some l
same_some None None e = refl
same_some None (Some l) e = absurd (cc)
same_some (Some k) None e = absurd (cc)
same_some (Some k) (Some l) e = refl

module _ (keys others : ℕ → Option Key) (same : (a : ℕ) → option_cmp key_order (keys a) (others a) ≡ Equal) where
  same_order : (a b : ℕ) → line_order keys a b ≡ line_order others a b
  same_order a b =
      let total = options_total keys_total in
      ap (λ o. ordering_then o (nat_cmp a b)) (total.congr (keys a) (others a) (keys b) (same a) ∙ alike_right total (keys b) (others b) (others a) (same b))

  -- the order of the lines stays
  pub by_same_keys : (lines : List ℕ) → AreByKey keys lines → AreByKey others lines
  by_same_keys lines h = record {
    ascend = λ j k d low high. sym (same_order _ _) ∙ h.ascend j k d low high;
    have_keys = λ k d l. sym (same_some _ _ (same (get_or lines k d))) ∙ h.have_keys k d l;
    are_all = λ a e. h.are_all a (same_some _ _ (same a) ∙ e);
  }
