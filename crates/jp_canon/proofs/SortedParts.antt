-- The last members of a list are sorted in their places.
use Rattle.std.proofs.Common.{◌≡◌, ℕ, ◌-◌, ◌≤◌, List, ◌++◌, length, take, drop, ◌∙◌, sym, ap, subst, arith, append-nil, length-append, length-drop}
use Rattle.std.specs.Prelude.{IsPermutation, IsSorted}
use Rattle.std.proofs.lemmas.List.{drop_all, take_all, take-append-le, length-take-le}
use Rattle.std.proofs.lemmas.List.Sorted.{length_permutation}
use borrow.Rule.Slice.PartMut.{put_mid}
use Rattle.jp_values.specs.declared.member.Member.{Member}
use Rattle.jp_canon.specs.Members.{SortsFrom}
use Rattle.jp_values.specs.ByName.{by_name as name_order}

-- a list that was written back over another of its length
written : {X : Type 0} (all old : List X) (n : ℕ) → length all ≡ n → take n (all ++ drop (length all) old) ≡ all
written all old n e = take-append-le n all (drop (length all) old) (omega (arith, e)) ∙ take_all n all (omega (arith, e))

-- the part that a sort is given, and what is left after it
part_is : {X : Type 0} (xs : List X) (from : ℕ) → take (length xs - from) (drop from xs) ≡ drop from xs
part_is xs from = take_all (length xs - from) (drop from xs) (omega (arith, length-drop from xs))

no_rest : {X : Type 0} (xs part : List X) (from : ℕ) → put_mid from (length xs - from) xs part ≡ take from xs ++ part
no_rest xs part from =
    ap (λ rest. take from xs ++ (part ++ rest)) (drop_all (length xs - from) (drop from xs) (omega (arith, length-drop from xs))) ∙ ap (λ t. take from xs ++ t) (append-nil part)

in_place : (items part : List Member) (from n : ℕ) → n ≡ length items → from ≤ n → IsPermutation (take (length items - from) (drop from items)) part → IsSorted name_order part
    → SortsFrom from items (take n (put_mid from (length items - from) items part ++ drop (length (put_mid from (length items - from) items part)) items))
in_place items part from n e l p s =
    let moved : IsPermutation (drop from items) part = subst (λ (xs : List Member). IsPermutation xs part) (part_is items from) p in
    let size = length_permutation (drop from items) part moved in
    let whole = no_rest items part from in
    let count : length (put_mid from (length items - from) items part) ≡ n = ap length whole ∙ omega (arith, length-append (take from items) part, length-take-le from items (omega (arith, e, l)), length-drop from items, size, e, l) in
    record { part = part; all = written _ items n count ∙ whole; moved = moved; sorted = s }

pub sorted_in_place : (items xs part : List Member) (from n : ℕ) → xs ≡ items → n ≡ length items → from ≤ n → IsPermutation (take (length xs - from) (drop from xs)) part → IsSorted name_order part
    → SortsFrom from items (take n (put_mid from (length xs - from) xs part ++ drop (length (put_mid from (length xs - from) xs part)) items))
sorted_in_place items xs part from n same e l p s =
    subst (λ (ys : List Member). SortsFrom from items (take n (put_mid from (length ys - from) ys part ++ drop (length (put_mid from (length ys - from) ys part)) items))) (sym same)
    (in_place items part from n e l (subst (λ (ys : List Member). IsPermutation (take (length ys - from) (drop from ys)) part) same p) s)
