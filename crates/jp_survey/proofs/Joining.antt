-- The counts of places that come together.
use Rattle.std.proofs.Common.{◌≡◌, ◌∙◌, ℕ, suc, ◌+◌, ◌<◌, ◌⊎◌, inl, inr, List, [], ◌∷◌, ◌++◌, length, get_or, set, replicate, map, take, Bool, true, false, cond, ap, ap₂, refl, sym, arith}
use Rattle.std.proofs.lemmas.Bool.{cases_eq}
use Rattle.std.proofs.lemmas.List.{get_or-replicate, get_or-set_other, get_or-set_same, length-map, length-replicate, length-set, length-take-le, map_more, take_more}
use Rattle.jp_survey.specs.Counts.{Adds, Joined, counts_at, last_of, no_counts, sum_where, sums_of}
use Rattle.jp_survey.specs.Paths.{Path}
use Rattle.jp_survey.specs.Places.{path_at}
use Rattle.jp_survey.specs.declared.count.PlaceCounts.{PlaceCounts}
use Rattle.jp_survey.specs.declared.kind.NodeKind.{NodeKind}
use Rattle.jp_survey.proofs.Beside.{no_last, no_lines, no_nodes, none_where, sum_set}

no_sums : (lines : Bool) (kind : NodeKind) → sums_of lines kind no_counts ≡ 0
no_sums true kind = no_lines kind
no_sums false kind = no_nodes kind

sums_add : (lines : Bool) (kind : NodeKind) (old new : List PlaceCounts) (place : ℕ) (some : PlaceCounts) (h : Adds old new place some)
    → sums_of lines kind h.sum ≡ sums_of lines kind (counts_at old place) + sums_of lines kind some
sums_add true kind old new place some h = h.in_lines kind
sums_add false kind old new place some h = h.nodes kind

-- one place more
pub sum_push : (number : PlaceCounts → ℕ) (test : Path → Bool) (paths : List Path) (path : Path) (places : List PlaceCounts) (place : PlaceCounts) → length paths ≡ length places
    → sum_where number test (paths ++ path ∷ []) (places ++ place ∷ []) ≡ sum_where number test paths places + cond (test path) (number place) 0
sum_push number test [] path [] place e = omega arith
sum_push number test [] path (c ∷ places) place e = absurd (omega (arith, e))
sum_push number test (p ∷ paths) path [] place e = absurd (omega (arith, e))
sum_push number test (p ∷ paths) path (c ∷ places) place e = let rest = sum_push number test paths path places place (omega (arith, e)) in omega (arith, rest)

-- paths, where the same pass
pub sum_alike : (number : PlaceCounts → ℕ) (test other : Path → Bool) (ps qs : List Path) (places : List PlaceCounts) → length ps ≡ length qs
    → ((k : ℕ) → k < length ps → test (path_at ps k) ≡ other (path_at qs k)) → sum_where number test ps places ≡ sum_where number other qs places
sum_alike number test other [] [] places e h = refl
sum_alike number test other [] (q ∷ qs) places e h = absurd (omega (arith, e))
sum_alike number test other (p ∷ ps) [] places e h = absurd (omega (arith, e))
sum_alike number test other (p ∷ ps) (q ∷ qs) [] e h = refl
sum_alike number test other (p ∷ ps) (q ∷ qs) (c ∷ places) e h =
    ap₂ (λ (b : Bool) (n : ℕ). cond b (number c) 0 + n) (h 0 (omega arith))
    (sum_alike number test other ps qs places (omega (arith, e)) (λ k s. h (suc k) (omega (arith, s))))

-- there are as many places as before
pub adds_length : (old new : List PlaceCounts) (place : ℕ) (some : PlaceCounts) → Adds old new place some → length new ≡ length old
adds_length old new place some h = ap length h.new_is ∙ length-set old place h.sum

-- none has come yet
pub joined_none : (old : List PlaceCounts) (to : List ℕ) (n : ℕ) → Joined old (replicate n no_counts) to 0
joined_none old to n = record {
  sums = λ lines kind test paths e. none_where (sums_of lines kind) test (no_sums lines kind) paths n;
  last = λ k kind l. let many = length-replicate n no_counts in ap (last_of kind) (get_or-replicate n k no_counts no_counts (omega (arith, many, l))) ∙ no_last kind;
}

-- one more comes
pub joined_more : (old new after : List PlaceCounts) (to : List ℕ) (n : ℕ) → Joined old new to n → n < length old → n < length to → Adds new after (get_or to n 0) (counts_at old n) → Joined old after to (n + 1)
joined_more old new after to n h l m adds = record { sums = sums; last = last }
  where
    place : ℕ
    place = get_or to n 0

    same_length : length after ≡ length new
    same_length = adds_length new after (get_or to n 0) (counts_at old n) adds

    sums : (lines : Bool) (kind : NodeKind) (test : Path → Bool) (paths : List Path) → length paths ≡ length after
        → sum_where (sums_of lines kind) test paths after ≡ sum_where (sums_of lines kind) test (map (path_at paths) (take (n + 1) to)) (take (n + 1) old)
    sums lines kind test paths e =
        let f = sums_of lines kind in let at = get_or to n 0 in
        let long = same_length in
        let stepped = sum_set f test paths new at adds.sum (omega (arith, e, long)) (omega (arith, e, long, adds.inside)) in
        let added = sums_add lines kind new after at (counts_at old n) adds in
        let before = h.sums lines kind test paths (omega (arith, e, long)) in
        let shorter = length-take-le n to (omega (arith, m)) in let other = length-take-le n old (omega (arith, l)) in
        let mapped = length-map (take n to) (path_at paths) in
        let push = sum_push f test (map (path_at paths) (take n to)) (path_at paths at) (take n old) (counts_at old n) (omega (arith, shorter, other, mapped)) in
        let is : sum_where f test (map (path_at paths) (take (n + 1) to)) (take (n + 1) old)
        ≡ sum_where f test (map (path_at paths) (take n to) ++ path_at paths at ∷ []) (take n old ++ counts_at old n ∷ []) =
        ap₂ (sum_where f test) (map_more (path_at paths) to n 0 m) (take_more old n no_counts l) in
        let now : sum_where f test paths after ≡ sum_where f test paths (set new at adds.sum) = ap (sum_where f test paths) adds.new_is in
        joined (test (path_at paths at)) (sum_where f test paths after) (sum_where f test paths (set new at adds.sum)) (sum_where f test paths new)
        (f (counts_at new at)) (f adds.sum) (f (counts_at old n)) (sum_where f test (map (path_at paths) (take n to)) (take n old)) now stepped added before ∙ sym (is ∙ push)
      where
        joined : (b : Bool) (z a s o w c r : ℕ) → z ≡ a → a + cond b o 0 ≡ s + cond b w 0 → w ≡ o + c → s ≡ r → z ≡ r + cond b c 0
        joined true z a s o w c r e1 e2 e3 e4 = omega (arith, e1, e2, e3, e4)
        joined false z a s o w c r e1 e2 e3 e4 = omega (arith, e1, e2, e4)

    last : (k : ℕ) (kind : NodeKind) → k < length after → last_of kind (counts_at after k) ≡ 0
    last k kind s = ap (λ (cs : List PlaceCounts). last_of kind (counts_at cs k)) adds.new_is ∙ by (cases_eq k (get_or to n 0))
      where
        by : ((k ≡ get_or to n 0) ⊎ (k ≡ get_or to n 0 → ⊥)) → last_of kind (counts_at (set new (get_or to n 0) adds.sum) k) ≡ 0
        by (inl e) =
            ap (λ (j : ℕ). last_of kind (counts_at (set new (get_or to n 0) adds.sum) j)) e
            ∙ (ap (last_of kind) (get_or-set_same new (get_or to n 0) adds.sum no_counts adds.inside) ∙ adds.last kind)
        by (inr ne) =
            let long = same_length in
            ap (last_of kind) (get_or-set_other new (get_or to n 0) k adds.sum no_counts ne) ∙ h.last k kind (omega (arith, long, s))
