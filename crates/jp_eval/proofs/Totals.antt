-- Sums and what they tell of nodes.
use Rattle.std.proofs.Common.{◌≡◌, ◌≤◌, ◌<◌, ◌+◌, ℕ, List, [], ◌∷◌, ◌++◌, length, map, true, false, Bool, cond, sym, ◌∙◌, ap, ap₂, refl, arith, append-nil, Option, Some, None}
use Rattle.std.specs.Prelude.{nat_lt, ◌==◌, not, slice_get}
use Rattle.std.proofs.lemmas.Bool.{eq-eqb, le-ltb, lt-ltb, ltb-false, ltb-true, ne_eqb}
use Rattle.jp_model.specs.Json.Tree.{value_of}
use Rattle.jp_model.specs.Meaning.Functions.{single_value}
use Rattle.jp_model.specs.Meaning.Nodes.{Node, root_node, subtree}
use Rattle.jp_nodes.specs.Tapes.{spelled}
use Rattle.jp_nodes.specs.Cursors.{node_of}
use Rattle.jp_eval.specs.Tallies.{IsTotal, Tally, Total, cut, is_listed, none_in, plus, tallied, tally, total_of}
use Rattle.jp_eval.specs.declared.frame.Frame.{Frame}
use Rattle.jp_eval.specs.declared.sums.Sum.{Sum}

abbrev total_is : ℕ → Option Node → Total
total_is n l = record { count = n; last = l }

abbrev tally_is : List Node → Option Total → Tally
tally_is ns t = record { nodes = ns; total = t }

pub plus-append : (t : Total) (a b : List Node) → plus t (a ++ b) ≡ plus (plus t a) b
plus-append t [] b = refl
plus-append t (n ∷ a) b = plus-append (record { count = t.count + 1; last = Some n }) a b

plus_count : (t : Total) (ns : List Node) → (plus t ns).count ≡ t.count + length ns
plus_count t [] = omega arith
plus_count t (n ∷ ns) = let e = plus_count (record { count = t.count + 1; last = Some n }) ns in omega (arith, e)

-- ---- what is cut off

enough : (most : ℕ) (t : Total) → most ≤ t.count → cut most t ≡ None
enough most t h = by (nat_lt t.count most) refl
  where
    by : (b : Bool) → nat_lt t.count most ≡ b → cond b (Some t) None ≡ None
    by false e = refl
    by true e = let l = ltb-true t.count most e in absurd (omega (arith, l, h))

-- the two are cut off, or are the same
pub cut_so : {A : Type 0} (most : ℕ) (a b : Total) → cut most a ≡ cut most b → (most ≤ a.count → most ≤ b.count → A) → (a.count < most → a ≡ b → A) → A
cut_so {A} most a b e f g = by (nat_lt a.count most) (nat_lt b.count most) refl refl e
  where
    by : (p q : Bool) → nat_lt a.count most ≡ p → nat_lt b.count most ≡ q → cond p (Some a) None ≡ cond q (Some b) None → A
    by true true h k i = g (ltb-true a.count most h) (cc)
    by true false h k i = absurd (cc)
    by false true h k i = absurd (cc)
    by false false h k i = f (ltb-false a.count most h) (ltb-false b.count most k)

-- nodes that are added to both
pub cut_plus : (most : ℕ) (a b : Total) (ns : List Node) → cut most a ≡ cut most b → cut most (plus a ns) ≡ cut most (plus b ns)
cut_plus most a b ns e = cut_so most a b e
    (λ h k. let m = plus_count a ns in let n = plus_count b ns in enough most (plus a ns) (omega (arith, h, m)) ∙ sym (enough most (plus b ns) (omega (arith, k, n))))
    (λ h s. ap (λ (t : Total). cut most (plus t ns)) s)

-- no node matters where enough are counted
pub cut_full : (most : ℕ) (a : Total) (ns : List Node) → most ≤ a.count → cut most (plus a ns) ≡ cut most a
cut_full most a ns h = let m = plus_count a ns in enough most (plus a ns) (omega (arith, h, m)) ∙ sym (enough most a h)

-- ---- what a sum adds to another

last_same : (t u : Total) (n : Node) (ns : List Node) → (plus t (n ∷ ns)).last ≡ (plus u (n ∷ ns)).last
last_same t u n [] = refl
last_same t u n (m ∷ ns) = last_same (record { count = t.count + 1; last = Some n }) (record { count = u.count + 1; last = Some n }) m ns

same_total : (a b : Total) → a.count ≡ b.count → a.last ≡ b.last → a ≡ b
same_total a b e f = ap₂ (λ (n : ℕ) (l : Option Node). total_is n l) e f

-- none was counted
pub none_counted : (line : List ℕ) (most : ℕ) (own : Sum) (selected : List Node) (t : Total) → IsTotal line most own selected → own.count ≡ 0 → cut most t ≡ cut most (plus t selected)
none_counted line most own selected t h z =
    let n = plus_count (none_in line) selected in
    cut_so most (total_of line own) (plus (none_in line) selected) h
    (λ a b. sym (cut_full most t selected (omega (arith, a, z))))
    (λ a e. let size = ap (λ (x : Total). x.count) e in by selected (omega (arith, size, n, z)))
  where
    by : (ns : List Node) → length ns ≡ 0 → cut most t ≡ cut most (plus t ns)
    by [] l = refl
    by (x ∷ ns) l = absurd (omega (arith, l))

-- some were
pub some_counted : (line : List ℕ) (most : ℕ) (own : Sum) (selected : List Node) (t : Total) → IsTotal line most own selected → 0 < own.count
    → cut most (record { count = t.count + own.count; last = (total_of line own).last }) ≡ cut most (plus t selected)
some_counted line most own selected t h z =
    let n = plus_count (none_in line) selected in
    let m = plus_count t selected in
    cut_so most (total_of line own) (plus (none_in line) selected) h
    (λ a b. enough most (record { count = t.count + own.count; last = (total_of line own).last }) (omega (arith, a)) ∙ sym (enough most (plus t selected) (omega (arith, b, n, m))))
    (λ a e. by selected e n m)
  where
    by : (ns : List Node) → total_of line own ≡ plus (none_in line) ns → (plus (none_in line) ns).count ≡ 0 + length ns → (plus t ns).count ≡ t.count + length ns
        → cut most (record { count = t.count + own.count; last = (total_of line own).last }) ≡ cut most (plus t ns)
    by [] e n m = let size = ap (λ (x : Total). x.count) e in absurd (omega (arith, size, z))
    by (x ∷ ns) e n m =
        let size = ap (λ (x : Total). x.count) e in
        ap (cut most) (same_total (record { count = t.count + own.count; last = (total_of line own).last }) (plus t (x ∷ ns)) (omega (arith, size, n, m)) (ap (λ (x : Total). x.last) e ∙ last_same (none_in line) t x ns))

-- ---- what a sum decides

-- whether there is a node
pub has_some : (line : List ℕ) (sum : Sum) (ns : List Node) → IsTotal line 1 sum ns → nat_lt 0 sum.count ≡ not (length ns == 0)
has_some line sum ns h =
    let n = plus_count (none_in line) ns in
    cut_so 1 (total_of line sum) (plus (none_in line) ns) h (λ a b. both sum.count ns (omega (arith, a)) (omega (arith, b, n))) (λ a e. let size = ap (λ (x : Total). x.count) e in none sum.count ns (omega (arith, a)) (omega (arith, a, size, n)))
  where
    both : (k : ℕ) (ns : List Node) → 0 < k → 0 < length ns → nat_lt 0 k ≡ not (length ns == 0)
    both k ns a b = lt-ltb 0 k a ∙ sym (ap not (ne_eqb (length ns) 0 (λ e. omega (arith, e, b))))

    none : (k : ℕ) (ns : List Node) → k ≡ 0 → length ns ≡ 0 → nat_lt 0 k ≡ not (length ns == 0)
    none k ns a b = le-ltb 0 k (omega (arith, a)) ∙ sym (ap not (eq-eqb (length ns) 0 b))

-- how many there are
pub counted_all : (line : List ℕ) (most : ℕ) (sum : Sum) (ns : List Node) → IsTotal line most sum ns → sum.count < most → sum.count ≡ length ns
counted_all line most sum ns h l =
    let n = plus_count (none_in line) ns in
    cut_so most (total_of line sum) (plus (none_in line) ns) h (λ a b. absurd (omega (arith, a, l))) (λ a e. let size = ap (λ (x : Total). x.count) e in omega (arith, size, n))

-- which is the only one
pub only_one : (line : List ℕ) (sum : Sum) (ns : List Node) → IsTotal line 2 sum ns → sum.count ≡ 1 → (c : Node) × ((slice_get (subtree (root_node (spelled line))) sum.last ≡ Some c) × (Some (value_of c.tree) ≡ single_value ns))
only_one line sum ns h l =
    let n = plus_count (none_in line) ns in
    cut_so 2 (total_of line sum) (plus (none_in line) ns) h (λ a b. absurd (omega (arith, a, l))) (λ a e. let size = ap (λ (x : Total). x.count) e in by ns e (omega (arith, size, n, l)))
  where
    by : (ns : List Node) → total_of line sum ≡ plus (none_in line) ns → length ns ≡ 1 → (c : Node) × ((slice_get (subtree (root_node (spelled line))) sum.last ≡ Some c) × (Some (value_of c.tree) ≡ single_value ns))
    by [] e k = absurd (omega (arith, k))
    by (x ∷ []) e k = (x, (ap (λ (x : Total). x.last) e, refl))
    by (x ∷ y ∷ ns) e k = absurd (omega (arith, k))

-- ---- tallies

-- the same list, and as much counted
pub counted_so : (line : List ℕ) (most : ℕ) (a b : Frame) (xs ys : List Node) → is_listed most ≡ false → a.found.items ≡ b.found.items → cut most (plus (total_of line a.sum) xs) ≡ cut most (plus (total_of line b.sum) ys) → tally line most a xs ≡ tally line most b ys
counted_so line most a b xs ys l f h = by (is_listed most) l
  where
    by : (q : Bool) → q ≡ false → tallied q most (map node_of a.found.items) (total_of line a.sum) xs ≡ tallied q most (map node_of b.found.items) (total_of line b.sum) ys
    by true e = absurd (cc)
    by false e = ap₂ tally_is (ap (map node_of) f) h

-- nothing was listed where each is counted
pub total_so : (line : List ℕ) (most : ℕ) (a b : Frame) (xs ys : List Node) → is_listed most ≡ false → tally line most a xs ≡ tally line most b ys → (map node_of a.found.items ≡ map node_of b.found.items) × (cut most (plus (total_of line a.sum) xs) ≡ cut most (plus (total_of line b.sum) ys))
total_so line most a b xs ys l h = by (is_listed most) l h
  where
    by : (q : Bool) → q ≡ false → tallied q most (map node_of a.found.items) (total_of line a.sum) xs ≡ tallied q most (map node_of b.found.items) (total_of line b.sum) ys
        → (map node_of a.found.items ≡ map node_of b.found.items) × (cut most (plus (total_of line a.sum) xs) ≡ cut most (plus (total_of line b.sum) ys))
    by true e h = absurd (cc)
    by false e h = (ap (λ (t : Tally). t.nodes) h, ap (λ (t : Tally). t.total) h)

-- the same list with others after it, and as much counted
pub listed_so : (line : List ℕ) (most : ℕ) (a b : Frame) (xs ys : List Node) → is_listed most ≡ true → map node_of a.found.items ++ xs ≡ map node_of b.found.items ++ ys → a.sum ≡ b.sum → tally line most a xs ≡ tally line most b ys
listed_so line most a b xs ys l f h = by (is_listed most) l
  where
    by : (q : Bool) → q ≡ true → tallied q most (map node_of a.found.items) (total_of line a.sum) xs ≡ tallied q most (map node_of b.found.items) (total_of line b.sum) ys
    by false e = absurd (cc)
    by true e = ap₂ tally_is f (ap (λ (s : Sum). Some (total_of line s)) h)

-- what stands in the list then
pub nodes_so : (line : List ℕ) (most : ℕ) (a b : Frame) (xs ys : List Node) → is_listed most ≡ true → tally line most a xs ≡ tally line most b ys → map node_of a.found.items ++ xs ≡ map node_of b.found.items ++ ys
nodes_so line most a b xs ys l h = by (is_listed most) l h
  where
    by : (q : Bool) → q ≡ true → tallied q most (map node_of a.found.items) (total_of line a.sum) xs ≡ tallied q most (map node_of b.found.items) (total_of line b.sum) ys → map node_of a.found.items ++ xs ≡ map node_of b.found.items ++ ys
    by false e h = absurd (cc)
    by true e h = ap (λ (t : Tally). t.nodes) h

-- no more nodes matter
pub full_so : (line : List ℕ) (most : ℕ) (a : Frame) (xs : List Node) → is_listed most ≡ false → most ≤ a.sum.count → tally line most a xs ≡ tally line most a []
full_so line most a xs l h = counted_so line most a a xs [] l refl (cut_full most (total_of line a.sum) xs h)

pub not_listed : (most : ℕ) → not (is_listed most) ≡ true → is_listed most ≡ false
not_listed most = by (is_listed most)
  where
    by : (b : Bool) → not b ≡ true → b ≡ false
    by true e = absurd (cc)
    by false e = refl

pub is_all : (most : ℕ) → most ≡ 18446744073709551615 → is_listed most ≡ true
is_all most e = eq-eqb most 18446744073709551615 e

-- the nodes after a list
pub listed_behind : (line : List ℕ) (most : ℕ) (a b : Frame) (selected : List Node) → most ≡ 18446744073709551615 → tally line most a [] ≡ tally line most b selected → map node_of a.found.items ≡ map node_of b.found.items ++ selected
listed_behind line most a b selected l h = sym (append-nil (map node_of a.found.items)) ∙ nodes_so line most a b [] selected (is_all most l) h

-- one node at a place
pub same_node : (xs : List Node) (i : ℕ) (a b : Node) → slice_get xs i ≡ Some a → slice_get xs i ≡ Some b → a ≡ b
same_node xs i a b e f = let g : Some a ≡ Some b = sym e ∙ f in cc
