-- Queries select nodes at the same locations of trees that say the same.
use Rattle.std.proofs.Common.{◌≡◌, ℕ, ◌+◌, ℤ, pos, List, [], ◌∷◌, ◌++◌, length, map, filter, reverse, Bool, true, false, Option, Some, None, refl, ap, ap₂, subst, ◌∙◌, if◌then◌else◌, int_lt}
use Rattle.std.specs.Cmp.{IsTotalOrder}
use Rattle.jp_decimal.specs.Values.{order}
use Rattle.jp_model.specs.Json.Numbers.{mantissa, numeral_of, scale}
use Rattle.jp_model.specs.Json.Tree.{Tree, Value, Children, Name, value_of, count_children}
use Rattle.jp_model.specs.Pattern.Tree.{Pattern}
use Rattle.jp_model.specs.Query.Syntax.{Literal, null_literal, false_literal, true_literal, number_literal, string_literal, Segments}
use Rattle.jp_model.specs.Meaning.Nodes.{Node, root_node, child_of, child_count, children, children_where, step_to, steps_from, steps_in, subtree, subtree_at, below, below_from}
use Rattle.jp_model.specs.Meaning.Functions.{single_value, counted, length_of, in_pattern, literal_value}
use Rattle.jp_model.specs.Meaning.Selecting.{nodes}
use Rattle.jp_model.specs.Meaning.Slices.{is_index, sliced, upward, downward}
use Rattle.jp_model.specs.Steps.{Step}
use Rattle.jp_laws.specs.Alike.{AlikeChildren, next_child, no_more, AlikeNames, named_alike, unnamed, AlikeTrees, alike_trees, AlikeValues, alike_booleans, alike_containers, alike_nulls, alike_numbers, alike_strings}
use Rattle.jp_laws.proofs.Agreeing.{Agreement, agreed}
use Rattle.jp_laws.proofs.AlikeValues.{alike_compared, same_count}
use Rattle.jp_laws.proofs.NumberOrder.{number_itself}
use Rattle.jp_laws.proofs.Sides.{Sides}
use Rattle.jp_laws.proofs.Pairs.{Pairwise, pairs_append, pairs_flat, pairs_map, pairs_filter, pairs_reverse, pairs_length}

-- ---- nodes at one location whose trees are alike

abbrev pub AlikeNodes : Node → Node → Type 0
AlikeNodes n m = (n.location ≡ m.location) × AlikeTrees n.tree m.tree

abbrev AlikeSteps : Step × Tree → Step × Tree → Type 0
AlikeSteps p q = (p.0 ≡ q.0) × AlikeTrees p.1 q.1

step_alike : (place : ℕ) {a b : Option Name} → AlikeNames a b → step_to place a ≡ step_to place b
step_alike place unnamed = refl
step_alike place (named_alike h) = ap (λ x. step_to place (Some (record { body = record { start = 0; end = 0 }; points = x }))) h

from_alike : (place : ℕ) {cs ds : Children} → AlikeChildren cs ds → Pairwise AlikeSteps (steps_from place cs) (steps_from place ds)
from_alike place no_more = tt
from_alike place (next_child n t a) = ((step_alike place n, t), from_alike (place + 1) a)

value_steps : {v w : Value} → AlikeValues v w → Pairwise AlikeSteps (steps_in v) (steps_in w)
value_steps alike_nulls = tt
value_steps alike_booleans = tt
value_steps (alike_numbers h) = tt
value_steps alike_strings = tt
value_steps (alike_containers a) = from_alike 0 a

tree_steps : {t u : Tree} → AlikeTrees t u → Pairwise AlikeSteps (steps_in (value_of t)) (steps_in (value_of u))
tree_steps (alike_trees a) = value_steps a

child_alike : (n m : Node) → n.location ≡ m.location → (p q : Step × Tree) → AlikeSteps p q → AlikeNodes (child_of n p) (child_of m q)
child_alike n m e p q a = (ap₂ (λ (l : List Step) (s : Step). l ++ s ∷ []) e a.0, a.1)

children_alike : (n m : Node) → AlikeNodes n m → Pairwise AlikeNodes (children n) (children m)
children_alike n m a = pairs_map AlikeSteps AlikeNodes (child_of n) (child_of m) (child_alike n m a.0) (steps_in (value_of n.tree)) (steps_in (value_of m.tree)) (tree_steps a.1)

where_alike : (f g : Step → Bool) → ((s : Step) → f s ≡ g s) → (n m : Node) → AlikeNodes n m → Pairwise AlikeNodes (children_where f n) (children_where g m)
where_alike f g h n m a =
    let ps = steps_in (value_of n.tree) in
    let qs = steps_in (value_of m.tree) in
    pairs_map AlikeSteps AlikeNodes (child_of n) (child_of m) (child_alike n m a.0) (filter (λ p. f p.0) ps) (filter (λ p. g p.0) qs)
    (pairs_filter AlikeSteps (λ p. f p.0) (λ p. g p.0) (λ p q b. h p.0 ∙ ap g b.0) ps qs (tree_steps a.1))

count_alike : (n m : Node) → AlikeNodes n m → child_count n ≡ child_count m
count_alike n m a = pairs_length AlikeSteps (steps_in (value_of n.tree)) (steps_in (value_of m.tree)) (tree_steps a.1)

mutual
  at_alike : (k l : List Step) → k ≡ l → {t u : Tree} → AlikeTrees t u → Pairwise AlikeNodes (subtree_at k t) (subtree_at l u)
  at_alike k l e (alike_trees a) = ((e, alike_trees a), below_alike k l e a)

  below_alike : (k l : List Step) → k ≡ l → {v w : Value} → AlikeValues v w → Pairwise AlikeNodes (below k v) (below l w)
  below_alike k l e alike_nulls = tt
  below_alike k l e alike_booleans = tt
  below_alike k l e (alike_numbers h) = tt
  below_alike k l e alike_strings = tt
  below_alike k l e (alike_containers a) = from_below k l e 0 a

  from_below : (k l : List Step) → k ≡ l → (place : ℕ) {cs ds : Children} → AlikeChildren cs ds → Pairwise AlikeNodes (below_from k place cs) (below_from l place ds)
  from_below k l e place no_more = tt
  from_below k l e place (next_child {a = a} {b = b} {t = t} {u = u} {cs = cs} {ds = ds} n h more) =
      pairs_append AlikeNodes (subtree_at (k ++ step_to place a ∷ []) t) (subtree_at (l ++ step_to place b ∷ []) u) (below_from k (place + 1) cs) (below_from l (place + 1) ds)
      (at_alike (k ++ step_to place a ∷ []) (l ++ step_to place b ∷ []) (ap₂ (λ (i : List Step) (s : Step). i ++ s ∷ []) e (step_alike place n)) h) (from_below k l e (place + 1) more)

subtree_alike : (n m : Node) → AlikeNodes n m → Pairwise AlikeNodes (subtree n) (subtree m)
subtree_alike n m a = at_alike n.location m.location a.0 a.1

sliced_alike : (first last : Option ℤ) (step : ℤ) (n m : Node) → AlikeNodes n m → Pairwise AlikeNodes (sliced first last step n) (sliced first last step m)
sliced_alike first last step n m a = pick (int_lt (pos 0) step) (int_lt step (pos 0))
  where
    up : Pairwise AlikeNodes (children_where (is_index (upward (child_count n) first last step)) n) (children_where (is_index (upward (child_count m) first last step)) m)
    up = where_alike _ _ (λ s. ap (λ c. is_index (upward c first last step) s) (count_alike n m a)) n m a

    down : Pairwise AlikeNodes (reverse (children_where (is_index (downward (child_count n) first last step)) n)) (reverse (children_where (is_index (downward (child_count m) first last step)) m))
    down = pairs_reverse AlikeNodes _ _ (where_alike _ _ (λ s. ap (λ c. is_index (downward c first last step) s) (count_alike n m a)) n m a)

    pick : (b c : Bool) → Pairwise AlikeNodes
        (if b then children_where (is_index (upward (child_count n) first last step)) n else if c then reverse (children_where (is_index (downward (child_count n) first last step)) n) else [])
        (if b then children_where (is_index (upward (child_count m) first last step)) m else if c then reverse (children_where (is_index (downward (child_count m) first last step)) m) else [])
    pick true c = up
    pick false true = down
    pick false false = tt

-- ---- what functions answer

module _ (order_total : IsTotalOrder order) where
  single_alike : (ns ms : List Node) → Pairwise AlikeNodes ns ms → Sides AlikeValues (single_value ns) (single_value ms)
  single_alike [] [] a = tt
  single_alike (n ∷ []) (m ∷ []) a = of_trees a.0.1
    where
      of_trees : {t u : Tree} → AlikeTrees t u → AlikeValues (value_of t) (value_of u)
      of_trees (alike_trees h) = h
  single_alike (n ∷ i ∷ ns) (m ∷ j ∷ ms) a = tt
  single_alike [] (m ∷ ms) a = absurd a
  single_alike (n ∷ ns) [] a = absurd a
  single_alike (n ∷ []) (m ∷ j ∷ ms) a = absurd a.1
  single_alike (n ∷ i ∷ ns) (m ∷ []) a = absurd a.1

  count_itself : (k : ℕ) → AlikeValues (counted k) (counted k)
  count_itself k = alike_numbers (number_itself order_total (pos k) (pos 0))

  literal_itself : (c : Literal) → AlikeValues (literal_value c) (literal_value c)
  literal_itself null_literal = alike_nulls
  literal_itself false_literal = alike_booleans
  literal_itself true_literal = alike_booleans
  literal_itself (number_literal x) = alike_numbers (number_itself order_total (mantissa (numeral_of x)) (scale (numeral_of x)))
  literal_itself (string_literal x) = alike_strings

  lengths_alike : (x y : Option Value) → Sides AlikeValues x y → Sides AlikeValues (length_of x) (length_of y)
  lengths_alike None None a = tt
  lengths_alike (Some v) (Some w) a = by_value a
    where
      by_value : {v w : Value} → AlikeValues v w → Sides AlikeValues (length_of (Some v)) (length_of (Some w))
      by_value alike_nulls = tt
      by_value alike_booleans = tt
      by_value (alike_numbers h) = tt
      by_value (alike_strings {x = x}) = count_itself (length x)
      by_value (alike_containers {cs = cs} h) = subst (λ k. AlikeValues (counted (count_children cs)) (counted k)) (same_count order_total h) (count_itself (count_children cs))
  lengths_alike None (Some w) a = absurd a
  lengths_alike (Some v) None a = absurd a

  pattern_alike : (passes : Pattern → List ℕ → Bool) (x y v w : Option Value) → Sides AlikeValues x y → Sides AlikeValues v w → in_pattern passes x v ≡ in_pattern passes y w
  pattern_alike passes None None v w a b = refl
  pattern_alike passes (Some x) (Some y) None None a b = none a
    where
      none : {x y : Value} → AlikeValues x y → in_pattern passes (Some x) None ≡ in_pattern passes (Some y) None
      none alike_strings = refl
      none a = refl
  pattern_alike passes (Some x) (Some y) (Some v) (Some w) a b = both a b
    where
      both : {x y v w : Value} → AlikeValues x y → AlikeValues v w → in_pattern passes (Some x) (Some v) ≡ in_pattern passes (Some y) (Some w)
      both alike_strings alike_strings = refl
      both a b = refl
  pattern_alike passes None (Some y) v w a b = absurd a
  pattern_alike passes (Some x) None v w a b = absurd a
  pattern_alike passes (Some x) (Some y) None (Some w) a b = absurd b
  pattern_alike passes (Some x) (Some y) (Some v) None a b = absurd b

  agreement : (t u : Tree) → AlikeTrees t u → Agreement t u AlikeNodes (Pairwise AlikeNodes) (Sides AlikeValues)
  agreement t u same = record {
    roots = (refl, same);
    none = tt;
    alone = λ n m a. (a, tt);
    joined = pairs_append AlikeNodes;
    mapped = pairs_flat AlikeNodes AlikeNodes;
    kept = pairs_filter AlikeNodes;
    as_many = pairs_length AlikeNodes;
    all_children = children_alike;
    some_children = where_alike;
    slices = sliced_alike;
    as_many_children = count_alike;
    subtrees = subtree_alike;
    nothing = tt;
    values = single_alike;
    literals = literal_itself;
    counts = count_itself;
    lengths = lengths_alike;
    patterns = pattern_alike;
    comparisons = alike_compared order_total;
  }

  locations_of : (ns ms : List Node) → Pairwise AlikeNodes ns ms → map (λ (n : Node). n.location) ns ≡ map (λ (n : Node). n.location) ms
  locations_of [] [] a = refl
  locations_of (n ∷ ns) (m ∷ ms) a = ap₂ (λ (l : List Step) (ls : List (List Step)). l ∷ ls) a.0.0 (locations_of ns ms a.1)
  locations_of [] (m ∷ ms) a = absurd a
  locations_of (n ∷ ns) [] a = absurd a

  pub same_locations : (t u : Tree) → AlikeTrees t u → (q : Segments) → map (λ (n : Node). n.location) (nodes q (root_node t ∷ []) t) ≡ map (λ (n : Node). n.location) (nodes q (root_node u ∷ []) u)
  same_locations t u same q = locations_of (nodes q (root_node t ∷ []) t) (nodes q (root_node u ∷ []) u) (agreed t u AlikeNodes (Pairwise AlikeNodes) (Sides AlikeValues) (agreement t u same) q)
