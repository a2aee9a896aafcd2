-- Queries select the same nodes, in some order, of trees that are the same but for the order of members.
use Rattle.std.proofs.Common.{◌≡◌, ℕ, ◌+◌, ℤ, pos, List, [], ◌∷◌, ◌++◌, length, map, filter, reverse, Bool, true, false, Option, Some, None, refl, sym, ap, ap₂, subst, ◌∙◌, append_assoc, arith, if◌then◌else◌, int_lt}
use Rattle.std.specs.Cmp.{IsTotalOrder}
use Rattle.std.specs.List.Sorted.{IsPermutation}
use Rattle.std.proofs.lemmas.Bool.{or_parts}
use Rattle.jp_decimal.specs.Values.{order}
use Rattle.jp_model.specs.Json.Faults.{names, has_repeated, has_duplicate, value_has_duplicate, children_have_duplicate}
use Rattle.jp_model.specs.Json.Tree.{Tree, node, Value, Children, no_child, child, joined, value_of, count_children}
use Rattle.jp_model.specs.Pattern.Tree.{Pattern}
use Rattle.jp_model.specs.Query.Syntax.{Literal, null_literal, false_literal, true_literal, number_literal, string_literal, Segments}
use Rattle.jp_model.specs.Meaning.Nodes.{Node, root_node, child_of, child_count, children, children_where, step_to, steps_from, steps_in, subtree, subtree_at, below, below_from}
use Rattle.jp_model.specs.Meaning.Functions.{single_value, counted, length_of, in_pattern, literal_value}
use Rattle.jp_model.specs.Meaning.Selecting.{nodes}
use Rattle.jp_model.specs.Meaning.Slices.{is_index, sliced, upward, downward}
use Rattle.jp_model.specs.Steps.{Step, name_step}
use Rattle.jp_laws.specs.Reordered.{ReorderedTrees, reordered_trees, ReorderedValues, same_null, same_boolean, same_number, same_string, same_array, same_object, ReorderedElements, no_element, next_element, ReorderedMembers, no_member, member_among}
use Rattle.jp_laws.specs.Values.{are_members}
use Rattle.jp_laws.proofs.Agreeing.{Agreement, agreed}
use Rattle.jp_laws.proofs.Pairs.{Pairwise, pairs_map, pairs_filter, pairs_reverse}
use Rattle.jp_laws.proofs.Permuted.{Permuted, permuted_middle, permuted_append, permuted_flat, permuted_map, permuted_filter, permuted_length, permuted_pairs, permutation_of}
use Rattle.jp_laws.proofs.Sides.{Sides}
use Rattle.jp_laws.proofs.ReorderedValues.{Reordered, reordered_compared, elements_count, members_count, left_named, right_named, taken_duplicate}

-- ---- nodes at one location whose trees are the same so, and have no equal names

abbrev ReorderedNodes : Node → Node → Type 0
ReorderedNodes n m = (n.location ≡ m.location) × ReorderedTrees n.tree m.tree × (has_duplicate n.tree ≡ false) × (has_duplicate m.tree ≡ false)

abbrev ReorderedSteps : Step × Tree → Step × Tree → Type 0
ReorderedSteps p q = (p.0 ≡ q.0) × ReorderedTrees p.1 q.1 × (has_duplicate p.1 ≡ false) × (has_duplicate q.1 ≡ false)

elements_steps : (place : ℕ) {cs ds : Children} → ReorderedElements cs ds → children_have_duplicate cs ≡ false → children_have_duplicate ds ≡ false → Pairwise ReorderedSteps (steps_from place cs) (steps_from place ds)
elements_steps place no_element d f = tt
elements_steps place (next_element {t = t} {u = u} {cs = cs} {ds = ds} h more) d f =
    let p = or_parts (has_duplicate t) (children_have_duplicate cs) d in
    let q = or_parts (has_duplicate u) (children_have_duplicate ds) f in
    ((refl, h, p.0, q.0), elements_steps (place + 1) more p.1 q.1)

-- the members with their names
abbrev member_steps : Children → List (Step × Tree)
member_steps no_child = []
member_steps (child None t more) = member_steps more
member_steps (child (Some a) t more) = (name_step a.points, t) ∷ member_steps more

steps_named : (place : ℕ) (cs : Children) → are_members cs ≡ true → member_steps cs ≡ steps_from place cs
steps_named place no_child h = refl
steps_named place (child None t more) h = absurd (cc)
steps_named place (child (Some a) t more) h = ap (λ (l : List (Step × Tree)). (name_step a.points, t) ∷ l) (steps_named (place + 1) more h)

steps_joined : (front rest : Children) → member_steps (joined front rest) ≡ member_steps front ++ member_steps rest
steps_joined no_child rest = refl
steps_joined (child None t more) rest = steps_joined more rest
steps_joined (child (Some a) t more) rest = ap (λ (l : List (Step × Tree)). (name_step a.points, t) ∷ l) (steps_joined more rest)

members_steps : {cs ds : Children} → ReorderedMembers cs ds → children_have_duplicate cs ≡ false → children_have_duplicate ds ≡ false → Permuted ReorderedSteps (member_steps cs) (member_steps ds)
members_steps no_member d f = refl
members_steps (member_among a b {t = t} {u = u} {cs = cs} front rest e h more) d f =
    let p = or_parts (has_duplicate t) (children_have_duplicate cs) d in
    let q = taken_duplicate front rest (Some b) u f in (
      (name_step b.points, u),
      member_steps front,
      member_steps rest,
      (ap name_step e, h, p.0, q.0),
      steps_joined front (child (Some b) u rest),
      subst (Permuted ReorderedSteps (member_steps cs)) (steps_joined front rest) (members_steps more p.1 q.1),
    )

value_steps : {v w : Value} → ReorderedValues v w → value_has_duplicate v ≡ false → value_has_duplicate w ≡ false → Permuted ReorderedSteps (steps_in v) (steps_in w)
value_steps same_null d f = refl
value_steps same_boolean d f = refl
value_steps same_number d f = refl
value_steps same_string d f = refl
value_steps (same_array {cs = cs} {ds = ds} a) d f =
    permuted_pairs ReorderedSteps (steps_from 0 cs) (steps_from 0 ds) (elements_steps 0 a (or_parts (has_repeated (names cs)) (children_have_duplicate cs) d).1 (or_parts (has_repeated (names ds)) (children_have_duplicate ds) f).1)
value_steps (same_object {cs = cs} {ds = ds} a) d f =
    subst (λ l. Permuted ReorderedSteps l (steps_from 0 ds)) (steps_named 0 cs (left_named a))
    (subst (Permuted ReorderedSteps (member_steps cs)) (steps_named 0 ds (right_named a)) (members_steps a (or_parts (has_repeated (names cs)) (children_have_duplicate cs) d).1 (or_parts (has_repeated (names ds)) (children_have_duplicate ds) f).1))

tree_steps : {t u : Tree} → ReorderedTrees t u → has_duplicate t ≡ false → has_duplicate u ≡ false → Permuted ReorderedSteps (steps_in (value_of t)) (steps_in (value_of u))
tree_steps (reordered_trees h) d f = value_steps h d f

child_reordered : (n m : Node) → n.location ≡ m.location → (p q : Step × Tree) → ReorderedSteps p q → ReorderedNodes (child_of n p) (child_of m q)
child_reordered n m e p q a = (ap₂ (λ (l : List Step) (s : Step). l ++ s ∷ []) e a.0, a.1, a.2, a.3)

children_reordered : (n m : Node) → ReorderedNodes n m → Permuted ReorderedNodes (children n) (children m)
children_reordered n m a = permuted_map ReorderedSteps ReorderedNodes (child_of n) (child_of m) (child_reordered n m a.0) (steps_in (value_of n.tree)) (steps_in (value_of m.tree)) (tree_steps a.1 a.2 a.3)

where_reordered : (f g : Step → Bool) → ((s : Step) → f s ≡ g s) → (n m : Node) → ReorderedNodes n m → Permuted ReorderedNodes (children_where f n) (children_where g m)
where_reordered f g h n m a =
    let ps = steps_in (value_of n.tree) in
    let qs = steps_in (value_of m.tree) in
    permuted_map ReorderedSteps ReorderedNodes (child_of n) (child_of m) (child_reordered n m a.0) (filter (λ p. f p.0) ps) (filter (λ p. g p.0) qs)
    (permuted_filter ReorderedSteps (λ p. f p.0) (λ p. g p.0) (λ p q b. h p.0 ∙ ap g b.0) ps qs (tree_steps a.1 a.2 a.3))

count_reordered : (n m : Node) → ReorderedNodes n m → child_count n ≡ child_count m
count_reordered n m a = permuted_length ReorderedSteps (steps_in (value_of n.tree)) (steps_in (value_of m.tree)) (tree_steps a.1 a.2 a.3)

-- ---- slices: elements stand in order, and no member has an index

none_indexed : (g : ℤ → Bool) (place : ℕ) (cs : Children) → are_members cs ≡ true → filter (λ p. is_index g p.0) (steps_from place cs) ≡ []
none_indexed g place no_child h = refl
none_indexed g place (child None t more) h = absurd (cc)
none_indexed g place (child (Some a) t more) h = none_indexed g (place + 1) more h

indexed_pairs : (g : ℤ → Bool) {v w : Value} → ReorderedValues v w → value_has_duplicate v ≡ false → value_has_duplicate w ≡ false → Pairwise ReorderedSteps (filter (λ p. is_index g p.0) (steps_in v)) (filter (λ p. is_index g p.0) (steps_in w))
indexed_pairs g same_null d f = tt
indexed_pairs g same_boolean d f = tt
indexed_pairs g same_number d f = tt
indexed_pairs g same_string d f = tt
indexed_pairs g (same_array {cs = cs} {ds = ds} a) d f =
    pairs_filter ReorderedSteps (λ p. is_index g p.0) (λ p. is_index g p.0) (λ p q b. ap (is_index g) b.0) (steps_from 0 cs) (steps_from 0 ds)
    (elements_steps 0 a (or_parts (has_repeated (names cs)) (children_have_duplicate cs) d).1 (or_parts (has_repeated (names ds)) (children_have_duplicate ds) f).1)
indexed_pairs g (same_object {cs = cs} {ds = ds} a) d f = nothing (sym (none_indexed g 0 cs (left_named a))) (sym (none_indexed g 0 ds (right_named a)))
  where
    nothing : {xs ys : List (Step × Tree)} → [] ≡ xs → [] ≡ ys → Pairwise ReorderedSteps xs ys
    nothing {ys = ys} p q = subst (λ (l : List (Step × Tree)). Pairwise ReorderedSteps l ys) p (subst (λ (l : List (Step × Tree)). Pairwise ReorderedSteps [] l) q tt)

tree_indexed : (g : ℤ → Bool) {t u : Tree} → ReorderedTrees t u → has_duplicate t ≡ false → has_duplicate u ≡ false → Pairwise ReorderedSteps (filter (λ p. is_index g p.0) (steps_in (value_of t))) (filter (λ p. is_index g p.0) (steps_in (value_of u)))
tree_indexed g (reordered_trees h) d f = indexed_pairs g h d f

in_turn : (g : ℤ → Bool) (n m : Node) → ReorderedNodes n m → Pairwise ReorderedNodes (children_where (is_index g) n) (children_where (is_index g) m)
in_turn g n m a = pairs_map ReorderedSteps ReorderedNodes (child_of n) (child_of m) (child_reordered n m a.0) _ _ (tree_indexed g a.1 a.2 a.3)

sliced_reordered : (first last : Option ℤ) (step : ℤ) (n m : Node) → ReorderedNodes n m → Permuted ReorderedNodes (sliced first last step n) (sliced first last step m)
sliced_reordered first last step n m a = pick (int_lt (pos 0) step) (int_lt step (pos 0))
  where
    up : Permuted ReorderedNodes (children_where (is_index (upward (child_count n) first last step)) n) (children_where (is_index (upward (child_count m) first last step)) m)
    up = where_reordered _ _ (λ s. ap (λ c. is_index (upward c first last step) s) (count_reordered n m a)) n m a

    down : Permuted ReorderedNodes (reverse (children_where (is_index (downward (child_count n) first last step)) n)) (reverse (children_where (is_index (downward (child_count m) first last step)) m))
    down =
        subst (λ c. Permuted ReorderedNodes (reverse (children_where (is_index (downward (child_count n) first last step)) n)) (reverse (children_where (is_index (downward c first last step)) m))) (count_reordered n m a)
        (permuted_pairs ReorderedNodes _ _ (pairs_reverse ReorderedNodes _ _ (in_turn (downward (child_count n) first last step) n m a)))

    pick : (b c : Bool) → Permuted ReorderedNodes
        (if b then children_where (is_index (upward (child_count n) first last step)) n else if c then reverse (children_where (is_index (downward (child_count n) first last step)) n) else [])
        (if b then children_where (is_index (upward (child_count m) first last step)) m else if c then reverse (children_where (is_index (downward (child_count m) first last step)) m) else [])
    pick true c = up
    pick false true = down
    pick false false = refl

-- ---- descendants

-- the members with all below them
abbrev named_below : List Step → Children → List Node
named_below k no_child = []
named_below k (child None t more) = named_below k more
named_below k (child (Some a) t more) = subtree_at (k ++ name_step a.points ∷ []) t ++ named_below k more

below_named : (k : List Step) (place : ℕ) (cs : Children) → are_members cs ≡ true → named_below k cs ≡ below_from k place cs
below_named k place no_child h = refl
below_named k place (child None t more) h = absurd (cc)
below_named k place (child (Some a) t more) h = ap (λ (l : List Node). subtree_at (k ++ name_step a.points ∷ []) t ++ l) (below_named k (place + 1) more h)

below_joined : (k : List Step) (front rest : Children) → named_below k (joined front rest) ≡ named_below k front ++ named_below k rest
below_joined k no_child rest = refl
below_joined k (child None t more) rest = below_joined k more rest
below_joined k (child (Some a) t more) rest =
    ap (λ (l : List Node). subtree_at (k ++ name_step a.points ∷ []) t ++ l) (below_joined k more rest) ∙ sym (append_assoc (subtree_at (k ++ name_step a.points ∷ []) t) (named_below k more) (named_below k rest))

mutual
  at_reordered : (k l : List Step) → k ≡ l → {t u : Tree} → ReorderedTrees t u → has_duplicate t ≡ false → has_duplicate u ≡ false → Permuted ReorderedNodes (subtree_at k t) (subtree_at l u)
  at_reordered k l e (reordered_trees {r = r} {w = w} h) d f = (record { location = l; tree = node r w }, [], below l w, (e, reordered_trees h, d, f), refl, below_reordered k l e h d f)

  below_reordered : (k l : List Step) → k ≡ l → {v w : Value} → ReorderedValues v w → value_has_duplicate v ≡ false → value_has_duplicate w ≡ false → Permuted ReorderedNodes (below k v) (below l w)
  below_reordered k l e same_null d f = refl
  below_reordered k l e same_boolean d f = refl
  below_reordered k l e same_number d f = refl
  below_reordered k l e same_string d f = refl
  below_reordered k l e (same_array {cs = cs} {ds = ds} a) d f = elements_below k l e 0 a (or_parts (has_repeated (names cs)) (children_have_duplicate cs) d).1 (or_parts (has_repeated (names ds)) (children_have_duplicate ds) f).1
  below_reordered k l e (same_object {cs = cs} {ds = ds} a) d f =
      subst (λ x. Permuted ReorderedNodes x (below_from l 0 ds)) (below_named k 0 cs (left_named a))
      (subst (Permuted ReorderedNodes (named_below k cs)) (below_named l 0 ds (right_named a)) (members_below k l e a (or_parts (has_repeated (names cs)) (children_have_duplicate cs) d).1 (or_parts (has_repeated (names ds)) (children_have_duplicate ds) f).1))

  elements_below : (k l : List Step) → k ≡ l → (place : ℕ) {cs ds : Children} → ReorderedElements cs ds → children_have_duplicate cs ≡ false → children_have_duplicate ds ≡ false → Permuted ReorderedNodes (below_from k place cs) (below_from l place ds)
  elements_below k l e place no_element d f = refl
  elements_below k l e place (next_element {t = t} {u = u} {cs = cs} {ds = ds} h more) d f =
      let p = or_parts (has_duplicate t) (children_have_duplicate cs) d in
      let q = or_parts (has_duplicate u) (children_have_duplicate ds) f in
      permuted_append ReorderedNodes (subtree_at (k ++ step_to place None ∷ []) t) (subtree_at (l ++ step_to place None ∷ []) u) (below_from k (place + 1) cs) (below_from l (place + 1) ds)
      (at_reordered (k ++ step_to place None ∷ []) (l ++ step_to place None ∷ []) (ap (λ (i : List Step). i ++ step_to place None ∷ []) e) h p.0 q.0) (elements_below k l e (place + 1) more p.1 q.1)

  members_below : (k l : List Step) → k ≡ l → {cs ds : Children} → ReorderedMembers cs ds → children_have_duplicate cs ≡ false → children_have_duplicate ds ≡ false → Permuted ReorderedNodes (named_below k cs) (named_below l ds)
  members_below k l e no_member d f = refl
  members_below k l e (member_among a b {t = t} {u = u} {cs = cs} front rest same h more) d f =
      let p = or_parts (has_duplicate t) (children_have_duplicate cs) d in
      let q = taken_duplicate front rest (Some b) u f in
      subst (Permuted ReorderedNodes (named_below k (child (Some a) t cs))) (sym (below_joined l front (child (Some b) u rest)))
      (permuted_middle ReorderedNodes (subtree_at (k ++ name_step a.points ∷ []) t) (subtree_at (l ++ name_step b.points ∷ []) u) (named_below k cs) (named_below l front) (named_below l rest)
      (at_reordered (k ++ name_step a.points ∷ []) (l ++ name_step b.points ∷ []) (ap₂ (λ (i : List Step) (s : Step). i ++ s ∷ []) e (ap name_step same)) h p.0 q.0)
      (subst (Permuted ReorderedNodes (named_below k cs)) (below_joined l front rest) (members_below k l e more p.1 q.1)))

subtree_reordered : (n m : Node) → ReorderedNodes n m → Permuted ReorderedNodes (subtree n) (subtree m)
subtree_reordered n m a = at_reordered n.location m.location a.0 a.1 a.2 a.3

-- ---- what functions answer

module _ (order_total : IsTotalOrder order) where
  of_trees : {t u : Tree} → ReorderedTrees t u → has_duplicate t ≡ false → has_duplicate u ≡ false → Sides Reordered (Some (value_of t)) (Some (value_of u))
  of_trees (reordered_trees h) d f = (h, d, f)

  single_reordered : (ns ms : List Node) → Permuted ReorderedNodes ns ms → Sides Reordered (single_value ns) (single_value ms)
  single_reordered [] ms a = subst (λ (l : List Node). Sides Reordered None (single_value l)) (sym a) tt
  single_reordered (n ∷ []) ms a = subst (λ (l : List Node). Sides Reordered (Some (value_of n.tree)) (single_value l)) (sym a.4) (lone a.1 a.2 a.5)
    where
      lone : (front rest : List Node) → front ++ rest ≡ [] → Sides Reordered (Some (value_of n.tree)) (single_value (front ++ a.0 ∷ rest))
      lone [] [] e = of_trees a.3.1 a.3.2 a.3.3
      lone [] (m ∷ rest) e = absurd (cc)
      lone (m ∷ front) rest e = absurd (cc)
  single_reordered (n ∷ i ∷ ns) ms a = many ms (permuted_length ReorderedNodes (n ∷ i ∷ ns) ms a)
    where
      many : (ms : List Node) → length (n ∷ i ∷ ns) ≡ length ms → Sides Reordered None (single_value ms)
      many [] e = tt
      many (m ∷ []) e = absurd (omega arith)
      many (m ∷ j ∷ ms) e = tt

  literal_itself : (c : Literal) → Sides Reordered (Some (literal_value c)) (Some (literal_value c))
  literal_itself null_literal = (same_null, refl, refl)
  literal_itself false_literal = (same_boolean, refl, refl)
  literal_itself true_literal = (same_boolean, refl, refl)
  literal_itself (number_literal x) = (same_number, refl, refl)
  literal_itself (string_literal x) = (same_string, refl, refl)

  counts : (k l : ℕ) → k ≡ l → Sides Reordered (Some (counted k)) (Some (counted l))
  counts k l e = subst (λ n. Sides Reordered (Some (counted k)) (Some (counted n))) e (same_number, refl, refl)

  lengths_reordered : (x y : Option Value) → Sides Reordered x y → Sides Reordered (length_of x) (length_of y)
  lengths_reordered None None a = tt
  lengths_reordered (Some v) (Some w) a = by_value a.0
    where
      by_value : {v w : Value} → ReorderedValues v w → Sides Reordered (length_of (Some v)) (length_of (Some w))
      by_value same_null = tt
      by_value same_boolean = tt
      by_value same_number = tt
      by_value (same_string {x = x}) = counts (length x) (length x) refl
      by_value (same_array {cs = cs} {ds = ds} h) = counts (count_children cs) (count_children ds) (elements_count h)
      by_value (same_object {cs = cs} {ds = ds} h) = counts (count_children cs) (count_children ds) (members_count h)
  lengths_reordered None (Some w) a = absurd a
  lengths_reordered (Some v) None a = absurd a

  pattern_reordered : (passes : Pattern → List ℕ → Bool) (x y v w : Option Value) → Sides Reordered x y → Sides Reordered v w → in_pattern passes x v ≡ in_pattern passes y w
  pattern_reordered passes None None v w a b = refl
  pattern_reordered passes (Some x) (Some y) None None a b = none a.0
    where
      none : {x y : Value} → ReorderedValues x y → in_pattern passes (Some x) None ≡ in_pattern passes (Some y) None
      none same_string = refl
      none a = refl
  pattern_reordered passes (Some x) (Some y) (Some v) (Some w) a b = both a.0 b.0
    where
      both : {x y v w : Value} → ReorderedValues x y → ReorderedValues v w → in_pattern passes (Some x) (Some v) ≡ in_pattern passes (Some y) (Some w)
      both same_string same_string = refl
      both a b = refl
  pattern_reordered passes None (Some y) v w a b = absurd a
  pattern_reordered passes (Some x) None v w a b = absurd a
  pattern_reordered passes (Some x) (Some y) None (Some w) a b = absurd b
  pattern_reordered passes (Some x) (Some y) (Some v) None a b = absurd b

  agreement : (t u : Tree) → ReorderedTrees t u → has_duplicate t ≡ false → has_duplicate u ≡ false → Agreement t u ReorderedNodes (Permuted ReorderedNodes) (Sides Reordered)
  agreement t u h d f = record {
    roots = (refl, h, d, f);
    none = refl;
    alone = λ n m a. (m, [], [], a, refl, refl);
    joined = permuted_append ReorderedNodes;
    mapped = permuted_flat ReorderedNodes ReorderedNodes;
    kept = permuted_filter ReorderedNodes;
    as_many = permuted_length ReorderedNodes;
    all_children = children_reordered;
    some_children = where_reordered;
    slices = sliced_reordered;
    as_many_children = count_reordered;
    subtrees = subtree_reordered;
    nothing = tt;
    values = single_reordered;
    literals = literal_itself;
    counts = λ k. counts k k refl;
    lengths = lengths_reordered;
    patterns = pattern_reordered;
    comparisons = reordered_compared order_total;
  }

  pub permuted_locations : (t u : Tree) → ReorderedTrees t u → has_duplicate t ≡ false → has_duplicate u ≡ false → (q : Segments) → IsPermutation (map (λ (n : Node). n.location) (nodes q (root_node t ∷ []) t)) (map (λ (n : Node). n.location) (nodes q (root_node u ∷ []) u))
  permuted_locations t u h d f q =
      permutation_of ReorderedNodes (λ (n : Node). n.location) (λ n m a. a.0) (nodes q (root_node t ∷ []) t) (nodes q (root_node u ∷ []) u) (agreed t u ReorderedNodes (Permuted ReorderedNodes) (Sides Reordered) (agreement t u h d f) q)
