-- Queries over two trees agree where their selectors and functions do.
use Rattle.std.proofs.Common.{◌≡◌, ℕ, ℤ, pos, List, [], ◌∷◌, ◌++◌, length, flat_map, filter, Bool, true, false, not, ◌&&◌, ◌||◌, ◌==◌, Option, Some, None, codes, bytes_eq, refl, ap, ap₂, subst, if◌then◌else◌}
use Rattle.std.specs.Prelude.{unwrap_or}
use Rattle.jp_model.specs.Json.Tree.{Tree, Value}
use Rattle.jp_model.specs.Meaning.Compare.{compared}
use Rattle.jp_model.specs.Meaning.Functions.{single_value, ArgumentResult, counted, length_of, in_pattern, literal_value, value_function, logical_function}
use Rattle.jp_model.specs.Meaning.Nodes.{Node, root_node, child_count, children, children_where, subtree}
use Rattle.jp_model.specs.Meaning.Selecting.{nodes, segment_nodes, selected, select, truth, some_true, each_true, compared_value, path_nodes, call_value, call_truth, given, given_by}
use Rattle.jp_model.specs.Meaning.Slices.{is_name, is_index, normal, sliced}
use Rattle.jp_model.specs.Pattern.Membership.{is_in, occurs_in}
use Rattle.jp_model.specs.Pattern.Tree.{Pattern}
use Rattle.jp_model.specs.Query.Syntax.{root, current, CompareOp, Literal, Segment, child_segment, descendant_segment, Segments, no_segments, segment, Selector, name_selector, wildcard_selector, index_selector, slice_selector, filter_selector, Selectors, no_selectors, selector, Logical, or_all, and_all, negated, compare, exists, test, Logicals, no_logicals, logical, Comparable, constant, single, result, Argument, constant_argument, nodes_argument, condition, result_argument, Arguments, no_arguments, argument, Path, path, Call, call}
use Rattle.jp_model.specs.Steps.{Step, same_int}
use Rattle.jp_laws.proofs.Pairs.{Pairwise}

-- Nodes of one tree are near to nodes of another, lists of them too, and so are sides of comparisons, as far as selectors,
-- functions and comparisons can tell.
pub record Agreement (t u : Tree) (Near : Node → Node → Type 0) (Lists : List Node → List Node → Type 0) (Sides : Option Value → Option Value → Type 0) : Type 0 where
  pub roots : Near (root_node t) (root_node u)
  pub none : Lists [] []
  pub alone : (n m : Node) → Near n m → Lists (n ∷ []) (m ∷ [])
  pub joined : (ns ms vs ws : List Node) → Lists ns ms → Lists vs ws → Lists (ns ++ vs) (ms ++ ws)
  pub mapped : (f g : Node → List Node) → ((n m : Node) → Near n m → Lists (f n) (g m)) → (ns ms : List Node) → Lists ns ms → Lists (flat_map f ns) (flat_map g ms)
  pub kept : (p q : Node → Bool) → ((n m : Node) → Near n m → p n ≡ q m) → (ns ms : List Node) → Lists ns ms → Lists (filter p ns) (filter q ms)
  pub as_many : (ns ms : List Node) → Lists ns ms → length ns ≡ length ms
  pub all_children : (n m : Node) → Near n m → Lists (children n) (children m)
  pub some_children : (f g : Step → Bool) → ((s : Step) → f s ≡ g s) → (n m : Node) → Near n m → Lists (children_where f n) (children_where g m)
  pub slices : (first last : Option ℤ) (step : ℤ) (n m : Node) → Near n m → Lists (sliced first last step n) (sliced first last step m)
  pub as_many_children : (n m : Node) → Near n m → child_count n ≡ child_count m
  pub subtrees : (n m : Node) → Near n m → Lists (subtree n) (subtree m)
  pub nothing : Sides None None
  pub values : (ns ms : List Node) → Lists ns ms → Sides (single_value ns) (single_value ms)
  pub literals : (c : Literal) → Sides (Some (literal_value c)) (Some (literal_value c))
  pub counts : (k : ℕ) → Sides (Some (counted k)) (Some (counted k))
  pub lengths : (x y : Option Value) → Sides x y → Sides (length_of x) (length_of y)
  pub patterns : (passes : Pattern → List ℕ → Bool) (x y v w : Option Value) → Sides x y → Sides v w → in_pattern passes x v ≡ in_pattern passes y w
  pub comparisons : (op : CompareOp) (x y v w : Option Value) → Sides x y → Sides v w → compared op x v ≡ compared op y w

module _ (t u : Tree) (Near : Node → Node → Type 0) (Lists : List Node → List Node → Type 0) (Sides : Option Value → Option Value → Type 0) (agree : Agreement t u Near Lists Sides) where
  abbrev NearGiven : ArgumentResult → ArgumentResult → Type 0
  NearGiven a b = Sides a.value b.value × Lists a.nodes b.nodes

  values_by : (f : List ℕ) (gs hs : List ArgumentResult) → Pairwise NearGiven gs hs → Sides (value_function f gs) (value_function f hs)
  values_by f [] [] a = agree.nothing
  values_by f (g ∷ []) (h ∷ []) a = pick (bytes_eq f (codes "length")) (bytes_eq f (codes "count")) (bytes_eq f (codes "value"))
    where
      pick : (l c v : Bool) → Sides
          (if l then length_of g.value else if c then Some (counted (length g.nodes)) else if v then single_value g.nodes else None)
          (if l then length_of h.value else if c then Some (counted (length h.nodes)) else if v then single_value h.nodes else None)
      pick true c v = agree.lengths g.value h.value a.0.0
      pick false true v = subst (λ k. Sides (Some (counted (length g.nodes))) (Some (counted k))) (agree.as_many g.nodes h.nodes a.0.1) (agree.counts (length g.nodes))
      pick false false true = agree.values g.nodes h.nodes a.0.1
      pick false false false = agree.nothing
  values_by f (g ∷ i ∷ gs) (h ∷ j ∷ hs) a = agree.nothing
  values_by f [] (h ∷ hs) a = absurd a
  values_by f (g ∷ gs) [] a = absurd a
  values_by f (g ∷ []) (h ∷ j ∷ hs) a = absurd a.1
  values_by f (g ∷ i ∷ gs) (h ∷ []) a = absurd a.1

  truths_by : (f : List ℕ) (gs hs : List ArgumentResult) → Pairwise NearGiven gs hs → logical_function f gs ≡ logical_function f hs
  truths_by f [] [] a = refl
  truths_by f (g ∷ []) (h ∷ []) a = refl
  truths_by f (g ∷ i ∷ []) (h ∷ j ∷ []) a =
      ap₂ (λ (b c : Bool). if bytes_eq f (codes "match") then b else if bytes_eq f (codes "search") then c else false)
      (agree.patterns is_in g.value h.value i.value j.value a.0.0 a.1.0.0) (agree.patterns occurs_in g.value h.value i.value j.value a.0.0 a.1.0.0)
  truths_by f (g ∷ i ∷ k ∷ gs) (h ∷ j ∷ l ∷ hs) a = refl
  truths_by f [] (h ∷ hs) a = absurd a
  truths_by f (g ∷ gs) [] a = absurd a
  truths_by f (g ∷ []) (h ∷ j ∷ hs) a = absurd a.1
  truths_by f (g ∷ i ∷ gs) (h ∷ []) a = absurd a.1
  truths_by f (g ∷ i ∷ []) (h ∷ j ∷ l ∷ hs) a = absurd a.1.1
  truths_by f (g ∷ i ∷ k ∷ gs) (h ∷ j ∷ []) a = absurd a.1.1

  mutual
    pub nodes_agree : (q : Segments) (ns ms : List Node) → Lists ns ms → Lists (nodes q ns t) (nodes q ms u)
    nodes_agree no_segments ns ms a = a
    nodes_agree (segment s ss) ns ms a =
        nodes_agree ss (flat_map (λ n. segment_nodes s n t) ns) (flat_map (λ n. segment_nodes s n u) ms) (agree.mapped (λ n. segment_nodes s n t) (λ n. segment_nodes s n u) (segment_agrees s) ns ms a)

    segment_agrees : (s : Segment) (n m : Node) → Near n m → Lists (segment_nodes s n t) (segment_nodes s m u)
    segment_agrees (child_segment ss) n m a = selected_agree ss n m a
    segment_agrees (descendant_segment ss) n m a = agree.mapped (λ d. selected ss d t) (λ d. selected ss d u) (selected_agree ss) (subtree n) (subtree m) (agree.subtrees n m a)

    selected_agree : (ss : Selectors) (n m : Node) → Near n m → Lists (selected ss n t) (selected ss m u)
    selected_agree no_selectors n m a = agree.none
    selected_agree (selector s ss) n m a = agree.joined (select s n t) (select s m u) (selected ss n t) (selected ss m u) (select_agrees s n m a) (selected_agree ss n m a)

    select_agrees : (s : Selector) (n m : Node) → Near n m → Lists (select s n t) (select s m u)
    select_agrees (name_selector x) n m a = agree.some_children (is_name x) (is_name x) (λ s. refl) n m a
    select_agrees wildcard_selector n m a = agree.all_children n m a
    select_agrees (index_selector i) n m a = agree.some_children _ _ (λ s. ap (λ c. is_index (same_int (normal c i)) s) (agree.as_many_children n m a)) n m a
    select_agrees (slice_selector first last step) n m a = agree.slices first last (unwrap_or step (pos 1)) n m a
    select_agrees (filter_selector l) n m a = agree.kept (λ c. truth l c t) (λ c. truth l c u) (truth_agrees l) (children n) (children m) (agree.all_children n m a)

    truth_agrees : (l : Logical) (n m : Node) → Near n m → truth l n t ≡ truth l m u
    truth_agrees (or_all ls) n m a = some_agree ls n m a
    truth_agrees (and_all ls) n m a = each_agree ls n m a
    truth_agrees (negated l) n m a = ap not (truth_agrees l n m a)
    truth_agrees (compare x op y) n m a = agree.comparisons op _ _ _ _ (side_agrees x n m a) (side_agrees y n m a)
    truth_agrees (exists p) n m a = ap (λ k. not (k == 0)) (agree.as_many (path_nodes p n t) (path_nodes p m u) (path_agrees p n m a))
    truth_agrees (test c) n m a = call_truth_agrees c n m a

    some_agree : (ls : Logicals) (n m : Node) → Near n m → some_true ls n t ≡ some_true ls m u
    some_agree no_logicals n m a = refl
    some_agree (logical l ls) n m a = ap₂ (λ (b c : Bool). b || c) (truth_agrees l n m a) (some_agree ls n m a)

    each_agree : (ls : Logicals) (n m : Node) → Near n m → each_true ls n t ≡ each_true ls m u
    each_agree no_logicals n m a = refl
    each_agree (logical l ls) n m a = ap₂ (λ (b c : Bool). b && c) (truth_agrees l n m a) (each_agree ls n m a)

    side_agrees : (c : Comparable) (n m : Node) → Near n m → Sides (compared_value c n t) (compared_value c m u)
    side_agrees (constant c) n m a = agree.literals c
    side_agrees (single p) n m a = agree.values (path_nodes p n t) (path_nodes p m u) (path_agrees p n m a)
    side_agrees (result c) n m a = call_value_agrees c n m a

    path_agrees : (p : Path) (n m : Node) → Near n m → Lists (path_nodes p n t) (path_nodes p m u)
    path_agrees (path root ss) n m a = nodes_agree ss (root_node t ∷ []) (root_node u ∷ []) (agree.alone (root_node t) (root_node u) agree.roots)
    path_agrees (path current ss) n m a = nodes_agree ss (n ∷ []) (m ∷ []) (agree.alone n m a)

    call_value_agrees : (c : Call) (n m : Node) → Near n m → Sides (call_value c n t) (call_value c m u)
    call_value_agrees (call f args) n m a = values_by f (given args n t) (given args m u) (given_agree args n m a)

    call_truth_agrees : (c : Call) (n m : Node) → Near n m → call_truth c n t ≡ call_truth c m u
    call_truth_agrees (call f args) n m a = truths_by f (given args n t) (given args m u) (given_agree args n m a)

    given_agree : (args : Arguments) (n m : Node) → Near n m → Pairwise NearGiven (given args n t) (given args m u)
    given_agree no_arguments n m a = tt
    given_agree (argument x args) n m a = (argument_agrees x n m a, given_agree args n m a)

    argument_agrees : (x : Argument) (n m : Node) → Near n m → NearGiven (given_by x n t) (given_by x m u)
    argument_agrees (constant_argument c) n m a = (agree.literals c, agree.none)
    argument_agrees (nodes_argument p) n m a = let b = path_agrees p n m a in (agree.values (path_nodes p n t) (path_nodes p m u) b, b)
    argument_agrees (condition l) n m a = (agree.nothing, agree.none)
    argument_agrees (result_argument c) n m a = (call_value_agrees c n m a, agree.none)

  pub agreed : (q : Segments) → Lists (nodes q (root_node t ∷ []) t) (nodes q (root_node u ∷ []) u)
  agreed q = nodes_agree q (root_node t ∷ []) (root_node u ∷ []) (agree.alone (root_node t) (root_node u) agree.roots)
