-- What holds of a node and of each child of one of which it holds, holds of each node that a query selects.
use Rattle.std.proofs.Common.{unwrap_or, ℕ, ◌+◌, ℤ, pos, List, [], ◌∷◌, ◌++◌, map, flat_map, filter, reverse, Bool, true, false, cond, Option, All, int_lt, if◌then◌else◌, zero, suc, sym, subst, arith}
use Rattle.std.proofs.lemmas.List.{reverse-append}
use Rattle.jp_model.specs.Json.Tree.{Tree, node, Value, null, boolean, number, string, container, Children, no_child, child, value_of}
use Rattle.jp_model.specs.Meaning.Nodes.{Node, child_of, child_count, children, children_where, step_to, steps_from, steps_in, subtree_at, below, below_from, subtree}
use Rattle.jp_model.specs.Meaning.Slices.{is_name, is_index, sliced, normal, upward, downward}
use Rattle.jp_model.specs.Meaning.Selecting.{nodes, segment_nodes, selected, select, truth}
use Rattle.jp_model.specs.Query.Syntax.{Segment, child_segment, descendant_segment, Segments, no_segments, segment, Selector, name_selector, wildcard_selector, index_selector, slice_selector, filter_selector, Selectors, no_selectors, selector}
use Rattle.jp_model.specs.Steps.{Step, same_int}

-- what holds of each element
abbrev pub Each : {X : Type 0} → (X → Type 0) → List X → Type 0
Each P [] = Unit {0}
Each P (x ∷ xs) = P x × Each P xs

pub each_append : {X : Type 0} (P : X → Type 0) (xs ys : List X) → Each P xs → Each P ys → Each P (xs ++ ys)
each_append P [] ys h g = g
each_append P (x ∷ xs) ys h g = (h.0, each_append P xs ys h.1 g)

pub each_weaker : {X : Type 0} (P Q : X → Type 0) → ((x : X) → P x → Q x) → (xs : List X) → Each P xs → Each Q xs
each_weaker P Q f [] a = tt
each_weaker P Q f (x ∷ xs) a = (f x a.0, each_weaker P Q f xs a.1)

pub each_flat : {X Y : Type 0} (P : X → Type 0) (Q : Y → Type 0) (f : X → List Y) → ((x : X) → P x → Each Q (f x)) → (xs : List X) → Each P xs → Each Q (flat_map f xs)
each_flat P Q f h [] a = tt
each_flat P Q f h (x ∷ xs) a = each_append Q (f x) (flat_map f xs) (h x a.0) (each_flat P Q f h xs a.1)

pub each_map : {X Y : Type 0} (P : X → Type 0) (Q : Y → Type 0) (f : X → Y) → ((x : X) → P x → Q (f x)) → (xs : List X) → Each P xs → Each Q (map f xs)
each_map P Q f h [] a = tt
each_map P Q f h (x ∷ xs) a = (h x a.0, each_map P Q f h xs a.1)

pub each_filter : {X : Type 0} (P : X → Type 0) (p : X → Bool) (xs : List X) → Each P xs → Each P (filter p xs)
each_filter P p [] a = tt
each_filter P p (x ∷ xs) a = step (p x) (each_filter P p xs a.1)
  where
    step : (b : Bool) → Each P (filter p xs) → Each P (cond b (x ∷ filter p xs) (filter p xs))
    step true g = (a.0, g)
    step false g = g

each_reverse : {X : Type 0} (P : X → Type 0) (xs : List X) → Each P xs → Each P (reverse xs)
each_reverse P [] a = tt
each_reverse P (x ∷ xs) a = subst (Each P) (sym (reverse-append (x ∷ []) xs)) (each_append P (reverse xs) (x ∷ []) (each_reverse P xs a.1) (a.0, tt))

-- ---- a fact that goes from a node to its children

module _ (P : Node → Type 0) (goes : (n : Node) → P n → Each P (children n)) where
  each_kept : (n : Node) (p : Step × Tree → Bool) (ps : List (Step × Tree)) → Each P (map (child_of n) ps) → Each P (map (child_of n) (filter p ps))
  each_kept n p [] a = tt
  each_kept n p (q ∷ qs) a = step (p q) (each_kept n p qs a.1)
    where
      step : (b : Bool) → Each P (map (child_of n) (filter p qs)) → Each P (map (child_of n) (cond b (q ∷ filter p qs) (filter p qs)))
      step true g = (a.0, g)
      step false g = g

  where_reached : (passes : Step → Bool) (n : Node) → P n → Each P (children_where passes n)
  where_reached passes n h = each_kept n (λ p. passes p.0) (steps_in (value_of n.tree)) (goes n h)

  mutual
    at_reached : (l : List Step) (t : Tree) → P (record { location = l; tree = t }) → Each P (subtree_at l t)
    at_reached l (node s v) h = (h, below_reached (record { location = l; tree = node s v }) v (goes (record { location = l; tree = node s v }) h))

    below_reached : (n : Node) (v : Value) → Each P (map (child_of n) (steps_in v)) → Each P (below n.location v)
    below_reached n null a = tt
    below_reached n (boolean b) a = tt
    below_reached n (number m e) a = tt
    below_reached n (string x) a = tt
    below_reached n (container kind cs) a = from_reached n 0 cs a

    from_reached : (n : Node) (index : ℕ) (cs : Children) → Each P (map (child_of n) (steps_from index cs)) → Each P (below_from n.location index cs)
    from_reached n index no_child a = tt
    from_reached n index (child name t more) a =
        each_append P (subtree_at (n.location ++ step_to index name ∷ []) t) (below_from n.location (index + 1) more) (at_reached (n.location ++ step_to index name ∷ []) t a.0) (from_reached n (index + 1) more a.1)

  pub subtree_reached : (n : Node) → P n → Each P (subtree n)
  subtree_reached n h = at_reached n.location n.tree h

  sliced_reached : (first last : Option ℤ) (step : ℤ) (n : Node) → P n → Each P (sliced first last step n)
  sliced_reached first last step n h = pick (int_lt (pos 0) step) (int_lt step (pos 0))
    where
      up : List Node
      up = children_where (is_index (upward (child_count n) first last step)) n

      down : List Node
      down = children_where (is_index (downward (child_count n) first last step)) n

      pick : (a b : Bool) → Each P (if a then up else if b then reverse down else [])
      pick true b = where_reached (is_index (upward (child_count n) first last step)) n h
      pick false true = each_reverse P down (where_reached (is_index (downward (child_count n) first last step)) n h)
      pick false false = tt

  select_reached : (s : Selector) (n : Node) (t : Tree) → P n → Each P (select s n t)
  select_reached (name_selector x) n t h = where_reached (is_name x) n h
  select_reached wildcard_selector n t h = goes n h
  select_reached (index_selector i) n t h = where_reached (is_index (same_int (normal (child_count n) i))) n h
  select_reached (slice_selector first last step) n t h = sliced_reached first last (unwrap_or step (pos 1)) n h
  select_reached (filter_selector l) n t h = each_filter P (λ c. truth l c t) (children n) (goes n h)

  selected_reached : (ss : Selectors) (n : Node) (t : Tree) → P n → Each P (selected ss n t)
  selected_reached no_selectors n t h = tt
  selected_reached (selector s ss) n t h = each_append P (select s n t) (selected ss n t) (select_reached s n t h) (selected_reached ss n t h)

  segment_reached : (s : Segment) (n : Node) (t : Tree) → P n → Each P (segment_nodes s n t)
  segment_reached (child_segment ss) n t h = selected_reached ss n t h
  segment_reached (descendant_segment ss) n t h = each_flat P P (λ d. selected ss d t) (λ d k. selected_reached ss d t k) (subtree n) (subtree_reached n h)

  pub nodes_reached : (q : Segments) (list : List Node) (t : Tree) → Each P list → Each P (nodes q list t)
  nodes_reached no_segments list t h = h
  nodes_reached (segment s ss) list t h = nodes_reached ss (flat_map (λ n. segment_nodes s n t) list) t (each_flat P P (λ n. segment_nodes s n t) (λ n k. segment_reached s n t k) list h)

-- ---- each element, by recursion and by its index

pub all_each : {X : Type 0} (P : X → Type 0) (xs : List X) → All P xs → Each P xs
all_each P [] h = tt
all_each P (x ∷ xs) h = (h 0 x (omega arith), all_each P xs (λ k d l. h (suc k) d (omega arith)))

pub each_all : {X : Type 0} (P : X → Type 0) (xs : List X) → Each P xs → All P xs
each_all P [] h k d l = absurd (omega arith)
each_all P (x ∷ xs) h zero d l = h.0
each_all P (x ∷ xs) h (suc k) d l = each_all P xs h.1 k d (omega arith)
