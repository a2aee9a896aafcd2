-- A node and its descendants stand once each in its subtree.
use Rattle.std.proofs.Common.{◌≡◌, ◌≢◌, ◌↔◌, ℕ, ◌+◌, ◌<◌, ◌⊎◌, inl, inr, ⊎_elim, pos, List, [], ◌∷◌, ◌++◌, length, map, flat_map, false, bytes_eq, Option, Some, None, refl, sym, ap, subst, ◌∙◌, arith, append-nil, append_assoc, length-append}
use Rattle.std.specs.List.{list_any}
use Rattle.std.proofs.lemmas.Bool.{or_parts, both_ways}
use Rattle.std.proofs.lemmas.List.{append_cancel_left, same_from_push}
use Rattle.std.proofs.lemmas.Slice.Eq.{bytes_eq-Decides}
use Rattle.jp_model.specs.Json.Faults.{names, has_repeated, has_duplicate, value_has_duplicate, children_have_duplicate}
use Rattle.jp_model.specs.Json.Tree.{Tree, node, Value, null, boolean, number, string, container, Children, no_child, child, Name, value_of}
use Rattle.jp_model.specs.Meaning.Nodes.{Node, root_node, child_of, children, step_to, steps_from, steps_in, subtree_at, below, below_from, subtree}
use Rattle.jp_model.specs.Meaning.Selecting.{nodes}
use Rattle.jp_model.specs.Query.Syntax.{Segments}
use Rattle.jp_model.specs.Steps.{Step, name_step, index_step}
use Rattle.jp_laws.specs.Nodes.{IsAmong, first_of, later_of, IsWithin, itself, child_of_one, IsElsewhere, AreApart, all_descendants}
use Rattle.jp_laws.proofs.Defaults.{flat_map_same}
use Rattle.jp_laws.proofs.Distinct.{IsDistinct, subtree_distinct}
use Rattle.jp_laws.proofs.Reached.{Each, each_append, each_weaker, nodes_reached}

-- ---- locations that are apart

elsewhere_by : (P : Node → Type 0) (l : List Step) → ((n : Node) → P n → l ≢ n.location) → (ns : List Node) → Each P ns → IsElsewhere l ns
elsewhere_by P l h [] a = tt
elsewhere_by P l h (n ∷ ns) a = (h n a.0, elsewhere_by P l h ns a.1)

elsewhere_append : (l : List Step) (xs ys : List Node) → IsElsewhere l xs → IsElsewhere l ys → IsElsewhere l (xs ++ ys)
elsewhere_append l [] ys h g = g
elsewhere_append l (x ∷ xs) ys h g = (h.0, elsewhere_append l xs ys h.1 g)

apart_append : (P Q : Node → Type 0) → ((x y : Node) → P x → Q y → x.location ≢ y.location) → (xs ys : List Node) → Each P xs → Each Q ys → AreApart xs → AreApart ys → AreApart (xs ++ ys)
apart_append P Q h [] ys a b f g = g
apart_append P Q h (x ∷ xs) ys a b f g = (elsewhere_append x.location xs ys f.0 (elsewhere_by Q x.location (λ y k. h x y a.0 k) ys b), apart_append P Q h xs ys a.1 b f.1 g)

-- a node stands at a location or below it; after a step; or not after that step
abbrev From : List Step → Node → Type 0
From l n = (r : List Step) × (n.location ≡ l ++ r)

abbrev Behind : List Step → Node → Type 0
Behind l n = (s : Step) × (r : List Step) × (n.location ≡ l ++ s ∷ r)

abbrev NotBy : List Step → Step → Node → Type 0
NotBy l s n = (r : List Step) → n.location ≡ l ++ s ∷ r → ⊥

by_step : (l : List Step) (s : Step) (n : Node) → From (l ++ s ∷ []) n → (r : List Step) × (n.location ≡ l ++ s ∷ r)
by_step l s n h = (h.0, h.1 ∙ append_assoc l (s ∷ []) h.0)

mutual
  at_from : (l : List Step) (t : Tree) → Each (From l) (subtree_at l t)
  at_from l (node s v) = (([], sym (append-nil l)), value_from l v)

  value_from : (l : List Step) (v : Value) → Each (From l) (below l v)
  value_from l null = tt
  value_from l (boolean b) = tt
  value_from l (number m e) = tt
  value_from l (string x) = tt
  value_from l (container kind cs) = children_from l 0 cs

  children_from : (l : List Step) (p : ℕ) (cs : Children) → Each (From l) (below_from l p cs)
  children_from l p no_child = tt
  children_from l p (child name t more) =
      each_append (From l) (subtree_at (l ++ step_to p name ∷ []) t) (below_from l (p + 1) more)
      (each_weaker (From (l ++ step_to p name ∷ [])) (From l) (λ n h. let b = by_step l (step_to p name) n h in (step_to p name ∷ b.0, b.1)) (subtree_at (l ++ step_to p name ∷ []) t) (at_from (l ++ step_to p name ∷ []) t))
      (children_from l (p + 1) more)

behind_from : (l : List Step) (p : ℕ) (cs : Children) → Each (Behind l) (below_from l p cs)
behind_from l p no_child = tt
behind_from l p (child name t more) =
    each_append (Behind l) (subtree_at (l ++ step_to p name ∷ []) t) (below_from l (p + 1) more)
    (each_weaker (From (l ++ step_to p name ∷ [])) (Behind l) (λ n h. let b = by_step l (step_to p name) n h in (step_to p name, b.0, b.1)) (subtree_at (l ++ step_to p name ∷ []) t) (at_from (l ++ step_to p name ∷ []) t))
    (behind_from l (p + 1) more)

behind_value : (l : List Step) (v : Value) → Each (Behind l) (below l v)
behind_value l null = tt
behind_value l (boolean b) = tt
behind_value l (number m e) = tt
behind_value l (string x) = tt
behind_value l (container kind cs) = behind_from l 0 cs

longer : (l : List Step) (s : Step) (r : List Step) → l ≡ l ++ s ∷ r → ⊥
longer l s r e = let k = ap length e ∙ length-append l (s ∷ r) in omega arith

above_behind : (l : List Step) (n : Node) → Behind l n → l ≢ n.location
above_behind l n h e = longer l h.0 h.1 (e ∙ h.2)

-- a step is none of those to some children
abbrev pub IsOther : Step → ℕ → Children → Type 0
IsOther s p no_child = Unit {0}
IsOther s p (child name t more) = (s ≢ step_to p name) × IsOther s (p + 1) more

same_head : (s r : Step) (x y : List Step) → s ∷ x ≡ r ∷ y → s ≡ r
same_head s r x y e = cc

not_by : (l : List Step) (s r : Step) → s ≢ r → (n : Node) → From (l ++ r ∷ []) n → NotBy l s n
not_by l s r h n f q e = let b = by_step l r n f in h (same_head s r q b.0 (append_cancel_left l (s ∷ q) (r ∷ b.0) (sym e ∙ b.1)))

others_not_by : (l : List Step) (s : Step) (p : ℕ) (cs : Children) → IsOther s p cs → Each (NotBy l s) (below_from l p cs)
others_not_by l s p no_child h = tt
others_not_by l s p (child name t more) h =
    each_append (NotBy l s) (subtree_at (l ++ step_to p name ∷ []) t) (below_from l (p + 1) more)
    (each_weaker (From (l ++ step_to p name ∷ [])) (NotBy l s) (not_by l s (step_to p name) h.0) (subtree_at (l ++ step_to p name ∷ []) t) (at_from (l ++ step_to p name ∷ []) t))
    (others_not_by l s (p + 1) more h.1)

index_number : (a b : ℕ) → index_step (pos a) ≡ index_step (pos b) → a ≡ b
index_number a b e = cc

later_indexes : (k p : ℕ) (cs : Children) → k < p → IsOther (index_step (pos k)) p cs
later_indexes k p no_child h = tt
later_indexes k p (child None t more) h = ((λ e. let f = index_number k p e in absurd (omega arith)), later_indexes k (p + 1) more (omega arith))
later_indexes k p (child (Some name) t more) h = ((λ e. absurd (cc)), later_indexes k (p + 1) more (omega arith))

name_scalars : (x y : List ℕ) → name_step x ≡ name_step y → x ≡ y
name_scalars x y e = cc

other_names : (x : List ℕ) (p : ℕ) (cs : Children) → list_any (bytes_eq x) (names cs) ≡ false → IsOther (name_step x) p cs
other_names x p no_child h = tt
other_names x p (child None t more) h = ((λ e. absurd (cc)), other_names x (p + 1) more h)
other_names x p (child (Some name) t more) h =
    let q = or_parts (bytes_eq x name.points) (list_any (bytes_eq x) (names more)) h in
    ((λ e. both_ways _ q.0 ((bytes_eq-Decides x name.points).1 (name_scalars x name.points e))), other_names x (p + 1) more q.1)

pub first_is_other : (p : ℕ) (name : Option Name) (t : Tree) (more : Children) → has_repeated (names (child name t more)) ≡ false → IsOther (step_to p name) (p + 1) more × (has_repeated (names more) ≡ false)
first_is_other p None t more h = (later_indexes p (p + 1) more (omega arith), h)
first_is_other p (Some name) t more h = let q = or_parts (list_any (bytes_eq name.points) (names more)) (has_repeated (names more)) h in (other_names name.points (p + 1) more q.0, q.1)

crossed : (l : List Step) (s : Step) (x y : Node) → From (l ++ s ∷ []) x → NotBy l s y → x.location ≢ y.location
crossed l s x y f h e = let b = by_step l s x f in h b.0 (sym e ∙ b.1)

mutual
  apart_at : (l : List Step) (t : Tree) → has_duplicate t ≡ false → AreApart (subtree_at l t)
  apart_at l (node s v) h = (elsewhere_by (Behind l) l (above_behind l) (below l v) (behind_value l v), apart_below l v h)

  apart_below : (l : List Step) (v : Value) → value_has_duplicate v ≡ false → AreApart (below l v)
  apart_below l null h = tt
  apart_below l (boolean b) h = tt
  apart_below l (number m e) h = tt
  apart_below l (string x) h = tt
  apart_below l (container kind cs) h = let p = or_parts (has_repeated (names cs)) (children_have_duplicate cs) h in apart_from l 0 cs p.0 p.1

  apart_from : (l : List Step) (p : ℕ) (cs : Children) → has_repeated (names cs) ≡ false → children_have_duplicate cs ≡ false → AreApart (below_from l p cs)
  apart_from l p no_child r d = tt
  apart_from l p (child name t more) r d =
      let q = or_parts (has_duplicate t) (children_have_duplicate more) d in
      let o = first_is_other p name t more r in
      apart_append (From (l ++ step_to p name ∷ [])) (NotBy l (step_to p name)) (crossed l (step_to p name)) (subtree_at (l ++ step_to p name ∷ []) t) (below_from l (p + 1) more)
      (at_from (l ++ step_to p name ∷ []) t) (others_not_by l (step_to p name) (p + 1) more o.0) (apart_at (l ++ step_to p name ∷ []) t q.0) (apart_from l (p + 1) more o.1 q.1)

pub subtree_apart : (n : Node) → has_duplicate n.tree ≡ false → AreApart (subtree n)
subtree_apart n h = apart_at n.location n.tree h

-- ---- a node is in a subtree just where it is the node or below it

among_left : {n : Node} (xs ys : List Node) → IsAmong n xs → IsAmong n (xs ++ ys)
among_left [] ys h = elim h [ ]
among_left (x ∷ xs) ys first_of = first_of
among_left (x ∷ xs) ys (later_of h) = later_of (among_left xs ys h)

among_right : {n : Node} (xs ys : List Node) → IsAmong n ys → IsAmong n (xs ++ ys)
among_right [] ys h = h
among_right (x ∷ xs) ys h = later_of (among_right xs ys h)

among_cases : {n : Node} (xs ys : List Node) → IsAmong n (xs ++ ys) → IsAmong n xs ⊎ IsAmong n ys
among_cases [] ys h = inr h
among_cases (x ∷ xs) ys first_of = inl first_of
among_cases (x ∷ xs) ys (later_of h) = ⊎_elim (λ k. inl (later_of k)) (λ k. inr k) (among_cases xs ys h)

pub each_among : (P : Node → Type 0) (m : Node) (ns : List Node) → Each P ns → IsAmong m ns → P m
each_among P m [] a h = elim h [ ]
each_among P m (n ∷ ns) a first_of = a.0
each_among P m (n ∷ ns) a (later_of h) = each_among P m ns a.1 h

abbrev kids : Node → ℕ → Children → List Node
kids n p cs = map (child_of n) (steps_from p cs)

head_among : (l : List Step) (t : Tree) → IsAmong (record { location = l; tree = t }) (subtree_at l t)
head_among l (node s v) = first_of

kids_below : (n : Node) (p : ℕ) (cs : Children) (c : Node) → IsAmong c (kids n p cs) → IsAmong c (below_from n.location p cs)
kids_below n p no_child c h = elim h [ ]
kids_below n p (child name t more) c first_of = among_left (subtree_at (n.location ++ step_to p name ∷ []) t) (below_from n.location (p + 1) more) (head_among (n.location ++ step_to p name ∷ []) t)
kids_below n p (child name t more) c (later_of h) = among_right (subtree_at (n.location ++ step_to p name ∷ []) t) (below_from n.location (p + 1) more) (kids_below n (p + 1) more c h)

steps_below : (n : Node) (v : Value) (c : Node) → IsAmong c (map (child_of n) (steps_in v)) → IsAmong c (below n.location v)
steps_below n null c h = elim h [ ]
steps_below n (boolean b) c h = elim h [ ]
steps_below n (number m e) c h = elim h [ ]
steps_below n (string x) c h = elim h [ ]
steps_below n (container kind cs) c h = kids_below n 0 cs c h

mutual
  at_closed : (l : List Step) (t : Tree) (m c : Node) → IsAmong m (subtree_at l t) → IsAmong c (children m) → IsAmong c (subtree_at l t)
  at_closed l (node s v) m c first_of k = later_of (steps_below (record { location = l; tree = node s v }) v c k)
  at_closed l (node s v) m c (later_of h) k = later_of (below_closed l v m c h k)

  below_closed : (l : List Step) (v : Value) (m c : Node) → IsAmong m (below l v) → IsAmong c (children m) → IsAmong c (below l v)
  below_closed l null m c h k = elim h [ ]
  below_closed l (boolean b) m c h k = elim h [ ]
  below_closed l (number i e) m c h k = elim h [ ]
  below_closed l (string x) m c h k = elim h [ ]
  below_closed l (container kind cs) m c h k = from_closed l 0 cs m c h k

  from_closed : (l : List Step) (p : ℕ) (cs : Children) (m c : Node) → IsAmong m (below_from l p cs) → IsAmong c (children m) → IsAmong c (below_from l p cs)
  from_closed l p no_child m c h k = elim h [ ]
  from_closed l p (child name t more) m c h k = ⊎_elim
      (λ i. among_left (subtree_at (l ++ step_to p name ∷ []) t) (below_from l (p + 1) more) (at_closed (l ++ step_to p name ∷ []) t m c i k))
      (λ i. among_right (subtree_at (l ++ step_to p name ∷ []) t) (below_from l (p + 1) more) (from_closed l (p + 1) more m c i k))
      (among_cases (subtree_at (l ++ step_to p name ∷ []) t) (below_from l (p + 1) more) h)

pub within_among : (n m : Node) → IsWithin n m → IsAmong m (subtree n)
within_among n m itself = head_among n.location n.tree
within_among n m (child_of_one w a) = at_closed n.location n.tree _ m (within_among n _ w) a

prepend : (n c m : Node) → IsAmong c (children n) → IsWithin c m → IsWithin n m
prepend n c m a itself = child_of_one itself a
prepend n c m a (child_of_one w b) = child_of_one (prepend n c _ a w) b

mutual
  at_within : (l : List Step) (t : Tree) (m : Node) → IsAmong m (subtree_at l t) → IsWithin (record { location = l; tree = t }) m
  at_within l (node s v) m first_of = itself
  at_within l (node s v) m (later_of h) = let r = value_within (record { location = l; tree = node s v }) v m h in prepend (record { location = l; tree = node s v }) r.0 m r.1 r.2

  value_within : (n : Node) (v : Value) (m : Node) → IsAmong m (below n.location v) → (c : Node) × IsAmong c (map (child_of n) (steps_in v)) × IsWithin c m
  value_within n null m h = elim h [ ]
  value_within n (boolean b) m h = elim h [ ]
  value_within n (number i e) m h = elim h [ ]
  value_within n (string x) m h = elim h [ ]
  value_within n (container kind cs) m h = from_within n 0 cs m h

  from_within : (n : Node) (p : ℕ) (cs : Children) (m : Node) → IsAmong m (below_from n.location p cs) → (c : Node) × IsAmong c (kids n p cs) × IsWithin c m
  from_within n p no_child m h = elim h [ ]
  from_within n p (child name t more) m h = pick (among_cases (subtree_at (n.location ++ step_to p name ∷ []) t) (below_from n.location (p + 1) more) h) (at_within (n.location ++ step_to p name ∷ []) t m) (from_within n (p + 1) more m)
    where
      pick : IsAmong m (subtree_at (n.location ++ step_to p name ∷ []) t) ⊎ IsAmong m (below_from n.location (p + 1) more)
          → (IsAmong m (subtree_at (n.location ++ step_to p name ∷ []) t) → IsWithin (record { location = n.location ++ step_to p name ∷ []; tree = t }) m)
          → (IsAmong m (below_from n.location (p + 1) more) → (c : Node) × IsAmong c (kids n (p + 1) more) × IsWithin c m)
          → (c : Node) × IsAmong c (kids n p (child name t more)) × IsWithin c m
      pick (inl i) first rest = (record { location = n.location ++ step_to p name ∷ []; tree = t }, first_of, first i)
      pick (inr i) first rest = let r = rest i in (r.0, later_of r.1, r.2)

pub subtree_is_within : (n m : Node) → IsAmong m (subtree n) ↔ IsWithin n m
subtree_is_within n m = (at_within n.location n.tree m, within_among n m)

-- ---- `$..*`

each_child : (n : Node) (ps : List (Step × Tree)) → Each (λ c. (s : Step) × (c.location ≡ n.location ++ s ∷ [])) (map (child_of n) ps)
each_child n [] = tt
each_child n (p ∷ ps) = ((p.0, refl), each_child n ps)

abbrev NoChild : List Step → Node → Type 0
NoChild l c = (s : Step) → c.location ≡ l ++ s ∷ [] → ⊥

abbrev IsChild : List Step → Node → Type 0
IsChild l c = (s : Step) × (c.location ≡ l ++ s ∷ [])

others_children : (l : List Step) (ns : List Node) → IsElsewhere l ns → Each (NoChild l) (flat_map children ns)
others_children l [] h = tt
others_children l (n ∷ ns) h =
    each_append (NoChild l) (children n) (flat_map children ns)
    (each_weaker (IsChild n.location) (NoChild l) (λ c k s e. h.0 (sym (same_from_push n.location l k.0 s (sym k.1 ∙ e)).0)) (children n) (each_child n (steps_in (value_of n.tree))))
    (others_children l ns h.1)

others_elsewhere : (n : Node) (s : Step) (p : ℕ) (cs : Children) → IsOther s p cs → IsElsewhere (n.location ++ s ∷ []) (kids n p cs)
others_elsewhere n s p no_child h = tt
others_elsewhere n s p (child name t more) h = ((λ e. h.0 (same_from_push n.location n.location s (step_to p name) e).1), others_elsewhere n s (p + 1) more h.1)

kids_apart : (n : Node) (p : ℕ) (cs : Children) → has_repeated (names cs) ≡ false → AreApart (kids n p cs)
kids_apart n p no_child h = tt
kids_apart n p (child name t more) h = let o = first_is_other p name t more h in (others_elsewhere n (step_to p name) (p + 1) more o.0, kids_apart n (p + 1) more o.1)

steps_apart : (n : Node) (v : Value) → value_has_duplicate v ≡ false → AreApart (map (child_of n) (steps_in v))
steps_apart n null h = tt
steps_apart n (boolean b) h = tt
steps_apart n (number m e) h = tt
steps_apart n (string x) h = tt
steps_apart n (container kind cs) h = kids_apart n 0 cs (or_parts (has_repeated (names cs)) (children_have_duplicate cs) h).0

tree_apart : (n : Node) (t : Tree) → has_duplicate t ≡ false → AreApart (map (child_of n) (steps_in (value_of t)))
tree_apart n (node s v) h = steps_apart n v h

flat_apart : (ns : List Node) → Each IsDistinct ns → AreApart ns → AreApart (flat_map children ns)
flat_apart [] d a = tt
flat_apart (n ∷ ns) d a =
    apart_append (IsChild n.location) (NoChild n.location) (λ x y k h e. h k.0 (sym e ∙ k.1)) (children n) (flat_map children ns)
    (each_child n (steps_in (value_of n.tree))) (others_children n.location ns a.0) (tree_apart n n.tree d.0) (flat_apart ns d.1 a.1)

selects_children : (t : Tree) → nodes all_descendants (root_node t ∷ []) t ≡ flat_map children (subtree (root_node t))
selects_children t = append-nil (flat_map (λ d. children d ++ []) (subtree (root_node t))) ∙ flat_map_same (λ d. children d ++ []) children (λ d. append-nil (children d)) (subtree (root_node t))

pub all_apart : (t : Tree) → has_duplicate t ≡ false → AreApart (nodes all_descendants (root_node t ∷ []) t)
all_apart t h = subst AreApart (sym (selects_children t)) (flat_apart (subtree (root_node t)) (subtree_distinct (root_node t) h) (subtree_apart (root_node t) h))

of_children : (m : Node) (ns : List Node) → IsAmong m (flat_map children ns) → (d : Node) × IsAmong d ns × IsAmong m (children d)
of_children m [] h = elim h [ ]
of_children m (n ∷ ns) h = pick (among_cases (children n) (flat_map children ns) h) (of_children m ns)
  where
    pick : IsAmong m (children n) ⊎ IsAmong m (flat_map children ns) → (IsAmong m (flat_map children ns) → (d : Node) × IsAmong d ns × IsAmong m (children d)) → (d : Node) × IsAmong d (n ∷ ns) × IsAmong m (children d)
    pick (inl i) again = (n, first_of, i)
    pick (inr i) again = let r = again i in (r.0, later_of r.1, r.2)

to_children : (m d : Node) (ns : List Node) → IsAmong d ns → IsAmong m (children d) → IsAmong m (flat_map children ns)
to_children m d [] a h = elim a [ ]
to_children m d (n ∷ ns) first_of h = among_left (children n) (flat_map children ns) h
to_children m d (n ∷ ns) (later_of a) h = among_right (children n) (flat_map children ns) (to_children m d ns a h)

not_root : (l : List Step) (s : Step) → l ++ s ∷ [] ≢ []
not_root l s e = let k : length (l ++ s ∷ []) ≡ 0 = ap length e in let j = length-append l (s ∷ []) in absurd (omega arith)

within_children : (t : Tree) (m : Node) → IsWithin (root_node t) m → m.location ≢ [] → IsAmong m (flat_map children (subtree (root_node t)))
within_children t m itself h = absurd (h refl)
within_children t m (child_of_one w a) h = to_children m _ (subtree (root_node t)) (within_among (root_node t) _ w) a

children_within : (t : Tree) (m : Node) → IsAmong m (flat_map children (subtree (root_node t))) → IsWithin (root_node t) m × (m.location ≢ [])
children_within t m h =
    let r = of_children m (subtree (root_node t)) h in
    let k = each_among (IsChild (r.0).location) m (children r.0) (each_child r.0 (steps_in (value_of (r.0).tree))) r.2 in
    (child_of_one (at_within [] t r.0 r.1) r.2, λ e. not_root (r.0).location k.0 (sym k.1 ∙ e))

pub all_are_within : (t : Tree) (m : Node) → IsAmong m (nodes all_descendants (root_node t ∷ []) t) ↔ (IsWithin (root_node t) m × (m.location ≢ []))
all_are_within t m = ((λ h. children_within t m (subst (IsAmong m) (selects_children t) h)), λ h. subst (IsAmong m) (sym (selects_children t)) (within_children t m h.0 h.1))

-- ---- what a query selects is in the tree

all_among : (n : Node) (ns : List Node) → ((m : Node) → IsAmong m ns → IsWithin n m) → Each (IsWithin n) ns
all_among n [] h = tt
all_among n (m ∷ ns) h = (h m first_of, all_among n ns (λ k a. h k (later_of a)))

pub selected_within : (q : Segments) (t : Tree) (n : Node) → IsAmong n (nodes q (root_node t ∷ []) t) → IsWithin (root_node t) n
selected_within q t n h =
    each_among (IsWithin (root_node t)) n (nodes q (root_node t ∷ []) t)
    (nodes_reached (IsWithin (root_node t)) (λ m w. all_among (root_node t) (children m) (λ c a. child_of_one w a)) q (root_node t ∷ []) t (itself, tt)) h
