-- Where the guard of a query is false, the query has no node.
use Rattle.std.proofs.Common.{◌≡◌, ℕ, List, [], ◌∷◌, ◌++◌, Bool, true, false, not, ◌&&◌, ◌||◌, ◌==◌, if◌then◌else◌, Option, Some, None, flat_map, filter, bytes_eq, refl, sym, ap, subst, ◌∙◌, ◌⊎◌, inl, inr, ⊎_elim, ap₂, arith}
use Rattle.std.proofs.lemmas.Bool.{and_left, and_right, eq-eqb, ne_eqb, cases_eq}
use Rattle.std.specs.List.{list_any}
use Rattle.jp_model.proofs.Seek.{segment_is, no_nodes}
use Rattle.std.specs.Prelude.{ℤ, cond, int_lt}
use Rattle.std.proofs.lemmas.Int.{ints}
use Rattle.std.specs.declared.cmp.Ordering.TheVariants.{Less, Equal, Greater}
use Rattle.std.specs.Ordering.{int_cmp, is_eq}
use Rattle.jp_model.specs.Json.Numbers.{smaller, brought_to, number_equal, numeral_of, mantissa, scale}
use Rattle.jp_model.specs.Json.Tree.{Tree, Value, null, boolean, number, string, container, array, object}
use Rattle.jp_model.specs.Meaning.Compare.{compared, values_equal, both_equal, is_less}
use Rattle.jp_model.specs.Meaning.Functions.{single_value, literal_value}
use Rattle.jp_model.specs.Meaning.Nodes.{Node, root_node, subtree, children}
use Rattle.jp_model.specs.Meaning.Selecting.{nodes, segment_nodes, selected, truth, each_true}
use Rattle.jp_model.specs.Plans.{Guard, guard_passes, conjuncts, conjuncts_of, only_filter, segment_conjuncts, guard_on, conjunct_guard, mirrored, guard_of, guard_or, first_guard, is_guard_operator}
use Rattle.jp_model.specs.Query.Singular.{singular_step, singular_steps, with_first, steps_query, step_selector}
use Rattle.jp_model.specs.Query.Syntax.{null_literal, false_literal, true_literal, number_literal, string_literal, CompareOp, equal, not_equal, less, less_equal, greater, greater_equal, Literal, root, current, Segment, child_segment, descendant_segment, Segments, no_segments, segment, name_selector, wildcard_selector, index_selector, slice_selector, filter_selector, Selectors, no_selectors, selector, Logical, or_all, and_all, negated, compare, exists, test, Logicals, no_logicals, logical, segment_list, constant, single, result, path}
use Rattle.jp_model.specs.Steps.{Step, steps_equal}

-- a singular query is the query of its steps
pub query_is : (ss : Segments) (steps : List Step) → singular_steps ss ≡ Some steps → ss ≡ steps_query steps
query_is no_segments steps h = let e : steps ≡ [] = cc in ap steps_query (sym e)
query_is (segment g gs) steps h = parts (singular_step g) (singular_steps gs) refl refl h (query_is gs)
  where
    parts : (o : Option Step) (p : Option (List Step)) → singular_step g ≡ o → singular_steps gs ≡ p → with_first o p ≡ Some steps → ((ts : List Step) → singular_steps gs ≡ Some ts → gs ≡ steps_query ts) → segment g gs ≡ steps_query steps
    parts None p e f h again = absurd (cc)
    parts (Some s) None e f h again = absurd (cc)
    parts (Some s) (Some ts) e f h again =
        let same : steps ≡ s ∷ ts = cc in
        let first : g ≡ child_segment (selector (step_selector s) no_selectors) = segment_is g s e in
        let others : gs ≡ steps_query ts = again ts f in
        let both : segment g gs ≡ steps_query (s ∷ ts) = cc in
        both ∙ ap steps_query (sym same)

-- no child passes
none_pass : (p : Node → Bool) → ((n : Node) → p n ≡ false) → (list : List Node) → filter p list ≡ []
none_pass p h [] = refl
none_pass p h (n ∷ ns) = rw (h n) (none_pass p h ns)

nothing_from : (f : Node → List Node) → ((n : Node) → f n ≡ []) → (list : List Node) → flat_map f list ≡ []
nothing_from f h [] = refl
nothing_from f h (n ∷ ns) = rw (h n) (nothing_from f h ns)

-- a filter alone that is false everywhere
pub selects_none : (l : Logical) (t : Tree) → ((n : Node) → truth l n t ≡ false) → (n : Node) → selected (selector (filter_selector l) no_selectors) n t ≡ []
selects_none l t h n = rw (none_pass (λ c. truth l c t) (λ c. h c) (children n)) refl

-- and with it the rest of the query
pub guarded_query : (g : Segment) (gs : Segments) (list : List Node) (t : Tree) → ((n : Node) → segment_nodes g n t ≡ []) → nodes (segment g gs) list t ≡ []
guarded_query g gs list t h = rw (nothing_from (λ n. segment_nodes g n t) h list) (no_nodes gs t)

-- with the literal on the right, the conjunct is the guard
pub guard_on_right : (ss : Segments) (op : CompareOp) (c : Literal) (steps : List Step) (n : Node) (t : Tree) → singular_steps ss ≡ Some steps
    → truth (compare (single (path root ss)) op (constant c)) n t ≡ guard_passes (Some (record { steps = steps; op = op; literal = c })) t
guard_on_right ss op c steps n t h = rw (query_is ss steps h) refl

eqb_sym : (a b : ℕ) → (a == b) ≡ (b == a)
eqb_sym a b = ⊎_elim (λ e. eq-eqb a b e ∙ sym (eq-eqb b a (sym e))) (λ h. ne_eqb a b h ∙ sym (ne_eqb b a (λ e. h (sym e)))) (cases_eq a b)

text_equal_sym : (x y : List ℕ) → bytes_eq x y ≡ bytes_eq y x
text_equal_sym [] [] = refl
text_equal_sym [] (b ∷ y) = refl
text_equal_sym (a ∷ x) [] = refl
text_equal_sym (a ∷ x) (b ∷ y) = ap₂ (λ p q. p && q) (eqb_sym a b) (text_equal_sym x y)

-- which of two integers is the smaller one does not hang on their order
smaller_by : (a b : ℤ) (p q : Bool) → int_lt a b ≡ p → int_lt b a ≡ q → cond p a b ≡ cond q b a
smaller_by a b true true f g = omega (arith, ints)
smaller_by a b true false f g = refl
smaller_by a b false true f g = refl
smaller_by a b false false f g = omega (arith, ints)

smaller_sym : (a b : ℤ) → smaller a b ≡ smaller b a
smaller_sym a b = smaller_by a b (int_lt a b) (int_lt b a) refl refl

tie_by : (p q : Bool) → is_eq (cond p Less (cond q Greater Equal)) ≡ is_eq (cond q Less (cond p Greater Equal))
tie_by true true = refl
tie_by true false = refl
tie_by false true = refl
tie_by false false = refl

-- two numbers are equal in either order
number_sym : (m e n f : ℤ) → number_equal m e n f ≡ number_equal n f m e
number_sym m e n f =
    tie_by (int_lt (brought_to (smaller e f) m e) (brought_to (smaller e f) n f)) (int_lt (brought_to (smaller e f) n f) (brought_to (smaller e f) m e))
    ∙ ap (λ least. is_eq (int_cmp (brought_to least n f) (brought_to least m e))) (smaller_sym e f)

-- a literal equals a value as the value equals it
literal_sym : (c : Literal) (v : Value) → values_equal (literal_value c) v ≡ values_equal v (literal_value c)
literal_sym null_literal null = refl
literal_sym null_literal (boolean true) = refl
literal_sym null_literal (boolean false) = refl
literal_sym null_literal (number m e) = refl
literal_sym null_literal (string x) = refl
literal_sym null_literal (container array ts) = refl
literal_sym null_literal (container object ts) = refl
literal_sym false_literal null = refl
literal_sym false_literal (boolean true) = refl
literal_sym false_literal (boolean false) = refl
literal_sym false_literal (number m e) = refl
literal_sym false_literal (string x) = refl
literal_sym false_literal (container array ts) = refl
literal_sym false_literal (container object ts) = refl
literal_sym true_literal null = refl
literal_sym true_literal (boolean true) = refl
literal_sym true_literal (boolean false) = refl
literal_sym true_literal (number m e) = refl
literal_sym true_literal (string x) = refl
literal_sym true_literal (container array ts) = refl
literal_sym true_literal (container object ts) = refl
literal_sym (number_literal s) null = refl
literal_sym (number_literal s) (boolean true) = refl
literal_sym (number_literal s) (boolean false) = refl
literal_sym (number_literal s) (number m e) = number_sym (mantissa (numeral_of s)) (scale (numeral_of s)) m e
literal_sym (number_literal s) (string x) = refl
literal_sym (number_literal s) (container array ts) = refl
literal_sym (number_literal s) (container object ts) = refl
literal_sym (string_literal s) null = refl
literal_sym (string_literal s) (boolean true) = refl
literal_sym (string_literal s) (boolean false) = refl
literal_sym (string_literal s) (number m e) = refl
literal_sym (string_literal s) (string x) = text_equal_sym s x
literal_sym (string_literal s) (container array ts) = refl
literal_sym (string_literal s) (container object ts) = refl

both_sym : (c : Literal) (v : Option Value) → both_equal (Some (literal_value c)) v ≡ both_equal v (Some (literal_value c))
both_sym c None = refl
both_sym c (Some v) = literal_sym c v

pub mirrored_is : (c : Literal) (op : CompareOp) (v : Option Value) → compared op (Some (literal_value c)) v ≡ compared (mirrored op) v (Some (literal_value c))
mirrored_is c equal v = both_sym c v
mirrored_is c not_equal v = ap not (both_sym c v)
mirrored_is c less v = refl
mirrored_is c less_equal v = ap (λ b. is_less (Some (literal_value c)) v || b) (both_sym c v)
mirrored_is c greater v = refl
mirrored_is c greater_equal v = ap (λ b. is_less v (Some (literal_value c)) || b) (both_sym c v)

-- with the literal on the left
pub guard_on_left : (ss : Segments) (op : CompareOp) (c : Literal) (steps : List Step) (n : Node) (t : Tree) → singular_steps ss ≡ Some steps
    → truth (compare (constant c) op (single (path root ss))) n t ≡ guard_passes (Some (record { steps = steps; op = mirrored op; literal = c })) t
guard_on_left ss op c steps n t h = rw (query_is ss steps h) (mirrored_is c op (single_value (nodes (steps_query steps) (root_node t ∷ []) t)))

some_same : {A : Type 0} (a b : A) → Some a ≡ Some b → a ≡ b
some_same a b h = cc

-- what a guard on an index path is
guard_on_is : (paths : List (List Step)) (found : Option (List Step)) (op : CompareOp) (c : Literal) (g : Guard) → guard_on paths found op c ≡ Some g → (steps : List Step) × (found ≡ Some steps) × (g ≡ record { steps = steps; op = op; literal = c })
guard_on_is paths None op c g h = absurd (cc)
guard_on_is paths (Some steps) op c g h = test (list_any (λ p. steps_equal p steps) paths && is_guard_operator op) h
  where
    test : (b : Bool) → (if b then Some (record { steps = steps; op = op; literal = c }) else None) ≡ Some g → (ts : List Step) × (◌≡◌ {A = Option (List Step)} (Some steps) (Some ts)) × (g ≡ record { steps = ts; op = op; literal = c })
    test true k = (steps, refl, sym (some_same _ g k))
    test false k = absurd (cc)

module _ (paths : List (List Step)) (g : Guard) where
  -- a conjunct that gives the guard compares the node at a path from the root with a literal
  pub by_comparison : (P : Logical → Type 0)
      → ((ss : Segments) (op : CompareOp) (c : Literal) → guard_on paths (singular_steps ss) (mirrored op) c ≡ Some g → P (compare (constant c) op (single (path root ss))))
      → ((ss : Segments) (op : CompareOp) (c : Literal) → guard_on paths (singular_steps ss) op c ≡ Some g → P (compare (single (path root ss)) op (constant c)))
      → (l : Logical) → conjunct_guard paths l ≡ Some g → P l
  by_comparison P left right (or_all ls) h = absurd (cc)
  by_comparison P left right (and_all ls) h = absurd (cc)
  by_comparison P left right (negated l) h = absurd (cc)
  by_comparison P left right (exists p) h = absurd (cc)
  by_comparison P left right (test c) h = absurd (cc)
  by_comparison P left right (compare (constant c) op (constant d)) h = absurd (cc)
  by_comparison P left right (compare (constant c) op (single (path root ss))) h = left ss op c h
  by_comparison P left right (compare (constant c) op (single (path current ss))) h = absurd (cc)
  by_comparison P left right (compare (constant c) op (result d)) h = absurd (cc)
  by_comparison P left right (compare (single (path root ss)) op (constant c)) h = right ss op c h
  by_comparison P left right (compare (single (path root ss)) op (single p)) h = absurd (cc)
  by_comparison P left right (compare (single (path root ss)) op (result d)) h = absurd (cc)
  by_comparison P left right (compare (single (path current ss)) op (constant c)) h = absurd (cc)
  by_comparison P left right (compare (single (path current ss)) op (single p)) h = absurd (cc)
  by_comparison P left right (compare (single (path current ss)) op (result d)) h = absurd (cc)
  by_comparison P left right (compare (result c) op (constant d)) h = absurd (cc)
  by_comparison P left right (compare (result c) op (single p)) h = absurd (cc)
  by_comparison P left right (compare (result c) op (result d)) h = absurd (cc)

  -- the guard comes from the first list or from what is after it
  pub from_first : (a b : Option Guard) → guard_or a b ≡ Some g → (a ≡ Some g) ⊎ ((a ≡ None) × (b ≡ Some g))
  from_first None b h = inr (refl, h)
  from_first (Some k) b h = inl h

  pub alone : (l : Logical) → first_guard paths (l ∷ []) ≡ Some g → conjunct_guard paths l ≡ Some g
  alone l h = ⊎_elim (λ e. e) (λ e. absurd (cc)) (from_first (conjunct_guard paths l) None h)

  -- so do selectors only where a filter stands alone among them
  pub by_filter : (P : Selectors → Type 0) → ((l : Logical) → first_guard paths (conjuncts l) ≡ Some g → P (selector (filter_selector l) no_selectors))
      → (ss : Selectors) → first_guard paths (only_filter ss) ≡ Some g → P ss
  by_filter P alone no_selectors h = absurd (cc)
  by_filter P alone (selector (name_selector x) no_selectors) h = absurd (cc)
  by_filter P alone (selector (name_selector x) (selector r rs)) h = absurd (cc)
  by_filter P alone (selector wildcard_selector no_selectors) h = absurd (cc)
  by_filter P alone (selector wildcard_selector (selector r rs)) h = absurd (cc)
  by_filter P alone (selector (index_selector i) no_selectors) h = absurd (cc)
  by_filter P alone (selector (index_selector i) (selector r rs)) h = absurd (cc)
  by_filter P alone (selector (slice_selector a b c) no_selectors) h = absurd (cc)
  by_filter P alone (selector (slice_selector a b c) (selector r rs)) h = absurd (cc)
  by_filter P alone (selector (filter_selector l) no_selectors) h = alone l h
  by_filter P alone (selector (filter_selector l) (selector r rs)) h = absurd (cc)

module _ (paths : List (List Step)) (t : Tree) (g : Guard) (fails : guard_passes (Some g) t ≡ false) where
  -- a conjunct that gives the guard is false everywhere
  conjunct_false : (l : Logical) → conjunct_guard paths l ≡ Some g → (n : Node) → truth l n t ≡ false
  conjunct_false l h = by_comparison paths g (λ l. (n : Node) → truth l n t ≡ false)
      (λ ss op c h n.
      let f = guard_on_is paths (singular_steps ss) (mirrored op) c g h in
      guard_on_left ss op c f.0 n t f.1 ∙ subst (λ k. guard_passes (Some k) t ≡ false) f.2 fails)
      (λ ss op c h n.
      let f = guard_on_is paths (singular_steps ss) op c g h in
      guard_on_right ss op c f.0 n t f.1 ∙ subst (λ k. guard_passes (Some k) t ≡ false) f.2 fails) l h

  joined : (xs ys : List Logical) → first_guard paths (xs ++ ys) ≡ guard_or (first_guard paths xs) (first_guard paths ys)
  joined [] ys = refl
  joined (x ∷ xs) ys = ap (guard_or (conjunct_guard paths x)) (joined xs ys) ∙ regroup (conjunct_guard paths x) (first_guard paths xs) (first_guard paths ys)
    where
      regroup : (a b c : Option Guard) → guard_or a (guard_or b c) ≡ guard_or (guard_or a b) c
      regroup None b c = refl
      regroup (Some k) b c = refl

  -- the guard comes from the front of a list or from what is after it
  from_front : (xs ys : List Logical) → first_guard paths (xs ++ ys) ≡ Some g → (first_guard paths xs ≡ Some g) ⊎ ((first_guard paths xs ≡ None) × (first_guard paths ys ≡ Some g))
  from_front xs ys h = from_first paths g (first_guard paths xs) (first_guard paths ys) (sym (joined xs ys) ∙ h)

  mutual
    filter_false : (l : Logical) → first_guard paths (conjuncts l) ≡ Some g → (n : Node) → truth l n t ≡ false
    filter_false (or_all ls) h n = conjunct_false (or_all ls) (alone paths g (or_all ls) h) n
    filter_false (and_all ls) h n = some_part_false ls h n
    filter_false (negated l) h n = conjunct_false (negated l) (alone paths g (negated l) h) n
    filter_false (compare a op b) h n = conjunct_false (compare a op b) (alone paths g (compare a op b) h) n
    filter_false (exists p) h n = conjunct_false (exists p) (alone paths g (exists p) h) n
    filter_false (test c) h n = conjunct_false (test c) (alone paths g (test c) h) n

    some_part_false : (ls : Logicals) → first_guard paths (conjuncts_of ls) ≡ Some g → (n : Node) → each_true ls n t ≡ false
    some_part_false no_logicals h n = absurd (cc)
    some_part_false (logical l ls) h n = ⊎_elim
        (λ e. and_left _ _ (filter_false l e n))
        (λ e. and_right _ _ (some_part_false ls e.1 n))
        (from_front (conjuncts l) (conjuncts_of ls) h)

  only_false : (ss : Selectors) → first_guard paths (only_filter ss) ≡ Some g → (n : Node) → selected ss n t ≡ []
  only_false ss h = by_filter paths g (λ ss. (n : Node) → selected ss n t ≡ []) (λ l h n. selects_none l t (filter_false l h) n) ss h

  segment_false : (s : Segment) → first_guard paths (segment_conjuncts s) ≡ Some g → (n : Node) → segment_nodes s n t ≡ []
  segment_false (child_segment ss) h n = only_false ss h n
  segment_false (descendant_segment ss) h n = nothing_from (λ d. selected ss d t) (only_false ss h) (subtree n)

  -- a guard that is false empties the query, from any list of nodes
  pub guard_misses : (q : Segments) (list : List Node) → guard_of paths q ≡ Some g → nodes q list t ≡ []
  guard_misses no_segments list h = absurd (cc)
  guard_misses (segment s ss) list h = ⊎_elim
      (λ e. guarded_query s ss list t (segment_false s e))
      (λ e. guard_misses ss (flat_map (λ n. segment_nodes s n t) list) e.1)
      (from_first paths g (first_guard paths (segment_conjuncts s)) (guard_of paths ss) (sym (joined (segment_conjuncts s) (flat_map segment_conjuncts (segment_list ss))) ∙ h))
