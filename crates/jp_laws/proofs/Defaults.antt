-- In a well-typed query no default is reached.
use Rattle.std.proofs.Common.{◌≡◌, ℕ, zero, suc, ◌+◌, ◌-◌, List, [], ◌∷◌, ◌++◌, length, map, flat_map, Bool, true, false, not, ◌&&◌, ◌||◌, ◌==◌, Option, Some, None, if◌then◌else◌, slice_get, codes, bytes_eq, refl, sym, ap, ap₂, subst, ◌∙◌, append_assoc, length-append, arith}
use Rattle.std.proofs.lemmas.Bool.{and_parts}
use Rattle.std.proofs.lemmas.List.Concat.{flat_map-append}
use Rattle.std.proofs.lemmas.List.Elements.{filter_agree}
use Rattle.jp_model.specs.declared.Framing.{Framing}
use Rattle.jp_model.specs.Json.Reader.{status_of}
use Rattle.jp_model.specs.Json.Status.{LineStatus, blank, refused, parsed}
use Rattle.jp_model.specs.Json.Tree.{Tree, Value}
use Rattle.jp_model.specs.Pattern.Membership.{is_in, occurs_in}
use Rattle.jp_model.specs.Query.Syntax.{Segment, child_segment, descendant_segment, Segments, no_segments, segment, Selector, name_selector, wildcard_selector, index_selector, slice_selector, filter_selector, Selectors, no_selectors, selector, Logical, or_all, and_all, negated, compare, exists, test, Logicals, no_logicals, logical, Comparable, constant, single, result, Argument, constant_argument, nodes_argument, condition, result_argument, Arguments, no_arguments, argument, Path, path, Call, call}
use Rattle.jp_model.specs.Query.Typing.{Kind, value_kind, nodes_kind, logical_kind, Signature, signature_of, is_singular_path, result_serves, call_serves, takes, segments_typed, segment_typed, selectors_typed, selector_typed, logical_typed, logicals_typed, comparable_typed, path_typed, call_typed, arguments_typed, argument_typed}
use Rattle.jp_model.specs.Meaning.Nodes.{Node, root_node, children, subtree}
use Rattle.jp_model.specs.Meaning.Compare.{compared}
use Rattle.jp_model.specs.Meaning.Functions.{single_value, ArgumentResult, given_value, counted, length_of, in_pattern, value_function, logical_function}
use Rattle.jp_model.specs.Meaning.Selecting.{start, nodes, segment_nodes, selected, select, truth, some_true, each_true, compared_value, path_nodes, call_value, call_truth, given, given_by}
use Rattle.jp_model.specs.Rows.{Row, node_row, status_rows, rows_from, rows}
use Rattle.jp_model.specs.Script.Machine.{statuses, row_text}
use Rattle.jp_laws.specs.Fallbacks.{Fallbacks, defaults, value_function_by, logical_function_by, nodes_by, segment_nodes_by, selected_by, select_by, truth_by, some_true_by, each_true_by, compared_value_by, path_nodes_by, call_value_by, call_truth_by, given_by_all, argument_by, row_text_by}

pub flat_map_same : {X A : Type 0} (f g : X → List A) → ((x : X) → f x ≡ g x) → (list : List X) → flat_map f list ≡ flat_map g list
flat_map_same f g h [] = refl
flat_map_same f g h (x ∷ xs) = ap₂ (λ a b. a ++ b) (h x) (flat_map_same f g h xs)

-- the arguments of a call agree, as the parameters read them
abbrev Agree : Kind → ArgumentResult → ArgumentResult → Type 0
Agree value_kind a b = a.value ≡ b.value
Agree nodes_kind a b = a.nodes ≡ b.nodes
Agree logical_kind a b = Unit {0}

abbrev AllAgree : List Kind → List ArgumentResult → List ArgumentResult → Type 0
AllAgree [] [] [] = Unit {0}
AllAgree [] [] (b ∷ hs) = ⊥
AllAgree [] (a ∷ gs) hs = ⊥
AllAgree (k ∷ ks) [] hs = ⊥
AllAgree (k ∷ ks) (a ∷ gs) [] = ⊥
AllAgree (k ∷ ks) (a ∷ gs) (b ∷ hs) = Agree k a b × AllAgree ks gs hs

by_one : (k : Kind) (P : List ArgumentResult → List ArgumentResult → Type 0) → ((a b : ArgumentResult) → Agree k a b → P (a ∷ []) (b ∷ [])) → (gs hs : List ArgumentResult) → AllAgree (k ∷ []) gs hs → P gs hs
by_one k P f [] hs g = absurd g
by_one k P f (a ∷ gs) [] g = absurd g
by_one k P f (a ∷ []) (b ∷ []) g = f a b g.0
by_one k P f (a ∷ []) (b ∷ c ∷ hs) g = absurd g.1
by_one k P f (a ∷ c ∷ gs) (b ∷ hs) g = absurd g.1

by_two : (k l : Kind) (P : List ArgumentResult → List ArgumentResult → Type 0) → ((a b c d : ArgumentResult) → Agree k a b → Agree l c d → P (a ∷ c ∷ []) (b ∷ d ∷ [])) → (gs hs : List ArgumentResult) → AllAgree (k ∷ l ∷ []) gs hs → P gs hs
by_two k l P f [] hs g = absurd g
by_two k l P f (a ∷ gs) [] g = absurd g
by_two k l P f (a ∷ gs) (b ∷ hs) g = by_one l (λ x y. P (a ∷ x) (b ∷ y)) (λ c d e. f a b c d g.0 e) gs hs g.1

-- the signature of a function by the five tests of its name
abbrev signature_by : Bool → Bool → Bool → Bool → Bool → Option Signature
signature_by l c v m s =
    if l then Some (record { parameters = value_kind ∷ []; answer = value_kind })
    else if c then Some (record { parameters = nodes_kind ∷ []; answer = value_kind })
    else if v then Some (record { parameters = nodes_kind ∷ []; answer = value_kind })
    else if m then Some (record { parameters = value_kind ∷ value_kind ∷ []; answer = logical_kind })
    else if s then Some (record { parameters = value_kind ∷ value_kind ∷ []; answer = logical_kind })
    else None

pub no_nodes_by : (l c v m s : Bool) → result_serves nodes_kind (signature_by l c v m s) ≡ true → ⊥
no_nodes_by true c v m s h = absurd (cc)
no_nodes_by false true v m s h = absurd (cc)
no_nodes_by false false true m s h = absurd (cc)
no_nodes_by false false false true s h = absurd (cc)
no_nodes_by false false false false true h = absurd (cc)
no_nodes_by false false false false false h = absurd (cc)

-- no function answers nodes
no_nodes : (f : List ℕ) → result_serves nodes_kind (signature_of f) ≡ true → ⊥
no_nodes f = no_nodes_by (bytes_eq f (codes "length")) (bytes_eq f (codes "count")) (bytes_eq f (codes "value")) (bytes_eq f (codes "match")) (bytes_eq f (codes "search"))

module _ (d : Fallbacks) where
  value_agrees : (f : List ℕ) (l c v m s : Bool) → bytes_eq f (codes "length") ≡ l → bytes_eq f (codes "count") ≡ c → bytes_eq f (codes "value") ≡ v → (gs hs : List ArgumentResult)
      → result_serves value_kind (signature_by l c v m s) ≡ true → AllAgree (takes [] (signature_by l c v m s)) gs hs → value_function_by d f gs ≡ value_function f hs
  value_agrees f true c v m s p q r gs hs h g = by_one value_kind (λ x y. value_function_by d f x ≡ value_function f y) (λ a b e. rw p (ap length_of e)) gs hs g
  value_agrees f false true v m s p q r gs hs h g = by_one nodes_kind (λ x y. value_function_by d f x ≡ value_function f y) (λ a b e. rw (p, q) (ap (λ ns. Some (counted (length ns))) e)) gs hs g
  value_agrees f false false true m s p q r gs hs h g = by_one nodes_kind (λ x y. value_function_by d f x ≡ value_function f y) (λ a b e. rw (p, q, r) (ap single_value e)) gs hs g
  value_agrees f false false false true s p q r gs hs h g = absurd (cc)
  value_agrees f false false false false true p q r gs hs h g = absurd (cc)
  value_agrees f false false false false false p q r gs hs h g = absurd (cc)

  truth_agrees : (f : List ℕ) (l c v m s : Bool) → bytes_eq f (codes "match") ≡ m → bytes_eq f (codes "search") ≡ s → (gs hs : List ArgumentResult)
      → result_serves logical_kind (signature_by l c v m s) ≡ true → AllAgree (takes [] (signature_by l c v m s)) gs hs → logical_function_by d f gs ≡ logical_function f hs
  truth_agrees f true c v m s p q gs hs h g = absurd (cc)
  truth_agrees f false true v m s p q gs hs h g = absurd (cc)
  truth_agrees f false false true m s p q gs hs h g = absurd (cc)
  truth_agrees f false false false true s p q gs hs h g = by_two value_kind value_kind (λ x y. logical_function_by d f x ≡ logical_function f y) (λ a b i j e k. rw p (ap₂ (in_pattern is_in) e k)) gs hs g
  truth_agrees f false false false false true p q gs hs h g = by_two value_kind value_kind (λ x y. logical_function_by d f x ≡ logical_function f y) (λ a b i j e k. rw (p, q) (ap₂ (in_pattern occurs_in) e k)) gs hs g
  truth_agrees f false false false false false p q gs hs h g = absurd (cc)

  mutual
    pub nodes_same : (q : Segments) → segments_typed q ≡ true → (list : List Node) (t : Tree) → nodes_by d q list t ≡ nodes q list t
    nodes_same no_segments h list t = refl
    nodes_same (segment s ss) h list t =
        let p = and_parts (segment_typed s) (segments_typed ss) h in
        nodes_same ss p.1 (flat_map (λ n. segment_nodes_by d s n t) list) t ∙ ap (λ l. nodes ss l t) (flat_map_same (λ n. segment_nodes_by d s n t) (λ n. segment_nodes s n t) (λ n. segment_same s p.0 n t) list)

    segment_same : (s : Segment) → segment_typed s ≡ true → (n : Node) (t : Tree) → segment_nodes_by d s n t ≡ segment_nodes s n t
    segment_same (child_segment ss) h n t = selected_same ss h n t
    segment_same (descendant_segment ss) h n t = flat_map_same (λ m. selected_by d ss m t) (λ m. selected ss m t) (λ m. selected_same ss h m t) (subtree n)

    selected_same : (ss : Selectors) → selectors_typed ss ≡ true → (n : Node) (t : Tree) → selected_by d ss n t ≡ selected ss n t
    selected_same no_selectors h n t = refl
    selected_same (selector s ss) h n t = let p = and_parts (selector_typed s) (selectors_typed ss) h in ap₂ (λ a b. a ++ b) (select_same s p.0 n t) (selected_same ss p.1 n t)

    select_same : (s : Selector) → selector_typed s ≡ true → (n : Node) (t : Tree) → select_by d s n t ≡ select s n t
    select_same (name_selector x) h n t = refl
    select_same wildcard_selector h n t = refl
    select_same (index_selector i) h n t = refl
    select_same (slice_selector first last step) h n t = refl
    select_same (filter_selector l) h n t = filter_agree (λ c. truth_by d l c t) (λ c. truth l c t) (λ c. truth_same l h c t) (children n)

    truth_same : (l : Logical) → logical_typed l ≡ true → (n : Node) (t : Tree) → truth_by d l n t ≡ truth l n t
    truth_same (or_all ls) h n t = some_same ls h n t
    truth_same (and_all ls) h n t = each_same ls h n t
    truth_same (negated l) h n t = ap not (truth_same l h n t)
    truth_same (compare a op b) h n t = let p = and_parts (comparable_typed a) (comparable_typed b) h in ap₂ (compared op) (side_same a p.0 n t) (side_same b p.1 n t)
    truth_same (exists p) h n t = ap (λ l. not (length l == 0)) (path_same p h n t)
    truth_same (test c) h n t = let p = and_parts (call_serves logical_kind c) (call_typed c) h in call_truth_same c p.0 p.1 n t

    some_same : (ls : Logicals) → logicals_typed ls ≡ true → (n : Node) (t : Tree) → some_true_by d ls n t ≡ some_true ls n t
    some_same no_logicals h n t = refl
    some_same (logical l ls) h n t = let p = and_parts (logical_typed l) (logicals_typed ls) h in ap₂ (λ a b. a || b) (truth_same l p.0 n t) (some_same ls p.1 n t)

    each_same : (ls : Logicals) → logicals_typed ls ≡ true → (n : Node) (t : Tree) → each_true_by d ls n t ≡ each_true ls n t
    each_same no_logicals h n t = refl
    each_same (logical l ls) h n t = let p = and_parts (logical_typed l) (logicals_typed ls) h in ap₂ (λ a b. a && b) (truth_same l p.0 n t) (each_same ls p.1 n t)

    side_same : (c : Comparable) → comparable_typed c ≡ true → (n : Node) (t : Tree) → compared_value_by d c n t ≡ compared_value c n t
    side_same (constant c) h n t = refl
    side_same (single p) h n t = ap single_value (path_same p h n t)
    side_same (result c) h n t = let p = and_parts (call_serves value_kind c) (call_typed c) h in call_value_same c p.0 p.1 n t

    path_same : (p : Path) → path_typed p ≡ true → (n : Node) (t : Tree) → path_nodes_by d p n t ≡ path_nodes p n t
    path_same (path o ss) h n t = nodes_same ss h (start o n t) t

    call_value_same : (c : Call) → call_serves value_kind c ≡ true → call_typed c ≡ true → (n : Node) (t : Tree) → call_value_by d c n t ≡ call_value c n t
    call_value_same (call f args) s h n t =
        let p = and_parts _ (arguments_typed args (takes [] (signature_of f))) h in
        value_agrees f (bytes_eq f (codes "length")) (bytes_eq f (codes "count")) (bytes_eq f (codes "value")) (bytes_eq f (codes "match")) (bytes_eq f (codes "search")) refl refl refl (given_by_all d args n t) (given args n t) s
        (arguments_same args (takes [] (signature_of f)) p.1 n t)

    call_truth_same : (c : Call) → call_serves logical_kind c ≡ true → call_typed c ≡ true → (n : Node) (t : Tree) → call_truth_by d c n t ≡ call_truth c n t
    call_truth_same (call f args) s h n t =
        let p = and_parts _ (arguments_typed args (takes [] (signature_of f))) h in
        truth_agrees f (bytes_eq f (codes "length")) (bytes_eq f (codes "count")) (bytes_eq f (codes "value")) (bytes_eq f (codes "match")) (bytes_eq f (codes "search")) refl refl (given_by_all d args n t) (given args n t) s
        (arguments_same args (takes [] (signature_of f)) p.1 n t)

    arguments_same : (args : Arguments) (kinds : List Kind) → arguments_typed args kinds ≡ true → (n : Node) (t : Tree) → AllAgree kinds (given_by_all d args n t) (given args n t)
    arguments_same no_arguments [] h n t = tt
    arguments_same no_arguments (kind ∷ kinds) h n t = absurd (cc)
    arguments_same (argument a args) [] h n t = absurd (cc)
    arguments_same (argument a args) (kind ∷ kinds) h n t = let p = and_parts (argument_typed a kind) (arguments_typed args kinds) h in (argument_same a kind p.0 n t, arguments_same args kinds p.1 n t)

    argument_same : (a : Argument) (kind : Kind) → argument_typed a kind ≡ true → (n : Node) (t : Tree) → Agree kind (argument_by d a n t) (given_by a n t)
    argument_same (constant_argument c) value_kind h n t = refl
    argument_same (constant_argument c) nodes_kind h n t = absurd (cc)
    argument_same (constant_argument c) logical_kind h n t = tt
    argument_same (nodes_argument p) value_kind h n t = let q = and_parts (is_singular_path p) (path_typed p) h in rw q.0 (ap single_value (path_same p q.1 n t))
    argument_same (nodes_argument p) nodes_kind h n t = path_same p h n t
    argument_same (nodes_argument p) logical_kind h n t = tt
    argument_same (condition l) value_kind h n t = absurd (cc)
    argument_same (condition l) nodes_kind h n t = absurd (cc)
    argument_same (condition l) logical_kind h n t = tt
    argument_same (result_argument c) value_kind h n t = let p = and_parts (call_serves value_kind c) (call_typed c) h in call_value_same c p.0 p.1 n t
    argument_same (result_argument (call f args)) nodes_kind h n t = let p = and_parts (call_serves nodes_kind (call f args)) _ h in absurd (no_nodes f p.0)
    argument_same (result_argument c) logical_kind h n t = tt

-- ---- with the defaults of the definitions, it is the definitions

value_own : (f : List ℕ) (gs : List ArgumentResult) → value_function_by defaults f gs ≡ value_function f gs
value_own f [] = refl
value_own f (g ∷ []) = refl
value_own f (g ∷ h ∷ gs) = refl

truth_own : (f : List ℕ) (gs : List ArgumentResult) → logical_function_by defaults f gs ≡ logical_function f gs
truth_own f [] = refl
truth_own f (g ∷ []) = refl
truth_own f (g ∷ h ∷ []) = refl
truth_own f (g ∷ h ∷ i ∷ gs) = refl

one_way : (b : Bool) (x : Option Value) → (if b then x else x) ≡ x
one_way true x = refl
one_way false x = refl

mutual
  pub nodes_own : (q : Segments) (list : List Node) (t : Tree) → nodes_by defaults q list t ≡ nodes q list t
  nodes_own no_segments list t = refl
  nodes_own (segment s ss) list t =
      nodes_own ss (flat_map (λ n. segment_nodes_by defaults s n t) list) t ∙ ap (λ l. nodes ss l t) (flat_map_same (λ n. segment_nodes_by defaults s n t) (λ n. segment_nodes s n t) (λ n. segment_own s n t) list)

  segment_own : (s : Segment) (n : Node) (t : Tree) → segment_nodes_by defaults s n t ≡ segment_nodes s n t
  segment_own (child_segment ss) n t = selected_own ss n t
  segment_own (descendant_segment ss) n t = flat_map_same (λ m. selected_by defaults ss m t) (λ m. selected ss m t) (λ m. selected_own ss m t) (subtree n)

  selected_own : (ss : Selectors) (n : Node) (t : Tree) → selected_by defaults ss n t ≡ selected ss n t
  selected_own no_selectors n t = refl
  selected_own (selector s ss) n t = ap₂ (λ a b. a ++ b) (select_own s n t) (selected_own ss n t)

  select_own : (s : Selector) (n : Node) (t : Tree) → select_by defaults s n t ≡ select s n t
  select_own (name_selector x) n t = refl
  select_own wildcard_selector n t = refl
  select_own (index_selector i) n t = refl
  select_own (slice_selector first last step) n t = refl
  select_own (filter_selector l) n t = filter_agree (λ c. truth_by defaults l c t) (λ c. truth l c t) (λ c. logical_own l c t) (children n)

  logical_own : (l : Logical) (n : Node) (t : Tree) → truth_by defaults l n t ≡ truth l n t
  logical_own (or_all ls) n t = some_own ls n t
  logical_own (and_all ls) n t = each_own ls n t
  logical_own (negated l) n t = ap not (logical_own l n t)
  logical_own (compare a op b) n t = ap₂ (compared op) (side_own a n t) (side_own b n t)
  logical_own (exists p) n t = ap (λ l. not (length l == 0)) (path_own p n t)
  logical_own (test c) n t = call_truth_own c n t

  some_own : (ls : Logicals) (n : Node) (t : Tree) → some_true_by defaults ls n t ≡ some_true ls n t
  some_own no_logicals n t = refl
  some_own (logical l ls) n t = ap₂ (λ a b. a || b) (logical_own l n t) (some_own ls n t)

  each_own : (ls : Logicals) (n : Node) (t : Tree) → each_true_by defaults ls n t ≡ each_true ls n t
  each_own no_logicals n t = refl
  each_own (logical l ls) n t = ap₂ (λ a b. a && b) (logical_own l n t) (each_own ls n t)

  side_own : (c : Comparable) (n : Node) (t : Tree) → compared_value_by defaults c n t ≡ compared_value c n t
  side_own (constant c) n t = refl
  side_own (single p) n t = ap single_value (path_own p n t)
  side_own (result c) n t = call_value_own c n t

  path_own : (p : Path) (n : Node) (t : Tree) → path_nodes_by defaults p n t ≡ path_nodes p n t
  path_own (path o ss) n t = nodes_own ss (start o n t) t

  call_value_own : (c : Call) (n : Node) (t : Tree) → call_value_by defaults c n t ≡ call_value c n t
  call_value_own (call f args) n t = value_own f (given_by_all defaults args n t) ∙ ap (value_function f) (arguments_own args n t)

  call_truth_own : (c : Call) (n : Node) (t : Tree) → call_truth_by defaults c n t ≡ call_truth c n t
  call_truth_own (call f args) n t = truth_own f (given_by_all defaults args n t) ∙ ap (logical_function f) (arguments_own args n t)

  arguments_own : (args : Arguments) (n : Node) (t : Tree) → given_by_all defaults args n t ≡ given args n t
  arguments_own no_arguments n t = refl
  arguments_own (argument a args) n t = ap₂ (λ x y. x ∷ y) (argument_own a n t) (arguments_own args n t)

  argument_own : (a : Argument) (n : Node) (t : Tree) → argument_by defaults a n t ≡ given_by a n t
  argument_own (constant_argument c) n t = refl
  argument_own (nodes_argument p) n t =
      ap (λ v. record { value = v; nodes = path_nodes_by defaults p n t }) (one_way (is_singular_path p) (single_value (path_nodes_by defaults p n t))) ∙ ap (λ ns. record { value = single_value ns; nodes = ns }) (path_own p n t)
  argument_own (condition l) n t = refl
  argument_own (result_argument c) n t = ap given_value (call_value_own c n t)

-- ---- the lines of rows

nodes_text_same : (d : List ℕ) (f : Framing) (lines : List (List ℕ)) (n : ℕ) (line : List ℕ) → slice_get lines (n - 1) ≡ Some line → (found : List Node) → flat_map (row_text_by d f lines) (map (node_row n) found) ≡ flat_map (row_text f lines) (map (node_row n) found)
nodes_text_same d f lines n line h [] = refl
nodes_text_same d f lines n line h (m ∷ found) = ap₂ (λ a b. a ++ b) (rw h refl) (nodes_text_same d f lines n line h found)

status_text_same : (d : List ℕ) (f : Framing) (lines : List (List ℕ)) (q : Segments) (n : ℕ) (line : List ℕ) → slice_get lines (n - 1) ≡ Some line → (s : LineStatus) → flat_map (row_text_by d f lines) (status_rows q n s) ≡ flat_map (row_text f lines) (status_rows q n s)
status_text_same d f lines q n line h blank = refl
status_text_same d f lines q n line h (refused fault) = refl
status_text_same d f lines q n line h (parsed t) = nodes_text_same d f lines n line h (nodes q (root_node t ∷ []) t)

got : (front : List (List ℕ)) (line : List ℕ) (rest : List (List ℕ)) (n : ℕ) → n ≡ length front → slice_get (front ++ line ∷ rest) n ≡ Some line
got [] line rest zero e = refl
got [] line rest (suc n) e = absurd (omega arith)
got (l ∷ front) line rest zero e = absurd (omega arith)
got (l ∷ front) line rest (suc n) e = got front line rest n (omega arith)

abbrev Same : List ℕ → Framing → List (List ℕ) → List Row → Type 0
Same d f lines found = flat_map (row_text_by d f lines) found ≡ flat_map (row_text f lines) found

both_same : (d : List ℕ) (f : Framing) (lines : List (List ℕ)) (xs ys : List Row) → Same d f lines xs → Same d f lines ys → Same d f lines (xs ++ ys)
both_same d f lines xs ys h g = flat_map-append (row_text_by d f lines) xs ys ∙ (ap₂ (λ a b. a ++ b) h g ∙ sym (flat_map-append (row_text f lines) xs ys))

texts_same : (d : List ℕ) (f : Framing) (q : Segments) (rest front : List (List ℕ)) (n : ℕ) → n ≡ length front + 1 → Same d f (front ++ rest) (rows_from q n (map (status_of f) rest))
texts_same d f q [] front n e = refl
texts_same d f q (line ∷ rest) front n e =
    both_same d f (front ++ line ∷ rest) (status_rows q n (status_of f line)) (rows_from q (n + 1) (map (status_of f) rest))
    (status_text_same d f (front ++ line ∷ rest) q n line (got front line rest (n - 1) (omega arith)) (status_of f line))
    (subst (λ ls. Same d f ls (rows_from q (n + 1) (map (status_of f) rest))) (append_assoc front (line ∷ []) rest) (texts_same d f q rest (front ++ line ∷ []) (n + 1) (simp length-append (omega arith))))

pub rows_same : (d : List ℕ) (f : Framing) (lines : List (List ℕ)) (q : Segments) → Same d f lines (rows q (statuses f lines))
rows_same d f lines q = texts_same d f q lines [] 1 (omega arith)
