-- A query whose integers are changed.
use Rattle.std.proofs.Common.{◌≡◌, ◌∙◌, ℕ, ℤ, List, Bool, true, false, cond, ◌&&◌, Option, Some, None, refl, ap, ap₂}
use Rattle.std.proofs.lemmas.Bool.{and_parts}
use Rattle.std.specs.Prelude.{pos, negsuc, int_lt}
use Rattle.jp_model.specs.Query.Limits.{is_exact, Tests, bound_passes, segments_pass, segment_passes, selectors_pass, selector_passes, logical_passes, logicals_pass, comparable_passes, path_passes, call_passes, arguments_pass, argument_passes, has_exact_integers}
use Rattle.jp_model.specs.Query.Syntax.{Literal, Segment, child_segment, descendant_segment, Segments, no_segments, segment, Selector, name_selector, wildcard_selector, index_selector, slice_selector, filter_selector, Selectors, no_selectors, selector, Logical, or_all, and_all, negated, compare, exists, test, Logicals, no_logicals, logical, Comparable, constant, single, result, Argument, constant_argument, nodes_argument, condition, result_argument, Arguments, no_arguments, argument, Path, path, Call, call}
use Rattle.jp_query.specs.Integers.{clamp, bound_ints, map_ints, segment_ints, selectors_ints, selector_ints, logical_ints, logicals_ints, comparable_ints, path_ints, call_ints, arguments_ints, argument_ints}

-- Below, the integers that pass a test stay as they are.
module _ (of_int : ℤ → ℤ) (t : Tests) (stays : (i : ℤ) → t.integer i ≡ true → of_int i ≡ i) where
  bound_stays : (b : Option ℤ) → bound_passes t.integer b ≡ true → bound_ints of_int b ≡ b
  bound_stays None h = refl
  bound_stays (Some i) h = ap Some (stays i h)

  mutual
    pub map_stays : (q : Segments) → segments_pass q t ≡ true → map_ints of_int q ≡ q
    map_stays no_segments h = refl
    map_stays (segment s ss) h = let p = and_parts _ _ h in ap₂ segment (segment_stays s p.0) (map_stays ss p.1)

    segment_stays : (s : Segment) → segment_passes s t ≡ true → segment_ints of_int s ≡ s
    segment_stays (child_segment ss) h = ap child_segment (selectors_stay ss h)
    segment_stays (descendant_segment ss) h = ap descendant_segment (selectors_stay ss h)

    selectors_stay : (ss : Selectors) → selectors_pass ss t ≡ true → selectors_ints of_int ss ≡ ss
    selectors_stay no_selectors h = refl
    selectors_stay (selector s ss) h = let p = and_parts _ _ h in ap₂ selector (selector_stays s p.0) (selectors_stay ss p.1)

    selector_stays : (s : Selector) → selector_passes s t ≡ true → selector_ints of_int s ≡ s
    selector_stays (name_selector x) h = refl
    selector_stays wildcard_selector h = refl
    selector_stays (index_selector i) h = ap index_selector (stays i h)
    selector_stays (slice_selector a b c) h =
        let p = and_parts _ _ h in
        let q = and_parts _ _ p.0 in
        ap₂ (λ x y. slice_selector x y (bound_ints of_int c)) (bound_stays a q.0) (bound_stays b q.1) ∙ ap (λ z. slice_selector a b z) (bound_stays c p.1)
    selector_stays (filter_selector l) h = ap filter_selector (logical_stays l h)

    logical_stays : (l : Logical) → logical_passes l t ≡ true → logical_ints of_int l ≡ l
    logical_stays (or_all ls) h = ap or_all (logicals_stay ls h)
    logical_stays (and_all ls) h = ap and_all (logicals_stay ls h)
    logical_stays (negated l) h = ap negated (logical_stays l h)
    logical_stays (compare a op b) h = let p = and_parts _ _ h in ap₂ (λ x y. compare x op y) (comparable_stays a p.0) (comparable_stays b p.1)
    logical_stays (exists p) h = ap exists (path_stays p h)
    logical_stays (test c) h = ap test (call_stays c h)

    logicals_stay : (ls : Logicals) → logicals_pass ls t ≡ true → logicals_ints of_int ls ≡ ls
    logicals_stay no_logicals h = refl
    logicals_stay (logical l ls) h = let p = and_parts _ _ h in ap₂ logical (logical_stays l p.0) (logicals_stay ls p.1)

    comparable_stays : (c : Comparable) → comparable_passes c t ≡ true → comparable_ints of_int c ≡ c
    comparable_stays (constant c) h = refl
    comparable_stays (single p) h = ap single (path_stays p h)
    comparable_stays (result c) h = ap result (call_stays c h)

    path_stays : (p : Path) → path_passes p t ≡ true → path_ints of_int p ≡ p
    path_stays (path o ss) h = ap (path o) (map_stays ss h)

    call_stays : (c : Call) → call_passes c t ≡ true → call_ints of_int c ≡ c
    call_stays (call f args) h = let p = and_parts _ _ h in ap (call f) (arguments_stay args p.1)

    arguments_stay : (args : Arguments) → arguments_pass args t ≡ true → arguments_ints of_int args ≡ args
    arguments_stay no_arguments h = refl
    arguments_stay (argument a args) h = let p = and_parts _ _ h in ap₂ argument (argument_stays a p.0) (arguments_stay args p.1)

    argument_stays : (a : Argument) → argument_passes a t ≡ true → argument_ints of_int a ≡ a
    argument_stays (constant_argument c) h = refl
    argument_stays (nodes_argument p) h = ap nodes_argument (path_stays p h)
    argument_stays (condition l) h = ap condition (logical_stays l h)
    argument_stays (result_argument c) h = ap result_argument (call_stays c h)

-- the tests of a tree whose integers are changed
module _ (of_int : ℤ → ℤ) (t u : Tests) (integer_same : (i : ℤ) → t.integer (of_int i) ≡ u.integer i) (literal_same : (c : Literal) → t.literal c ≡ u.literal c) (name_same : (f : List ℕ) → t.function f ≡ u.function f) where
  bound_same : (b : Option ℤ) → bound_passes t.integer (bound_ints of_int b) ≡ bound_passes u.integer b
  bound_same None = refl
  bound_same (Some i) = integer_same i

  mutual
    pub pass_same : (q : Segments) → segments_pass (map_ints of_int q) t ≡ segments_pass q u
    pass_same no_segments = refl
    pass_same (segment s ss) = ap₂ ◌&&◌ (segment_same s) (pass_same ss)

    segment_same : (s : Segment) → segment_passes (segment_ints of_int s) t ≡ segment_passes s u
    segment_same (child_segment ss) = selectors_same ss
    segment_same (descendant_segment ss) = selectors_same ss

    selectors_same : (ss : Selectors) → selectors_pass (selectors_ints of_int ss) t ≡ selectors_pass ss u
    selectors_same no_selectors = refl
    selectors_same (selector s ss) = ap₂ ◌&&◌ (selector_same s) (selectors_same ss)

    selector_same : (s : Selector) → selector_passes (selector_ints of_int s) t ≡ selector_passes s u
    selector_same (name_selector x) = refl
    selector_same wildcard_selector = refl
    selector_same (index_selector i) = integer_same i
    selector_same (slice_selector a b c) = ap₂ ◌&&◌ (ap₂ ◌&&◌ (bound_same a) (bound_same b)) (bound_same c)
    selector_same (filter_selector l) = logical_same l

    logical_same : (l : Logical) → logical_passes (logical_ints of_int l) t ≡ logical_passes l u
    logical_same (or_all ls) = logicals_same ls
    logical_same (and_all ls) = logicals_same ls
    logical_same (negated l) = logical_same l
    logical_same (compare a op b) = ap₂ ◌&&◌ (comparable_same a) (comparable_same b)
    logical_same (exists p) = path_same p
    logical_same (test c) = call_same c

    logicals_same : (ls : Logicals) → logicals_pass (logicals_ints of_int ls) t ≡ logicals_pass ls u
    logicals_same no_logicals = refl
    logicals_same (logical l ls) = ap₂ ◌&&◌ (logical_same l) (logicals_same ls)

    comparable_same : (c : Comparable) → comparable_passes (comparable_ints of_int c) t ≡ comparable_passes c u
    comparable_same (constant c) = literal_same c
    comparable_same (single p) = path_same p
    comparable_same (result c) = call_same c

    path_same : (p : Path) → path_passes (path_ints of_int p) t ≡ path_passes p u
    path_same (path o ss) = pass_same ss

    call_same : (c : Call) → call_passes (call_ints of_int c) t ≡ call_passes c u
    call_same (call f args) = ap₂ ◌&&◌ (name_same f) (arguments_same args)

    arguments_same : (args : Arguments) → arguments_pass (arguments_ints of_int args) t ≡ arguments_pass args u
    arguments_same no_arguments = refl
    arguments_same (argument a args) = ap₂ ◌&&◌ (argument_same a) (arguments_same args)

    argument_same : (a : Argument) → argument_passes (argument_ints of_int a) t ≡ argument_passes a u
    argument_same (constant_argument c) = literal_same c
    argument_same (nodes_argument p) = path_same p
    argument_same (condition l) = logical_same l
    argument_same (result_argument c) = call_same c

-- ---- nothing is changed

abbrev all : Tests
all = record { integer = λ i. true; literal = λ c. true; function = λ f. true }

bound_all : (b : Option ℤ) → bound_passes all.integer b ≡ true
bound_all None = refl
bound_all (Some i) = refl

mutual
  pass_all : (q : Segments) → segments_pass q all ≡ true
  pass_all no_segments = refl
  pass_all (segment s ss) = ap₂ ◌&&◌ (segment_all s) (pass_all ss)

  segment_all : (s : Segment) → segment_passes s all ≡ true
  segment_all (child_segment ss) = selectors_all ss
  segment_all (descendant_segment ss) = selectors_all ss

  selectors_all : (ss : Selectors) → selectors_pass ss all ≡ true
  selectors_all no_selectors = refl
  selectors_all (selector s ss) = ap₂ ◌&&◌ (selector_all s) (selectors_all ss)

  selector_all : (s : Selector) → selector_passes s all ≡ true
  selector_all (name_selector x) = refl
  selector_all wildcard_selector = refl
  selector_all (index_selector i) = refl
  selector_all (slice_selector a b c) = ap₂ ◌&&◌ (ap₂ ◌&&◌ (bound_all a) (bound_all b)) (bound_all c)
  selector_all (filter_selector l) = logical_all l

  logical_all : (l : Logical) → logical_passes l all ≡ true
  logical_all (or_all ls) = logicals_all ls
  logical_all (and_all ls) = logicals_all ls
  logical_all (negated l) = logical_all l
  logical_all (compare a op b) = ap₂ ◌&&◌ (comparable_all a) (comparable_all b)
  logical_all (exists p) = path_all p
  logical_all (test c) = call_all c

  logicals_all : (ls : Logicals) → logicals_pass ls all ≡ true
  logicals_all no_logicals = refl
  logicals_all (logical l ls) = ap₂ ◌&&◌ (logical_all l) (logicals_all ls)

  comparable_all : (c : Comparable) → comparable_passes c all ≡ true
  comparable_all (constant c) = refl
  comparable_all (single p) = path_all p
  comparable_all (result c) = call_all c

  path_all : (p : Path) → path_passes p all ≡ true
  path_all (path o ss) = pass_all ss

  call_all : (c : Call) → call_passes c all ≡ true
  call_all (call f args) = arguments_all args

  arguments_all : (args : Arguments) → arguments_pass args all ≡ true
  arguments_all no_arguments = refl
  arguments_all (argument a args) = ap₂ ◌&&◌ (argument_all a) (arguments_all args)

  argument_all : (a : Argument) → argument_passes a all ≡ true
  argument_all (constant_argument c) = refl
  argument_all (nodes_argument p) = path_all p
  argument_all (condition l) = logical_all l
  argument_all (result_argument c) = call_all c

pub map_itself : (q : Segments) → map_ints (λ i. i) q ≡ q
map_itself q = map_stays (λ i. i) all (λ i h. refl) q (pass_all q)

-- ---- integers kept near the exact ones

clamp_exact : (i : ℤ) → is_exact i ≡ true → clamp i ≡ i
clamp_exact i h = rw h refl

clamp_same : (i : ℤ) → is_exact (clamp i) ≡ is_exact i
clamp_same i = step (is_exact i) (int_lt i (pos 0)) refl refl
  where
    step : (t u : Bool) → is_exact i ≡ t → int_lt i (pos 0) ≡ u → is_exact (cond t i (cond u (negsuc 9007199254740991) (pos 9007199254740992))) ≡ t
    step true u e f = e
    step false true e f = refl
    step false false e f = refl

abbrev exact_tests : Tests
exact_tests = record { integer = is_exact; literal = λ c. true; function = λ f. true }

-- an exact query stays as it is
pub clamp_keeps : (q : Segments) → has_exact_integers q ≡ true → map_ints clamp q ≡ q
clamp_keeps q h = map_stays clamp exact_tests clamp_exact q h

-- and another does not become exact
pub clamp_tells : (q : Segments) → has_exact_integers (map_ints clamp q) ≡ has_exact_integers q
clamp_tells q = pass_same clamp exact_tests exact_tests clamp_same (λ c. refl) (λ f. refl) q
