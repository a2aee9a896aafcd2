-- What is spelled is read, where brackets and parentheses are few enough.
use Rattle.std.proofs.Common.{◌≡◌, ◌∙◌, ℕ, ℤ, zero, suc, ◌+◌, ◌≤◌, ◌<◌, List, [], ◌∷◌, length, Bool, true, false, cond, ◌&&◌, ◌||◌, Option, Some, is_some, refl, sym, ap, subst, inl, inr, arith, le_refl}
use Rattle.std.proofs.lemmas.Bool.{or_left, or_right, eqb-true}
use Rattle.jp_model.specs.Characters.{is_lower}
use Rattle.jp_model.specs.Query.Limits.{is_opener}
use Rattle.jp_model.specs.Query.Spelling.{Blanks, no_bound, bound, double_quoted, single_quoted, IsOrigin, at_mark, dollar_mark, Negation, no_negation, negation, FunctionName, IsSegments, segments_end, segments_go_on, IsSegment, child_brackets, child_wildcard, child_name, descendant_brackets, descendant_wildcard, descendant_name, IsBrackets, brackets, IsMoreSelectors, selectors_end, selectors_go_on, IsSelector, quoted_name, wildcard_mark, index_int, slice_parts, filter_mark, IsLogical, some_and, IsMoreOr, or_ends, or_goes_on, IsAnd, some_basic, IsMoreAnd, and_ends, and_goes_on, IsBasic, parens, comparison, query_test, call_test, IsQuery, filter_query, IsComparable, literal_side, singular_side, call_side, IsCall, call_without, call_with, IsMoreArguments, arguments_end, arguments_go_on, IsArgument, literal_argument, query_argument, call_argument, logical_argument, SpellsQuery, query, or_of, and_of, is_alone}
use Rattle.jp_model.specs.Query.Syntax.{CompareOp, Origin, Segment, child_segment, descendant_segment, Segments, segment, Selector, Selectors, selector, Logical, negated, exists, test, Logicals, no_logicals, logical, Comparable, Argument, Arguments, argument, Path, path, Call, call}
use Rattle.jp_syntax.specs.View.{segments_of, selectors_of, logicals_of, arguments_of}
use Rattle.jp_query.specs.Integers.{map_ints, segment_ints, selectors_ints, selector_ints, logical_ints, logicals_ints, comparable_ints, path_ints, call_ints, arguments_ints, argument_ints}
use Rattle.jp_query.specs.Reading.Scalars.{Item, many, skip_blanks, call_start, after}
use Rattle.jp_query.specs.Reading.Literals.{operator_at, origin_at, begins_without_literal}
use Rattle.jp_query.specs.Reading.Queries.{Expression, selector_at, next_selector, brackets_at, next_segment, segments_at, argument_at, next_argument, call_behind, comparable_at, comparison_behind, basic_at, next_basic, and_at, next_and, or_at, logical_at, query_at}
use Rattle.jp_query.proofs.LawTools.{skipped}
use Rattle.jp_query.proofs.SoundTrees.{argument_not_bare, negated_if_ints}
use Rattle.jp_query.proofs.Shrinks.{blanks_shrink, shorthand_shrinks, function_shrinks, op_shrinks, negation_shrinks, origin_shrinks, segments_shrink, segment_shrinks, brackets_shrink, more_selectors_shrink, selector_shrinks, more_or_shrinks, and_shrinks, more_and_shrinks, basic_shrinks, query_shrinks, comparable_shrinks, call_shrinks, more_arguments_shrink, argument_shrinks}
use Rattle.jp_query.proofs.Follows.{head, next, closes, ends_arguments, ends_logical, ends_and, ends_basic, ends_path, ends_segment, blanks_skip, next_is}
use Rattle.jp_query.proofs.LeafReads.{longer, many_stops, many_goes_on, name_stops, start_reads, function_first}
use Rattle.jp_query.proofs.LiteralReads.{literal_first, literal_reads}
use Rattle.jp_query.proofs.TreeSteps.{Ends, int_stays, quoted_reads, wildcard_reads, filter_reads, index_selector_reads, slice_selector_reads, next_selector_reads, no_selector, brackets_reads, child_star_reads, descendant_star_reads, child_name_reads, descendant_name_reads, child_brackets_reads, descendant_brackets_reads, next_segment_reads, no_segment}
use Rattle.jp_query.proofs.ExpressionSteps.{is_side_first, is_basic_first, literal_side_first, lower_side_first, origin_side_first, side_basic_first, basic_stays, op_follows, op_there, path_basic, literal_argument_reads, StartsExpression, expression_argument, next_argument_reads, no_argument, call_without_reads, call_with_reads, literal_side_reads, singular_side_reads, call_side_reads, comparison_behind_reads, literal_left, singular_left, call_left, query_test_reads, negated_query_reads, call_test_reads, negated_call_reads, parens_read, next_basic_reads, no_basic, next_and_reads, no_and, and_reads, or_reads, alone_reads}

-- how many of `(` and `[` there are
abbrev pub opens : List ℕ → ℕ
opens [] = 0
opens (c ∷ x) = cond (is_opener c) 1 0 + opens x

more_opens : (c : ℕ) (x : List ℕ) → opens x ≤ opens (c ∷ x)
more_opens c x = omega arith

-- ---- what a rule begins with

selector_starts : {x y : List ℕ} {s : Selector} → IsSelector x y s → skip_blanks x ≡ x
selector_starts (quoted_name (double_quoted q)) = refl
selector_starts (quoted_name (single_quoted q)) = refl
selector_starts wildcard_mark = refl
selector_starts (index_int i) = int_stays i
selector_starts (slice_parts no_bound b c d) = refl
selector_starts (slice_parts (bound i a) b c d) = int_stays i
selector_starts (filter_mark b l) = refl

call_first : {x y : List ℕ} {c : Call} → IsCall x y c → is_lower (head x) ≡ true
call_first (call_without n b) = function_first n
call_first (call_with n b a more e) = function_first n

side_first : {x y : List ℕ} {a : Comparable} → IsComparable x y a → is_side_first (head x) ≡ true
side_first {x} (literal_side l) = literal_side_first (head x) (literal_first l)
side_first (singular_side o ss) = origin_side_first o
side_first {x} (call_side c) = lower_side_first (head x) (call_first c)

query_first : {x y : List ℕ} {p : Path} → IsQuery x y p → is_side_first (head x) ≡ true
query_first (filter_query o ss) = origin_side_first o

parens_first : {x y : List ℕ} {b : Bool} → Negation x (40 ∷ y) b → is_basic_first (head x) ≡ true
parens_first no_negation = refl
parens_first (negation b) = refl

negation_first : {x y : List ℕ} {b : Bool} → Negation x y b → is_side_first (head y) ≡ true → is_basic_first (head x) ≡ true
negation_first {x} no_negation h = side_basic_first (head x) h
negation_first (negation b) h = refl

basic_first : {x y : List ℕ} {b : Bool} {l : Logical} → IsBasic x y b l → is_basic_first (head x) ≡ true
basic_first (parens n b l e) = parens_first n
basic_first {x} (comparison a b o c d) = side_basic_first (head x) (side_first a)
basic_first (query_test n q) = negation_first n (query_first q)
basic_first (call_test {x} {y} n c) = negation_first n (lower_side_first (head y) (call_first c))

and_first : {x y : List ℕ} {b : Bool} {l : Logical} → IsAnd x y b l → is_basic_first (head x) ≡ true
and_first (some_basic a more) = basic_first a

pub logical_first : {x y : List ℕ} {b : Bool} {l : Logical} → IsLogical x y b l → is_basic_first (head x) ≡ true
logical_first (some_and a more) = and_first a

argument_first : {x y : List ℕ} {a : Argument} → IsArgument x y a → is_basic_first (head x) ≡ true
argument_first {x} (literal_argument l) = side_basic_first (head x) (literal_side_first (head x) (literal_first l))
argument_first {x} (query_argument q) = side_basic_first (head x) (query_first q)
argument_first {x} (call_argument c) = side_basic_first (head x) (lower_side_first (head x) (call_first c))
argument_first (logical_argument l) = logical_first l

-- ---- an expression begins with no literal, or with one that an operator follows

origin_begins : {x y : List ℕ} {o : Origin} → IsOrigin x y o → begins_without_literal x ≡ true
unfolding begins_without_literal origin_at
origin_begins at_mark = refl
origin_begins dollar_mark = refl

name_begins : {x y f : List ℕ} → FunctionName x (40 ∷ y) f → begins_without_literal x ≡ true
unfolding begins_without_literal
name_begins {x} n = or_right (is_some (after 33 x) || is_some (after 40 x) || is_some (origin_at x)) _ (ap is_some (start_reads n))

call_begins : {x y : List ℕ} {c : Call} → IsCall x y c → begins_without_literal x ≡ true
call_begins (call_without n b) = name_begins n
call_begins (call_with n b a more e) = name_begins n

query_begins : {x y : List ℕ} {p : Path} → IsQuery x y p → begins_without_literal x ≡ true
query_begins (filter_query o ss) = origin_begins o

parens_begin : {x y : List ℕ} {b : Bool} → Negation x (40 ∷ y) b → begins_without_literal x ≡ true
unfolding begins_without_literal
parens_begin no_negation = refl
parens_begin (negation b) = refl

negation_begins : {x y : List ℕ} {b : Bool} → Negation x y b → begins_without_literal y ≡ true → begins_without_literal x ≡ true
unfolding begins_without_literal
negation_begins no_negation h = h
negation_begins (negation b) h = refl

module _ (of_int : ℤ → ℤ) where
  basic_begins : (d : ℕ) {x y : List ℕ} {b : Bool} {l : Logical} → IsBasic x y b l → StartsExpression of_int (logical_at of_int d) x
  basic_begins d (parens n b l e) = inl (parens_begin n)
  basic_begins d (comparison {y} {w} {op} (literal_side {c} l) b o e t) = inr (c, y, (op, w), literal_reads l (op_follows b o), op_there b o e (side_first t))
  basic_begins d (comparison (singular_side m ss) b o e t) = inl (origin_begins m)
  basic_begins d (comparison (call_side c) b o e t) = inl (call_begins c)
  basic_begins d (query_test n q) = inl (negation_begins n (query_begins q))
  basic_begins d (call_test n c) = inl (negation_begins n (call_begins c))

  logical_begins : (d : ℕ) {x y : List ℕ} {b : Bool} {l : Logical} → IsLogical x y b l → StartsExpression of_int (logical_at of_int d) x
  logical_begins d (some_and (some_basic a more) others) = basic_begins d a

-- ---- what stands next, before and after a rule

segment_next : {x y : List ℕ} {s : Segment} → IsSegment x y s → ends_segment (next x) ≡ true
segment_next (child_brackets (brackets b s more e)) = refl
segment_next child_wildcard = refl
segment_next (child_name n) = refl
segment_next (descendant_brackets b) = refl
segment_next descendant_wildcard = refl
segment_next (descendant_name n) = refl

segments_next : {x y : List ℕ} {ss : Segments} → IsSegments x y ss → ends_path (next y) ≡ true → ends_segment (next x) ≡ true
segments_next segments_end h = or_left _ _ (or_left _ _ h)
segments_next (segments_go_on b s more) h = next_is ends_segment b (segment_next s)

more_and_next : {x y : List ℕ} {ls : Logicals} → IsMoreAnd x y ls → ends_and (next y) ≡ true → ends_basic (next x) ≡ true
more_and_next and_ends h = or_left _ _ h
more_and_next (and_goes_on b c a more) h = next_is ends_basic b refl

more_or_next : {x y : List ℕ} {ls : Logicals} → IsMoreOr x y ls → ends_logical (next y) ≡ true → ends_and (next x) ≡ true
more_or_next or_ends h = or_left _ _ h
more_or_next (or_goes_on b c a more) h = next_is ends_and b refl

more_selectors_next : {x y : List ℕ} {ss : Selectors} → IsMoreSelectors x y ss → closes (next y) ≡ true → ends_logical (next x) ≡ true
more_selectors_next {x} selectors_end h = subst (λ d. ends_logical d ≡ true) (sym (eqb-true (next x) 93 h)) refl
more_selectors_next (selectors_go_on b c s more) h = next_is ends_logical b refl

more_arguments_next : {x y : List ℕ} {args : Arguments} → IsMoreArguments x y args → ends_arguments (next y) ≡ true → ends_logical (next x) ≡ true
more_arguments_next {x} arguments_end h = subst (λ d. ends_logical d ≡ true) (sym (eqb-true (next x) 41 h)) refl
more_arguments_next (arguments_go_on b c s more) h = next_is ends_logical b refl

-- a bracket stands in front
brackets_front : {x y : List ℕ} {ss : Selectors} → IsBrackets x y ss → (z : List ℕ) × (x ≡ 91 ∷ z)
brackets_front (brackets {x} b s more e) = (x, refl)

segment_shorter : {x y : List ℕ} {s : Segment} → IsSegment x y s → length y < length x
segment_shorter (child_brackets (brackets {x} {y} {z} {w} {v} b s more e)) =
    omega (arith, blanks_shrink length longer e, more_selectors_shrink length longer more, selector_shrinks length longer s, blanks_shrink length longer b)
segment_shorter child_wildcard = omega arith
segment_shorter (child_name n) = omega (arith, shorthand_shrinks length longer n)
segment_shorter (descendant_brackets b) = omega (arith, brackets_shrink length longer b)
segment_shorter descendant_wildcard = omega arith
segment_shorter (descendant_name n) = omega (arith, shorthand_shrinks length longer n)

skip_shorter : (x : List ℕ) → length (skip_blanks x) ≤ length x
skip_shorter x = blanks_shrink length longer (skipped x)

-- several items are read, and are those of the tree
abbrev AreRead : {A B : Type 0} → Option (List A × List ℕ) → List ℕ → (List A → B) → B → Type 0
AreRead {A} read y of b = (rs : List A) × (read ≡ Some (rs, y)) × (of rs ≡ b)

-- the same up to a position, or up to blanks in front of it
abbrev AreReadTo : {A B : Type 0} → Option (List A × List ℕ) → List ℕ → (List A → B) → B → Type 0
AreReadTo {A} read y of b = (rs : List A) × (z : List ℕ) × (read ≡ Some (rs, z)) × (of rs ≡ b) × (skip_blanks z ≡ skip_blanks y)

and_same : (of_int : ℤ → ℤ) (bare : Bool) (l : Logical) (ls : Logicals) (z : List ℕ) → ◌≡◌ {A = Option (Expression × List ℕ)} (Some ((bare && is_alone (logicals_ints of_int ls), and_of (logical_ints of_int l) (logicals_ints of_int ls)), z)) (Some ((bare && is_alone ls, logical_ints of_int (and_of l ls)), z))
and_same of_int bare l no_logicals z = refl
and_same of_int bare l (logical m ms) z = refl

or_same : (of_int : ℤ → ℤ) (bare : Bool) (l : Logical) (ls : Logicals) (z : List ℕ) → ◌≡◌ {A = Option (Expression × List ℕ)} (Some ((bare && is_alone (logicals_ints of_int ls), or_of (logical_ints of_int l) (logicals_ints of_int ls)), z)) (Some ((bare && is_alone ls, logical_ints of_int (or_of l ls)), z))
or_same of_int bare l no_logicals z = refl
or_same of_int bare l (logical m ms) z = refl

module _ (of_int : ℤ → ℤ) where
  segments_read : (d : ℕ) (x y : List ℕ) (rs : List Segment) (ss : Segments) → many (next_segment of_int (logical_at of_int d)) (length x) x ≡ Some (rs, y) → segments_of rs ≡ ss → segments_at of_int (logical_at of_int d) x ≡ Some (ss, y)
  unfolding segments_at
  segments_read d x y rs ss h e = rw (h, e) refl

  deeper : (d : ℕ) (x : List ℕ) → logical_at of_int (suc d) x ≡ or_at of_int (logical_at of_int d) x
  unfolding logical_at
  deeper d x = refl

  -- a query is read: its mark, and its segments
  abbrev QueryRead : ℕ → List ℕ → List ℕ → Path → Type 0
  QueryRead d x y p = (o : Origin) × (z : List ℕ) × (ss : Segments) × IsOrigin x z o × (segments_at of_int (logical_at of_int d) z ≡ Some (ss, y)) × (path o ss ≡ path_ints of_int p)

  -- a call is read: its name, and its arguments
  abbrev CallRead : ℕ → List ℕ → List ℕ → Call → Type 0
  CallRead d x y c = (f z : List ℕ) × (call_start x ≡ Some (f, z)) × (call_behind of_int (logical_at of_int d) f z ≡ Some (call_ints of_int c, y))

  -- one more part after a mark that is written twice, by what is known of it and of those after it
  part_found : {x y z : List ℕ} (w v : List ℕ) (a : Logical) (ls : Logicals) (mark d n : ℕ) (item : Item Logical) → opens y ≤ opens (mark ∷ mark ∷ y) → Blanks x (mark ∷ mark ∷ y) → Blanks y z
      → opens w ≤ opens z → length w ≤ length z → opens v ≤ opens w → (opens z ≤ d + opens w → item x ≡ Some (Some (logical_ints of_int a, w)))
      → (opens w ≤ d + opens v → length w ≤ n → AreRead (many item n w) v logicals_of (logicals_ints of_int ls))
      → opens x ≤ d + opens v → length x ≤ suc n → AreRead (many item (suc n) x) v logicals_of (logicals_ints of_int (logical a ls))
  part_found {x} {y} {z} w v a ls mark d n item closed b c here shorter behind read rest o l =
      let marks : opens (mark ∷ mark ∷ y) ≤ opens x = blanks_shrink opens more_opens b in
      let before : opens z ≤ opens y = blanks_shrink opens more_opens c in
      let one = read (omega arith) in
      let others = rest (omega arith) (omega (arith, blanks_shrink length longer b, blanks_shrink length longer c)) in
      (logical_ints of_int a ∷ others.0, many_goes_on item n x w v (logical_ints of_int a) others.0 one others.1, ap (logical (logical_ints of_int a)) others.2)

  mutual
    segments_found : {x y : List ℕ} {ss : Segments} → IsSegments x y ss → (d n : ℕ) → opens x ≤ d + opens y → length x ≤ n → ends_path (next y) ≡ true → AreRead (many (next_segment of_int (logical_at of_int d)) n x) y segments_of (map_ints of_int ss)
    segments_found (segments_end {x}) d n o l e = ([], many_stops (next_segment of_int (logical_at of_int d)) n x (no_segment of_int (logical_at of_int d) x e), refl)
    segments_found (segments_go_on b s more) d zero o l e = absurd (omega (arith, blanks_shrink length longer b, segment_shorter s))
    segments_found (segments_go_on {x} {y} {z} {w} {s = a} {ss} b s more) d (suc n) o l e =
        let before : opens y ≤ opens x = blanks_shrink opens more_opens b in
        let here : opens z ≤ opens y = segment_shrinks opens more_opens s in
        let behind : opens w ≤ opens z = segments_shrink opens more_opens more in
        let one = next_segment_reads of_int (logical_at of_int d) b (segment_found s d (omega arith) (segments_next more e)) in
        let others = segments_found more d n (omega arith) (omega (arith, blanks_shrink length longer b, segment_shorter s)) e in
        (segment_ints of_int a ∷ others.0, many_goes_on (next_segment of_int (logical_at of_int d)) n x z w (segment_ints of_int a) others.0 one others.1, ap (segment (segment_ints of_int a)) others.2)

    segment_found : {x y : List ℕ} {s : Segment} → IsSegment x y s → (d : ℕ) → opens x ≤ d + opens y → ends_segment (next y) ≡ true → next_segment of_int (logical_at of_int d) x ≡ Some (Some (segment_ints of_int s, y))
    segment_found (child_brackets {x} {y} {ss} b) d o e =
        let front = brackets_front b in
        let rs = brackets_found b d o in
        let read : brackets_at of_int (logical_at of_int d) (91 ∷ front.0) ≡ Some (rs.0, y) = subst (λ z. brackets_at of_int (logical_at of_int d) z ≡ Some (rs.0, y)) front.1 rs.1 in
        subst (λ z. next_segment of_int (logical_at of_int d) z ≡ Some (Some (child_segment (selectors_ints of_int ss), y))) (sym front.1)
        (child_brackets_reads of_int (logical_at of_int d) front.0 y rs.0 read ∙ ap (λ q. Some (Some (child_segment q, y))) rs.2)
    segment_found (child_wildcard {x}) d o e = child_star_reads of_int (logical_at of_int d) x
    segment_found (child_name {x} {y} n) d o e = child_name_reads of_int (logical_at of_int d) n (name_stops y e)
    segment_found (descendant_brackets {x} {y} {ss} b) d o e =
        let front = brackets_front b in
        let rs = brackets_found b d (omega arith) in
        let read : brackets_at of_int (logical_at of_int d) (91 ∷ front.0) ≡ Some (rs.0, y) = subst (λ z. brackets_at of_int (logical_at of_int d) z ≡ Some (rs.0, y)) front.1 rs.1 in
        subst (λ z. next_segment of_int (logical_at of_int d) (46 ∷ 46 ∷ z) ≡ Some (Some (descendant_segment (selectors_ints of_int ss), y))) (sym front.1)
        (descendant_brackets_reads of_int (logical_at of_int d) front.0 y rs.0 read ∙ ap (λ q. Some (Some (descendant_segment q, y))) rs.2)
    segment_found (descendant_wildcard {x}) d o e = descendant_star_reads of_int (logical_at of_int d) x
    segment_found (descendant_name {x} {y} n) d o e = descendant_name_reads of_int (logical_at of_int d) n (name_stops y e)

    brackets_found : {x y : List ℕ} {ss : Selectors} → IsBrackets x y ss → (d : ℕ) → opens x ≤ d + opens y → AreRead (brackets_at of_int (logical_at of_int d) x) y selectors_of (selectors_ints of_int ss)
    brackets_found (brackets {x} {y} {z} {w} {v} {s = a} {ss} b s more e) d o =
        let before : opens y ≤ opens x = blanks_shrink opens more_opens b in
        let here : opens z ≤ opens y = selector_shrinks opens more_opens s in
        let behind : opens w ≤ opens z = more_selectors_shrink opens more_opens more in
        let close : opens (93 ∷ v) ≤ opens w = blanks_shrink opens more_opens e in
        let closing : closes (next w) ≡ true = next_is closes e refl in
        let one = selector_found s d (omega arith) (more_selectors_next more closing) in
        let room : length (skip_blanks z) ≤ length one.0 = subst (λ t. length t ≤ length one.0) one.2 (skip_shorter one.0) in
        let others = more_selectors_found more d (length one.0) one.0 one.2 (omega arith) room closing in
        (selector_ints of_int a ∷ others.0, brackets_reads of_int (logical_at of_int d) b (selector_starts s) one.1 others.2 (others.4 ∙ blanks_skip e), ap (selector (selector_ints of_int a)) others.3)

    more_selectors_found : {x y : List ℕ} {ss : Selectors} → IsMoreSelectors x y ss → (d n : ℕ) (t : List ℕ) → skip_blanks t ≡ skip_blanks x → opens x < d + opens y → length (skip_blanks x) ≤ n → closes (next y) ≡ true → AreReadTo (many (next_selector of_int (logical_at of_int d)) n t) y selectors_of (selectors_ints of_int ss)
    more_selectors_found selectors_end d n t same o l e = ([], t, many_stops (next_selector of_int (logical_at of_int d)) n t (no_selector of_int (logical_at of_int d) t (subst (λ u. closes (head u) ≡ true) (sym same) e)), refl, same)
    more_selectors_found (selectors_go_on b c s more) d zero t same o l e = absurd (omega (arith, ap length (blanks_skip b)))
    more_selectors_found (selectors_go_on {x} {y} {z} {w} {v} {s = a} {ss} b c s more) d (suc n) t same o l e =
        let comma : opens (44 ∷ y) ≤ opens x = blanks_shrink opens more_opens b in
        let before : opens z ≤ opens y = blanks_shrink opens more_opens c in
        let here : opens w ≤ opens z = selector_shrinks opens more_opens s in
        let behind : opens v ≤ opens w = more_selectors_shrink opens more_opens more in
        let found = selector_found s d (omega arith) (more_selectors_next more e) in
        let one = next_selector_reads of_int (logical_at of_int d) t (same ∙ blanks_skip b) c (selector_starts s) found.1 in
        let front : length (skip_blanks x) ≡ suc (length y) = ap length (blanks_skip b) in
        let room : length (skip_blanks w) ≤ n = omega (arith, front, skip_shorter w, blanks_shrink length longer c, selector_shrinks length longer s) in
        let others = more_selectors_found more d n found.0 found.2 (omega arith) room e in
        (selector_ints of_int a ∷ others.0, others.1, many_goes_on (next_selector of_int (logical_at of_int d)) n t found.0 others.1 (selector_ints of_int a) others.0 one others.2, ap (selector (selector_ints of_int a)) others.3, others.4)

    selector_found : {x y : List ℕ} {s : Selector} → IsSelector x y s → (d : ℕ) → opens x < d + opens y → ends_logical (next y) ≡ true → Ends (selector_at of_int (logical_at of_int d) x) (selector_ints of_int s) y
    selector_found (quoted_name {x} {y} q) d o e = (y, quoted_reads of_int (logical_at of_int d) q, refl)
    selector_found (wildcard_mark {x}) d o e = (x, wildcard_reads of_int (logical_at of_int d) x, refl)
    selector_found (index_int {x} {y} i) d o e = (y, index_selector_reads of_int (logical_at of_int d) i e, refl)
    selector_found (slice_parts a b c p) d o e = slice_selector_reads of_int (logical_at of_int d) a b c p e
    selector_found (filter_mark {x} {y} {z} b l) d o e =
        let before : opens y ≤ opens x = blanks_shrink opens more_opens b in
        (z, filter_reads of_int (logical_at of_int d) b (basic_stays y (logical_first l)) (logical_found l d (omega arith) e), refl)

    pub logical_found : {x y : List ℕ} {b : Bool} {l : Logical} → IsLogical x y b l → (d : ℕ) → opens x < d + opens y → ends_logical (next y) ≡ true → logical_at of_int d x ≡ Some ((b, logical_ints of_int l), y)
    logical_found (some_and a more) zero o e = absurd (omega (arith, and_shrinks opens more_opens a, more_or_shrinks opens more_opens more))
    logical_found (some_and {x} {y} {z} {bare} {l} {ls} a more) (suc d) o e =
        let here : opens y ≤ opens x = and_shrinks opens more_opens a in
        let behind : opens z ≤ opens y = more_or_shrinks opens more_opens more in
        let one = and_found a d (omega arith) (more_or_next more e) in
        let others = more_or_found more d (length y) (omega arith) (le_refl _) e in
        deeper d x ∙ (or_reads of_int (logical_at of_int d) x y z (bare, logical_ints of_int l) others.0 one others.1
        ∙ (ap (λ q. Some ((bare && is_alone q, or_of (logical_ints of_int l) q), z)) others.2 ∙ or_same of_int bare l ls z))

    more_or_found : {x y : List ℕ} {ls : Logicals} → IsMoreOr x y ls → (d n : ℕ) → opens x ≤ d + opens y → length x ≤ n → ends_logical (next y) ≡ true → AreRead (many (next_and of_int (logical_at of_int d)) n x) y logicals_of (logicals_ints of_int ls)
    more_or_found (or_ends {x}) d n o l e = ([], many_stops (next_and of_int (logical_at of_int d)) n x (no_and of_int (logical_at of_int d) x e), refl)
    more_or_found (or_goes_on b c s more) d zero o l e = absurd (omega (arith, blanks_shrink length longer b))
    more_or_found (or_goes_on {y = y} {z = z} {w = w} {v = v} {l = a} {ls} b c s more) d (suc n) o l e =
        part_found {y = y} w v a ls 124 d n (next_and of_int (logical_at of_int d)) (omega arith) b c (and_shrinks opens more_opens s) (and_shrinks length longer s) (more_or_shrinks opens more_opens more)
        (λ h. next_and_reads of_int (logical_at of_int d) b c (basic_stays z (and_first s)) (and_found s d h (more_or_next more e))) (λ h k. more_or_found more d n h k e) o l

    and_found : {x y : List ℕ} {b : Bool} {l : Logical} → IsAnd x y b l → (d : ℕ) → opens x ≤ d + opens y → ends_and (next y) ≡ true → and_at of_int (logical_at of_int d) x ≡ Some ((b, logical_ints of_int l), y)
    and_found (some_basic {x} {y} {z} {bare} {l} {ls} a more) d o e =
        let here : opens y ≤ opens x = basic_shrinks opens more_opens a in
        let behind : opens z ≤ opens y = more_and_shrinks opens more_opens more in
        let one = basic_found a d (omega arith) (more_and_next more e) in
        let others = more_and_found more d (length y) (omega arith) (le_refl _) e in
        and_reads of_int (logical_at of_int d) x y z (bare, logical_ints of_int l) others.0 one others.1
        ∙ (ap (λ q. Some ((bare && is_alone q, and_of (logical_ints of_int l) q), z)) others.2 ∙ and_same of_int bare l ls z)

    more_and_found : {x y : List ℕ} {ls : Logicals} → IsMoreAnd x y ls → (d n : ℕ) → opens x ≤ d + opens y → length x ≤ n → ends_and (next y) ≡ true → AreRead (many (next_basic of_int (logical_at of_int d)) n x) y logicals_of (logicals_ints of_int ls)
    more_and_found (and_ends {x}) d n o l e = ([], many_stops (next_basic of_int (logical_at of_int d)) n x (no_basic of_int (logical_at of_int d) x e), refl)
    more_and_found (and_goes_on b c s more) d zero o l e = absurd (omega (arith, blanks_shrink length longer b))
    more_and_found (and_goes_on {y = y} {z = z} {w = w} {v = v} {l = a} {ls} b c s more) d (suc n) o l e =
        part_found {y = y} w v a ls 38 d n (next_basic of_int (logical_at of_int d)) (omega arith) b c (basic_shrinks opens more_opens s) (basic_shrinks length longer s) (more_and_shrinks opens more_opens more)
        (λ h. next_basic_reads of_int (logical_at of_int d) b c (basic_stays z (basic_first s)) (basic_found s d h (more_and_next more e))) (λ h k. more_and_found more d n h k e) o l

    basic_found : {x y : List ℕ} {b : Bool} {l : Logical} → IsBasic x y b l → (d : ℕ) → opens x ≤ d + opens y → ends_basic (next y) ≡ true → basic_at of_int (logical_at of_int d) x ≡ Some ((b, logical_ints of_int l), y)
    basic_found (parens {x} {y} {z} {w} {v} {b} {bare} {l} n p m e) d o h =
        let opened : opens (40 ∷ y) ≤ opens x = negation_shrinks opens more_opens n in
        let before : opens z ≤ opens y = blanks_shrink opens more_opens p in
        let close : opens (41 ∷ v) ≤ opens w = blanks_shrink opens more_opens e in
        parens_read of_int (logical_at of_int d) n p (basic_stays z (logical_first m)) (logical_found m d (omega arith) (next_is ends_logical e refl)) e
        ∙ ap (λ (q : Logical). Some ((false, q), v)) (sym (negated_if_ints of_int b l))
    basic_found (comparison {x} {y} {z} {w} {v} {u} {a} {b} {op} s p m q t) d o h =
        let here : opens y ≤ opens x = comparable_shrinks opens more_opens s in
        let before : opens z ≤ opens y = blanks_shrink opens more_opens p in
        let mark : opens w ≤ opens z = op_shrinks opens more_opens m in
        let after_op : opens v ≤ opens w = blanks_shrink opens more_opens q in
        let behind : opens u ≤ opens v = comparable_shrinks opens more_opens t in
        let right = comparable_found t d (omega arith) (path_basic (next u) h) in
        left_found s d (omega arith) (op_follows p m) op w _ (op_there p m q (side_first t)) (comparison_behind_reads of_int (logical_at of_int d) (comparable_ints of_int a) (comparable_ints of_int b) op q (side_first t) right)
    basic_found (query_test {x} {y} {z} {p} no_negation q) d o h =
        let found = query_found q d o (path_basic (next z) h) in
        query_test_reads of_int (logical_at of_int d) found.3 found.4 h ∙ ap (λ (r : Path). Some ((true, exists r), z)) found.5
    basic_found (query_test {x} {y} {z} {p} (negation n) q) d o h =
        let before = blanks_shrink opens more_opens n in
        let found = query_found q d (omega arith) (path_basic (next z) h) in
        negated_query_reads of_int (logical_at of_int d) n found.3 found.4 ∙ ap (λ (r : Path). Some ((false, negated (exists r)), z)) found.5
    basic_found (call_test {x} {y} {z} {c} no_negation q) d o h =
        let found = call_found q d o in
        call_test_reads of_int (logical_at of_int d) x found.0 found.1 z (call_ints of_int c) (call_first q) found.2 found.3 h
    basic_found (call_test {x} {y} {z} {c} (negation n) q) d o h =
        let before = blanks_shrink opens more_opens n in
        let found = call_found q d (omega arith) in
        negated_call_reads of_int (logical_at of_int d) y found.0 found.1 z (call_ints of_int c) n (call_first q) found.2 found.3

    query_found : {x y : List ℕ} {p : Path} → IsQuery x y p → (d : ℕ) → opens x ≤ d + opens y → ends_path (next y) ≡ true → QueryRead d x y p
    query_found (filter_query {x} {y} {z} {o} {ss} m s) d h e =
        let mark : opens y ≤ opens x = origin_shrinks opens more_opens m in
        let rs = segments_found s d (length y) (omega arith) (le_refl _) e in
        (o, y, map_ints of_int ss, m, segments_read d y z rs.0 (map_ints of_int ss) rs.1 rs.2, refl)

    comparable_found : {x y : List ℕ} {a : Comparable} → IsComparable x y a → (d : ℕ) → opens x ≤ d + opens y → ends_path (next y) ≡ true → comparable_at of_int (logical_at of_int d) x ≡ Some (comparable_ints of_int a, y)
    comparable_found (literal_side l) d o h = literal_side_reads of_int (logical_at of_int d) l h
    comparable_found (singular_side m ss) d o h = singular_side_reads of_int (logical_at of_int d) m ss h
    comparable_found (call_side {x} {y} {c} q) d o h =
        let found = call_found q d o in
        call_side_reads of_int (logical_at of_int d) x found.0 found.1 y (call_ints of_int c) (call_first q) found.2 found.3

    left_found : {x y : List ℕ} {a : Comparable} → IsComparable x y a → (d : ℕ) → opens x ≤ d + opens y → ends_path (next y) ≡ true → (op : CompareOp) (w : List ℕ) (e : Expression × List ℕ) → operator_at (skip_blanks y) ≡ Some (op, w) → comparison_behind of_int (logical_at of_int d) (comparable_ints of_int a) op w ≡ Some e → basic_at of_int (logical_at of_int d) x ≡ Some e
    left_found (literal_side l) d o h op w e g k = literal_left of_int (logical_at of_int d) op w e l h g k
    left_found (singular_side m ss) d o h op w e g k = singular_left of_int (logical_at of_int d) op w e m ss h g k
    left_found (call_side {x} {y} {c} q) d o h op w e g k =
        let found = call_found q d o in
        call_left of_int (logical_at of_int d) op w e x found.0 found.1 y (call_ints of_int c) (call_first q) found.2 found.3 g k

    call_found : {x y : List ℕ} {c : Call} → IsCall x y c → (d : ℕ) → opens x ≤ d + opens y → CallRead d x y c
    call_found (call_without {f} {x} {y} {z} n b) d o = (f, y, start_reads n, call_without_reads of_int (logical_at of_int d) f b)
    call_found (call_with {f} {x} {y} {z} {w} {v} {u} {a} {more} n b s others e) d o =
        let opened : opens (40 ∷ y) ≤ opens x = function_shrinks opens more_opens n in
        let before : opens z ≤ opens y = blanks_shrink opens more_opens b in
        let here : opens w ≤ opens z = argument_shrinks opens more_opens s in
        let behind : opens v ≤ opens w = more_arguments_shrink opens more_opens others in
        let close : opens (41 ∷ u) ≤ opens v = blanks_shrink opens more_opens e in
        let closing : ends_arguments (next v) ≡ true = next_is ends_arguments e refl in
        let one = argument_found s d (omega arith) (more_arguments_next others closing) in
        let rest = more_arguments_found others d (length w) (omega arith) (le_refl _) closing in
        (f, y, start_reads n, call_with_reads of_int (logical_at of_int d) f b (argument_first s) one rest.1 e ∙ ap (λ q. Some (call f (argument (argument_ints of_int a) q), u)) rest.2)

    more_arguments_found : {x y : List ℕ} {args : Arguments} → IsMoreArguments x y args → (d n : ℕ) → opens x < d + opens y → length x ≤ n → ends_arguments (next y) ≡ true → AreRead (many (next_argument of_int (logical_at of_int d)) n x) y arguments_of (arguments_ints of_int args)
    more_arguments_found (arguments_end {x}) d n o l e = ([], many_stops (next_argument of_int (logical_at of_int d)) n x (no_argument of_int (logical_at of_int d) x e), refl)
    more_arguments_found (arguments_go_on b c s more) d zero o l e = absurd (omega (arith, blanks_shrink length longer b))
    more_arguments_found (arguments_go_on {x} {y} {z} {w} {v} {a} {more = args} b c s more) d (suc n) o l e =
        let comma : opens (44 ∷ y) ≤ opens x = blanks_shrink opens more_opens b in
        let before : opens z ≤ opens y = blanks_shrink opens more_opens c in
        let here : opens w ≤ opens z = argument_shrinks opens more_opens s in
        let behind : opens v ≤ opens w = more_arguments_shrink opens more_opens more in
        let one = next_argument_reads of_int (logical_at of_int d) b c (basic_stays z (argument_first s)) (argument_found s d (omega arith) (more_arguments_next more e)) in
        let others = more_arguments_found more d n (omega arith) (omega (arith, blanks_shrink length longer b, blanks_shrink length longer c, argument_shrinks length longer s)) e in
        (argument_ints of_int a ∷ others.0, many_goes_on (next_argument of_int (logical_at of_int d)) n x w v (argument_ints of_int a) others.0 one others.1, ap (argument (argument_ints of_int a)) others.2)

    argument_found : {x y : List ℕ} {a : Argument} → IsArgument x y a → (d : ℕ) → opens x < d + opens y → ends_logical (next y) ≡ true → argument_at of_int (logical_at of_int d) x ≡ Some (argument_ints of_int a, y)
    argument_found (literal_argument l) d o e = literal_argument_reads of_int (logical_at of_int d) l e
    argument_found (query_argument q) zero o e = absurd (omega (arith, query_shrinks opens more_opens q))
    argument_found (query_argument {x} {y} {p} q) (suc d) o e =
        let ends : ends_basic (next y) ≡ true = or_left _ _ (or_left _ _ e) in
        let found = query_found q d (omega arith) (path_basic (next y) ends) in
        let basic = query_test_reads of_int (logical_at of_int d) found.3 found.4 ends ∙ ap (λ (r : Path). Some ((true, exists r), y)) found.5 in
        expression_argument of_int (logical_at of_int (suc d)) x y (true, exists (path_ints of_int p)) (inl (query_begins q)) (deeper d x ∙ alone_reads of_int (logical_at of_int d) x y (exists (path_ints of_int p)) basic e)
    argument_found (call_argument q) zero o e = absurd (omega (arith, call_shrinks opens more_opens q))
    argument_found (call_argument {x} {y} {c} q) (suc d) o e =
        let ends : ends_basic (next y) ≡ true = or_left _ _ (or_left _ _ e) in
        let found = call_found q d (omega arith) in
        let basic = call_test_reads of_int (logical_at of_int d) x found.0 found.1 y (call_ints of_int c) (call_first q) found.2 found.3 ends in
        expression_argument of_int (logical_at of_int (suc d)) x y (true, test (call_ints of_int c)) (inl (call_begins q)) (deeper d x ∙ alone_reads of_int (logical_at of_int d) x y (test (call_ints of_int c)) basic e)
    argument_found (logical_argument {x} {y} {l} m) d o e =
        expression_argument of_int (logical_at of_int d) x y (false, logical_ints of_int l) (logical_begins of_int d m) (logical_found m d o e) ∙ ap (λ (r : Argument). Some (r, y)) (argument_not_bare (logical_ints of_int l))

  -- what is spelled is read, with its integers as they are put into the tree
  pub query_complete : (depth : ℕ) (x : List ℕ) (ss : Segments) → opens x ≤ depth → SpellsQuery x ss → query_at of_int depth x ≡ Some (map_ints of_int ss)
  unfolding query_at
  query_complete depth x ss o (query {x = y} s) =
      let rs = segments_found s depth (length y) (omega arith) (le_refl _) refl in
      rw (segments_read depth y [] rs.0 (map_ints of_int ss) rs.1 rs.2) refl
