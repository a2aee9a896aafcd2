-- Texts that spell their queries, each by its derivation in the grammar of RFC 9535, appendix A.
use Rattle.std.proofs.Common.{◌≡◌, ℕ, inl, inr, pos, List, [], ◌∷◌, Some, false, refl, arith, codes}
use Rattle.std.specs.Prelude.{◌⊎◌, slice_index}
use Rattle.jp_model.specs.Characters.{is_white}
use Rattle.jp_model.specs.Json.Numbers.{no_sign}
use Rattle.jp_model.specs.Query.Syntax.{equal, greater, root, current, null_literal, number_literal, Segment, Segments, no_segments, descendant_segment, name_selector, wildcard_selector, selector, negated, compare, exists, single, constant, nodes_argument, path}
use Rattle.jp_model.specs.Query.Spelling.{Run, run_ends, run_goes_on, Blanks, shorthand, function_name, positive, positive_int, negative_int, hex4, escaped_pair, closing_quote, other_quote, plain, escaped_quote, escaped, double_quoted, single_quoted, number_spelled, null_spelled, equal_op, greater_op, at_mark, dollar_mark, bound, step_part, pointed_name, singular_end, singular_goes_on, no_negation, negation, segments_end, segments_go_on, child_brackets, child_name, child_wildcard, descendant_brackets, descendant_wildcard, descendant_name, brackets, selectors_end, selectors_go_on, quoted_name, wildcard_mark, slice_parts, filter_mark, some_and, or_ends, some_basic, and_ends, and_goes_on, parens, comparison, query_test, filter_query, literal_side, singular_side, call_side, call_with, arguments_end, query_argument, IsSegment, IsSegments, SpellsQuery, query}
use Rattle.jp_model.specs.Worked.{minus, one, just, key, slice, filtered, here, all_here, member_of, both, answer_of, one_argument}

-- no blank, and one
close : {x : List ℕ} → Blanks x x
close = ([], run_ends)

blank : {x : List ℕ} → Blanks (0x20 ∷ x) x
blank = (0x20 ∷ [], run_goes_on refl run_ends)

pub the_root : SpellsQuery (codes "$") no_segments
the_root = query segments_end

pub a_filter : SpellsQuery (codes "$[?@.a==null]") (filtered (compare (single (member_of current (codes "a"))) equal (constant null_literal)))
a_filter =
    let name = singular_goes_on close (pointed_name (shorthand refl run_ends)) singular_end in
    let sides = comparison (singular_side at_mark name) close equal_op close (literal_side (null_spelled refl)) in
    query (segments_go_on close (child_brackets (brackets close (filter_mark close (some_and (some_basic sides and_ends) or_ends)) selectors_end close)) segments_end)

pub an_escaped_single_quote : SpellsQuery (codes "$['\\'']") (key (codes "'") no_segments)
an_escaped_single_quote =
    query (segments_go_on close (child_brackets (brackets close (quoted_name (single_quoted (escaped_quote closing_quote))) selectors_end close)) segments_end)

pub an_escaped_double_quote : SpellsQuery (codes "$[\"\\\"\"]") (key (codes "\"") no_segments)
an_escaped_double_quote =
    query (segments_go_on close (child_brackets (brackets close (quoted_name (double_quoted (escaped_quote closing_quote))) selectors_end close)) segments_end)

pub the_other_quote : SpellsQuery (codes "$[\"'\"]") (key (codes "'") no_segments)
the_other_quote =
    query (segments_go_on close (child_brackets (brackets close (quoted_name (double_quoted (other_quote refl (λ e. absurd (omega (arith, e))) closing_quote))) selectors_end close)) segments_end)

pub a_slice_with_blanks : SpellsQuery (codes "$[1 : 2 : -1]") (slice (Some (pos 1)) (Some (pos 2)) (Some (minus 1)))
a_slice_with_blanks =
    let first = bound (positive_int (positive refl (λ e. absurd (omega (arith, e))) run_ends)) blank in
    let last = bound (positive_int (positive refl (λ e. absurd (omega (arith, e))) run_ends)) blank in
    let step = step_part blank (negative_int (positive refl (λ e. absurd (omega (arith, e))) run_ends)) in
    query (segments_go_on close (child_brackets (brackets close (slice_parts first blank last step) selectors_end close)) segments_end)

pub a_surrogate_pair : SpellsQuery (codes "$['\\ud83d\\ude00']") (key (0x1F600 ∷ []) no_segments)
a_surrogate_pair =
    let pair = escaped_pair (hex4 refl) refl (hex4 refl) refl in
    query (segments_go_on close (child_brackets (brackets close (quoted_name (single_quoted (escaped pair closing_quote))) selectors_end close)) segments_end)

pub a_call : SpellsQuery (codes "$[?count( @.* )>1e2]") (filtered (compare (answer_of (one_argument (codes "count") (nodes_argument all_here))) greater (constant (number_literal (codes "1e2")))))
a_call =
    let name = function_name refl (run_goes_on refl (run_goes_on refl (run_goes_on refl (run_goes_on refl run_ends)))) in
    let nodes = query_argument (filter_query at_mark (segments_go_on close child_wildcard segments_end)) in
    let hundred = number_spelled {n = record { negative = false; int = 49 ∷ []; fraction = []; exponent = Some (record { capital = false; sign = no_sign; digits = 50 ∷ [] }) }} (record { int = refl; fraction = tt; exponent = (refl, tt) }) refl in
    let sides = comparison (call_side (call_with name blank nodes arguments_end blank)) close greater_op close (literal_side hundred) in
    query (segments_go_on close (child_brackets (brackets close (filter_mark close (some_and (some_basic sides and_ends) or_ends)) selectors_end close)) segments_end)

pub a_negated_group : SpellsQuery (codes "$ .a[?!(@ && $)]") (key (codes "a") (filtered (negated (both (exists here) (exists (path root no_segments))))))
a_negated_group =
    let left = query_test no_negation (filter_query at_mark segments_end) in
    let right = query_test no_negation (filter_query dollar_mark segments_end) in
    let group = parens (negation close) close (some_and (some_basic left (and_goes_on blank blank right and_ends)) or_ends) close in
    let filter = child_brackets (brackets close (filter_mark close (some_and (some_basic group and_ends) or_ends)) selectors_end close) in
    query (segments_go_on blank (child_name (shorthand refl run_ends)) (segments_go_on close filter segments_end))

pub descendants_and_two_selectors : SpellsQuery (codes "$..['a' , *]") (one (descendant_segment (selector (name_selector (codes "a")) (just wildcard_selector))))
descendants_and_two_selectors =
    let more = selectors_go_on blank blank wildcard_mark selectors_end in
    query (segments_go_on close (descendant_brackets (brackets close (quoted_name (single_quoted (plain refl closing_quote))) more close)) segments_end)

-- ---- a text that spells none

-- a segment begins with a dot or a bracket
segment_begins : {x y : List ℕ} {s : Segment} → IsSegment x y s → (slice_index x 0 ≡ 46) ⊎ (slice_index x 0 ≡ 91)
segment_begins (child_brackets (brackets blanks first more end)) = inr refl
segment_begins child_wildcard = inl refl
segment_begins (child_name name) = inl refl
segment_begins (descendant_brackets selectors) = inl refl
segment_begins descendant_wildcard = inl refl
segment_begins (descendant_name name) = inl refl

-- after none or all of one blank stands the blank or nothing
behind_blank : {y s : List ℕ} → Run is_white (0x20 ∷ []) y s → (slice_index y 0 ≡ 0x20) ⊎ (slice_index y 0 ≡ 0)
behind_blank run_ends = inl refl
behind_blank (run_goes_on white run_ends) = inr refl

neither : (c : ℕ) → (c ≡ 0x20) ⊎ (c ≡ 0) → (c ≡ 46) ⊎ (c ≡ 91) → ⊥
neither c (inl a) (inl b) = omega (arith, a, b)
neither c (inl a) (inr b) = omega (arith, a, b)
neither c (inr a) (inl b) = omega (arith, a, b)
neither c (inr a) (inr b) = omega (arith, a, b)

-- a blank alone is no segment
nothing_behind : (q : Segments) → IsSegments (0x20 ∷ []) [] q → ⊥
nothing_behind q (segments_go_on {y = y} blanks s more) = neither (slice_index y 0) (behind_blank blanks.1) (segment_begins s)

pub no_blank_at_the_end : (q : Segments) → SpellsQuery (codes "$ ") q → ⊥
no_blank_at_the_end q (query s) = nothing_behind q s
