-- The text of a query spells it.
use Rattle.std.proofs.Common.{◌≡◌, ℕ, zero, suc, ℤ, pos, negsuc, neg_ℤ, Bool, true, false, ◌&&◌, List, [], ◌∷◌, ◌++◌, flat_map, Option, Some, None, is_some, codes, encode_utf8_all, refl, sym, ap, subst, ◌∙◌, append-nil, append_assoc, arith}
use Rattle.std.specs.List.{list_all}
use Rattle.std.specs.Str.{all_scalars}
use Rattle.std.proofs.lemmas.Bool.{and_parts, false≢true}
use Rattle.std.proofs.lemmas.Str.{chars-encodes}
use Rattle.jp_model.specs.Meaning.Paths.{name_scalar, quoted, literal_text, op_text}
use Rattle.jp_model.specs.Query.Singular.{singular_steps, with_first}
use Rattle.jp_model.specs.Query.Spelling.{is_function_scalar, Run, run_ends, run_goes_on, Blanks, FunctionName, function_name, Int, zero_int, positive_int, negative_int, Quoted, StringLiteral, single_quoted, IsLiteral, number_spelled, string_spelled, true_spelled, false_spelled, null_spelled, IsOp, equal_op, not_equal_op, less_equal_op, greater_equal_op, less_op, greater_op, IsOrigin, at_mark, dollar_mark, Bound, no_bound, bound, StepPart, no_step_part, step_part, SingularSegment, bracketed_name, bracketed_index, SingularSegments, singular_end, singular_goes_on, no_negation, negation, IsSegments, segments_end, segments_go_on, IsSegment, child_brackets, descendant_brackets, IsBrackets, brackets, IsMoreSelectors, selectors_end, selectors_go_on, IsSelector, quoted_name, wildcard_mark, index_int, slice_parts, filter_mark, IsLogical, some_and, IsMoreOr, or_ends, or_goes_on, IsAnd, some_basic, IsMoreAnd, and_ends, and_goes_on, IsBasic, parens, comparison, query_test, call_test, IsQuery, filter_query, IsComparable, literal_side, singular_side, call_side, IsCall, call_without, call_with, IsMoreArguments, arguments_end, arguments_go_on, IsArgument, literal_argument, query_argument, call_argument, logical_argument, SpellsQuery, query}
use Rattle.jp_model.specs.Query.Status.{TextSpells}
use Rattle.jp_model.specs.Query.Syntax.{CompareOp, equal, not_equal, less, less_equal, greater, greater_equal, Origin, root, current, Literal, null_literal, false_literal, true_literal, number_literal, string_literal, Segment, child_segment, descendant_segment, Segments, no_segments, segment, Selector, name_selector, wildcard_selector, index_selector, slice_selector, filter_selector, Selectors, no_selectors, selector, Logical, or_all, and_all, negated, compare, exists, test, Logicals, no_logicals, logical, Comparable, constant, single, result, Argument, constant_argument, nodes_argument, condition, result_argument, Arguments, no_arguments, argument, Path, path, Call, call}
use Rattle.jp_model.specs.Steps.{Step}
use Rattle.jp_canon.specs.Layout.{whole_text}
use Rattle.jp_laws.specs.Digits.{signed_digits}
use Rattle.jp_laws.specs.QueryTexts.{in_brackets, in_parentheses, bound_text, step_text, origin_text, segments_text, segment_text, selectors_text, more_selectors_text, selector_text, logical_text, more_logicals_text, comparable_text, filter_query_text, call_text, more_arguments_text, argument_text, query_text, IsFunctionName, CanBeLiteral, CanBeSegments, CanBeSegment, CanBeSelectors, CanBeMoreSelectors, CanBeSelector, CanBeLogical, CanBeLogicals, CanBeComparable, CanBeFilterQuery, CanBeCall, CanBeArguments, CanBeArgument}
use Rattle.jp_laws.proofs.DigitTexts.{spelt, zero_digits}
use Rattle.jp_laws.proofs.PathTexts.{name_quoted, positive_digits}

-- no blank
none : (x : List ℕ) → Blanks x x
none x = ([], run_ends)

-- what holds of a text in front of another and a rest, where the two are put together
together : (P : List ℕ → Type 0) (a b y : List ℕ) → P (a ++ (b ++ y)) → P (a ++ b ++ y)
together P a b y h = subst P (sym (append_assoc a b y)) h

-- ---- integers, strings and literals

int_spelled : (i : ℤ) (y : List ℕ) → Int (signed_digits i ++ y) y i
int_spelled (pos zero) y = subst (λ ds. Int (ds ++ y) y (pos 0)) (sym zero_digits) zero_int
int_spelled (pos (suc n)) y = let s = spelt (suc n) in subst (λ k. Int (whole_text (suc n) ++ y) y (pos k)) s.value (positive_int (positive_digits (whole_text (suc n)) y s.digits (s.first (omega arith))))
int_spelled (negsuc n) y = let s = spelt (suc n) in subst (λ k. Int (45 ∷ (whole_text (suc n) ++ y)) y (neg_ℤ (pos k))) s.value (negative_int (positive_digits (whole_text (suc n)) y s.digits (s.first (omega arith))))

string_said : (x y : List ℕ) → StringLiteral (quoted x ++ y) y x
string_said x y = single_quoted (together (λ l. Quoted 39 l y x) (flat_map name_scalar x) (39 ∷ []) y (name_quoted x y))

literal_said : (c : Literal) (y : List ℕ) → CanBeLiteral c → IsLiteral (literal_text c ++ y) y c
literal_said null_literal y h = null_spelled refl
literal_said false_literal y h = false_spelled refl
literal_said true_literal y h = true_spelled refl
literal_said (number_literal x) y h = subst (λ l. IsLiteral (l ++ y) y (number_literal l)) (sym h.2) (number_spelled {n = h.0} h.1 refl)
literal_said (string_literal x) y h = string_spelled (string_said x y)

op_said : (op : CompareOp) (y : List ℕ) → IsOp (op_text op ++ y) y op
op_said equal y = equal_op
op_said not_equal y = not_equal_op
op_said less y = less_op
op_said less_equal y = less_equal_op
op_said greater y = greater_op
op_said greater_equal y = greater_equal_op

origin_said : (o : Origin) (y : List ℕ) → IsOrigin (origin_text o ++ y) y o
origin_said root y = dollar_mark
origin_said current y = at_mark

run_said : (is_member : ℕ → Bool) (s y : List ℕ) → list_all is_member s ≡ true → Run is_member (s ++ y) y s
run_said is_member [] y h = run_ends
run_said is_member (c ∷ s) y h = let p = and_parts _ _ h in run_goes_on p.0 (run_said is_member s y p.1)

function_said : (f y : List ℕ) → IsFunctionName f → FunctionName (f ++ y) y f
function_said [] y h = absurd h
function_said (c ∷ f) y h = function_name h.0 (run_said is_function_scalar f y h.1)

bound_said : (b : Option ℤ) (y : List ℕ) → Bound (bound_text b ++ y) y b
bound_said None y = no_bound
bound_said (Some i) y = bound (int_spelled i y) (none y)

step_said : (b : Option ℤ) (y : List ℕ) → StepPart (step_text b ++ y) y b
step_said None y = no_step_part
step_said (Some i) y = step_part (none _) (int_spelled i y)

-- ---- singular queries

first_some : (s : Step) (steps : Option (List Step)) → is_some (with_first (Some s) steps) ≡ true → is_some steps ≡ true
first_some s None h = h
first_some s (Some steps) h = refl

bracket_said : (text y : List ℕ) (s : Segment) → SingularSegment (91 ∷ (text ++ 93 ∷ y)) y s → SingularSegment (in_brackets (text ++ []) ++ y) y s
bracket_said text y s h =
    subst (λ l. SingularSegment (91 ∷ l) y s) (sym (append_assoc (text ++ []) (93 ∷ []) y ∙ ap (λ (l : List ℕ). l ++ 93 ∷ y) (append-nil text))) h

singular_said : (ss : Segments) (y : List ℕ) → is_some (singular_steps ss) ≡ true → SingularSegments (segments_text ss ++ y) y ss
singular_said no_segments y h = singular_end
singular_said (segment (child_segment (selector (name_selector x) no_selectors)) ss) y h =
    together (λ l. SingularSegments l y (segment (child_segment (selector (name_selector x) no_selectors)) ss)) (in_brackets (quoted x ++ [])) (segments_text ss) y
    (singular_goes_on (none _) (bracket_said (quoted x) (segments_text ss ++ y) _ (bracketed_name (string_said x (93 ∷ (segments_text ss ++ y))))) (singular_said ss y (first_some _ (singular_steps ss) h)))
singular_said (segment (child_segment (selector (index_selector i) no_selectors)) ss) y h =
    together (λ l. SingularSegments l y (segment (child_segment (selector (index_selector i) no_selectors)) ss)) (in_brackets (signed_digits i ++ [])) (segments_text ss) y
    (singular_goes_on (none _) (bracket_said (signed_digits i) (segments_text ss ++ y) _ (bracketed_index (int_spelled i (93 ∷ (segments_text ss ++ y))))) (singular_said ss y (first_some _ (singular_steps ss) h)))
singular_said (segment (child_segment (selector wildcard_selector no_selectors)) ss) y h = absurd (false≢true h)
singular_said (segment (child_segment (selector (slice_selector first last step) no_selectors)) ss) y h = absurd (false≢true h)
singular_said (segment (child_segment (selector (filter_selector l) no_selectors)) ss) y h = absurd (false≢true h)
singular_said (segment (child_segment (selector s (selector more others))) ss) y h = absurd (false≢true h)
singular_said (segment (child_segment no_selectors) ss) y h = absurd (false≢true h)
singular_said (segment (descendant_segment others) ss) y h = absurd (false≢true h)

-- ---- parts of expressions

alone : {x y : List ℕ} {b : Bool} {l : Logical} → IsBasic x y b l → IsLogical x y (b && true && true) l
alone h = some_and (some_basic h and_ends) or_ends

basic_and : {x y : List ℕ} {b : Bool} {l : Logical} → IsBasic x y b l → IsAnd x y (b && true) l
basic_and h = some_basic h and_ends

-- an expression that some text spells
abbrev Said : List ℕ → List ℕ → Logical → Type 0
Said x y l = (bare : Bool) × IsLogical x y bare l

group_said : (text y : List ℕ) (l : Logical) → Said (text ++ 41 ∷ y) (41 ∷ y) l → IsBasic (in_parentheses text ++ y) y false l
group_said text y l h = together (λ t. IsBasic (40 ∷ t) y false l) text (41 ∷ []) y (parens no_negation (none _) h.1 (none _))

not_said : (text y : List ℕ) (l : Logical) → Said (text ++ 41 ∷ y) (41 ∷ y) l → IsBasic (33 ∷ (in_parentheses text ++ y)) y false (negated l)
not_said text y l h = together (λ t. IsBasic (33 ∷ 40 ∷ t) y false (negated l)) text (41 ∷ []) y (parens (negation (none _)) (none _) h.1 (none _))

-- ---- queries

mutual
  segments_said : (ss : Segments) (y : List ℕ) → CanBeSegments ss → IsSegments (segments_text ss ++ y) y ss
  segments_said no_segments y h = segments_end
  segments_said (segment s ss) y h =
      together (λ l. IsSegments l y (segment s ss)) (segment_text s) (segments_text ss) y (segments_go_on (none _) (segment_said s (segments_text ss ++ y) h.0) (segments_said ss y h.1))

  segment_said : (s : Segment) (y : List ℕ) → CanBeSegment s → IsSegment (segment_text s ++ y) y s
  segment_said (child_segment ss) y h = child_brackets (brackets_said ss y h)
  segment_said (descendant_segment ss) y h = descendant_brackets (brackets_said ss y h)

  brackets_said : (ss : Selectors) (y : List ℕ) → CanBeSelectors ss → IsBrackets (in_brackets (selectors_text ss) ++ y) y ss
  brackets_said no_selectors y h = absurd h
  brackets_said (selector s ss) y h =
      together (λ l. IsBrackets (91 ∷ l) y (selector s ss)) (selector_text s ++ more_selectors_text ss) (93 ∷ []) y
      (together (λ l. IsBrackets (91 ∷ l) y (selector s ss)) (selector_text s) (more_selectors_text ss) (93 ∷ y)
      (brackets (none _) (selector_said s (more_selectors_text ss ++ 93 ∷ y) h.0) (selectors_said ss (93 ∷ y) h.1) (none _)))

  selectors_said : (ss : Selectors) (y : List ℕ) → CanBeMoreSelectors ss → IsMoreSelectors (more_selectors_text ss ++ y) y ss
  selectors_said no_selectors y h = selectors_end
  selectors_said (selector s ss) y h =
      together (λ l. IsMoreSelectors (44 ∷ l) y (selector s ss)) (selector_text s) (more_selectors_text ss) y
      (selectors_go_on (none _) (none _) (selector_said s (more_selectors_text ss ++ y) h.0) (selectors_said ss y h.1))

  selector_said : (s : Selector) (y : List ℕ) → CanBeSelector s → IsSelector (selector_text s ++ y) y s
  selector_said (name_selector x) y h = quoted_name (string_said x y)
  selector_said wildcard_selector y h = wildcard_mark
  selector_said (index_selector i) y h = index_int (int_spelled i y)
  selector_said (slice_selector first last step) y h =
      together (λ l. IsSelector l y (slice_selector first last step)) (bound_text first) (58 ∷ (bound_text last ++ step_text step)) y
      (together (λ l. IsSelector (bound_text first ++ 58 ∷ l) y (slice_selector first last step)) (bound_text last) (step_text step) y
      (slice_parts (bound_said first _) (none _) (bound_said last (step_text step ++ y)) (step_said step y)))
  selector_said (filter_selector l) y h = filter_mark (none _) (logical_said l y h).1

  logical_said : (l : Logical) (y : List ℕ) → CanBeLogical l → Said (logical_text l ++ y) y l
  logical_said (or_all (logical l (logical m ls))) y h = (
    false,
    together (λ t. IsLogical t y false (or_all (logical l (logical m ls)))) (in_parentheses (logical_text l)) (more_logicals_text (codes "||") (logical m ls)) y
        (some_and (basic_and (group_said (logical_text l) _ l (logical_said l _ h.1.0))) (or_said (logical m ls) y h.1.1)),
  )
  logical_said (and_all (logical l (logical m ls))) y h = (
    false,
    together (λ t. IsLogical t y false (and_all (logical l (logical m ls)))) (in_parentheses (logical_text l)) (more_logicals_text (codes "&&") (logical m ls)) y
        (some_and (some_basic (group_said (logical_text l) _ l (logical_said l _ h.1.0)) (and_said (logical m ls) y h.1.1)) or_ends),
  )
  logical_said (or_all ls) y h = absurd h.0
  logical_said (and_all ls) y h = absurd h.0
  logical_said (negated l) y h = (false, alone (not_said (logical_text l) y l (logical_said l (41 ∷ y) h)))
  logical_said (compare a op b) y h = (
    false,
    together (λ t. IsLogical t y false (compare a op b)) (comparable_text a) (op_text op ++ comparable_text b) y
        (together (λ t. IsLogical (comparable_text a ++ t) y false (compare a op b)) (op_text op) (comparable_text b) y
        (alone (comparison (comparable_said a _ h.0) (none _) (op_said op _) (none _) (comparable_said b y h.1)))),
  )
  logical_said (exists p) y h = (true, alone (query_test no_negation (filter_query_said p y h)))
  logical_said (test c) y h = (true, alone (call_test no_negation (call_said c y h)))

  or_said : (ls : Logicals) (y : List ℕ) → CanBeLogicals ls → IsMoreOr (more_logicals_text (codes "||") ls ++ y) y ls
  or_said no_logicals y h = or_ends
  or_said (logical l ls) y h =
      together (λ t. IsMoreOr (124 ∷ 124 ∷ t) y (logical l ls)) (in_parentheses (logical_text l)) (more_logicals_text (codes "||") ls) y
      (or_goes_on (none _) (none _) (basic_and (group_said (logical_text l) _ l (logical_said l _ h.0))) (or_said ls y h.1))

  and_said : (ls : Logicals) (y : List ℕ) → CanBeLogicals ls → IsMoreAnd (more_logicals_text (codes "&&") ls ++ y) y ls
  and_said no_logicals y h = and_ends
  and_said (logical l ls) y h =
      together (λ t. IsMoreAnd (38 ∷ 38 ∷ t) y (logical l ls)) (in_parentheses (logical_text l)) (more_logicals_text (codes "&&") ls) y
      (and_goes_on (none _) (none _) (group_said (logical_text l) _ l (logical_said l _ h.0)) (and_said ls y h.1))

  comparable_said : (c : Comparable) (y : List ℕ) → CanBeComparable c → IsComparable (comparable_text c ++ y) y c
  comparable_said (constant c) y h = literal_side (literal_said c y h)
  comparable_said (single (path o ss)) y h =
      together (λ l. IsComparable l y (single (path o ss))) (origin_text o) (segments_text ss) y (singular_side (origin_said o _) (singular_said ss y h))
  comparable_said (result c) y h = call_side (call_said c y h)

  filter_query_said : (p : Path) (y : List ℕ) → CanBeFilterQuery p → IsQuery (filter_query_text p ++ y) y p
  filter_query_said (path o ss) y h = together (λ l. IsQuery l y (path o ss)) (origin_text o) (segments_text ss) y (filter_query (origin_said o _) (segments_said ss y h))

  call_said : (c : Call) (y : List ℕ) → CanBeCall c → IsCall (call_text c ++ y) y c
  call_said (call f no_arguments) y h = together (λ l. IsCall l y (call f no_arguments)) f (in_parentheses []) y (call_without (function_said f _ h.0) (none _))
  call_said (call f (argument a args)) y h =
      together (λ l. IsCall l y (call f (argument a args))) f (in_parentheses (argument_text a ++ more_arguments_text args)) y
      (together (λ l. IsCall (f ++ 40 ∷ l) y (call f (argument a args))) (argument_text a ++ more_arguments_text args) (41 ∷ []) y
      (together (λ l. IsCall (f ++ 40 ∷ l) y (call f (argument a args))) (argument_text a) (more_arguments_text args) (41 ∷ y)
      (call_with (function_said f _ h.0) (none _) (argument_said a (more_arguments_text args ++ 41 ∷ y) h.1.0) (arguments_said args (41 ∷ y) h.1.1) (none _))))

  arguments_said : (args : Arguments) (y : List ℕ) → CanBeArguments args → IsMoreArguments (more_arguments_text args ++ y) y args
  arguments_said no_arguments y h = arguments_end
  arguments_said (argument a args) y h =
      together (λ l. IsMoreArguments (44 ∷ l) y (argument a args)) (argument_text a) (more_arguments_text args) y
      (arguments_go_on (none _) (none _) (argument_said a (more_arguments_text args ++ y) h.0) (arguments_said args y h.1))

  argument_said : (a : Argument) (y : List ℕ) → CanBeArgument a → IsArgument (argument_text a ++ y) y a
  argument_said (constant_argument c) y h = literal_argument (literal_said c y h)
  argument_said (nodes_argument p) y h = query_argument (filter_query_said p y h)
  argument_said (condition l) y h = logical_argument (alone (group_said (logical_text l) y l (logical_said l (41 ∷ y) h)))
  argument_said (result_argument c) y h = call_argument (call_said c y h)

pub query_said : (q : Segments) → CanBeSegments q → SpellsQuery (query_text q) q
query_said q h = query (subst (λ l. IsSegments l [] q) (append-nil (segments_text q)) (segments_said q [] h))

pub query_bytes : (q : Segments) → CanBeSegments q → all_scalars (query_text q) ≡ true → TextSpells (encode_utf8_all (query_text q)) q
query_bytes q h sound = ((query_text q, (sound, refl)), subst (λ x. SpellsQuery x q) (sym (chars-encodes (query_text q) sound)) (query_said q h))
