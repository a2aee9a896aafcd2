-- One step of reading an expression at a time, where what is read stands there.
use Rattle.std.proofs.Common.{◌≡◌, ◌∙◌, ℕ, ℤ, List, [], ◌∷◌, length, Bool, true, false, ◌&&◌, ◌||◌, ◌==◌, Option, Some, None, refl, sym, ap, subst, ⊎_elim, ◌⊎◌, inl, inr}
use Rattle.std.proofs.lemmas.Bool.{eqb-true, or_left, or_right, or_cases}
use Rattle.jp_model.specs.Characters.{is_lower}
use Rattle.jp_model.specs.Query.Spelling.{Blanks, IsLiteral, IsOp, equal_op, not_equal_op, less_equal_op, greater_equal_op, less_op, greater_op, IsOrigin, at_mark, dollar_mark, SingularSegments, Negation, no_negation, negation, or_of, and_of, negated_if, is_alone}
use Rattle.jp_model.specs.Query.Syntax.{CompareOp, Origin, Literal, Segments, Logical, negated, compare, exists, test, Comparable, constant, single, result, Argument, constant_argument, no_arguments, path, Call, call}
use Rattle.jp_syntax.specs.View.{logicals_of, arguments_of}
use Rattle.jp_query.specs.Integers.{map_ints}
use Rattle.jp_query.specs.Reading.Scalars.{Reader, skip_blanks, many, call_start}
use Rattle.jp_query.specs.Reading.Numbers.{is_int_first}
use Rattle.jp_query.specs.Reading.Literals.{is_any_quote, literal_at, operator_at, origin_at, begins_without_literal}
use Rattle.jp_query.specs.Reading.Queries.{singular_at, Expression, argument_of, segments_at, closed_at, condition_at, argument_at, next_argument, arguments_at, call_behind, comparable_at, comparison_behind, query_behind, call_or_comparison, literal_comparison, test_at, negated_at, plain_at, basic_at, next_basic, and_at, next_and, or_at}
use Rattle.jp_query.proofs.LawTools.{some_same, skipped}
use Rattle.jp_query.proofs.SoundLeaves.{operator_sound}
use Rattle.jp_query.proofs.SoundTrees.{singular_sound}
use Rattle.jp_query.proofs.Follows.{head, next, ends_arguments, ends_logical, ends_and, ends_basic, ends_path, basic_class, white_class, not_white, in_front, blanks_skip, skip_stays, next_is, apart, not_there}
use Rattle.jp_query.proofs.LeafReads.{many_stops, no_origin, operator_reads, is_op_first, op_first}
use Rattle.jp_query.proofs.LiteralReads.{is_literal_first, literal_first, literal_reads, literal_no_call}
use Rattle.jp_query.proofs.TreeSteps.{singular_reads, singular_there, singular_as_segments}

-- what a side of a comparison begins with, and what a basic-expr begins with
abbrev pub is_side_first : ℕ → Bool
is_side_first c = is_any_quote c || is_int_first c || is_lower c || c == 64 || c == 36

abbrev pub is_basic_first : ℕ → Bool
is_basic_first c = is_side_first c || c == 33 || c == 40

pub literal_side_first : (c : ℕ) → is_literal_first c ≡ true → is_side_first c ≡ true
literal_side_first c h = ⊎_elim
    (λ h. ⊎_elim
    (λ h. ⊎_elim
    (λ h. or_left _ _ (or_left _ _ (or_left _ _ h)))
    (λ e. subst (λ d. is_side_first d ≡ true) (sym (eqb-true c 116 e)) refl)
    (or_cases (is_any_quote c || is_int_first c) (c == 116) h))
    (λ e. subst (λ d. is_side_first d ≡ true) (sym (eqb-true c 102 e)) refl)
    (or_cases (is_any_quote c || is_int_first c || c == 116) (c == 102) h))
    (λ e. subst (λ d. is_side_first d ≡ true) (sym (eqb-true c 110 e)) refl)
    (or_cases (is_any_quote c || is_int_first c || c == 116 || c == 102) (c == 110) h)

pub lower_side_first : (c : ℕ) → is_lower c ≡ true → is_side_first c ≡ true
lower_side_first c h = or_left _ _ (or_left _ _ (or_right (is_any_quote c || is_int_first c) _ h))

pub origin_side_first : {x y : List ℕ} {o : Origin} → IsOrigin x y o → is_side_first (head x) ≡ true
origin_side_first at_mark = refl
origin_side_first dollar_mark = refl

pub side_basic_first : (c : ℕ) → is_side_first c ≡ true → is_basic_first c ≡ true
side_basic_first c h = or_left _ _ (or_left _ _ h)

pub basic_stays : (x : List ℕ) → is_basic_first (head x) ≡ true → skip_blanks x ≡ x
basic_stays x h = skip_stays x (not_white is_basic_first refl refl refl refl (head x) h)

pub side_stays : (x : List ℕ) → is_side_first (head x) ≡ true → skip_blanks x ≡ x
side_stays x h = basic_stays x (side_basic_first (head x) h)

-- ---- operators

op_stays : {x y : List ℕ} {op : CompareOp} → IsOp x y op → skip_blanks x ≡ x
op_stays equal_op = refl
op_stays not_equal_op = refl
op_stays less_equal_op = refl
op_stays greater_equal_op = refl
op_stays less_op = refl
op_stays greater_op = refl

op_path : {x y : List ℕ} {op : CompareOp} → IsOp x y op → ends_path (next x) ≡ true
op_path equal_op = refl
op_path not_equal_op = refl
op_path less_equal_op = refl
op_path greater_equal_op = refl
op_path less_op = refl
op_path greater_op = refl

pub op_follows : {x y z : List ℕ} {op : CompareOp} → Blanks x y → IsOp y z op → ends_path (next x) ≡ true
op_follows b o = next_is ends_path b (op_path o)

-- an operator after blanks, with a side of a comparison after it
pub op_there : {y z w v : List ℕ} {op : CompareOp} → Blanks y z → IsOp z w op → Blanks w v → is_side_first (head v) ≡ true → operator_at (skip_blanks y) ≡ Some (op, w)
op_there {y} {z} {w} {v} b o c h =
    let same : next w ≡ head v = ap head (blanks_skip c ∙ side_stays v h) in
    let apart_61 : (head v == 61) ≡ false = apart is_side_first 61 (head v) h refl in
    let none : (head w == 61) ≡ false = in_front (λ d. (d == 61) ≡ false) w (white_class (λ d. (d == 61) ≡ false) refl refl refl refl (head w)) (subst (λ d. (d == 61) ≡ false) (sym same) apart_61) in
    rw (blanks_skip b, op_stays o) (operator_reads o none)

pub no_operator : (x : List ℕ) → ends_basic (next x) ≡ true → operator_at (skip_blanks x) ≡ None
unfolding operator_at
no_operator x h = rw (not_there ends_basic 61 (skip_blanks x) h refl, not_there ends_basic 33 (skip_blanks x) h refl, not_there ends_basic 60 (skip_blanks x) h refl, not_there ends_basic 62 (skip_blanks x) h refl) refl

literal_no_origin : {x y : List ℕ} {c : Literal} → IsLiteral x y c → origin_at x ≡ None
literal_no_origin {x} l = no_origin x (apart is_literal_first 64 (head x) (literal_first l) refl) (apart is_literal_first 36 (head x) (literal_first l) refl)

lower_no_origin : (x : List ℕ) → is_lower (head x) ≡ true → origin_at x ≡ None
lower_no_origin x h = no_origin x (apart is_lower 64 (head x) h refl) (apart is_lower 36 (head x) h refl)

pub basic_logical : (c : ℕ) → ends_logical c ≡ true → ends_basic c ≡ true
basic_logical c h = or_left _ _ (or_left _ _ h)

pub path_basic : (c : ℕ) → ends_basic c ≡ true → ends_path c ≡ true
path_basic c h = or_left _ _ (or_left _ _ (or_left _ _ (or_left _ _ h)))

module _ (of_int : ℤ → ℤ) (nested : Reader Expression) where
  -- ---- arguments and calls

  pub literal_argument_reads : {x y : List ℕ} {c : Literal} → IsLiteral x y c → ends_logical (next y) ≡ true → argument_at of_int nested x ≡ Some (constant_argument c, y)
  unfolding argument_at begins_without_literal
  literal_argument_reads {x} {y} l h =
      let first = literal_first l in
      let follows = path_basic (next y) (basic_logical (next y) h) in
      rw (not_there is_literal_first 33 x first refl, not_there is_literal_first 40 x first refl, literal_no_origin l, literal_no_call l follows, literal_reads l follows, no_operator y (basic_logical (next y) h)) refl

  -- an expression begins with no literal, or with one that an operator follows
  abbrev pub StartsExpression : List ℕ → Type 0
  StartsExpression x = (begins_without_literal x ≡ true) ⊎ ((c : Literal) × (y : List ℕ) × (o : CompareOp × List ℕ) × (literal_at x ≡ Some (c, y)) × (operator_at (skip_blanks y) ≡ Some o))

  pub expression_argument : (x y : List ℕ) (e : Expression) → StartsExpression x → nested x ≡ Some (e, y) → argument_at of_int nested x ≡ Some (argument_of e, y)
  unfolding argument_at condition_at
  expression_argument x y e (inl s) h = rw (s, h) refl
  expression_argument x y e (inr s) h = step (begins_without_literal x) refl
    where
      step : (t : Bool) → begins_without_literal x ≡ t → argument_at of_int nested x ≡ Some (argument_of e, y)
      step true f = rw (f, h) refl
      step false f = rw (f, s.3, s.4, h) refl

  pub next_argument_reads : {x y z w : List ℕ} {a : Argument} → Blanks x (44 ∷ y) → Blanks y z → skip_blanks z ≡ z → argument_at of_int nested z ≡ Some (a, w) → next_argument of_int nested x ≡ Some (Some (a, w))
  unfolding next_argument
  next_argument_reads b c e h = rw (blanks_skip b, blanks_skip c, e, h) refl

  pub no_argument : (x : List ℕ) → ends_arguments (next x) ≡ true → next_argument of_int nested x ≡ Some None
  unfolding next_argument
  no_argument x h = rw (not_there ends_arguments 44 (skip_blanks x) h refl) refl

  pub call_without_reads : (f : List ℕ) {y z : List ℕ} → Blanks y (41 ∷ z) → call_behind of_int nested f y ≡ Some (call f no_arguments, z)
  unfolding call_behind
  call_without_reads f b = rw (blanks_skip b) refl

  pub call_with_reads : (f : List ℕ) {y z w v u : List ℕ} {a : Argument} {others : List Argument} → Blanks y z → is_basic_first (head z) ≡ true → argument_at of_int nested z ≡ Some (a, w) → many (next_argument of_int nested) (length w) w ≡ Some (others, v) → Blanks v (41 ∷ u) → call_behind of_int nested f y ≡ Some (call f (arguments_of (a ∷ others)), u)
  unfolding call_behind arguments_at
  call_with_reads f {y} {z} b s h g c = rw (blanks_skip b, basic_stays z s, not_there is_basic_first 41 z s refl, h, g, blanks_skip c) refl

  -- ---- sides of a comparison

  pub literal_side_reads : {x y : List ℕ} {c : Literal} → IsLiteral x y c → ends_path (next y) ≡ true → comparable_at of_int nested x ≡ Some (constant c, y)
  unfolding comparable_at
  literal_side_reads l h = rw (literal_no_origin l, literal_no_call l h, literal_reads l h) refl

  pub singular_side_reads : {x y z : List ℕ} {o : Origin} {ss : Segments} → IsOrigin x y o → SingularSegments y z ss → ends_path (next z) ≡ true → comparable_at of_int nested x ≡ Some (single (path o (map_ints of_int ss)), z)
  unfolding comparable_at origin_at
  singular_side_reads at_mark ss h = rw (singular_reads of_int ss h) refl
  singular_side_reads dollar_mark ss h = rw (singular_reads of_int ss h) refl

  pub call_side_reads : (x f y z : List ℕ) (c : Call) → is_lower (head x) ≡ true → call_start x ≡ Some (f, y) → call_behind of_int nested f y ≡ Some (c, z) → comparable_at of_int nested x ≡ Some (result c, z)
  unfolding comparable_at
  call_side_reads x f y z c l s h = rw (lower_no_origin x l, s, h) refl

  pub comparison_behind_reads : (left right : Comparable) (op : CompareOp) {w v u : List ℕ} → Blanks w v → is_side_first (head v) ≡ true → comparable_at of_int nested v ≡ Some (right, u) → comparison_behind of_int nested left op w ≡ Some ((false, compare left op right), u)
  unfolding comparison_behind
  comparison_behind_reads left right op {w} {v} b s h = rw (blanks_skip b, side_stays v s, h) refl

  -- ---- basic expressions

  pub literal_left : (op : CompareOp) (w : List ℕ) (e : Expression × List ℕ) {x y : List ℕ} {c : Literal} → IsLiteral x y c → ends_path (next y) ≡ true → operator_at (skip_blanks y) ≡ Some (op, w) → comparison_behind of_int nested (constant c) op w ≡ Some e → basic_at of_int nested x ≡ Some e
  unfolding basic_at plain_at literal_comparison
  literal_left op w e {x} l h o g =
      let first = literal_first l in
      rw (not_there is_literal_first 33 x first refl, not_there is_literal_first 40 x first refl, literal_no_origin l, literal_no_call l h, literal_reads l h, o) g

  pub singular_left : (op : CompareOp) (w : List ℕ) (e : Expression × List ℕ) {x y z : List ℕ} {m : Origin} {ss : Segments} → IsOrigin x y m → SingularSegments y z ss → ends_path (next z) ≡ true → operator_at (skip_blanks z) ≡ Some (op, w) → comparison_behind of_int nested (single (path m (map_ints of_int ss))) op w ≡ Some e → basic_at of_int nested x ≡ Some e
  unfolding basic_at plain_at origin_at query_behind
  singular_left op w e at_mark ss h o g = rw (singular_reads of_int ss h, o) g
  singular_left op w e dollar_mark ss h o g = rw (singular_reads of_int ss h, o) g

  pub call_left : (op : CompareOp) (w : List ℕ) (e : Expression × List ℕ) (x f y z : List ℕ) (c : Call) → is_lower (head x) ≡ true → call_start x ≡ Some (f, y) → call_behind of_int nested f y ≡ Some (c, z) → operator_at (skip_blanks z) ≡ Some (op, w) → comparison_behind of_int nested (result c) op w ≡ Some e → basic_at of_int nested x ≡ Some e
  unfolding basic_at plain_at call_or_comparison
  call_left op w e x f y z c l s h o g = rw (not_there is_lower 33 x l refl, not_there is_lower 40 x l refl, lower_no_origin x l, s, h, o) g

  -- a query that is read up to where no operator follows is no side of a comparison
  query_alone : (m : Origin) (x y : List ℕ) (ss : Segments) → segments_at of_int nested x ≡ Some (ss, y) → ends_basic (next y) ≡ true → query_behind of_int nested m x ≡ Some ((true, exists (path m ss)), y)
  unfolding query_behind
  query_alone m x y ss h e = step (singular_there of_int x).0 (singular_there of_int x).1
    where
      clash : (s : Segments × List ℕ) (o : CompareOp × List ℕ) → singular_at of_int x ≡ Some s → operator_at (skip_blanks s.1) ≡ Some o → ⊥
      clash s o f g =
          let here = singular_sound of_int x s f in
          let mark = operator_sound (skip_blanks s.1) o g in
          let follows : ends_path (next s.1) ≡ true = op_follows (skipped s.1) mark in
          let read = singular_as_segments of_int nested here.1 follows in
          let same : y ≡ s.1 = ap (λ (p : Segments × List ℕ). p.1) (some_same (ss, y) (map_ints of_int here.0, s.1) (sym h ∙ read)) in
          let none : is_op_first (next y) ≡ false = basic_class (λ c. is_op_first c ≡ false) refl refl refl refl refl refl (next y) e in
          let some : is_op_first (next y) ≡ true = subst (λ z. is_op_first (next z) ≡ true) (sym same) (op_first mark) in
          absurd (cc)

      behind : (s : Segments × List ℕ) (o : Option (CompareOp × List ℕ)) → singular_at of_int x ≡ Some s → operator_at (skip_blanks s.1) ≡ o → query_behind of_int nested m x ≡ Some ((true, exists (path m ss)), y)
      behind s None f g = rw (f, g, h) refl
      behind s (Some o) f g = absurd (clash s o f g)

      step : (s : Segments × List ℕ) → singular_at of_int x ≡ Some s → query_behind of_int nested m x ≡ Some ((true, exists (path m ss)), y)
      step s f = behind s (operator_at (skip_blanks s.1)) f refl

  pub query_test_reads : {x y z : List ℕ} {m : Origin} {ss : Segments} → IsOrigin x y m → segments_at of_int nested y ≡ Some (ss, z) → ends_basic (next z) ≡ true → basic_at of_int nested x ≡ Some ((true, exists (path m ss)), z)
  unfolding basic_at plain_at origin_at
  query_test_reads {x} {y} {z} {m} {ss} at_mark h e = query_alone m y z ss h e
  query_test_reads {x} {y} {z} {m} {ss} dollar_mark h e = query_alone m y z ss h e

  pub negated_query_reads : {w x y z : List ℕ} {m : Origin} {ss : Segments} → Blanks w x → IsOrigin x y m → segments_at of_int nested y ≡ Some (ss, z) → basic_at of_int nested (33 ∷ w) ≡ Some ((false, negated (exists (path m ss))), z)
  unfolding basic_at negated_at test_at origin_at
  negated_query_reads b at_mark h = rw (blanks_skip b, h) refl
  negated_query_reads b dollar_mark h = rw (blanks_skip b, h) refl

  pub call_test_reads : (x f y z : List ℕ) (c : Call) → is_lower (head x) ≡ true → call_start x ≡ Some (f, y) → call_behind of_int nested f y ≡ Some (c, z) → ends_basic (next z) ≡ true → basic_at of_int nested x ≡ Some ((true, test c), z)
  unfolding basic_at plain_at call_or_comparison
  call_test_reads x f y z c l s h e = rw (not_there is_lower 33 x l refl, not_there is_lower 40 x l refl, lower_no_origin x l, s, h, no_operator z e) refl

  pub negated_call_reads : {w : List ℕ} (x f y z : List ℕ) (c : Call) → Blanks w x → is_lower (head x) ≡ true → call_start x ≡ Some (f, y) → call_behind of_int nested f y ≡ Some (c, z) → basic_at of_int nested (33 ∷ w) ≡ Some ((false, negated (test c)), z)
  unfolding basic_at negated_at test_at
  negated_call_reads x f y z c b l s h = rw (blanks_skip b, side_stays x (lower_side_first (head x) l), not_there is_lower 40 x l refl, lower_no_origin x l, s, h) refl

  pub parens_read : {x y z w v : List ℕ} {b : Bool} {e : Expression} → Negation x (40 ∷ y) b → Blanks y z → skip_blanks z ≡ z → nested z ≡ Some (e, w) → Blanks w (41 ∷ v) → basic_at of_int nested x ≡ Some ((false, negated_if b e.1), v)
  unfolding basic_at plain_at negated_at closed_at
  parens_read no_negation b e h c = rw (blanks_skip b, e, h, blanks_skip c) refl
  parens_read (negation n) b e h c = rw (blanks_skip n, blanks_skip b, e, h, blanks_skip c) refl

  -- ---- several of them

  pub next_basic_reads : {x y z w : List ℕ} {e : Expression} → Blanks x (38 ∷ 38 ∷ y) → Blanks y z → skip_blanks z ≡ z → basic_at of_int nested z ≡ Some (e, w) → next_basic of_int nested x ≡ Some (Some (e.1, w))
  unfolding next_basic
  next_basic_reads b c e h = rw (blanks_skip b, blanks_skip c, e, h) refl

  pub no_basic : (x : List ℕ) → ends_and (next x) ≡ true → next_basic of_int nested x ≡ Some None
  unfolding next_basic
  no_basic x h = rw (not_there ends_and 38 (skip_blanks x) h refl) refl

  pub next_and_reads : {x y z w : List ℕ} {e : Expression} → Blanks x (124 ∷ 124 ∷ y) → Blanks y z → skip_blanks z ≡ z → and_at of_int nested z ≡ Some (e, w) → next_and of_int nested x ≡ Some (Some (e.1, w))
  unfolding next_and
  next_and_reads b c e h = rw (blanks_skip b, blanks_skip c, e, h) refl

  pub no_and : (x : List ℕ) → ends_logical (next x) ≡ true → next_and of_int nested x ≡ Some None
  unfolding next_and
  no_and x h = rw (not_there ends_logical 124 (skip_blanks x) h refl) refl

  pub and_reads : (x y z : List ℕ) (e : Expression) (ls : List Logical) → basic_at of_int nested x ≡ Some (e, y) → many (next_basic of_int nested) (length y) y ≡ Some (ls, z) → and_at of_int nested x ≡ Some ((e.0 && is_alone (logicals_of ls), and_of e.1 (logicals_of ls)), z)
  unfolding and_at
  and_reads x y z e ls h g = rw (h, g) refl

  pub or_reads : (x y z : List ℕ) (e : Expression) (ls : List Logical) → and_at of_int nested x ≡ Some (e, y) → many (next_and of_int nested) (length y) y ≡ Some (ls, z) → or_at of_int nested x ≡ Some ((e.0 && is_alone (logicals_of ls), or_of e.1 (logicals_of ls)), z)
  unfolding or_at
  or_reads x y z e ls h g = rw (h, g) refl

  -- a basic-expr alone
  pub alone_reads : (x y : List ℕ) (l : Logical) → basic_at of_int nested x ≡ Some ((true, l), y) → ends_logical (next y) ≡ true → or_at of_int nested x ≡ Some ((true, l), y)
  alone_reads x y l h e =
      let none = many_stops (next_basic of_int nested) (length y) y (no_basic y (or_left _ _ e)) in
      let here = and_reads x y y (true, l) [] h none in
      or_reads x y y (true, l) [] here (many_stops (next_and of_int nested) (length y) y (no_and y e))
