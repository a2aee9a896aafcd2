-- What is read of a query is spelled so.
use Rattle.std.proofs.Common.{◌≡◌, ◌∙◌, ℕ, ℤ, zero, suc, List, [], ◌∷◌, length, Bool, true, false, not, ◌&&◌, Option, Some, None, refl, sym, ap, ap₂, subst, subst₂, ⊎_elim, ◌⊎◌, inl, inr}
use Rattle.std.proofs.lemmas.Bool.{and_parts}
use Rattle.jp_model.specs.Query.Spelling as s
use Rattle.jp_model.specs.Query.Spelling.{Blanks, Int, Bound, StepPart, SingularSegment, SingularSegments, Negation, no_negation, negation, IsOrigin, IsSegments, IsSegment, IsBrackets, IsMoreSelectors, IsSelector, IsLogical, some_and, IsMoreOr, or_ends, or_goes_on, IsAnd, some_basic, IsMoreAnd, and_ends, and_goes_on, IsBasic, parens, comparison, query_test, call_test, IsQuery, IsComparable, IsCall, IsMoreArguments, IsArgument, SpellsQuery, or_of, and_of, negated_if, is_alone}
use Rattle.jp_model.specs.Query.Syntax as syntax
use Rattle.jp_model.specs.Query.Syntax.{CompareOp, Origin, Segment, child_segment, descendant_segment, Segments, Selector, name_selector, wildcard_selector, index_selector, slice_selector, filter_selector, Selectors, selector, Logical, exists, compare, test, Logicals, Comparable, constant, single, result, Argument, constant_argument, nodes_argument, condition, result_argument, argument, Path, path, Call, call}
use Rattle.jp_syntax.specs.View.{segments_of, selectors_of, logicals_of, arguments_of}
use Rattle.jp_query.specs.Integers.{bound_ints, map_ints, segment_ints, selectors_ints, selector_ints, logical_ints, logicals_ints, comparable_ints, call_ints, arguments_ints, argument_ints}
use Rattle.jp_query.specs.Reading.Scalars.{Reader, choose, after, after_blanks, skip_blanks, begins, many, shorthand, call_start}
use Rattle.jp_query.specs.Reading.Numbers.{int_at, is_int_first}
use Rattle.jp_query.specs.Reading.Strings.{string_at}
use Rattle.jp_query.specs.Reading.Literals.{literal_at, operator_at, origin_at, begins_without_literal}
use Rattle.jp_query.specs.Reading.Queries.{bound_at, step_at, slice_behind, index_or_slice, child_of_one, singular_behind, singular_segment, next_singular, singular_at, dotted, Expression, argument_of, selector_at, next_selector, brackets_at, descendant_at, next_segment, segments_at, closed_at, condition_at, argument_at, next_argument, arguments_at, call_behind, comparable_at, comparison_behind, query_behind, call_or_comparison, literal_comparison, test_at, negated_at, plain_at, behind_marks, joined_at, basic_at, next_basic, and_at, next_and, or_at, logical_at, whole, query_at}
use Rattle.jp_query.proofs.LawTools.{bind_some, chosen, decided, some_same, as_read, after_is, skipped, blank_then, no_blanks, many_sound, is_item_some}
use Rattle.jp_query.proofs.SoundLeaves.{shorthand_sound, start_sound, int_sound, string_sound, origin_sound, operator_sound}
use Rattle.jp_query.proofs.SoundLiterals.{literal_sound}

-- a tree that is spelled, with its integers as they are put into the tree
abbrev pub Spelt : {A : Type 0} → (A → Type 0) → (A → A) → A → Type 0
Spelt {A} P ints r = (a : A) × P a × (ints a ≡ r)

-- ---- the parts of a slice

-- no int, or one after blanks
abbrev BoundRead : (ℤ → ℤ) → List ℕ → List ℕ → Option ℤ → Type 0
BoundRead of_int x y b = ((b ≡ None) × (y ≡ x)) ⊎ ((i : ℤ) × (z : List ℕ) × Blanks x z × Int z y i × (Some (of_int i) ≡ b))

bound_sound : (of_int : ℤ → ℤ) (x : List ℕ) (r : Option ℤ × List ℕ) → bound_at of_int x ≡ Some r → BoundRead of_int x r.1 r.0
unfolding bound_at
bound_sound of_int x r h = ⊎_elim
    (λ a.
    let b = bind_some (int_at of_int (skip_blanks x)) _ r a.1 in
    let i = int_sound of_int (skip_blanks x) b.0 b.1 in
    as_read (BoundRead of_int x) _ r b.2 (inr (i.0, skip_blanks x, skipped x, i.1, ap Some i.2)))
    (λ a. as_read (BoundRead of_int x) _ r a.1 (inl (refl, refl)))
    (decided (begins is_int_first (skip_blanks x)) _ _ (Some r) h)

-- blanks, and then a step part
abbrev StepRead : (ℤ → ℤ) → List ℕ → List ℕ → Option ℤ → Type 0
StepRead of_int x y b = (a : Option ℤ) × (z : List ℕ) × Blanks x z × StepPart z y a × (bound_ints of_int a ≡ b)

step_sound : (of_int : ℤ → ℤ) (x : List ℕ) (r : Option ℤ × List ℕ) → step_at of_int x ≡ Some r → StepRead of_int x r.1 r.0
unfolding step_at
step_sound of_int x r h = ⊎_elim
    (λ a. ⊎_elim
    (λ b. (None, 58 ∷ a.0, blank_then 58 x a.0 a.1, subst (λ z. StepPart (58 ∷ a.0) z None) (sym b.1) s.colon_alone, sym b.0))
    (λ b. (Some b.0, 58 ∷ a.0, blank_then 58 x a.0 a.1, s.step_part b.2 b.3, b.4))
    (bound_sound of_int a.0 r a.2))
    (λ a. as_read (StepRead of_int x) _ r a.1 (None, x, no_blanks x, s.no_step_part, refl))
    (chosen (after_blanks 58 x) _ _ (Some r) h)

-- what stands after the first colon of a slice
abbrev SliceRead : (ℤ → ℤ) → Option ℤ → List ℕ → List ℕ → Selector → Type 0
SliceRead of_int first x y a = (last step : Option ℤ) × (z w : List ℕ) × Blanks x z × Bound z w last × StepPart w y step × (slice_selector first (bound_ints of_int last) (bound_ints of_int step) ≡ a)

slice_sound : (of_int : ℤ → ℤ) (first : Option ℤ) (x : List ℕ) (r : Selector × List ℕ) → slice_behind of_int first x ≡ Some r → SliceRead of_int first x r.1 r.0
unfolding slice_behind
slice_sound of_int first x r h =
    let a = bind_some (bound_at of_int x) _ r h in
    let b = bind_some (step_at of_int a.0.1) _ r a.2 in
    let t = step_sound of_int a.0.1 b.0 b.1 in
    as_read (SliceRead of_int first x) _ r b.2 (⊎_elim
    (λ e. (None, t.0, t.1, t.1, subst (λ w. Blanks w t.1) e.1 t.2, s.no_bound, t.3, ap₂ (λ u v. slice_selector first u v) (sym e.0) t.4))
    (λ e. (Some e.0, t.0, e.1, t.1, e.2, s.bound e.3 t.2, t.3, ap₂ (λ u v. slice_selector first u v) e.4 t.4))
    (bound_sound of_int x a.0 a.1))

abbrev SelectorRead : (ℤ → ℤ) → List ℕ → List ℕ → Selector → Type 0
SelectorRead of_int x y a = Spelt (IsSelector x y) (selector_ints of_int) a

index_or_slice_sound : (of_int : ℤ → ℤ) (x : List ℕ) (r : Selector × List ℕ) → index_or_slice of_int x ≡ Some r → SelectorRead of_int x r.1 r.0
unfolding index_or_slice
index_or_slice_sound of_int x r h =
    let a = bind_some (int_at of_int x) _ r h in
    let i = int_sound of_int x a.0 a.1 in
    ⊎_elim
    (λ b.
    let t = slice_sound of_int (Some a.0.0) b.0 r b.2 in
    (slice_selector (Some i.0) t.0 t.1, s.slice_parts (s.bound i.1 (blank_then 58 a.0.1 b.0 b.1)) t.4 t.5 t.6, ap (λ f. slice_selector (Some f) (bound_ints of_int t.0) (bound_ints of_int t.1)) i.2 ∙ t.7))
    (λ b. as_read (SelectorRead of_int x) _ r b.1 (index_selector i.0, s.index_int i.1, ap index_selector i.2))
    (chosen (after_blanks 58 a.0.1) _ _ (Some r) a.2)

-- ---- singular queries

abbrev SegmentRead : (ℤ → ℤ) → List ℕ → List ℕ → Segment → Type 0
SegmentRead of_int x y a = Spelt (SingularSegment x y) (segment_ints of_int) a

singular_behind_sound : (of_int : ℤ → ℤ) (x : List ℕ) (r : Segment × List ℕ) → singular_behind of_int x ≡ Some r → SegmentRead of_int (91 ∷ x) r.1 r.0
unfolding singular_behind
singular_behind_sound of_int x r h = ⊎_elim
    (λ a.
    let b = bind_some (int_at of_int x) _ r a.1 in
    let c = bind_some (after 93 b.0.1) _ r b.2 in
    let i = int_sound of_int x b.0 b.1 in
    as_read (SegmentRead of_int (91 ∷ x)) _ r c.2 (child_of_one (index_selector i.0), s.bracketed_index (subst (λ z. Int x z i.0) (after_is 93 b.0.1 c.0 c.1) i.1), ap (λ v. child_of_one (index_selector v)) i.2))
    (λ a.
    let b = bind_some (string_at x) _ r a.1 in
    let c = bind_some (after 93 b.0.1) _ r b.2 in
    as_read (SegmentRead of_int (91 ∷ x)) _ r c.2 (child_of_one (name_selector b.0.0), s.bracketed_name (subst (λ z. s.StringLiteral x z b.0.0) (after_is 93 b.0.1 c.0 c.1) (string_sound x b.0 b.1)), refl))
    (decided (begins is_int_first x) _ _ (Some r) h)

singular_segment_sound : (of_int : ℤ → ℤ) (x : List ℕ) (r : Segment × List ℕ) → singular_segment of_int x ≡ Some r → SegmentRead of_int x r.1 r.0
unfolding singular_segment
singular_segment_sound of_int x r h = ⊎_elim
    (λ a. subst (λ z. SegmentRead of_int z r.1 r.0) (sym (after_is 91 x a.0 a.1)) (singular_behind_sound of_int a.0 r a.2))
    (λ a.
    let b = bind_some (after 46 x) _ r a.1 in
    let c = bind_some (shorthand b.0) _ r b.2 in
    as_read (SegmentRead of_int x) _ r c.2 (subst (λ z. SegmentRead of_int z c.0.1 (child_of_one (name_selector c.0.0))) (sym (after_is 46 x b.0 b.1)) (child_of_one (name_selector c.0.0), s.pointed_name (shorthand_sound b.0 c.0 c.1), refl)))
    (chosen (after 91 x) _ _ (Some r) h)

abbrev SingularRead : (ℤ → ℤ) → List ℕ → List ℕ → Segments → Type 0
SingularRead of_int x y a = Spelt (SingularSegments x y) (map_ints of_int) a

pub singular_sound : (of_int : ℤ → ℤ) (x : List ℕ) (r : Segments × List ℕ) → singular_at of_int x ≡ Some r → SingularRead of_int x r.1 r.0
unfolding singular_at next_singular
singular_sound of_int x r h =
    let a = bind_some (many (next_singular of_int) (length x) x) _ r h in
    as_read (SingularRead of_int x) _ r a.2 (many_sound (next_singular of_int) (λ y z ss. SingularRead of_int y z (segments_of ss)) (λ y. (syntax.no_segments, s.singular_end, refl))
    (λ y z w b others e more.
    let one = singular_segment_sound of_int (skip_blanks y) (b, z) (some_same _ (Some (b, z)) e) in
    (syntax.segment one.0 more.0, s.singular_goes_on (skipped y) one.1 more.1, ap₂ syntax.segment one.2 more.2))
    (length x) x a.0 a.1)

-- ---- after one point, and after two

abbrev IsPointed : List ℕ → List ℕ → List Selector → Type 0
IsPointed x y q = (ss : Selectors) × IsSegment (46 ∷ x) y (child_segment ss) × IsSegment (46 ∷ 46 ∷ x) y (descendant_segment ss) × ((of_int : ℤ → ℤ) → selectors_ints of_int ss ≡ selectors_of q)

dotted_sound : (x : List ℕ) (r : List Selector × List ℕ) → dotted x ≡ Some r → IsPointed x r.1 r.0
unfolding dotted
dotted_sound x r h = ⊎_elim
    (λ a. as_read (IsPointed x) _ r a.2 (subst (λ z. IsPointed z a.0 (wildcard_selector ∷ [])) (sym (after_is 42 x a.0 a.1)) (selector wildcard_selector syntax.no_selectors, s.child_wildcard, s.descendant_wildcard, λ f. refl)))
    (λ a.
    let b = bind_some (shorthand x) _ r a.1 in
    as_read (IsPointed x) _ r b.2 (selector (name_selector b.0.0) syntax.no_selectors, s.child_name (shorthand_sound x b.0 b.1), s.descendant_name (shorthand_sound x b.0 b.1), λ f. refl))
    (chosen (after 42 x) _ _ (Some r) h)

-- ---- a query or a call alone

abbrev Alone : List ℕ → List ℕ → Logical → Type 0
Alone x y l = ((p : Path) × (l ≡ exists p) × IsQuery x y p) ⊎ ((c : Call) × (l ≡ test c) × IsCall x y c)

negation_alone : {x y : List ℕ} {b : Bool} → Negation x y b → not b ≡ true → (x ≡ y) × (b ≡ false)
negation_alone no_negation h = (refl, refl)
negation_alone (negation n) h = absurd (cc)

basic_alone : {x y : List ℕ} {b : Bool} {l : Logical} → IsBasic x y b l → b ≡ true → Alone x y l
basic_alone (parens n b l e) h = absurd (cc)
basic_alone (comparison a b o c d) h = absurd (cc)
basic_alone (query_test {x} {y} {z} {b} {p} n q) h = let e = negation_alone n h in inl (p, ap (λ t. negated_if t (exists p)) e.1, subst (λ w. IsQuery w z p) (sym e.0) q)
basic_alone (call_test {x} {y} {z} {b} {c} n q) h = let e = negation_alone n h in inr (c, ap (λ t. negated_if t (test c)) e.1, subst (λ w. IsCall w z c) (sym e.0) q)

and_none : {x y : List ℕ} {ls : Logicals} → IsMoreAnd x y ls → is_alone ls ≡ true → (x ≡ y) × (ls ≡ syntax.no_logicals)
and_none and_ends h = (refl, refl)
and_none (and_goes_on b c l more) h = absurd (cc)

or_none : {x y : List ℕ} {ls : Logicals} → IsMoreOr x y ls → is_alone ls ≡ true → (x ≡ y) × (ls ≡ syntax.no_logicals)
or_none or_ends h = (refl, refl)
or_none (or_goes_on b c l more) h = absurd (cc)

and_alone : {x y : List ℕ} {b : Bool} {l : Logical} → IsAnd x y b l → b ≡ true → Alone x y l
and_alone (some_basic {x} {y} {z} {bare} {l} {ls} a more) h =
    let p = and_parts bare (is_alone ls) h in
    let e = and_none more p.1 in
    subst₂ (λ w ms. Alone x w (and_of l ms)) e.0 (sym e.1) (basic_alone a p.0)

logical_alone : {x y : List ℕ} {b : Bool} {l : Logical} → IsLogical x y b l → b ≡ true → Alone x y l
logical_alone (some_and {x} {y} {z} {bare} {l} {ls} a more) h =
    let p = and_parts bare (is_alone ls) h in
    let e = or_none more p.1 in
    subst₂ (λ w ms. Alone x w (or_of l ms)) e.0 (sym e.1) (and_alone a p.0)

pub argument_not_bare : (l : Logical) → argument_of (false, l) ≡ condition l
argument_not_bare (syntax.or_all ls) = refl
argument_not_bare (syntax.and_all ls) = refl
argument_not_bare (syntax.negated l) = refl
argument_not_bare (syntax.compare a op b) = refl
argument_not_bare (exists p) = refl
argument_not_bare (test c) = refl

-- ---- the flag and the parts, with their integers

pub alone_ints : (of_int : ℤ → ℤ) (ls : Logicals) → is_alone (logicals_ints of_int ls) ≡ is_alone ls
alone_ints of_int syntax.no_logicals = refl
alone_ints of_int (syntax.logical l ls) = refl

pub and_of_ints : (of_int : ℤ → ℤ) (l : Logical) (ls : Logicals) → logical_ints of_int (and_of l ls) ≡ and_of (logical_ints of_int l) (logicals_ints of_int ls)
and_of_ints of_int l syntax.no_logicals = refl
and_of_ints of_int l (syntax.logical m ms) = refl

pub or_of_ints : (of_int : ℤ → ℤ) (l : Logical) (ls : Logicals) → logical_ints of_int (or_of l ls) ≡ or_of (logical_ints of_int l) (logicals_ints of_int ls)
or_of_ints of_int l syntax.no_logicals = refl
or_of_ints of_int l (syntax.logical m ms) = refl

pub negated_if_ints : (of_int : ℤ → ℤ) (b : Bool) (l : Logical) → logical_ints of_int (negated_if b l) ≡ negated_if b (logical_ints of_int l)
negated_if_ints of_int true l = refl
negated_if_ints of_int false l = refl

abbrev LogicalRead : (ℤ → ℤ) → List ℕ → List ℕ → Expression → Type 0
LogicalRead of_int x y e = Spelt (IsLogical x y e.0) (logical_ints of_int) e.1

abbrev AndRead : (ℤ → ℤ) → List ℕ → List ℕ → Expression → Type 0
AndRead of_int x y e = Spelt (IsAnd x y e.0) (logical_ints of_int) e.1

abbrev BasicRead : (ℤ → ℤ) → List ℕ → List ℕ → Expression → Type 0
BasicRead of_int x y e = Spelt (IsBasic x y e.0) (logical_ints of_int) e.1

abbrev ArgumentRead : (ℤ → ℤ) → List ℕ → List ℕ → Argument → Type 0
ArgumentRead of_int x y a = Spelt (IsArgument x y) (argument_ints of_int) a

abbrev CallRead : (ℤ → ℤ) → List ℕ → List ℕ → Call → Type 0
CallRead of_int x y a = Spelt (IsCall x y) (call_ints of_int) a

abbrev ComparableRead : (ℤ → ℤ) → List ℕ → List ℕ → Comparable → Type 0
ComparableRead of_int x y a = Spelt (IsComparable x y) (comparable_ints of_int) a

abbrev SegmentsRead : (ℤ → ℤ) → List ℕ → List ℕ → Segments → Type 0
SegmentsRead of_int x y a = Spelt (IsSegments x y) (map_ints of_int) a

-- as an argument
argument_from : (of_int : ℤ → ℤ) (x y : List ℕ) (b : Bool) (m : Logical) → LogicalRead of_int x y (b, m) → ArgumentRead of_int x y (argument_of (b, m))
argument_from of_int x y false m r = (condition r.0, s.logical_argument r.1, ap condition r.2 ∙ sym (argument_not_bare m))
argument_from of_int x y true m r = ⊎_elim
    (λ a. (nodes_argument a.0, s.query_argument a.2, ap (λ l. argument_of (true, logical_ints of_int l)) (sym a.1) ∙ ap (λ l. argument_of (true, l)) r.2))
    (λ a. (result_argument a.0, s.call_argument a.2, ap (λ l. argument_of (true, logical_ints of_int l)) (sym a.1) ∙ ap (λ l. argument_of (true, l)) r.2))
    (logical_alone r.1 refl)

-- a segment of some selectors
found_as : (of_int : ℤ → ℤ) (x y z : List ℕ) (a a' : Segment) → ◌≡◌ {A = Option (Option (Segment × List ℕ))} (Some (Some (a', z))) (Some (Some (a, y))) → Spelt (IsSegment x z) (segment_ints of_int) a' → Spelt (IsSegment x y) (segment_ints of_int) a
found_as of_int x y z a a' e h = as_read {A = Segment} (λ w b. Spelt (IsSegment x w) (segment_ints of_int) b) (a', z) (a, y) (some_same _ _ e) h

-- ---- expressions after a mark that is written twice, and all of them joined

module _ (of_int : ℤ → ℤ) (mark : ℕ) (one_at : Reader Expression) (IsOne : List ℕ → List ℕ → Bool → Logical → Type 0) (IsMore : List ℕ → List ℕ → Logicals → Type 0)
    (one_sound : (x : List ℕ) (r : Expression × List ℕ) → one_at x ≡ Some r → Spelt (IsOne x r.1 r.0.0) (logical_ints of_int) r.0.1)
    (join : Logical → Logicals → Logical) (IsJoined : List ℕ → List ℕ → Bool → Logical → Type 0) (ends : (x : List ℕ) → IsMore x x syntax.no_logicals)
    (goes_on : (x y z w v : List ℕ) (bare : Bool) (l : Logical) (ls : Logicals) → Blanks x (mark ∷ mark ∷ y) → Blanks y z → IsOne z w bare l → IsMore w v ls → IsMore x v (syntax.logical l ls))
    (joined : (x y z : List ℕ) (bare : Bool) (l : Logical) (ls : Logicals) → IsOne x y bare l → IsMore y z ls → IsJoined x z (bare && is_alone ls) (join l ls))
    (join_ints : (l : Logical) (ls : Logicals) → logical_ints of_int (join l ls) ≡ join (logical_ints of_int l) (logicals_ints of_int ls)) where
  abbrev MoreRead : List ℕ → List ℕ → List Logical → Type 0
  MoreRead x y q = Spelt (IsMore x y) (logicals_ints of_int) (logicals_of q)

  next_sound : (x y z : List ℕ) (a : Logical) (others : List Logical) → behind_marks mark one_at x ≡ Some (Some (a, y)) → MoreRead y z others → MoreRead x z (a ∷ others)
  next_sound x y z a others h more = ⊎_elim
      (λ b.
      let c = bind_some (after mark b.0) _ (Some (a, y)) b.2 in
      let d = bind_some (one_at (skip_blanks c.0)) _ (Some (a, y)) c.2 in
      let one = one_sound (skip_blanks c.0) d.0 d.1 in
      as_read {A = Logical} (λ w m. MoreRead w z others → MoreRead x z (m ∷ others)) _ (a, y) (some_same _ _ d.2)
      (λ more. (syntax.logical one.0 more.0, goes_on x c.0 (skip_blanks c.0) d.0.1 z d.0.0.0 one.0 more.0 (subst (λ w. Blanks x (mark ∷ w)) (after_is mark b.0 c.0 c.1) (blank_then mark x b.0 b.1)) (skipped c.0) one.1 more.1, ap₂ syntax.logical one.2 more.2)) more)
      (λ b. absurd (cc))
      (chosen (after_blanks mark x) _ _ (Some (Some (a, y))) h)

  joined_sound : (x : List ℕ) (r : Expression × List ℕ) → joined_at join one_at (behind_marks mark one_at) x ≡ Some r → Spelt (IsJoined x r.1 r.0.0) (logical_ints of_int) r.0.1
  joined_sound x r h =
      let a = bind_some (one_at x) _ r h in
      let b = bind_some (many (behind_marks mark one_at) (length a.0.1) a.0.1) _ r a.2 in
      let one = one_sound x a.0 a.1 in
      let more = many_sound (behind_marks mark one_at) MoreRead (λ y. (syntax.no_logicals, ends y, refl)) next_sound (length a.0.1) a.0.1 b.0 b.1 in
      let flag : is_alone more.0 ≡ is_alone (logicals_of b.0.0) = sym (alone_ints of_int more.0) ∙ ap is_alone more.2 in
      as_read (λ y (e : Expression). Spelt (IsJoined x y e.0) (logical_ints of_int) e.1) _ r b.2
      (join one.0 more.0, subst (λ t. IsJoined x b.0.1 (a.0.0.0 && t) (join one.0 more.0)) flag (joined x a.0.1 b.0.1 a.0.0.0 one.0 more.0 one.1 more.1), join_ints one.0 more.0 ∙ ap₂ join one.2 more.2)

module _ (of_int : ℤ → ℤ) (nested : Reader Expression) (sound : (x : List ℕ) (r : Expression × List ℕ) → nested x ≡ Some r → LogicalRead of_int x r.1 r.0) where
  selector_sound : (x : List ℕ) (r : Selector × List ℕ) → selector_at of_int nested x ≡ Some r → SelectorRead of_int x r.1 r.0
  unfolding selector_at
  selector_sound x r h = ⊎_elim
      (λ a. as_read (SelectorRead of_int x) _ r a.2 (wildcard_selector, subst (λ z. IsSelector z a.0 wildcard_selector) (sym (after_is 42 x a.0 a.1)) s.wildcard_mark, refl))
      (λ b. ⊎_elim
      (λ a.
      let c = bind_some (nested (skip_blanks a.0)) _ r a.2 in
      let l = sound (skip_blanks a.0) c.0 c.1 in
      as_read (SelectorRead of_int x) _ r c.2 (filter_selector l.0, subst (λ z. IsSelector z c.0.1 (filter_selector l.0)) (sym (after_is 63 x a.0 a.1)) (s.filter_mark (skipped a.0) l.1), ap filter_selector l.2))
      (λ b. ⊎_elim
      (λ a.
      let t = slice_sound of_int None a.0 r a.2 in
      (slice_selector None t.0 t.1, subst (λ z. IsSelector z r.1 (slice_selector None t.0 t.1)) (sym (after_is 58 x a.0 a.1)) (s.slice_parts s.no_bound t.4 t.5 t.6), t.7))
      (λ b. ⊎_elim
      (λ a. index_or_slice_sound of_int x r a.1)
      (λ a.
      let c = bind_some (string_at x) _ r a.1 in
      as_read (SelectorRead of_int x) _ r c.2 (name_selector c.0.0, s.quoted_name (string_sound x c.0 c.1), refl))
      (decided (begins is_int_first x) _ _ (Some r) b.1))
      (chosen (after 58 x) _ _ (Some r) b.1))
      (chosen (after 63 x) _ _ (Some r) b.1))
      (chosen (after 42 x) _ _ (Some r) h)

  MoreSelectorsRead : List ℕ → List ℕ → List Selector → Type 0
  MoreSelectorsRead x y q = Spelt (IsMoreSelectors x y) (selectors_ints of_int) (selectors_of q)

  next_selector_sound : (x y z : List ℕ) (a : Selector) (others : List Selector) → next_selector of_int nested x ≡ Some (Some (a, y)) → MoreSelectorsRead y z others → MoreSelectorsRead x z (a ∷ others)
  unfolding next_selector MoreSelectorsRead
  next_selector_sound x y z a others h more = ⊎_elim
      (λ b.
      let one = selector_sound (skip_blanks b.0) (a, y) (is_item_some _ (a, y) b.2) in
      (selector one.0 more.0, s.selectors_go_on (blank_then 44 x b.0 b.1) (skipped b.0) one.1 more.1, ap₂ selector one.2 more.2))
      (λ b. absurd (cc))
      (chosen (after_blanks 44 x) _ _ (Some (Some (a, y))) h)

  BracketsRead : List ℕ → List ℕ → List Selector → Type 0
  BracketsRead x y q = Spelt (IsBrackets x y) (selectors_ints of_int) (selectors_of q)

  brackets_sound : (x : List ℕ) (r : List Selector × List ℕ) → brackets_at of_int nested x ≡ Some r → BracketsRead x r.1 r.0
  unfolding brackets_at BracketsRead MoreSelectorsRead
  brackets_sound x r h =
      let a = bind_some (after 91 x) _ r h in
      let b = bind_some (selector_at of_int nested (skip_blanks a.0)) _ r a.2 in
      let c = bind_some (many (next_selector of_int nested) (length b.0.1) b.0.1) _ r b.2 in
      let d = bind_some (after_blanks 93 c.0.1) _ r c.2 in
      let one = selector_sound (skip_blanks a.0) b.0 b.1 in
      let more = many_sound (next_selector of_int nested) MoreSelectorsRead (λ y. (syntax.no_selectors, s.selectors_end, refl)) next_selector_sound (length b.0.1) b.0.1 c.0 c.1 in
      as_read (BracketsRead x) _ r d.2
      (selector one.0 more.0, subst (λ y. IsBrackets y d.0 (selector one.0 more.0)) (sym (after_is 91 x a.0 a.1)) (s.brackets (skipped a.0) one.1 more.1 (blank_then 93 c.0.1 d.0 d.1)), ap₂ selector one.2 more.2)

  abbrev DescendantRead : List ℕ → List ℕ → List Selector → Type 0
  DescendantRead x y q = Spelt (IsSegment (46 ∷ 46 ∷ x) y) (segment_ints of_int) (descendant_segment (selectors_of q))

  descendant_sound : (x : List ℕ) (r : List Selector × List ℕ) → descendant_at of_int nested x ≡ Some r → DescendantRead x r.1 r.0
  unfolding descendant_at BracketsRead
  descendant_sound x r h = ⊎_elim
      (λ a. let b = brackets_sound x r a.2 in (descendant_segment b.0, s.descendant_brackets b.1, ap descendant_segment b.2))
      (λ a. let d = dotted_sound x r a.1 in (descendant_segment d.0, d.2, ap descendant_segment (d.3 of_int)))
      (chosen (after 91 x) _ _ (Some r) h)

  segment_found : (x y : List ℕ) (a : Segment) → next_segment of_int nested x ≡ Some (Some (a, y)) → (w : List ℕ) × Blanks x w × Spelt (IsSegment w y) (segment_ints of_int) a
  unfolding next_segment BracketsRead
  segment_found x y a h = ⊎_elim
      (λ b. (
        46 ∷ b.0,
        blank_then 46 x b.0 b.1,
        ⊎_elim
            (λ c.
            let r = bind_some (descendant_at of_int nested c.0) _ (Some (a, y)) c.2 in
            found_as of_int (46 ∷ b.0) y r.0.1 a (descendant_segment (selectors_of r.0.0)) r.2
            (subst (λ z. Spelt (IsSegment (46 ∷ z) r.0.1) (segment_ints of_int) (descendant_segment (selectors_of r.0.0))) (sym (after_is 46 b.0 c.0 c.1)) (descendant_sound c.0 r.0 r.1)))
            (λ c.
            let r = bind_some (dotted b.0) _ (Some (a, y)) c.1 in
            let d = dotted_sound b.0 r.0 r.1 in
            found_as of_int (46 ∷ b.0) y r.0.1 a (child_segment (selectors_of r.0.0)) r.2 (child_segment d.0, d.1, ap child_segment (d.3 of_int)))
            (chosen (after 46 b.0) _ _ (Some (Some (a, y))) b.2),
      ))
      (λ b. ⊎_elim
      (λ c.
      let r = bind_some (brackets_at of_int nested (skip_blanks x)) _ (Some (a, y)) c.2 in
      let d = brackets_sound (skip_blanks x) r.0 r.1 in
      (skip_blanks x, skipped x, found_as of_int (skip_blanks x) y r.0.1 a (child_segment (selectors_of r.0.0)) r.2 (child_segment d.0, s.child_brackets d.1, ap child_segment d.2)))
      (λ c. absurd (cc))
      (chosen (after_blanks 91 x) _ _ (Some (Some (a, y))) b.1))
      (chosen (after_blanks 46 x) _ _ (Some (Some (a, y))) h)

  segments_sound : (x : List ℕ) (r : Segments × List ℕ) → segments_at of_int nested x ≡ Some r → SegmentsRead of_int x r.1 r.0
  unfolding segments_at
  segments_sound x r h =
      let a = bind_some (many (next_segment of_int nested) (length x) x) _ r h in
      as_read (SegmentsRead of_int x) _ r a.2 (many_sound (next_segment of_int nested) (λ y z ss. SegmentsRead of_int y z (segments_of ss)) (λ y. (syntax.no_segments, s.segments_end, refl))
      (λ y z w b others e more.
      let one = segment_found y z b e in
      (syntax.segment one.2.0 more.0, s.segments_go_on one.1 one.2.1 more.1, ap₂ syntax.segment one.2.2 more.2))
      (length x) x a.0 a.1)

  -- an expression between parentheses
  abbrev ClosedRead : List ℕ → List ℕ → Logical → Type 0
  ClosedRead x y m = (z w : List ℕ) × (b : Bool) × (l : Logical) × Blanks x z × IsLogical z w b l × Blanks w (41 ∷ y) × (logical_ints of_int l ≡ m)

  closed_sound : (x : List ℕ) (r : Logical × List ℕ) → closed_at of_int nested x ≡ Some r → ClosedRead x r.1 r.0
  unfolding closed_at
  closed_sound x r h =
      let a = bind_some (nested (skip_blanks x)) _ r h in
      let b = bind_some (after_blanks 41 a.0.1) _ r a.2 in
      let l = sound (skip_blanks x) a.0 a.1 in
      as_read (ClosedRead x) _ r b.2 (skip_blanks x, a.0.1, a.0.0.0, l.0, skipped x, l.1, blank_then 41 a.0.1 b.0 b.1, l.2)

  condition_sound : (x : List ℕ) (r : Argument × List ℕ) → condition_at of_int nested x ≡ Some r → ArgumentRead of_int x r.1 r.0
  unfolding condition_at
  condition_sound x r h =
      let a = bind_some (nested x) _ r h in
      as_read (ArgumentRead of_int x) _ r a.2 (argument_from of_int x a.0.1 a.0.0.0 a.0.0.1 (sound x a.0 a.1))

  argument_sound : (x : List ℕ) (r : Argument × List ℕ) → argument_at of_int nested x ≡ Some r → ArgumentRead of_int x r.1 r.0
  unfolding argument_at
  argument_sound x r h = ⊎_elim
      (λ a. condition_sound x r a.1)
      (λ a.
      let l = bind_some (literal_at x) _ r a.1 in
      ⊎_elim
      (λ b. condition_sound x r b.2)
      (λ b. as_read (ArgumentRead of_int x) _ r b.1 (constant_argument l.0.0, s.literal_argument (literal_sound x l.0 l.1), refl))
      (chosen (operator_at (skip_blanks l.0.1)) _ _ (Some r) l.2))
      (decided (begins_without_literal x) _ _ (Some r) h)

  abbrev MoreArgumentsRead : List ℕ → List ℕ → List Argument → Type 0
  MoreArgumentsRead x y q = Spelt (IsMoreArguments x y) (arguments_ints of_int) (arguments_of q)

  next_argument_sound : (x y z : List ℕ) (a : Argument) (others : List Argument) → next_argument of_int nested x ≡ Some (Some (a, y)) → MoreArgumentsRead y z others → MoreArgumentsRead x z (a ∷ others)
  unfolding next_argument
  next_argument_sound x y z a others h more = ⊎_elim
      (λ b.
      let one = argument_sound (skip_blanks b.0) (a, y) (is_item_some _ (a, y) b.2) in
      (argument one.0 more.0, s.arguments_go_on (blank_then 44 x b.0 b.1) (skipped b.0) one.1 more.1, ap₂ argument one.2 more.2))
      (λ b. absurd (cc))
      (chosen (after_blanks 44 x) _ _ (Some (Some (a, y))) h)

  call_sound : (f x : List ℕ) (r : Call × List ℕ) → call_behind of_int nested f x ≡ Some r → (w : List ℕ) → s.FunctionName w (40 ∷ x) f → CallRead of_int w r.1 r.0
  unfolding call_behind arguments_at
  call_sound f x r h w name = ⊎_elim
      (λ a. as_read (CallRead of_int w) _ r a.2 (call f syntax.no_arguments, s.call_without name (blank_then 41 x a.0 a.1), refl))
      (λ a.
      let b = bind_some (arguments_at of_int nested (skip_blanks x)) _ r a.1 in
      let c = bind_some (argument_at of_int nested (skip_blanks x)) _ b.0 b.1 in
      let d = bind_some (many (next_argument of_int nested) (length c.0.1) c.0.1) _ b.0 c.2 in
      let e = bind_some (after_blanks 41 d.0.1) _ b.0 d.2 in
      let one = argument_sound (skip_blanks x) c.0 c.1 in
      let more = many_sound (next_argument of_int nested) MoreArgumentsRead (λ y. (syntax.no_arguments, s.arguments_end, refl)) next_argument_sound (length c.0.1) c.0.1 d.0 d.1 in
      as_read (CallRead of_int w) _ r b.2 (as_read (λ y args. CallRead of_int w y (call f (arguments_of args))) _ b.0 e.2
      (call f (argument one.0 more.0), s.call_with name (skipped x) one.1 more.1 (blank_then 41 d.0.1 e.0 e.1), ap (λ args. call f args) (ap₂ argument one.2 more.2))))
      (chosen (after_blanks 41 x) _ _ (Some r) h)

  comparable_sound : (x : List ℕ) (r : Comparable × List ℕ) → comparable_at of_int nested x ≡ Some r → ComparableRead of_int x r.1 r.0
  unfolding comparable_at
  comparable_sound x r h = ⊎_elim
      (λ a.
      let b = bind_some (singular_at of_int a.0.1) _ r a.2 in
      let q = singular_sound of_int a.0.1 b.0 b.1 in
      as_read (ComparableRead of_int x) _ r b.2 (single (path a.0.0 q.0), s.singular_side (origin_sound x a.0 a.1) q.1, ap (λ ss. single (path a.0.0 ss)) q.2))
      (λ a. ⊎_elim
      (λ b.
      let c = bind_some (call_behind of_int nested b.0.0 b.0.1) _ r b.2 in
      let q = call_sound b.0.0 b.0.1 c.0 c.1 x (start_sound x b.0 b.1) in
      as_read (ComparableRead of_int x) _ r c.2 (result q.0, s.call_side q.1, ap result q.2))
      (λ b.
      let c = bind_some (literal_at x) _ r b.1 in
      as_read (ComparableRead of_int x) _ r c.2 (constant c.0.0, s.literal_side (literal_sound x c.0 c.1), refl))
      (chosen (call_start x) _ _ (Some r) a.1))
      (chosen (origin_at x) _ _ (Some r) h)

  -- a comparison, whose first side is spelled up to x and whose operator stands after blanks there
  comparison_sound : (w x : List ℕ) (left : Comparable) (op : CompareOp × List ℕ) (r : Expression × List ℕ) → operator_at (skip_blanks x) ≡ Some op → ComparableRead of_int w x left → comparison_behind of_int nested left op.0 op.1 ≡ Some r → BasicRead of_int w r.1 r.0
  unfolding comparison_behind
  comparison_sound w x left op r e side h =
      let a = bind_some (comparable_at of_int nested (skip_blanks op.1)) _ r h in
      let q = comparable_sound (skip_blanks op.1) a.0 a.1 in
      as_read (BasicRead of_int w) _ r a.2 (compare side.0 op.0 q.0, s.comparison side.1 (skipped x) (operator_sound (skip_blanks x) op e) (skipped op.1) q.1, ap₂ (λ u v. compare u op.0 v) side.2 q.2)

  query_sound_behind : (w x : List ℕ) (o : Origin) (r : Expression × List ℕ) → IsOrigin w x o → query_behind of_int nested o x ≡ Some r → BasicRead of_int w r.1 r.0
  unfolding query_behind
  query_sound_behind w x o r mark h =
      let a = bind_some (singular_at of_int x) _ r h in
      ⊎_elim
      (λ b.
      let q = singular_sound of_int x a.0 a.1 in
      comparison_sound w a.0.1 (single (path o a.0.0)) b.0 r b.1 (single (path o q.0), s.singular_side mark q.1, ap (λ ss. single (path o ss)) q.2) b.2)
      (λ b.
      let c = bind_some (segments_at of_int nested x) _ r b.1 in
      let q = segments_sound x c.0 c.1 in
      as_read (BasicRead of_int w) _ r c.2 (exists (path o q.0), s.query_test s.no_negation (s.filter_query mark q.1), ap (λ ss. exists (path o ss)) q.2))
      (chosen (operator_at (skip_blanks a.0.1)) _ _ (Some r) a.2)

  call_or_comparison_sound : (w x f : List ℕ) (r : Expression × List ℕ) → s.FunctionName w (40 ∷ x) f → call_or_comparison of_int nested f x ≡ Some r → BasicRead of_int w r.1 r.0
  unfolding call_or_comparison
  call_or_comparison_sound w x f r name h =
      let a = bind_some (call_behind of_int nested f x) _ r h in
      let q = call_sound f x a.0 a.1 w name in
      ⊎_elim
      (λ b. comparison_sound w a.0.1 (result a.0.0) b.0 r b.1 (result q.0, s.call_side q.1, ap result q.2) b.2)
      (λ b. as_read (BasicRead of_int w) _ r b.1 (test q.0, s.call_test s.no_negation q.1, ap test q.2))
      (chosen (operator_at (skip_blanks a.0.1)) _ _ (Some r) a.2)

  literal_comparison_sound : (x : List ℕ) (r : Expression × List ℕ) → literal_comparison of_int nested x ≡ Some r → BasicRead of_int x r.1 r.0
  unfolding literal_comparison
  literal_comparison_sound x r h =
      let a = bind_some (literal_at x) _ r h in
      let b = bind_some (operator_at (skip_blanks a.0.1)) _ r a.2 in
      comparison_sound x a.0.1 (constant a.0.0) b.0 r b.1 (constant a.0.0, s.literal_side (literal_sound x a.0 a.1), refl) b.2

  abbrev NegatedRead : List ℕ → List ℕ → Logical → Type 0
  NegatedRead x y m = (w : List ℕ) → Negation w x true → Spelt (IsBasic w y false) (logical_ints of_int) (negated_if true m)

  test_sound : (x : List ℕ) (r : Logical × List ℕ) → test_at of_int nested x ≡ Some r → NegatedRead x r.1 r.0
  unfolding test_at
  test_sound x r h = ⊎_elim
      (λ a.
      let b = bind_some (segments_at of_int nested a.0.1) _ r a.2 in
      let q = segments_sound a.0.1 b.0 b.1 in
      as_read (NegatedRead x) _ r b.2 (λ w n. (negated_if true (exists (path a.0.0 q.0)), s.query_test n (s.filter_query (origin_sound x a.0 a.1) q.1), ap (λ ss. negated_if true (exists (path a.0.0 ss))) q.2)))
      (λ a.
      let f = bind_some (call_start x) _ r a.1 in
      let c = bind_some (call_behind of_int nested f.0.0 f.0.1) _ r f.2 in
      let q = call_sound f.0.0 f.0.1 c.0 c.1 x (start_sound x f.0 f.1) in
      as_read (NegatedRead x) _ r c.2 (λ w n. (negated_if true (test q.0), s.call_test n q.1, ap (λ d. negated_if true (test d)) q.2)))
      (chosen (origin_at x) _ _ (Some r) h)

  negated_sound : (w x : List ℕ) (r : Expression × List ℕ) → Negation w x true → negated_at of_int nested x ≡ Some r → BasicRead of_int w r.1 r.0
  unfolding negated_at
  negated_sound w x r n h =
      let a = bind_some (choose (after 40 x) (closed_at of_int nested) (test_at of_int nested x)) _ r h in
      as_read (BasicRead of_int w) _ r a.2 (⊎_elim
      (λ b.
      let c = closed_sound b.0 a.0 b.2 in
      (negated_if true c.3, s.parens (subst (λ z. Negation w z true) (after_is 40 x b.0 b.1) n) c.4 c.5 c.6, ap (λ l. negated_if true l) c.7))
      (λ b. test_sound x a.0 b.1 w n)
      (chosen (after 40 x) _ _ (Some a.0) a.1))

  plain_sound : (x : List ℕ) (r : Expression × List ℕ) → plain_at of_int nested x ≡ Some r → BasicRead of_int x r.1 r.0
  unfolding plain_at
  plain_sound x r h = ⊎_elim
      (λ a.
      let b = bind_some (closed_at of_int nested a.0) _ r a.2 in
      let c = closed_sound a.0 b.0 b.1 in
      as_read (BasicRead of_int x) _ r b.2 (c.3, s.parens (subst (λ z. Negation x z false) (after_is 40 x a.0 a.1) s.no_negation) c.4 c.5 c.6, c.7))
      (λ a. ⊎_elim
      (λ b. query_sound_behind x b.0.1 b.0.0 r (origin_sound x b.0 b.1) b.2)
      (λ b. ⊎_elim
      (λ c. call_or_comparison_sound x c.0.1 c.0.0 r (start_sound x c.0 c.1) c.2)
      (λ c. literal_comparison_sound x r c.1)
      (chosen (call_start x) _ _ (Some r) b.1))
      (chosen (origin_at x) _ _ (Some r) a.1))
      (chosen (after 40 x) _ _ (Some r) h)

  basic_sound : (x : List ℕ) (r : Expression × List ℕ) → basic_at of_int nested x ≡ Some r → BasicRead of_int x r.1 r.0
  unfolding basic_at
  basic_sound x r h = ⊎_elim
      (λ a. negated_sound x (skip_blanks a.0) r (subst (λ z. Negation z (skip_blanks a.0) true) (sym (after_is 33 x a.0 a.1)) (s.negation (skipped a.0))) a.2)
      (λ a. plain_sound x r a.1)
      (chosen (after 33 x) _ _ (Some r) h)

  and_sound : (x : List ℕ) (r : Expression × List ℕ) → and_at of_int nested x ≡ Some r → AndRead of_int x r.1 r.0
  unfolding and_at next_basic
  and_sound = joined_sound of_int 38 (basic_at of_int nested) IsBasic IsMoreAnd basic_sound and_of IsAnd
      (λ x. and_ends) (λ x y z w v bare l ls b c one more. and_goes_on b c one more) (λ x y z bare l ls one more. some_basic one more) (and_of_ints of_int)

  or_sound : (x : List ℕ) (r : Expression × List ℕ) → or_at of_int nested x ≡ Some r → LogicalRead of_int x r.1 r.0
  unfolding or_at next_and
  or_sound = joined_sound of_int 124 (and_at of_int nested) IsAnd IsMoreOr and_sound or_of IsLogical
      (λ x. or_ends) (λ x y z w v bare l ls b c one more. or_goes_on b c one more) (λ x y z bare l ls one more. some_and one more) (or_of_ints of_int)

pub logical_sound : (of_int : ℤ → ℤ) (depth : ℕ) (x : List ℕ) (r : Expression × List ℕ) → logical_at of_int depth x ≡ Some r → LogicalRead of_int x r.1 r.0
unfolding logical_at
logical_sound of_int zero x r h = absurd (cc)
logical_sound of_int (suc depth) x r h = or_sound of_int (logical_at of_int depth) (logical_sound of_int depth) x r h

pub whole_is : {A : Type 0} (p : A × List ℕ) (a : A) → whole p ≡ Some a → (p.0 ≡ a) × (p.1 ≡ [])
whole_is (b, []) a h = (some_same b a h, refl)
whole_is (b, c ∷ x) a h = absurd (cc)

-- what is read is spelled so, but for its integers
pub query_sound : (of_int : ℤ → ℤ) (depth : ℕ) (x : List ℕ) (r : Segments) → query_at of_int depth x ≡ Some r → Spelt (SpellsQuery x) (map_ints of_int) r
unfolding query_at
query_sound of_int depth x r h =
    let a = bind_some (after 36 x) _ r h in
    let b = bind_some (segments_at of_int (logical_at of_int depth) a.0) _ r a.2 in
    let e = whole_is b.0 r b.2 in
    let read = segments_sound of_int (logical_at of_int depth) (logical_sound of_int depth) a.0 b.0 b.1 in
    (read.0, subst (λ z. SpellsQuery z read.0) (sym (after_is 36 x a.0 a.1)) (s.query (subst (λ z. IsSegments a.0 z read.0) e.1 read.1)), read.2 ∙ e.0)
