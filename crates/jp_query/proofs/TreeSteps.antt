-- One step of reading at a time, where what is read stands there.
use Rattle.std.proofs.Common.{◌≡◌, ◌∙◌, ℕ, ℤ, zero, suc, ◌≤◌, ◌<◌, arith, List, [], ◌∷◌, length, true, false, ◌==◌, Option, Some, None, refl, sym, ap, subst, ⊎_elim, le_refl}
use Rattle.std.proofs.lemmas.Bool.{eqb-true, or_left, or_cases}
use Rattle.jp_model.specs.Characters.{is_digit}
use Rattle.jp_model.specs.Query.Spelling.{Blanks, Shorthand, Int, Bound, no_bound, bound, StepPart, no_step_part, colon_alone, step_part, StringLiteral, double_quoted, single_quoted, SingularSegment, bracketed_name, pointed_name, bracketed_index, SingularSegments, singular_end, singular_goes_on, is_name_first, is_name_scalar}
use Rattle.jp_model.specs.Query.Syntax.{Segment, child_segment, descendant_segment, Segments, segment, Selector, name_selector, wildcard_selector, index_selector, slice_selector, filter_selector, no_selectors, selector}
use Rattle.jp_syntax.specs.View.{segments_of, selectors_of}
use Rattle.jp_query.specs.Integers.{bound_ints, map_ints, segment_ints}
use Rattle.jp_query.specs.Reading.Scalars.{Read, Reader, after, skip_blanks, begins, many, many_after}
use Rattle.jp_query.specs.Reading.Numbers.{is_int_first}
use Rattle.jp_query.specs.Reading.Literals.{is_any_quote}
use Rattle.jp_query.specs.Reading.Queries.{bound_at, step_at, slice_behind, index_or_slice, child_of_one, singular_behind, singular_segment, next_singular, singular_at, dotted, Expression, selector_at, next_selector, brackets_at, descendant_at, next_segment, segments_at}
use Rattle.jp_query.proofs.LawTools.{no_blanks}
use Rattle.jp_query.proofs.Shrinks.{blanks_shrink, string_shrinks, shorthand_shrinks, int_shrinks}
use Rattle.jp_query.proofs.Follows.{head, next, closes, ends_logical, ends_path, ends_segment, logical_class, white_class, not_white, in_front, blanks_skip, skip_stays, next_is, after_none, not_there, stops, stops_at, begins_with}
use Rattle.jp_query.proofs.LeafReads.{longer, many_stops, many_goes_on, name_stops, shorthand_reads, shorthand_first, int_reads, int_first, string_reads, string_first}

-- read up to a position, or up to blanks in front of it
abbrev pub Ends : {A : Type 0} → Read A → A → List ℕ → Type 0
Ends {A} read a y = (z : List ℕ) × (read ≡ Some (a, z)) × (skip_blanks z ≡ skip_blanks y)

-- ---- what stands in front

pub int_stays : {x y : List ℕ} {i : ℤ} → Int x y i → skip_blanks x ≡ x
int_stays {x} i = skip_stays x (not_white is_int_first refl refl refl refl (head x) (int_first i))

int_stops : (x : List ℕ) → is_digit (next x) ≡ false → stops is_digit x ≡ true
int_stops x h = stops_at is_digit x (in_front (λ c. is_digit c ≡ false) x (white_class (λ c. is_digit c ≡ false) refl refl refl refl (head x)) h)

logical_int : (c : ℕ) → ends_logical c ≡ true → is_int_first c ≡ false
logical_int c h = logical_class (λ c. is_int_first c ≡ false) refl refl refl refl c h

logical_digit : (c : ℕ) → ends_logical c ≡ true → is_digit c ≡ false
logical_digit c h = logical_class (λ c. is_digit c ≡ false) refl refl refl refl c h

logical_colon : (c : ℕ) → ends_logical c ≡ true → (c == 58) ≡ false
logical_colon c h = logical_class (λ c. (c == 58) ≡ false) refl refl refl refl c h

step_next : (P : ℕ → Type 0) → P 58 → {x y : List ℕ} {b : Option ℤ} → StepPart x y b → P (next y) → P (next x)
step_next P p58 no_step_part h = h
step_next P p58 colon_alone h = p58
step_next P p58 (step_part b i) h = p58

-- ---- the parts of a slice

module _ (of_int : ℤ → ℤ) where
  bound_none : (x : List ℕ) → is_int_first (next x) ≡ false → bound_at of_int x ≡ Some (None, x)
  unfolding bound_at
  bound_none x h =
      let e : begins is_int_first (skip_blanks x) ≡ false = begins_with is_int_first (skip_blanks x) refl ∙ h in
      rw e refl

  bound_some : {x y z : List ℕ} {i : ℤ} → Blanks x y → Int y z i → stops is_digit z ≡ true → bound_at of_int x ≡ Some (Some (of_int i), z)
  unfolding bound_at
  bound_some {x} {y} b i h =
      let there : skip_blanks x ≡ y = blanks_skip b ∙ int_stays i in
      let e : begins is_int_first y ≡ true = begins_with is_int_first y refl ∙ int_first i in
      rw (there, e, int_reads of_int i h) refl

  step_reads : {x w v : List ℕ} {b : Option ℤ} → Blanks x w → StepPart w v b → ends_logical (next v) ≡ true → Ends (step_at of_int x) (bound_ints of_int b) v
  unfolding step_at
  step_reads {x} {w} b no_step_part h =
      let same = blanks_skip b in
      let none : after 58 (skip_blanks w) ≡ None = after_none 58 (skip_blanks w) (logical_colon (next w) h) in
      (x, rw (same, none) refl, same)
  step_reads b (colon_alone {x = v}) h = (v, rw (blanks_skip b) (bound_none v (logical_int (next v) h)), refl)
  step_reads {v} b (step_part c i) h = (v, rw (blanks_skip b) (bound_some c i (int_stops v (logical_digit (next v) h))), refl)

  pub slice_reads : (first : Option ℤ) {y z w v : List ℕ} {last step : Option ℤ} → Blanks y z → Bound z w last → StepPart w v step → ends_logical (next v) ≡ true → Ends (slice_behind of_int first y) (slice_selector first (bound_ints of_int last) (bound_ints of_int step)) v
  unfolding slice_behind
  slice_reads first {y} {z} {w} {v} b no_bound s h =
      let e = step_next (λ c. is_int_first c ≡ false) refl s (logical_int (next v) h) in
      let none = bound_none y (subst (λ u. is_int_first (head u) ≡ false) (sym (blanks_skip b)) e) in
      let others = step_reads b s h in
      (others.0, rw (none, others.1) refl, others.2)
  slice_reads first {y} {z} {w} {v} b (bound {y = u} i c) s h =
      let e = step_next (λ c. is_digit c ≡ false) refl s (logical_digit (next v) h) in
      let some = bound_some b i (int_stops u (subst (λ t. is_digit (head t) ≡ false) (sym (blanks_skip c)) e)) in
      let others = step_reads c s h in
      (others.0, rw (some, others.1) refl, others.2)

  index_reads : {x y : List ℕ} {i : ℤ} → Int x y i → ends_logical (next y) ≡ true → index_or_slice of_int x ≡ Some (index_selector (of_int i), y)
  unfolding index_or_slice
  index_reads {x} {y} i h =
      let none : after 58 (skip_blanks y) ≡ None = after_none 58 (skip_blanks y) (logical_colon (next y) h) in
      rw (int_reads of_int i (int_stops y (logical_digit (next y) h)), none) refl

  colon_reads : {x u y : List ℕ} {i : ℤ} {a : Selector} {z : List ℕ} → Int x u i → Blanks u (58 ∷ y) → slice_behind of_int (Some (of_int i)) y ≡ Some (a, z) → index_or_slice of_int x ≡ Some (a, z)
  unfolding index_or_slice
  colon_reads {x} {u} i b h =
      let stop : is_digit (next u) ≡ false = subst (λ t. is_digit (head t) ≡ false) (sym (blanks_skip b)) refl in
      rw (int_reads of_int i (int_stops u stop), blanks_skip b) h

  -- ---- singular queries

  singular_segment_reads : {x y : List ℕ} {s : Segment} → SingularSegment x y s → ends_segment (next y) ≡ true → singular_segment of_int x ≡ Some (segment_ints of_int s, y)
  unfolding singular_segment singular_behind
  singular_segment_reads (bracketed_name {x} q) h =
      let no : begins is_int_first x ≡ false = begins_with is_int_first x refl ∙ quote_no_int (head x) (string_first q) in
      rw (no, string_reads q) refl
    where
      quote_no_int : (c : ℕ) → is_any_quote c ≡ true → is_int_first c ≡ false
      quote_no_int c h = ⊎_elim (λ e. subst (λ d. is_int_first d ≡ false) (sym (eqb-true c 34 e)) refl) (λ e. subst (λ d. is_int_first d ≡ false) (sym (eqb-true c 39 e)) refl) (or_cases (c == 34) (c == 39) h)
  singular_segment_reads (pointed_name {x} {y} n) h = rw (shorthand_reads n (name_stops y h)) refl
  singular_segment_reads (bracketed_index {x} {y} i) h =
      let yes : begins is_int_first x ≡ true = begins_with is_int_first x refl ∙ int_first i in
      rw (yes, int_reads of_int i refl) refl

  pub singular_next : {x y : List ℕ} {s : Segment} → SingularSegment x y s → (skip_blanks x ≡ x) × (ends_segment (next x) ≡ true)
  singular_next (bracketed_name q) = (refl, refl)
  singular_next (pointed_name n) = (refl, refl)
  singular_next (bracketed_index i) = (refl, refl)

  pub singular_follows : {x y : List ℕ} {ss : Segments} → SingularSegments x y ss → ends_path (next y) ≡ true → ends_segment (next x) ≡ true
  singular_follows singular_end h = or_left _ _ (or_left _ _ h)
  singular_follows (singular_goes_on b s more) h = next_is ends_segment b (singular_next s).1

  no_singular : (x : List ℕ) → ends_path (next x) ≡ true → singular_segment of_int (skip_blanks x) ≡ None
  unfolding singular_segment
  no_singular x h = rw (not_there ends_path 91 (skip_blanks x) h refl, not_there ends_path 46 (skip_blanks x) h refl) refl

  next_singular_reads : {x y z : List ℕ} {s : Segment} → Blanks x y → SingularSegment y z s → ends_segment (next z) ≡ true → next_singular of_int x ≡ Some (Some (segment_ints of_int s, z))
  unfolding next_singular
  next_singular_reads b s h = rw (blanks_skip b, (singular_next s).0, singular_segment_reads s h) refl

  next_singular_none : (x : List ℕ) → ends_path (next x) ≡ true → next_singular of_int x ≡ Some None
  unfolding next_singular
  next_singular_none x h = rw (no_singular x h) refl

  -- several items are read, and are those of the tree
  abbrev pub AreRead : {A B : Type 0} → Option (List A × List ℕ) → List ℕ → (List A → B) → B → Type 0
  AreRead {A} read y of b = (rs : List A) × (read ≡ Some (rs, y)) × (of rs ≡ b)

  pub singular_shorter : {x y : List ℕ} {s : Segment} → SingularSegment x y s → length y < length x
  singular_shorter (bracketed_name q) = omega (arith, string_shrinks length longer q)
  singular_shorter (pointed_name n) = omega (arith, shorthand_shrinks length longer n)
  singular_shorter (bracketed_index i) = omega (arith, int_shrinks length longer i)

  singular_many : {x y : List ℕ} {ss : Segments} → SingularSegments x y ss → (n : ℕ) → length x ≤ n → ends_path (next y) ≡ true → AreRead (many (next_singular of_int) n x) y segments_of (map_ints of_int ss)
  singular_many (singular_end {x}) n l h = ([], many_stops (next_singular of_int) n x (next_singular_none x h), refl)
  singular_many (singular_goes_on b s more) zero l h = absurd (omega (arith, blanks_shrink length longer b, singular_shorter s))
  singular_many (singular_goes_on {x} {y} {z} {w} {s} {ss} b a more) (suc n) l h =
      let one = next_singular_reads b a (singular_follows more h) in
      let others = singular_many more n (omega (arith, blanks_shrink length longer b, singular_shorter a)) h in
      (segment_ints of_int s ∷ others.0, many_goes_on (next_singular of_int) n x z w (segment_ints of_int s) others.0 one others.1, ap (segment (segment_ints of_int s)) others.2)

  pub singular_reads : {x y : List ℕ} {ss : Segments} → SingularSegments x y ss → ends_path (next y) ≡ true → singular_at of_int x ≡ Some (map_ints of_int ss, y)
  unfolding singular_at
  singular_reads {x} {y} ss h = let rs = singular_many ss (length x) (le_refl _) h in rw (rs.1, rs.2) refl

  -- a singular query is always read, be it of no segment
  next_there : (x : List ℕ) → (o : Option (Segment × List ℕ)) × (next_singular of_int x ≡ Some o)
  unfolding next_singular
  next_there x = (singular_segment of_int (skip_blanks x), refl)

  singular_many_there : (n : ℕ) (x : List ℕ) → (r : List Segment × List ℕ) × (many (next_singular of_int) n x ≡ Some r)
  unfolding many
  singular_many_there zero x = (([], x), refl)
  singular_many_there (suc n) x = step (next_there x).0 (next_there x).1 (singular_many_there n)
    where
      step : (o : Option (Segment × List ℕ)) → next_singular of_int x ≡ Some o → ((y : List ℕ) → (r : List Segment × List ℕ) × (many (next_singular of_int) n y ≡ Some r)) → (r : List Segment × List ℕ) × (many_after (next_singular of_int x) (many (next_singular of_int) n) x ≡ Some r)
      step None e again = (([], x), rw e refl)
      step (Some p) e again = let b = again p.1 in ((p.0 ∷ b.0.0, b.0.1), rw (e, b.1) refl)

  pub singular_there : (x : List ℕ) → (r : Segments × List ℕ) × (singular_at of_int x ≡ Some r)
  unfolding singular_at
  singular_there x = let m = singular_many_there (length x) x in ((segments_of m.0.0, m.0.1), rw m.1 refl)

  -- ---- after points and brackets

  dotted_reads : {x y s : List ℕ} → Shorthand x y s → stops is_name_scalar y ≡ true → dotted x ≡ Some (name_selector s ∷ [], y)
  unfolding dotted
  dotted_reads {x} short h = rw (not_there is_name_first 42 x (shorthand_first short) refl, shorthand_reads short h) refl

  module _ (nested : Reader Expression) where
    pub quoted_reads : {x y s : List ℕ} → StringLiteral x y s → selector_at of_int nested x ≡ Some (name_selector s, y)
    unfolding selector_at
    quoted_reads {x} {y} {s} (double_quoted {x = z} p) = rw (string_reads (double_quoted p)) refl
    quoted_reads {x} {y} {s} (single_quoted {x = z} p) = rw (string_reads (single_quoted p)) refl

    pub wildcard_reads : (x : List ℕ) → selector_at of_int nested (42 ∷ x) ≡ Some (wildcard_selector, x)
    unfolding selector_at
    wildcard_reads x = refl

    pub filter_reads : {x y z : List ℕ} {e : Expression} → Blanks x y → skip_blanks y ≡ y → nested y ≡ Some (e, z) → selector_at of_int nested (63 ∷ x) ≡ Some (filter_selector e.1, z)
    unfolding selector_at
    filter_reads b e h = rw (blanks_skip b, e, h) refl

    -- a selector that begins with an int
    int_selector : {x y : List ℕ} {i : ℤ} → Int x y i → selector_at of_int nested x ≡ index_or_slice of_int x
    unfolding selector_at
    int_selector {x} i =
        let first = int_first i in
        let yes : begins is_int_first x ≡ true = begins_with is_int_first x refl ∙ first in
        rw (not_there is_int_first 42 x first refl, not_there is_int_first 63 x first refl, not_there is_int_first 58 x first refl, yes) refl

    pub index_selector_reads : {x y : List ℕ} {i : ℤ} → Int x y i → ends_logical (next y) ≡ true → selector_at of_int nested x ≡ Some (index_selector (of_int i), y)
    index_selector_reads i h = int_selector i ∙ index_reads i h

    pub slice_selector_reads : {x y z w v : List ℕ} {first last step : Option ℤ} → Bound x (58 ∷ y) first → Blanks y z → Bound z w last → StepPart w v step → ends_logical (next v) ≡ true → Ends (selector_at of_int nested x) (slice_selector (bound_ints of_int first) (bound_ints of_int last) (bound_ints of_int step)) v
    unfolding selector_at
    slice_selector_reads no_bound b c d h = slice_reads None b c d h
    slice_selector_reads (bound {i} p q) b c d h =
        let others = slice_reads (Some (of_int i)) b c d h in
        (others.0, int_selector p ∙ colon_reads p q others.1, others.2)

    pub next_selector_reads : (x : List ℕ) {y z w : List ℕ} {a : Selector} → skip_blanks x ≡ 44 ∷ y → Blanks y z → skip_blanks z ≡ z → selector_at of_int nested z ≡ Some (a, w) → next_selector of_int nested x ≡ Some (Some (a, w))
    unfolding next_selector
    next_selector_reads x b c e h = rw (b, blanks_skip c, e, h) refl

    pub no_selector : (x : List ℕ) → closes (next x) ≡ true → next_selector of_int nested x ≡ Some None
    unfolding next_selector
    no_selector x h = rw (not_there closes 44 (skip_blanks x) h refl) refl

    pub brackets_reads : {x y z w v : List ℕ} {a : Selector} {others : List Selector} → Blanks x y → skip_blanks y ≡ y → selector_at of_int nested y ≡ Some (a, z) → many (next_selector of_int nested) (length z) z ≡ Some (others, w) → skip_blanks w ≡ 93 ∷ v → brackets_at of_int nested (91 ∷ x) ≡ Some (a ∷ others, v)
    unfolding brackets_at
    brackets_reads b e h g c = rw (blanks_skip b, e, h, g, c) refl

    pub child_star_reads : (x : List ℕ) → next_segment of_int nested (46 ∷ 42 ∷ x) ≡ Some (Some (child_segment (selector wildcard_selector no_selectors), x))
    unfolding next_segment dotted
    child_star_reads x = refl

    pub descendant_star_reads : (x : List ℕ) → next_segment of_int nested (46 ∷ 46 ∷ 42 ∷ x) ≡ Some (Some (descendant_segment (selector wildcard_selector no_selectors), x))
    unfolding next_segment dotted descendant_at
    descendant_star_reads x = refl

    pub child_name_reads : {x y s : List ℕ} → Shorthand x y s → stops is_name_scalar y ≡ true → next_segment of_int nested (46 ∷ x) ≡ Some (Some (child_of_one (name_selector s), y))
    unfolding next_segment
    child_name_reads {x} short h = rw (not_there is_name_first 46 x (shorthand_first short) refl, dotted_reads short h) refl

    pub descendant_name_reads : {x y s : List ℕ} → Shorthand x y s → stops is_name_scalar y ≡ true → next_segment of_int nested (46 ∷ 46 ∷ x) ≡ Some (Some (descendant_segment (selector (name_selector s) no_selectors), y))
    unfolding next_segment descendant_at
    descendant_name_reads {x} short h = rw (not_there is_name_first 91 x (shorthand_first short) refl, dotted_reads short h) refl

    pub child_brackets_reads : (x y : List ℕ) (ss : List Selector) → brackets_at of_int nested (91 ∷ x) ≡ Some (ss, y) → next_segment of_int nested (91 ∷ x) ≡ Some (Some (child_segment (selectors_of ss), y))
    unfolding next_segment
    child_brackets_reads x y ss h = rw h refl

    pub descendant_brackets_reads : (x y : List ℕ) (ss : List Selector) → brackets_at of_int nested (91 ∷ x) ≡ Some (ss, y) → next_segment of_int nested (46 ∷ 46 ∷ 91 ∷ x) ≡ Some (Some (descendant_segment (selectors_of ss), y))
    unfolding next_segment descendant_at
    descendant_brackets_reads x y ss h = rw h refl

    pub next_segment_reads : {x y z : List ℕ} {a : Segment} → Blanks x y → next_segment of_int nested y ≡ Some (Some (a, z)) → next_segment of_int nested x ≡ Some (Some (a, z))
    unfolding next_segment
    next_segment_reads b h = rw (blanks_skip b) h

    pub no_segment : (x : List ℕ) → ends_path (next x) ≡ true → next_segment of_int nested x ≡ Some None
    unfolding next_segment
    no_segment x h = rw (not_there ends_path 46 (skip_blanks x) h refl, not_there ends_path 91 (skip_blanks x) h refl) refl

    -- ---- a singular query as a query

    segment_as : {x y : List ℕ} {s : Segment} → SingularSegment x y s → ends_segment (next y) ≡ true → next_segment of_int nested x ≡ Some (Some (segment_ints of_int s, y))
    segment_as (bracketed_name {x} {y} {s} p) h =
        child_brackets_reads x y (name_selector s ∷ []) (brackets_reads (no_blanks x) (string_stays p) (quoted_reads p) (many_stops (next_selector of_int nested) (length (93 ∷ y)) (93 ∷ y) (no_selector (93 ∷ y) refl)) refl)
      where
        string_stays : {x y s : List ℕ} → StringLiteral x y s → skip_blanks x ≡ x
        string_stays (double_quoted p) = refl
        string_stays (single_quoted p) = refl
    segment_as (pointed_name {x} {y} n) h = child_name_reads n (name_stops y h)
    segment_as (bracketed_index {x} {y} {i} p) h =
        child_brackets_reads x y (index_selector (of_int i) ∷ []) (brackets_reads (no_blanks x) (int_stays p) (index_selector_reads p refl) (many_stops (next_selector of_int nested) (length (93 ∷ y)) (93 ∷ y) (no_selector (93 ∷ y) refl)) refl)

    as_many : {x y : List ℕ} {ss : Segments} → SingularSegments x y ss → (n : ℕ) → length x ≤ n → ends_path (next y) ≡ true → AreRead (many (next_segment of_int nested) n x) y segments_of (map_ints of_int ss)
    as_many (singular_end {x}) n l h = ([], many_stops (next_segment of_int nested) n x (no_segment x h), refl)
    as_many (singular_goes_on b s more) zero l h = absurd (omega (arith, blanks_shrink length longer b, singular_shorter s))
    as_many (singular_goes_on {x} {y} {z} {w} {s} {ss} b a more) (suc n) l h =
        let one = next_segment_reads b (segment_as a (singular_follows more h)) in
        let others = as_many more n (omega (arith, blanks_shrink length longer b, singular_shorter a)) h in
        (segment_ints of_int s ∷ others.0, many_goes_on (next_segment of_int nested) n x z w (segment_ints of_int s) others.0 one others.1, ap (segment (segment_ints of_int s)) others.2)

    pub singular_as_segments : {x y : List ℕ} {ss : Segments} → SingularSegments x y ss → ends_path (next y) ≡ true → segments_at of_int nested x ≡ Some (map_ints of_int ss, y)
    unfolding segments_at
    singular_as_segments {x} ss h = let rs = as_many ss (length x) (le_refl _) h in rw (rs.1, rs.2) refl
