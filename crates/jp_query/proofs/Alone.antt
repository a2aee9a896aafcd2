-- A logical expression that stands alone is read as it is spelled, and only so.
use Rattle.std.proofs.Common.{◌≡◌, ◌∙◌, ◌<◌, ◌≤◌, ℕ, ℤ, List, [], ◌∷◌, ◌++◌, length, Bool, true, false, cond, IsFalse, IsUtf8, Option, Some, None, Result, Ok, Err, IfOk, IfErr, refl, sym, ap, subst, arith}
use Rattle.std.specs.Str.{chars, is_utf8}
use lib.Utf8.{encode}
use Rattle.std.proofs.lemmas.Str.{IsUtf8-append, IsUtf8-drop, IsUtf8-take, IsUtf8-from_is_utf8, is_utf8-from_IsUtf8, IsCharBoundary-after_ascii, IsCharBoundary-at_seam, chars-append}
use Rattle.std.proofs.Math.Seq.{take-append_seam}
use Rattle.jp_model.specs.Characters.{is_white}
use Rattle.jp_model.specs.declared.QueryFault.TheVariants as faults
use Rattle.jp_model.specs.Query.Limits.{Tests, is_oversized, has_exact_integers, has_small_exponents, logical_passes, segments_pass}
use Rattle.jp_model.specs.Query.Spelling as s
use Rattle.jp_model.specs.Query.Spelling.{Blanks, Run, IsSegments, IsSegment, IsBrackets, IsMoreSelectors, IsSelector, IsLogical, SpellsQuery}
use Rattle.jp_model.specs.Query.Syntax as syntax
use Rattle.jp_model.specs.Query.Syntax.{Logical}
use Rattle.jp_query.specs.ConditionOutcome.{MeantAlone}
use Rattle.jp_query.specs.Conditions.{GivesCondition, IsFirstConditionFault}
use Rattle.jp_query.specs.Integers.{clamp, logical_ints}
use Rattle.jp_query.specs.Reading.Queries.{alone_at, logical_at}
use Rattle.jp_query.specs.Reading.Scalars.{after_blanks, skip_blanks}
use Rattle.jp_query.specs.Status.{read_alone}
use Rattle.jp_syntax.specs.Filters.{SpellsCondition, filter_by, in_filter}
use Rattle.jp_syntax.specs.Queries.{condition_view}
use Rattle.jp_syntax.specs.WellFormed.{IsWellFormed}
use Rattle.jp_syntax.specs.declared.condition.Condition.{Condition}
use Rattle.jp_query.specs.declared.fault.ParseFault.{ParseFault}
use Rattle.jp_query.specs.declared.fault.ParseFault.TheVariants as parse_faults
use Rattle.jp_query.proofs.Complete.{logical_first, logical_found, opens}
use Rattle.jp_query.proofs.ExpressionSteps.{basic_stays}
use Rattle.jp_query.proofs.Follows.{blanks_skip, ends_logical, next_is}
use Rattle.jp_query.proofs.IntegerChanges.{clamp_keeps, clamp_tells}
use Rattle.jp_query.proofs.LawTools.{bind_some, blank_then, no_blanks, skipped}
use Rattle.jp_query.proofs.Outcomes.{not_exact, not_small}
use Rattle.jp_query.proofs.Shrinks.{blanks_shrink}
use Rattle.jp_query.proofs.SoundTrees.{Spelt, logical_sound, whole_is}
use Rattle.jp_query.proofs.Statuses.{few_opens}

-- the query of a filter, by scalars
abbrev InFilter : List ℕ → Logical → Type 0
InFilter x l = SpellsQuery (36 ∷ 91 ∷ 63 ∷ x) (filter_by l)

-- ---- what is read is spelled so

alone_sound : (of_int : ℤ → ℤ) (depth : ℕ) (x : List ℕ) (r : Logical) → alone_at of_int depth x ≡ Some r → Spelt (InFilter x) (logical_ints of_int) r
unfolding alone_at
alone_sound of_int depth x r h =
    let a = bind_some (logical_at of_int depth (skip_blanks x)) _ r h in
    let b = bind_some (after_blanks 93 a.0.1) _ r a.2 in
    let e = whole_is (a.0.0.1, b.0) r b.2 in
    let l = logical_sound of_int depth (skip_blanks x) a.0 a.1 in
    let closed : Blanks a.0.1 (93 ∷ []) = subst (λ z. Blanks a.0.1 (93 ∷ z)) e.1 (blank_then 93 a.0.1 b.0 b.1) in
    (l.0, s.query (s.segments_go_on (no_blanks _) (s.child_brackets (s.brackets (no_blanks _) (s.filter_mark (skipped x) l.1) s.selectors_end closed)) s.segments_end), l.2 ∙ e.0)

-- ---- what is spelled is read

stays : {x y t : List ℕ} → Run is_white x y t → (c : ℕ) (z : List ℕ) → x ≡ c ∷ z → is_white c ≡ false → y ≡ x
stays s.run_ends c z e h = refl
stays (s.run_goes_on {c = d} w more) c z e h = absurd (cc)

none_more : {x y : List ℕ} {ss : syntax.Selectors} → IsMoreSelectors x y ss → ss ≡ syntax.no_selectors → x ≡ y
none_more s.selectors_end e = refl
none_more (s.selectors_go_on b c d more) e = absurd (cc)

no_more : {x y : List ℕ} {ss : syntax.Segments} → IsSegments x y ss → ss ≡ syntax.no_segments → x ≡ y
no_more s.segments_end e = refl
no_more (s.segments_go_on b c more) e = absurd (cc)

-- a logical-expr, with blanks before it
abbrev LogicalAfter : List ℕ → List ℕ → Logical → Type 0
LogicalAfter x z l = (y : List ℕ) × (b : Bool) × Blanks x y × IsLogical y z b l

of_selector : {y z : List ℕ} {a : syntax.Selector} → IsSelector y z a → (l : Logical) → a ≡ syntax.filter_selector l → (x : List ℕ) × (y ≡ 63 ∷ x) × LogicalAfter x z l
of_selector (s.filter_mark {x} {y} {z} {bare} {l = m} b d) l e = (x, refl, (y, bare, b, subst (λ k. IsLogical y z bare k) (cc) d))
of_selector (s.quoted_name q) l e = absurd (cc)
of_selector s.wildcard_mark l e = absurd (cc)
of_selector (s.index_int i) l e = absurd (cc)
of_selector (s.slice_parts a b c d) l e = absurd (cc)

of_brackets : {x z : List ℕ} {ss : syntax.Selectors} → IsBrackets x z ss → (y : List ℕ) → x ≡ 91 ∷ 63 ∷ y → (l : Logical) → ss ≡ syntax.selector (syntax.filter_selector l) syntax.no_selectors
    → (w : List ℕ) × LogicalAfter y w l × Blanks w (93 ∷ z)
of_brackets (s.brackets {x} {y = v} {z} {w} {v = u} {s = a} {ss} b sel more c) y e l f =
    let p = of_selector sel l (cc) in
    let same : v ≡ x = stays b.1 63 y (cc) refl in
    let there : p.0 ≡ y = cc in
    let ended : z ≡ w = none_more more (cc) in
    (z, subst (λ t. LogicalAfter t z l) there p.2, subst (λ t. Blanks t (93 ∷ u)) (sym ended) c)

of_segment : {x z : List ℕ} {a : syntax.Segment} → IsSegment x z a → (l : Logical) → a ≡ syntax.child_segment (syntax.selector (syntax.filter_selector l) syntax.no_selectors)
    → IsBrackets x z (syntax.selector (syntax.filter_selector l) syntax.no_selectors)
of_segment (s.child_brackets {x} {y} {ss} b) l e = subst (λ t. IsBrackets x y t) (cc) b
of_segment s.child_wildcard l e = absurd (cc)
of_segment (s.child_name n) l e = absurd (cc)
of_segment (s.descendant_brackets b) l e = absurd (cc)
of_segment s.descendant_wildcard l e = absurd (cc)
of_segment (s.descendant_name n) l e = absurd (cc)

of_segments : {x z : List ℕ} {ss : syntax.Segments} → IsSegments x z ss → (y : List ℕ) → x ≡ 91 ∷ 63 ∷ y → (l : Logical) → ss ≡ filter_by l → (w : List ℕ) × LogicalAfter y w l × Blanks w (93 ∷ z)
of_segments s.segments_end y e l f = absurd (cc)
of_segments (s.segments_go_on {x} {y = v} {z} {w} b seg more) y e l f =
    let same : v ≡ x = stays b.1 91 (63 ∷ y) e refl in
    let ended : z ≡ w = no_more more (cc) in
    let p = of_brackets (of_segment seg l (cc)) y (same ∙ e) l refl in
    (p.0, p.1, subst (λ t. Blanks p.0 (93 ∷ t)) ended p.2)

of_query : {x : List ℕ} {q : syntax.Segments} → SpellsQuery x q → (y : List ℕ) → x ≡ 36 ∷ 91 ∷ 63 ∷ y → (l : Logical) → q ≡ filter_by l → (w : List ℕ) × LogicalAfter y w l × Blanks w (93 ∷ [])
of_query (s.query t) y e l f = of_segments t y (cc) l f

longer : (c : ℕ) (x : List ℕ) → opens x ≤ opens (c ∷ x)
longer c x = omega arith

alone_complete : (of_int : ℤ → ℤ) (depth : ℕ) (x : List ℕ) (l : Logical) → opens x < depth → InFilter x l → alone_at of_int depth x ≡ Some (logical_ints of_int l)
unfolding alone_at
alone_complete of_int depth x l few spelled =
    let p = of_query spelled x refl l refl in
    let w = p.0 in
    let y = p.1.0 in
    let m = p.1.3 in
    let here : skip_blanks x ≡ y = blanks_skip p.1.2 ∙ basic_stays y (logical_first m) in
    let found : logical_at of_int depth y ≡ Some ((p.1.1, logical_ints of_int l), w) = logical_found of_int m depth (omega (arith, blanks_shrink opens longer p.1.2)) (next_is ends_logical p.2 refl) in
    let closed : skip_blanks w ≡ 93 ∷ [] = blanks_skip p.2 in
    rw (here, found, closed) refl

-- ---- texts

abbrev front : List ℕ
front = 36 ∷ 91 ∷ 63 ∷ []

abbrev end : List ℕ
end = 93 ∷ []

front_utf8 : IsUtf8 front
unfolding is_utf8 chars encode
front_utf8 = IsUtf8-from_is_utf8 front refl

end_utf8 : IsUtf8 end
unfolding is_utf8 chars encode
end_utf8 = IsUtf8-from_is_utf8 end refl

around : (text : List ℕ) → IsUtf8 text → IsUtf8 (in_filter text)
around text u = IsUtf8-append front (text ++ end) front_utf8 (IsUtf8-append text end u end_utf8)

inside : (text : List ℕ) → IsUtf8 (in_filter text) → IsUtf8 text
inside text u =
    let after : IsUtf8 (text ++ end) = IsUtf8-drop (in_filter text) 3 u (IsCharBoundary-after_ascii (in_filter text) 2 u (omega arith) (omega arith)) in
    subst IsUtf8 (take-append_seam text end) (IsUtf8-take (text ++ end) (length text) after (IsCharBoundary-at_seam (text ++ end) text end refl end_utf8))

scalars_around : (text : List ℕ) → IsUtf8 text → chars (in_filter text) ≡ 36 ∷ 91 ∷ 63 ∷ (chars text ++ end)
unfolding chars
scalars_around text u = chars-append front (text ++ end) front_utf8 ∙ ap (λ (t : List ℕ). front ++ t) (chars-append text end u)

alone_reads : (of_int : ℤ → ℤ) (text : List ℕ) (l : Logical) → is_oversized (in_filter text) ≡ false → SpellsCondition text l → read_alone of_int text ≡ Some (logical_ints of_int l)
unfolding read_alone
alone_reads of_int text l h spelled =
    let u = inside text spelled.0 in
    let few : opens (36 ∷ 91 ∷ 63 ∷ (chars text ++ end)) ≤ 512 = subst (λ x. opens x ≤ 512) (scalars_around text u) (few_opens (in_filter text) spelled.0 h) in
    let query : InFilter (chars text ++ end) l = subst (λ x. SpellsQuery x (filter_by l)) (scalars_around text u) spelled.1 in
    rw (is_utf8-from_IsUtf8 text u) (alone_complete of_int 512 (chars text ++ end) l (omega arith) query)

alone_spelled : (of_int : ℤ → ℤ) (text : List ℕ) (r : Logical) → read_alone of_int text ≡ Some r → Spelt (SpellsCondition text) (logical_ints of_int) r
unfolding read_alone
alone_spelled of_int text r h = step (is_utf8 text) refl h
  where
    step : (t : Bool) → is_utf8 text ≡ t → cond t (alone_at of_int 512 (chars text ++ end)) None ≡ Some r → Spelt (SpellsCondition text) (logical_ints of_int) r
    step true e h =
        let u = IsUtf8-from_is_utf8 text e in
        let p = alone_sound of_int 512 (chars text ++ end) r h in
        (p.0, (around text u, subst (λ x. SpellsQuery x (filter_by p.0)) (sym (scalars_around text u)) p.1), p.2)
    step false e h = absurd (cc)

-- a text that is not UTF-8 is not read
pub not_read : (f : ℤ → ℤ) (text : List ℕ) → (IsUtf8 text → ⊥) → read_alone f text ≡ None
unfolding read_alone
not_read f text h = step (is_utf8 text) refl
  where
    step : (t : Bool) → is_utf8 text ≡ t → cond t (alone_at f 512 (chars text ++ end)) None ≡ None
    step true e = absurd (h (IsUtf8-from_is_utf8 text e))
    step false e = refl

-- UTF-8 is read from its scalars
pub read_of_scalars : (f : ℤ → ℤ) (text : List ℕ) → IsUtf8 text → read_alone f text ≡ alone_at f 512 (chars text ++ 93 ∷ [])
unfolding read_alone
read_of_scalars f text u = rw (is_utf8-from_IsUtf8 text u) refl

-- ---- what is answered

-- what an expression passes, the query does
pub filter_passes : (l : Logical) (t : Tests) (b : Bool) → logical_passes l t ≡ b → segments_pass (filter_by l) t ≡ b
filter_passes l t true e = rw e refl
filter_passes l t false e = rw e refl

some_is : {A : Type 0} (a b : A) (o : Option A) → o ≡ Some a → o ≡ Some b → a ≡ b
some_is a b o h e = cc

none_is : {A : Type 0} (a : A) (o : Option A) → o ≡ Some a → o ≡ None → ⊥
none_is a o h e = cc

not_both : (t : Bool) → t ≡ true → t ≡ false → ⊥
not_both t h e = cc

filter_inside : (l m : Logical) → filter_by l ≡ filter_by m → l ≡ m
filter_inside l m e = cc

-- an exact expression that is read is spelled
exact_spells : (text : List ℕ) (r : Logical) → read_alone clamp text ≡ Some r → has_exact_integers (filter_by r) ≡ true → SpellsCondition text r
exact_spells text r h exact =
    let p = alone_spelled clamp text r h in
    let e : has_exact_integers (filter_by p.0) ≡ true = sym (clamp_tells (filter_by p.0)) ∙ (ap (λ l. has_exact_integers (filter_by l)) p.2 ∙ exact) in
    let same : p.0 ≡ r = sym (filter_inside (logical_ints clamp p.0) p.0 (clamp_keeps (filter_by p.0) e)) ∙ p.2 in
    subst (λ (l : Logical). SpellsCondition text l) same p.1

-- an expression that is read and within its limits is well formed in a query of one filter
pub well_formed_alone : (text : List ℕ) (l : Logical) → is_oversized (in_filter text) ≡ false → read_alone clamp text ≡ Some l → has_exact_integers (filter_by l) ≡ true → has_small_exponents (filter_by l) ≡ true
    → IsWellFormed (filter_by l)
well_formed_alone text l sized read exact small = record { text = in_filter text; sized = sized; spelled = exact_spells text l read exact; exact = exact; small = small }

module _ (text : List ℕ) where
  pub condition_found : (r : Result Condition ParseFault) → MeantAlone text r → IfOk r (λ c. IsFalse (is_oversized (in_filter text)) × SpellsCondition text (condition_view c))
  condition_found (Ok c) h = (h.0.0, exact_spells text (condition_view c) h.0.1 h.1.0)
  condition_found (Err e) h = tt

  module _ (l : Logical) (sized : IsFalse (is_oversized (in_filter text))) (spelled : SpellsCondition text l) (exact : has_exact_integers (filter_by l) ≡ true) (small : has_small_exponents (filter_by l) ≡ true) where
    reads : read_alone clamp text ≡ Some l
    reads = alone_reads clamp text l sized spelled ∙ ap (λ (m : Logical). Some m) (filter_inside (logical_ints clamp l) l (clamp_keeps (filter_by l) exact))

    pub condition_only : (r : Result Condition ParseFault) → MeantAlone text r → GivesCondition l r
    condition_only (Ok c) h = some_is (condition_view c) l (read_alone clamp text) h.0.1 reads
    condition_only (Err (parse_faults.Refused faults.Size)) h = not_both (is_oversized (in_filter text)) h sized
    condition_only (Err (parse_faults.Refused faults.Syntax)) h = none_is l (read_alone clamp text) reads h.1
    condition_only (Err (parse_faults.Refused faults.Integer)) h =
        not_both (has_exact_integers (filter_by l)) exact (ap (λ m. has_exact_integers (filter_by m)) (sym (some_is h.0 l (read_alone clamp text) h.1.1 reads)) ∙ h.2)
    condition_only (Err (parse_faults.Refused faults.Number)) h =
        not_both (has_small_exponents (filter_by l)) small (ap (λ m. has_small_exponents (filter_by m)) (sym (some_is h.0 l (read_alone clamp text) h.1.1 reads)) ∙ h.2.1)
    condition_only (Err (parse_faults.Refused faults.Function)) h = h
    condition_only (Err (parse_faults.Refused faults.Types)) h = h
    condition_only (Err parse_faults.Memory) h = tt

  condition_fault : (e : ParseFault) → MeantAlone text (Err e) → IsFirstConditionFault text e
  condition_fault (parse_faults.Refused faults.Size) h = (h, refl)
  condition_fault (parse_faults.Refused faults.Syntax) h = ((h.0, λ l spelled. none_is (logical_ints clamp l) (read_alone clamp text) (alone_reads clamp text l h.0 spelled) h.1), refl)
  condition_fault (parse_faults.Refused faults.Integer) h =
      let p = alone_spelled clamp text h.0 h.1.1 in
      let e : has_exact_integers (filter_by p.0) ≡ false = sym (clamp_tells (filter_by p.0)) ∙ (ap (λ l. has_exact_integers (filter_by l)) p.2 ∙ h.2) in
      ((h.1.0, p.0, p.1, not_exact (filter_by p.0) e), refl)
  condition_fault (parse_faults.Refused faults.Number) h = ((h.1.0, h.0, exact_spells text h.0 h.1.1 h.2.0, not_small (filter_by h.0) h.2.0 h.2.1), refl)
  condition_fault (parse_faults.Refused faults.Function) h = absurd h
  condition_fault (parse_faults.Refused faults.Types) h = absurd h
  condition_fault parse_faults.Memory h = tt

  pub condition_faults : (r : Result Condition ParseFault) → MeantAlone text r → IfErr r (λ e. IsFirstConditionFault text e)
  condition_faults (Ok c) h = tt
  condition_faults (Err e) h = condition_fault e h
