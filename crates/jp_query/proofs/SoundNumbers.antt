-- The numbers of a spelled query can be read.
use Rattle.std.proofs.Common.{◌≡◌, ◌∙◌, ℕ, ◌+◌, ◌^◌, ◌≤◌, List, [], ◌∷◌, length, length-append, le_trans, ap, Bool, true, false, not, ◌&&◌, ◌||◌, Option, Some, None, arith, refl, sym, subst}
use Rattle.std.specs.Prelude.{nat_le, nat_lt, IsUtf8, chars}
use Rattle.std.specs.List.{list_all}
use Rattle.std.proofs.lemmas.Bool.{and_parts, and_from, not_from_false, le-leb, lt-ltb, ltb-false}
use Rattle.std.proofs.lemmas.Str.{encodes-chars, length-le-encodes}
use Rattle.std.proofs.lemmas.Slice.Eq.{bytes_eq-Decides}
use Rattle.jp_model.specs.Json.Numbers.{AreDigits, AreSomeDigits, IsInt, Exponent, IsExponent, Numeral, IsNumeral, numeral_bytes, numeral_of, is_long_exponent}
use Rattle.jp_model.specs.Json.Reader.{is_int, is_exponent, is_numeral}
use Rattle.jp_model.specs.Characters.{is_digit, text_equal}
use Rattle.jp_model.specs.Query.Limits.{is_oversized, Tests, literal_small, segments_pass, segment_passes, selectors_pass, selector_passes, logical_passes, logicals_pass, comparable_passes, path_passes, call_passes, arguments_pass, argument_passes, has_small_exponents}
use Rattle.jp_model.specs.Query.Spelling.{Front, Blanks, IsLiteral, number_spelled, string_spelled, true_spelled, false_spelled, null_spelled, bracketed_name, pointed_name, bracketed_index, SingularSegments, singular_end, singular_goes_on, IsSegments, segments_end, segments_go_on, IsSegment, child_brackets, child_wildcard, child_name, descendant_brackets, descendant_wildcard, descendant_name, IsBrackets, brackets, IsMoreSelectors, selectors_end, selectors_go_on, IsSelector, quoted_name, wildcard_mark, index_int, slice_parts, filter_mark, IsLogical, some_and, IsMoreOr, or_ends, or_goes_on, IsAnd, some_basic, IsMoreAnd, and_ends, and_goes_on, IsBasic, parens, comparison, query_test, call_test, IsQuery, filter_query, IsComparable, literal_side, singular_side, call_side, IsCall, call_without, call_with, IsMoreArguments, arguments_end, arguments_go_on, IsArgument, literal_argument, query_argument, call_argument, logical_argument, SpellsQuery, query, or_of, and_of, negated_if}
use Rattle.jp_model.specs.Query.Syntax.{Literal, Segment, Segments, Selector, Selectors, Logical, exists, test, Logicals, no_logicals, logical, Comparable, Argument, Arguments, Path, Call}
use Rattle.jp_model.proofs.Reader.Numbers.{parts_read}
use Rattle.jp_syntax.specs.Sound.{is_sound, has_sound_literals}
use Rattle.jp_syntax.specs.WellFormed.{IsWellFormed}
use Rattle.jp_query.proofs.Shrinks.{blanks_shrink, function_shrinks, op_shrinks, origin_shrinks, negation_shrinks, segment_shrinks, selector_shrinks, and_shrinks, basic_shrinks, comparable_shrinks, argument_shrinks}

digits_pass : (ds : List ℕ) → AreDigits ds → list_all is_digit ds ≡ true
digits_pass [] h = refl
digits_pass (d ∷ ds) h = and_from _ _ h.0 (digits_pass ds h.1)

int_passes : (ds : List ℕ) → IsInt ds → is_int ds ≡ true
int_passes [] h = absurd h
int_passes (d ∷ []) h = h
int_passes (d ∷ e ∷ ds) h = and_from _ _ h.0 (and_from _ _ (not_from_false _ h.1) (digits_pass (e ∷ ds) h.2))

some_pass : (ds : List ℕ) → AreSomeDigits ds → (nat_le 1 (length ds) && list_all is_digit ds) ≡ true
some_pass [] h = absurd h
some_pass (d ∷ ds) h = and_from _ _ (le-leb 1 (length (d ∷ ds)) (omega arith)) (digits_pass (d ∷ ds) h)

exponent_passes : (e : Option Exponent) → IsExponent e → is_exponent e ≡ true
exponent_passes None h = refl
exponent_passes (Some e) h = some_pass e.digits h

-- the parts that the grammar allows pass their test
numeral_passes : (n : Numeral) → IsNumeral n → is_numeral n ≡ true
numeral_passes n h = and_from _ _ (int_passes n.int h.int) (and_from _ _ (digits_pass n.fraction h.fraction) (exponent_passes n.exponent h.exponent))

abbrev small : Tests
small = record { integer = λ i. true; literal = literal_small; function = λ f. true }

abbrev sound : Tests
sound = record { integer = λ i. true; literal = is_sound; function = λ f. true }

grows : (c : ℕ) (x : List ℕ) → length x ≤ length (c ∷ x)
grows c x = omega arith

behind_blanks : {x y : List ℕ} {most : ℕ} → Blanks x y → length x ≤ most → length y ≤ most
behind_blanks b l = le_trans (blanks_shrink length grows b) l

front_short : (s x y : List ℕ) → Front s x y → length x ≤ 65535 → nat_lt (length s) (2 ^ 32) ≡ true
front_short s x y e l =
    let whole : length x ≡ length s + length y = ap length e ∙ length-append s y in
    lt-ltb (length s) (2 ^ 32) (omega arith)

literal_good : {x y : List ℕ} {c : Literal} → IsLiteral x y c → length x ≤ 65535 → literal_small c ≡ true → is_sound c ≡ true
literal_good (number_spelled {n} {x} {y} h e) l g =
    let same = parts_read n h in
    let bytes : text_equal (numeral_bytes n) (numeral_bytes n) ≡ true = (bytes_eq-Decides (numeral_bytes n) (numeral_bytes n)).1 refl in
    let short : not (is_long_exponent n) ≡ true = subst (λ m. not (is_long_exponent m) ≡ true) same g in
    let spelled : (text_equal (numeral_bytes (numeral_of (numeral_bytes n))) (numeral_bytes n) && (is_numeral (numeral_of (numeral_bytes n)) && not (is_long_exponent (numeral_of (numeral_bytes n))))) ≡ true =
    subst (λ m. (text_equal (numeral_bytes m) (numeral_bytes n) && (is_numeral m && not (is_long_exponent m))) ≡ true) (sym same) (and_from _ _ bytes (and_from _ _ (numeral_passes n h) short)) in
    and_from _ _ spelled (front_short (numeral_bytes n) x y e l)
literal_good (string_spelled q) l g = refl
literal_good (true_spelled e) l g = refl
literal_good (false_spelled e) l g = refl
literal_good (null_spelled e) l g = refl

singular_good : {x y : List ℕ} {ss : Segments} → SingularSegments x y ss → segments_pass ss sound ≡ true
singular_good singular_end = refl
singular_good (singular_goes_on b (bracketed_name q) more) = singular_good more
singular_good (singular_goes_on b (pointed_name n) more) = singular_good more
singular_good (singular_goes_on b (bracketed_index i) more) = singular_good more

-- an expression of some parts
and_true : (b : Bool) → b ≡ (b && true)
and_true true = refl
and_true false = refl

or_pass : (l : Logical) (ls : Logicals) (t : Tests) → logical_passes (or_of l ls) t ≡ (logical_passes l t && logicals_pass ls t)
or_pass l no_logicals t = and_true (logical_passes l t)
or_pass l (logical m ms) t = refl

and_pass : (l : Logical) (ls : Logicals) (t : Tests) → logical_passes (and_of l ls) t ≡ (logical_passes l t && logicals_pass ls t)
and_pass l no_logicals t = and_true (logical_passes l t)
and_pass l (logical m ms) t = refl

negated_pass : (b : Bool) (l : Logical) (t : Tests) → logical_passes (negated_if b l) t ≡ logical_passes l t
negated_pass true l t = refl
negated_pass false l t = refl

-- an expression, and those after it, each by what is known of it
joined_good : (x y : List ℕ) (join : Logical → Logicals → Logical) (l : Logical) (ls : Logicals) → ((t : Tests) → logical_passes (join l ls) t ≡ (logical_passes l t && logicals_pass ls t))
    → length y ≤ length x → (length x ≤ 65535 → logical_passes l small ≡ true → logical_passes l sound ≡ true) → (length y ≤ 65535 → logicals_pass ls small ≡ true → logicals_pass ls sound ≡ true)
    → length x ≤ 65535 → logical_passes (join l ls) small ≡ true → logical_passes (join l ls) sound ≡ true
joined_good x y join l ls pass shorter one more short h =
    let p = and_parts _ _ (sym (pass small) ∙ h) in
    pass sound ∙ and_from _ _ (one short p.0) (more (le_trans shorter short) p.1)

-- the same after a mark that is written twice
behind_good : {x y z : List ℕ} (w : List ℕ) (mark : ℕ) (l : Logical) (ls : Logicals) → Blanks x (mark ∷ mark ∷ y) → Blanks y z
    → length w ≤ length z → (length z ≤ 65535 → logical_passes l small ≡ true → logical_passes l sound ≡ true) → (length w ≤ 65535 → logicals_pass ls small ≡ true → logicals_pass ls sound ≡ true)
    → length x ≤ 65535 → logicals_pass (logical l ls) small ≡ true → logicals_pass (logical l ls) sound ≡ true
behind_good {y = y} w mark l ls b c shorter one more short h =
    let p = and_parts _ _ h in
    let k = behind_blanks c (le_trans (grows mark y) (le_trans (grows mark (mark ∷ y)) (behind_blanks b short))) in
    and_from _ _ (one k p.0) (more (le_trans shorter k) p.1)

mutual
  segments_good : {x y : List ℕ} {ss : Segments} → IsSegments x y ss → length x ≤ 65535 → segments_pass ss small ≡ true → segments_pass ss sound ≡ true
  segments_good segments_end l h = refl
  segments_good (segments_go_on b s more) l h =
      let p = and_parts _ _ h in
      let k = behind_blanks b l in
      and_from _ _ (segment_good s k p.0) (segments_good more (le_trans (segment_shrinks length grows s) k) p.1)

  segment_good : {x y : List ℕ} {s : Segment} → IsSegment x y s → length x ≤ 65535 → segment_passes s small ≡ true → segment_passes s sound ≡ true
  segment_good (child_brackets b) l h = brackets_good b l h
  segment_good child_wildcard l h = refl
  segment_good (child_name n) l h = refl
  segment_good (descendant_brackets {x} b) l h = brackets_good b (le_trans (grows 46 x) (le_trans (grows 46 (46 ∷ x)) l)) h
  segment_good descendant_wildcard l h = refl
  segment_good (descendant_name n) l h = refl

  brackets_good : {x y : List ℕ} {ss : Selectors} → IsBrackets x y ss → length x ≤ 65535 → selectors_pass ss small ≡ true → selectors_pass ss sound ≡ true
  brackets_good (brackets {x} b s more e) l h =
      let p = and_parts _ _ h in
      let k = behind_blanks b (le_trans (grows 91 x) l) in
      and_from _ _ (selector_good s k p.0) (more_selectors_good more (le_trans (selector_shrinks length grows s) k) p.1)

  more_selectors_good : {x y : List ℕ} {ss : Selectors} → IsMoreSelectors x y ss → length x ≤ 65535 → selectors_pass ss small ≡ true → selectors_pass ss sound ≡ true
  more_selectors_good selectors_end l h = refl
  more_selectors_good (selectors_go_on {y} b c s more) l h =
      let p = and_parts _ _ h in
      let k = behind_blanks c (le_trans (grows 44 y) (behind_blanks b l)) in
      and_from _ _ (selector_good s k p.0) (more_selectors_good more (le_trans (selector_shrinks length grows s) k) p.1)

  selector_good : {x y : List ℕ} {s : Selector} → IsSelector x y s → length x ≤ 65535 → selector_passes s small ≡ true → selector_passes s sound ≡ true
  selector_good (quoted_name q) l h = refl
  selector_good wildcard_mark l h = refl
  selector_good (index_int i) l h = refl
  selector_good (slice_parts a b c d) l h = h
  selector_good (filter_mark {x} b m) l h = logical_good m (behind_blanks b (le_trans (grows 63 x) l)) h

  logical_good : {x y : List ℕ} {b : Bool} {l : Logical} → IsLogical x y b l → length x ≤ 65535 → logical_passes l small ≡ true → logical_passes l sound ≡ true
  logical_good (some_and {x} {y} {l = first} {ls} a more) l h = joined_good x y or_of first ls (or_pass first ls) (and_shrinks length grows a) (and_good a) (more_or_good more) l h

  more_or_good : {x y : List ℕ} {ls : Logicals} → IsMoreOr x y ls → length x ≤ 65535 → logicals_pass ls small ≡ true → logicals_pass ls sound ≡ true
  more_or_good or_ends l h = refl
  more_or_good (or_goes_on {w = w} {l = first} {ls} b c a more) l h = behind_good w 124 first ls b c (and_shrinks length grows a) (and_good a) (more_or_good more) l h

  and_good : {x y : List ℕ} {b : Bool} {l : Logical} → IsAnd x y b l → length x ≤ 65535 → logical_passes l small ≡ true → logical_passes l sound ≡ true
  and_good (some_basic {x} {y} {l = first} {ls} a more) l h = joined_good x y and_of first ls (and_pass first ls) (basic_shrinks length grows a) (basic_good a) (more_and_good more) l h

  more_and_good : {x y : List ℕ} {ls : Logicals} → IsMoreAnd x y ls → length x ≤ 65535 → logicals_pass ls small ≡ true → logicals_pass ls sound ≡ true
  more_and_good and_ends l h = refl
  more_and_good (and_goes_on {w = w} {l = first} {ls} b c a more) l h = behind_good w 38 first ls b c (basic_shrinks length grows a) (basic_good a) (more_and_good more) l h

  basic_good : {x y : List ℕ} {b : Bool} {l : Logical} → IsBasic x y b l → length x ≤ 65535 → logical_passes l small ≡ true → logical_passes l sound ≡ true
  basic_good (parens {y} {b} {l = inner} n p m e) l h =
      let k = behind_blanks p (le_trans (grows 40 y) (le_trans (negation_shrinks length grows n) l)) in
      negated_pass b inner sound ∙ logical_good m k (sym (negated_pass b inner small) ∙ h)
  basic_good (comparison a b o c d) l h =
      let p = and_parts _ _ h in
      let k = behind_blanks c (le_trans (op_shrinks length grows o) (behind_blanks b (le_trans (comparable_shrinks length grows a) l))) in
      and_from _ _ (comparable_good a l p.0) (comparable_good d k p.1)
  basic_good (query_test {b} {p} n q) l h = negated_pass b (exists p) sound ∙ query_good q (le_trans (negation_shrinks length grows n) l) (sym (negated_pass b (exists p) small) ∙ h)
  basic_good (call_test {b} {c} n q) l h = negated_pass b (test c) sound ∙ call_good q (le_trans (negation_shrinks length grows n) l) (sym (negated_pass b (test c) small) ∙ h)

  query_good : {x y : List ℕ} {p : Path} → IsQuery x y p → length x ≤ 65535 → path_passes p small ≡ true → path_passes p sound ≡ true
  query_good (filter_query o ss) l h = segments_good ss (le_trans (origin_shrinks length grows o) l) h

  comparable_good : {x y : List ℕ} {a : Comparable} → IsComparable x y a → length x ≤ 65535 → comparable_passes a small ≡ true → comparable_passes a sound ≡ true
  comparable_good (literal_side c) l h = literal_good c l h
  comparable_good (singular_side o ss) l h = singular_good ss
  comparable_good (call_side c) l h = call_good c l h

  call_good : {x y : List ℕ} {c : Call} → IsCall x y c → length x ≤ 65535 → call_passes c small ≡ true → call_passes c sound ≡ true
  call_good (call_without n b) l h = refl
  call_good (call_with {y} n b a more e) l h =
      let p = and_parts _ _ h in
      let k = behind_blanks b (le_trans (grows 40 y) (le_trans (function_shrinks length grows n) l)) in
      and_from _ _ (argument_good a k p.0) (more_arguments_good more (le_trans (argument_shrinks length grows a) k) p.1)

  more_arguments_good : {x y : List ℕ} {args : Arguments} → IsMoreArguments x y args → length x ≤ 65535 → arguments_pass args small ≡ true → arguments_pass args sound ≡ true
  more_arguments_good arguments_end l h = refl
  more_arguments_good (arguments_go_on {y} b c a more) l h =
      let p = and_parts _ _ h in
      let k = behind_blanks c (le_trans (grows 44 y) (behind_blanks b l)) in
      and_from _ _ (argument_good a k p.0) (more_arguments_good more (le_trans (argument_shrinks length grows a) k) p.1)

  argument_good : {x y : List ℕ} {a : Argument} → IsArgument x y a → length x ≤ 65535 → argument_passes a small ≡ true → argument_passes a sound ≡ true
  argument_good (literal_argument c) l h = literal_good c l h
  argument_good (query_argument q) l h = query_good q l h
  argument_good (call_argument c) l h = call_good c l h
  argument_good (logical_argument m) l h = logical_good m l h

spelled_good : {x : List ℕ} {q : Segments} → SpellsQuery x q → length x ≤ 65535 → has_small_exponents q ≡ true → has_sound_literals q ≡ true
spelled_good (query {x} s) l h = segments_good s (le_trans (grows 36 x) l) h

few_bytes : (a b : Bool) → (a || b) ≡ false → a ≡ false
few_bytes true b h = h
few_bytes false b h = refl

few_scalars : (bytes : List ℕ) → IsUtf8 bytes → is_oversized bytes ≡ false → length (chars bytes) ≤ 65535
few_scalars bytes u h =
    let few : nat_lt 65535 (length bytes) ≡ false = few_bytes _ _ h in
    let less : length (chars bytes) ≤ length bytes = subst (λ b. length (chars bytes) ≤ length b) (encodes-chars bytes u) (length-le-encodes (chars bytes)) in
    le_trans less (ltb-false 65535 (length bytes) few)

pub well_formed_sound : (q : Segments) → IsWellFormed q → has_sound_literals q ≡ true
well_formed_sound q w = spelled_good w.spelled.1 (few_scalars w.text w.spelled.0 w.sized) w.small
