-- From the marks ahead of a place to those ahead of the next one.
use Rattle.std.proofs.Common.{◌≡◌, ℕ, zero, suc, ◌+◌, ◌-◌, ◌%◌, ◌<◌, ◌≤◌, ◌==◌, ◌⊎◌, inl, inr, Bool, true, false, not, ◌&&◌, ◌||◌, cond, List, [], ◌∷◌, length, drop, get_or, sym, ◌∙◌, ap, ap₂, refl, arith, add-one, subst}
use Rattle.std.specs.List.{filter, range_with_len, list_all}
use Rattle.std.proofs.lemmas.List.{length-drop, drop-drop}
use Rattle.std.proofs.lemmas.List.Filters.{length-filter_both}
use Rattle.std.proofs.lemmas.List.FromFn.{length-range_with_len}
use Rattle.std.proofs.lemmas.List.Folds.{list_all_at}
use Rattle.std.proofs.lemmas.List.Edits.{get_or-between, length-between}
use Rattle.std.proofs.lemmas.Bool.{cases_lt, cases_Bool, eq-eqb, eqb-true, eqb-false, true≢false}
use Rattle.std.proofs.lemmas.Bool.Decides.{nat_tests}
use Rattle.jp_model.specs.Characters.{is_white, is_structural, is_quote, is_backslash}
use Rattle.jp_model.specs.Json.Places.{byte_at, White, Has, Reads}
use Rattle.jp_model.specs.Json.Tree.{Container, array, object}
use Rattle.jp_model.specs.Json.Spelling.{opening}
use Rattle.jp_model.specs.Json.Marks.{is_mark, is_inside, is_escaped, is_unescaped_quote, may_begin, backslashes_before, quotes_before, marks}
use Rattle.jp_model.proofs.Reader.Lexical.{end_stops}
use Rattle.jp_tape.specs.Places.{Stops, in_number}
use Rattle.jp_tape.specs.Ahead.{marks_from, IsAhead, IsNext, IsPassed, first_or, in_token, IsSolid}

-- ---- lists of marks

pub same_head : (a b : ℕ) (xs ys : List ℕ) → a ∷ xs ≡ b ∷ ys → a ≡ b
same_head a b xs ys e = cc

pub same_tail : (a b : ℕ) (xs ys : List ℕ) → a ∷ xs ≡ b ∷ ys → xs ≡ ys
same_tail a b xs ys e = cc

passes_first : (p : ℕ → Bool) (n i m : ℕ) (rest : List ℕ) → filter p (range_with_len i n) ≡ m ∷ rest → i ≤ m
passes_first p zero i m rest e = absurd (cc)
passes_first p (suc n) i m rest e = go (p i) e (passes_first p n (i + 1) m rest)
  where
    go : (b : Bool) → cond b (i ∷ filter p (range_with_len (i + 1) n)) (filter p (range_with_len (i + 1) n)) ≡ m ∷ rest → (filter p (range_with_len (i + 1) n) ≡ m ∷ rest → i + 1 ≤ m) → i ≤ m
    go true e later = let h = same_head i m (filter p (range_with_len (i + 1) n)) rest e in omega (arith, h)
    go false e later = let h = later e in omega (arith, h)

pub mark_behind : (line : List ℕ) (i m : ℕ) (rest : List ℕ) → marks_from line i ≡ m ∷ rest → i ≤ m
unfolding marks_from
mark_behind line i m rest e = passes_first (is_mark line) (length line - i) i m rest e

passes_last : (p : ℕ → Bool) (n i m : ℕ) (rest : List ℕ) → filter p (range_with_len i n) ≡ m ∷ rest → m < i + n
passes_last p zero i m rest e = absurd (cc)
passes_last p (suc n) i m rest e = go (p i) e (passes_last p n (i + 1) m rest)
  where
    go : (b : Bool) → cond b (i ∷ filter p (range_with_len (i + 1) n)) (filter p (range_with_len (i + 1) n)) ≡ m ∷ rest → (filter p (range_with_len (i + 1) n) ≡ m ∷ rest → m < i + 1 + n) → m < i + suc n
    go true e later = let h = same_head i m (filter p (range_with_len (i + 1) n)) rest e in omega (arith, h)
    go false e later = let h = later e in omega (arith, h)

mark_inside : (line : List ℕ) (i m : ℕ) (rest : List ℕ) → marks_from line i ≡ m ∷ rest → m < length line
unfolding marks_from
mark_inside line i m rest e =
    let first = passes_first (is_mark line) (length line - i) i m rest e in
    let last = passes_last (is_mark line) (length line - i) i m rest e in
    omega (arith, first, last)

one_more : (line : List ℕ) (i : ℕ) → i < length line → marks_from line i ≡ cond (is_mark line i) (i ∷ marks_from line (i + 1)) (marks_from line (i + 1))
unfolding marks_from
one_more line i l = let n : length line - i ≡ suc (length line - (i + 1)) = omega arith in ap (λ n. filter (is_mark line) (range_with_len i n)) n

pub marked : (line : List ℕ) (i : ℕ) → i < length line → is_mark line i ≡ true → marks_from line i ≡ i ∷ marks_from line (i + 1)
marked line i l h = one_more line i l ∙ ap (λ b. cond b (i ∷ marks_from line (i + 1)) (marks_from line (i + 1))) h

pub unmarked : (line : List ℕ) (i : ℕ) → i < length line → is_mark line i ≡ false → marks_from line i ≡ marks_from line (i + 1)
unmarked line i l h = one_more line i l ∙ ap (λ b. cond b (i ∷ marks_from line (i + 1)) (marks_from line (i + 1))) h

pub none_at_end : (line : List ℕ) (i : ℕ) → length line ≤ i → marks_from line i ≡ []
unfolding marks_from
none_at_end line i l = let n : length line - i ≡ 0 = omega arith in ap (λ n. filter (is_mark line) (range_with_len i n)) n

-- ---- what is known after a byte

and_false : (a : Bool) → (a && false) ≡ false
and_false true = refl
and_false false = refl

or_true : (a : Bool) → (a || true) ≡ true
or_true true = refl
or_true false = refl

odd_next : (n : ℕ) → (n % 2 == 1) ≡ false → (suc n % 2 == 1) ≡ true
odd_next n h = let o : n % 2 ≡ 1 → ⊥ = eqb-false (n % 2) 1 h in eq-eqb (suc n % 2) 1 (omega (arith, o))

even_next : (n : ℕ) → (n % 2 == 1) ≡ true → (suc n % 2 == 1) ≡ false
even_next n h = go (suc n % 2 == 1) refl
  where
    go : (b : Bool) → (suc n % 2 == 1) ≡ b → b ≡ false
    go true e = let a = eqb-true (n % 2) 1 h in let b = eqb-true (suc n % 2) 1 e in absurd (omega (arith, a, b))
    go false e = refl

-- after a byte that is no backslash none is escaped
pub free_next : (line : List ℕ) (i : ℕ) → is_backslash (byte_at line i) ≡ false → is_escaped line (i + 1) ≡ false
unfolding backslashes_before
free_next line i h = ap (is_escaped line) (add-one i) ∙ ap (λ b. cond b (suc (backslashes_before line i)) 0 % 2 == 1) h

pub slash_next : (line : List ℕ) (i : ℕ) → is_backslash (byte_at line i) ≡ true → is_escaped line i ≡ false → is_escaped line (i + 1) ≡ true
unfolding backslashes_before
slash_next line i h e = ap (is_escaped line) (add-one i) ∙ (ap (λ b. cond b (suc (backslashes_before line i)) 0 % 2 == 1) h ∙ odd_next (backslashes_before line i) e)

pub letter_next : (line : List ℕ) (i : ℕ) → is_escaped line i ≡ true → is_escaped line (i + 1) ≡ false
unfolding backslashes_before
letter_next line i e = ap (is_escaped line) (add-one i) ∙ go (is_backslash (byte_at line i))
  where
    go : (b : Bool) → (cond b (suc (backslashes_before line i)) 0 % 2 == 1) ≡ false
    go true = even_next (backslashes_before line i) e
    go false = refl

pub no_quote_unescaped : (line : List ℕ) (i : ℕ) → is_quote (byte_at line i) ≡ false → is_unescaped_quote line i ≡ false
no_quote_unescaped line i q = ap (λ b. b && not (is_escaped line i)) q

pub escaped_no_quote : (line : List ℕ) (i : ℕ) → is_escaped line i ≡ true → is_unescaped_quote line i ≡ false
escaped_no_quote line i e = ap (λ b. is_quote (byte_at line i) && not b) e ∙ and_false (is_quote (byte_at line i))

pub quote_unescaped : (line : List ℕ) (i : ℕ) → is_quote (byte_at line i) ≡ true → is_escaped line i ≡ false → is_unescaped_quote line i ≡ true
quote_unescaped line i q e = ap₂ (λ a b. a && not b) q e

pub inside_stays : (line : List ℕ) (i : ℕ) → is_unescaped_quote line i ≡ false → is_inside line (i + 1) ≡ is_inside line i
unfolding quotes_before
inside_stays line i h = ap (is_inside line) (add-one i) ∙ ap (λ b. cond b (suc (quotes_before line i)) (quotes_before line i) % 2 == 1) h

pub opens_next : (line : List ℕ) (i : ℕ) → is_unescaped_quote line i ≡ true → is_inside line i ≡ false → is_inside line (i + 1) ≡ true
unfolding quotes_before
opens_next line i h s = ap (is_inside line) (add-one i) ∙ (ap (λ b. cond b (suc (quotes_before line i)) (quotes_before line i) % 2 == 1) h ∙ odd_next (quotes_before line i) s)

pub closes_next : (line : List ℕ) (i : ℕ) → is_unescaped_quote line i ≡ true → is_inside line i ≡ true → is_inside line (i + 1) ≡ false
unfolding quotes_before
closes_next line i h s = ap (is_inside line) (add-one i) ∙ (ap (λ b. cond b (suc (quotes_before line i)) (quotes_before line i) % 2 == 1) h ∙ even_next (quotes_before line i) s)

begins_is : (line : List ℕ) (i : ℕ) → may_begin line (i + 1) ≡ (is_white (byte_at line i) || is_structural (byte_at line i) || is_unescaped_quote line i)
unfolding may_begin
begins_is line i = ap (may_begin line) (add-one i)

-- ---- which bytes are marks

abbrev Rest : List ℕ → ℕ → Bool
Rest line i = is_structural (byte_at line i) || (may_begin line i && not (is_white (byte_at line i) || is_quote (byte_at line i)))

pub quote_is_mark : (line : List ℕ) (i : ℕ) → is_unescaped_quote line i ≡ true → is_mark line i ≡ true
quote_is_mark line i u = ap (λ b. b || (not (is_inside line i) && Rest line i)) u

pub within_no_mark : (line : List ℕ) (i : ℕ) → is_unescaped_quote line i ≡ false → is_inside line i ≡ true → is_mark line i ≡ false
within_no_mark line i u s = ap₂ (λ a b. a || (not b && Rest line i)) u s

outside_mark : (line : List ℕ) (i : ℕ) (w st q m : Bool) → is_escaped line i ≡ false → is_inside line i ≡ false → is_white (byte_at line i) ≡ w → is_structural (byte_at line i) ≡ st → is_quote (byte_at line i) ≡ q → may_begin line i ≡ m
    → is_mark line i ≡ ((q && not false) || (not false && (st || (m && not (w || q)))))
outside_mark line i w st q m e s hw hs hq hm = λ t. (hq t && not (e t)) || (not (s t) && (hs t || (hm t && not (hw t || hq t))))

-- ---- white space

record Blank (b : ℕ) : Type 0 where
  no_structural : is_structural b ≡ false
  no_quote : is_quote b ≡ false
  no_backslash : is_backslash b ≡ false

blank : (b : ℕ) → is_white b ≡ true → Blank b
blank b h = record { no_structural = grind (arith, nat_tests, h); no_quote = grind (arith, nat_tests, h); no_backslash = grind (arith, nat_tests, h) }

record PassesOver (line : List ℕ) (i : ℕ) : Type 0 where
  clear : marks_from line i ≡ marks_from line (i + 1)
  unescaped : is_escaped line (i + 1) ≡ false
  outside : is_inside line (i + 1) ≡ false
  begins : may_begin line (i + 1) ≡ true

white_step : (line : List ℕ) (i : ℕ) → i < length line → is_white (byte_at line i) ≡ true → is_escaped line i ≡ false → is_inside line i ≡ false → PassesOver line i
white_step line i l w e s =
    let b = blank (byte_at line i) w in
    let u = no_quote_unescaped line i b.no_quote in
    record {
      clear = unmarked line i l (outside_mark line i true false false (may_begin line i) e s w b.no_structural b.no_quote refl ∙ and_false (may_begin line i));
      unescaped = free_next line i b.no_backslash;
      outside = inside_stays line i u ∙ s;
      begins = begins_is line i ∙ ap (λ x. x || is_structural (byte_at line i) || is_unescaped_quote line i) w;
    }

-- white space up to a place, and the same marks ahead of it
pub record Skips (line ms : List ℕ) (from to : ℕ) : Type 0 where
  pub white : White line from to
  pub stops : Stops line to
  pub ahead : IsAhead line to ms

no_white_is_mark : (line : List ℕ) (i : ℕ) → is_white (byte_at line i) ≡ false → is_escaped line i ≡ false → is_inside line i ≡ false → may_begin line i ≡ true → is_mark line i ≡ true
no_white_is_mark line i w e s m = outside_mark line i false (is_structural (byte_at line i)) (is_quote (byte_at line i)) true e s w refl refl m ∙ go (is_quote (byte_at line i)) (is_structural (byte_at line i))
  where
    go : (q st : Bool) → ((q && not false) || (not false && (st || (true && not (false || q))))) ≡ true
    go true st = refl
    go false st = or_true st

white_more : (line : List ℕ) (i to : ℕ) → is_white (byte_at line i) ≡ true → White line (i + 1) to → (k : ℕ) → i ≤ k → k < to → is_white (byte_at line k) ≡ true
white_more line i to w r k a b =
    elim (cases_Bool (i == k)) [
      | inl e ↦ (let f = eqb-true i k e in subst (λ x. is_white (byte_at line x) ≡ true) f w)
      | inr e ↦ (let f : i ≡ k → ⊥ = eqb-false i k e in r.white k (omega (arith, f, a)) b)
    ]

white_first : (line : List ℕ) (i : ℕ) (ms : List ℕ) (to : ℕ) → is_white (byte_at line i) ≡ true → Skips line ms (i + 1) to → Skips line ms i to
white_first line i ms to w r =
    let o = r.white.order in
    record { white = record { order = omega (arith, o); within = r.white.within; white = white_more line i to w r.white }; stops = r.stops; ahead = r.ahead }

stays_here : (line ms : List ℕ) (i : ℕ) → i ≤ length line → Stops line i → IsAhead line i ms → Skips line ms i i
stays_here line ms i l s a = record { white = record { order = omega arith; within = l; white = λ k a b. absurd (omega (arith, a, b)) }; stops = s; ahead = a }

abbrev Next : List ℕ → ℕ → ℕ
Next line i = first_or (marks_from line i) (length line)

white_or_not : (line : List ℕ) (i : ℕ) → i < length line → is_escaped line i ≡ false → is_inside line i ≡ false → may_begin line i ≡ true
    → (is_escaped line (i + 1) ≡ false → is_inside line (i + 1) ≡ false → may_begin line (i + 1) ≡ true → Skips line (marks_from line (i + 1)) (i + 1) (Next line (i + 1))) → (w : Bool) → is_white (byte_at line i) ≡ w → Skips line (marks_from line i) i (Next line i)
white_or_not line i l e s m later false w =
    let here : marks_from line i ≡ i ∷ marks_from line (i + 1) = marked line i l (no_white_is_mark line i w e s m) in
    subst (λ x. Skips line (marks_from line i) i x) (sym (ap (λ ms. first_or ms (length line)) here)) (stays_here line (marks_from line i) i (omega arith) w (record { outside = s; unescaped = e; are = refl }))
white_or_not line i l e s m later true w =
    let step = white_step line i l w e s in
    let rest = later step.unescaped step.outside step.begins in
    subst (λ ms. Skips line ms i (first_or ms (length line))) (sym step.clear) (white_first line i (marks_from line (i + 1)) (Next line (i + 1)) w rest)

skips : (n : ℕ) (line : List ℕ) (i : ℕ) → i + n ≡ length line → is_escaped line i ≡ false → is_inside line i ≡ false → may_begin line i ≡ true → Skips line (marks_from line i) i (Next line i)
skips zero line i h e s m =
    let end : i ≡ length line = omega arith in
    let none : marks_from line i ≡ [] = none_at_end line i (omega arith) in
    subst (λ x. Skips line (marks_from line i) i x) (end ∙ sym (ap (λ ms. first_or ms (length line)) none))
    (stays_here line (marks_from line i) i (omega arith) (subst (λ x. Stops line x) (sym end) (end_stops line)) (record { outside = s; unescaped = e; are = refl }))
skips (suc n) line i h e s m = white_or_not line i (omega arith) e s m (λ f t b. skips n line (i + 1) (omega arith) f t b) (is_white (byte_at line i)) refl

-- from white space the next mark is the first byte that is none
pub skips_white : (line ms : List ℕ) (from to : ℕ) → from < length line → is_white (byte_at line from) ≡ true → IsAhead line from ms → to ≡ first_or ms (length line) → Skips line ms from to
skips_white line ms from to l w a e =
    let step = white_step line from l w a.unescaped a.outside in
    let rest = skips (length line - (from + 1)) line (from + 1) (omega arith) step.unescaped step.outside step.begins in
    let same : marks_from line (from + 1) ≡ ms = sym (a.are ∙ step.clear) in
    subst (λ x. Skips line ms from x) (sym e) (subst (λ xs. Skips line xs from (first_or xs (length line))) same (white_first line from (marks_from line (from + 1)) (Next line (from + 1)) w rest))

-- where a token may begin, the next mark is the first byte that is no white space
pub skips_to_mark : (line ms : List ℕ) (from to : ℕ) → from ≤ length line → may_begin line from ≡ true → IsAhead line from ms → to ≡ first_or ms (length line) → Skips line ms from to
skips_to_mark line ms from to w b a e =
    let s = skips (length line - from) line from (omega (arith, w)) a.unescaped a.outside b in
    subst (λ x. Skips line ms from x) (sym e) (subst (λ xs. Skips line xs from (first_or xs (length line))) (sym a.are) s)

-- a mark stands within the line
pub first_inside : (line ms : List ℕ) (from d : ℕ) → IsAhead line from ms → 0 < length ms → get_or ms 0 d < length line
first_inside line [] from d a l = absurd (omega (arith, l))
first_inside line (m ∷ ms) from d a l = mark_inside line from m ms (sym a.are)

-- a list that is not empty has some length
pub not_empty : (n : ℕ) → false ≡ (n == 0) → 0 < n
not_empty n h = let z : n ≡ 0 → ⊥ = eqb-false n 0 (sym h) in omega (arith, z)

-- where marks are ahead, the line goes on
pub goes_on : (line ms : List ℕ) (at : ℕ) → IsAhead line at ms → 0 < length ms → at < length line
goes_on line ms at a some = elim (cases_lt at (length line)) [
  | inl inside ↦ inside
  | inr end ↦ (let none = ap length (a.are ∙ none_at_end line at end) in absurd (omega (arith, none, some)))
]

pub none_is_end : (ms : List ℕ) (end : ℕ) → length ms ≡ 0 → end ≡ first_or ms end
none_is_end [] end e = refl
none_is_end (m ∷ ms) end e = absurd (omega (arith, e))

pub some_is_first : (ms : List ℕ) (end d : ℕ) → 0 < length ms → get_or ms 0 d ≡ first_or ms end
some_is_first [] end d l = absurd (omega (arith, l))
some_is_first (m ∷ ms) end d l = refl

-- ---- structural bytes

structural : (b : ℕ) → is_structural b ≡ true → (is_white b ≡ false) × (is_quote b ≡ false) × (is_backslash b ≡ false)
structural b h = (grind (arith, nat_tests, h), grind (arith, nat_tests, h), grind (arith, nat_tests, h))

passed : (line ms : List ℕ) (m to : ℕ) → ms ≡ m ∷ marks_from line to → is_escaped line to ≡ false → is_inside line to ≡ false → IsPassed line ms 1 to
passed line ms m to e u s = let n = ap length e in record { within = omega (arith, n); ahead = record { outside = s; unescaped = u; are = ap (drop 1) e } }

pub structural_first : (line ms : List ℕ) (i : ℕ) → i < length line → is_structural (byte_at line i) ≡ true → IsAhead line i ms → ms ≡ i ∷ marks_from line (i + 1)
structural_first line ms i l h a =
    let b = structural (byte_at line i) h in
    a.are ∙ marked line i l (outside_mark line i false true false (may_begin line i) a.unescaped a.outside b.0 h b.1 refl)

-- a structural byte is the next mark
pub passes_structural : (line ms : List ℕ) (i : ℕ) → i < length line → is_structural (byte_at line i) ≡ true → IsAhead line i ms → IsPassed line ms 1 (i + 1)
passes_structural line ms i l h a =
    let b = structural (byte_at line i) h in
    let u = no_quote_unescaped line i b.1 in
    passed line ms i (i + 1) (structural_first line ms i l h a) (free_next line i b.2) (inside_stays line i u ∙ a.outside)

or_middle : (a c : Bool) → (a || true || c) ≡ true
or_middle true c = refl
or_middle false c = refl

-- a token may begin after a structural byte
pub structural_begins : (line : List ℕ) (i : ℕ) → is_structural (byte_at line i) ≡ true → may_begin line (i + 1) ≡ true
structural_begins line i h = begins_is line i ∙ (ap (λ x. is_white (byte_at line i) || x || is_unescaped_quote line i) h ∙ or_middle (is_white (byte_at line i)) (is_unescaped_quote line i))

or_last : (a b : Bool) → (a || b || true) ≡ true
or_last true b = refl
or_last false true = refl
or_last false false = refl

-- and after a quote
pub quote_begins : (line : List ℕ) (i : ℕ) → is_unescaped_quote line i ≡ true → may_begin line (i + 1) ≡ true
quote_begins line i h = begins_is line i ∙ (ap (λ x. is_white (byte_at line i) || is_structural (byte_at line i) || x) h ∙ or_last (is_white (byte_at line i)) (is_structural (byte_at line i)))

-- ---- numbers and words

none_of : (a b c d : Bool) → not (a || b || c || d) ≡ true → (a ≡ false) × (b ≡ false) × (c ≡ false) × (d ≡ false)
none_of false false false false h = (refl, refl, refl, refl)
none_of false false false true h = absurd (cc)
none_of false false true d h = absurd (cc)
none_of false true c d h = absurd (cc)
none_of true b c d h = absurd (cc)

solid_byte : (b : ℕ) → in_token b ≡ true → (is_white b ≡ false) × (is_structural b ≡ false) × (is_quote b ≡ false) × (is_backslash b ≡ false)
solid_byte b h = none_of (is_white b) (is_structural b) (is_quote b) (is_backslash b) h

-- what holds after a byte of a number or a word
record Follows (line : List ℕ) (i : ℕ) : Type 0 where
  unescaped : is_escaped line (i + 1) ≡ false
  outside : is_inside line (i + 1) ≡ false
  begins : may_begin line (i + 1) ≡ false

or_none : (a b c : Bool) → a ≡ false → b ≡ false → c ≡ false → (a || b || c) ≡ false
or_none a b c p q r = λ t. p t || q t || r t

solid_follows : (line : List ℕ) (i : ℕ) → in_token (byte_at line i) ≡ true → is_inside line i ≡ false → Follows line i
solid_follows line i h s =
    let b = solid_byte (byte_at line i) h in
    let u = no_quote_unescaped line i b.2 in
    record { unescaped = free_next line i b.3; outside = inside_stays line i u ∙ s; begins = begins_is line i ∙ or_none (is_white (byte_at line i)) (is_structural (byte_at line i)) (is_unescaped_quote line i) b.0 b.1 u }

solid_mark : (line : List ℕ) (i : ℕ) (m : Bool) → in_token (byte_at line i) ≡ true → is_escaped line i ≡ false → is_inside line i ≡ false → may_begin line i ≡ m → is_mark line i ≡ m
solid_mark line i m h e s b =
    let p = solid_byte (byte_at line i) h in
    outside_mark line i false false false m e s p.0 p.1 p.2 b ∙ same m
  where
    same : (m : Bool) → ((false && not false) || (not false && (false || (m && not (false || false))))) ≡ m
    same true = refl
    same false = refl

record Ends (line : List ℕ) (i to : ℕ) : Type 0 where
  clear : marks_from line i ≡ marks_from line to
  unescaped : is_escaped line to ≡ false
  outside : is_inside line to ≡ false

solid_rest : (n : ℕ) (line : List ℕ) (i to : ℕ) → i + n ≡ to → to ≤ length line → IsSolid line i to → is_escaped line i ≡ false → is_inside line i ≡ false → may_begin line i ≡ false → Ends line i to
solid_rest zero line i to h l p e s m = let same : i ≡ to = omega arith in subst (λ x. Ends line i x) same (record { clear = refl; unescaped = e; outside = s })
solid_rest (suc n) line i to h l p e s m =
    let here = p i (omega arith) (omega arith) in
    let f = solid_follows line i here s in
    let rest = solid_rest n line (i + 1) to (omega arith) l (λ k a b. p k (omega arith) b) f.unescaped f.outside f.begins in
    record { clear = unmarked line i (omega arith) (solid_mark line i false here e s m) ∙ rest.clear; unescaped = rest.unescaped; outside = rest.outside }

-- only its first byte may be a mark
solid : (line ms : List ℕ) (from to : ℕ) → IsAhead line from ms → from < to → to ≤ length line → IsSolid line from to → ((ms ≡ from ∷ marks_from line to) ⊎ (ms ≡ marks_from line to)) × (is_escaped line to ≡ false) × (is_inside line to ≡ false)
solid line ms from to a l w p =
    let here = p from (omega arith) l in
    let f = solid_follows line from here a.outside in
    let rest = solid_rest (to - (from + 1)) line (from + 1) to (omega arith) w (λ k x y. p k (omega arith) y) f.unescaped f.outside f.begins in
    (go rest.clear (may_begin line from) (solid_mark line from (may_begin line from) here a.unescaped a.outside refl), rest.unescaped, rest.outside)
  where
    go : marks_from line (from + 1) ≡ marks_from line to → (b : Bool) → is_mark line from ≡ b → (ms ≡ from ∷ marks_from line to) ⊎ (ms ≡ marks_from line to)
    go clear true m = inl (a.are ∙ (marked line from (omega arith) m ∙ ap (λ xs. from ∷ xs) clear))
    go clear false m = inr (a.are ∙ (unmarked line from (omega arith) m ∙ clear))

passes_own : (line ms : List ℕ) (from to d : ℕ) → IsAhead line from ms → from < to → to ≤ length line → IsSolid line from to → 0 < length ms → get_or ms 0 d ≡ from → IsPassed line ms 1 to
passes_own line [] from to d a l w p some e = absurd (omega (arith, some))
passes_own line (m ∷ ms) from to d a l w p some e =
    let found = solid line (m ∷ ms) from to a l w p in
    elim found.0 [
      | inl own ↦ passed line (m ∷ ms) from to own found.1 found.2
      | inr other ↦ (let behind = mark_behind line to m ms (sym other) in absurd (omega (arith, behind, e, l)))
    ]

-- a number or a word has one mark, its first byte
pub passes_solid : (line ms : List ℕ) (from to : ℕ) → IsNext line from ms → from < to → to ≤ length line → IsSolid line from to → IsPassed line ms 1 to
passes_solid line [] from to n l w p = let e = n.first in absurd (omega (arith, e, l, w))
passes_solid line (m ∷ ms) from to n l w p = passes_own line (m ∷ ms) from to 0 n.ahead l w p (omega arith) (sym n.first)

-- ---- which bytes are those of numbers and words

number_byte : (b : ℕ) → in_number b ≡ true → in_token b ≡ true
number_byte b h = grind (arith, nat_tests, h)

pub number_solid : (line : List ℕ) (from to : ℕ) → ((k : ℕ) → from ≤ k → k < to → in_number (byte_at line k) ≡ true) → IsSolid line from to
number_solid line from to h k a b = number_byte (byte_at line k) (h k a b)

each_of : (p : ℕ → Bool) (xs : List ℕ) (i : ℕ) → list_all p xs ≡ true → i < length xs → p (get_or xs i 0) ≡ true
each_of p xs i h l = elim (cases_Bool (p (get_or xs i 0))) [ inl t ↦ t | inr f ↦ absurd (true≢false (sym h ∙ list_all_at p xs i 0 l f)) ]

pub word_solid : (line word : List ℕ) (from to : ℕ) → Reads line from to word → list_all in_token word ≡ true → IsSolid line from to
word_solid line word from to r h k a b =
    let w = r.within in
    let size : length word ≡ to - from = sym (ap length r.are) ∙ length-between line from to w in
    let place : from + (k - from) ≡ k = omega arith in
    let byte : get_or word (k - from) 0 ≡ byte_at line k = ap (λ (xs : List ℕ). get_or xs (k - from) 0) (sym r.are) ∙ (get_or-between line from to (k - from) 0 (omega arith) ∙ ap (byte_at line) place) in
    sym (ap in_token byte) ∙ each_of in_token word (k - from) h (omega (arith, size, a, b))

-- ---- more than one mark

-- a structural byte after the marks that were passed
pub passes_next : (line ms : List ℕ) (n i : ℕ) → n ≤ length ms → IsAhead line i (drop n ms) → i < length line → is_structural (byte_at line i) ≡ true → IsPassed line ms (n + 1) (i + 1)
passes_next line ms n i w a l h =
    let one = passes_structural line (drop n ms) i l h a in
    let d = length-drop n ms in
    let within = one.within in
    record { within = omega (arith, d, within, w); ahead = subst (λ xs. IsAhead line (i + 1) xs) (drop-drop 1 n ms) one.ahead }

-- the colon after a name, whose two quotes are marks
pub passes_colon : (line ms rest : List ℕ) (end colon : ℕ) → IsPassed line ms 2 end → rest ≡ drop 2 ms → IsAhead line colon rest → Has line colon 0x3A → IsPassed line ms 3 (colon + 1)
passes_colon line ms rest end colon p e a h = passes_next line ms 2 colon p.within (subst (λ (xs : List ℕ). IsAhead line colon xs) e a) h.inside (ap is_structural h.is)

pub bracket_structural : (kind : Container) (b : ℕ) → b ≡ opening kind → is_structural b ≡ true
bracket_structural array b e = ap is_structural e
bracket_structural object b e = ap is_structural e

-- before a line nothing is known, and all of its marks are ahead
pub all_ahead : (line ms : List ℕ) → ms ≡ marks line → IsAhead line 0 ms
unfolding marks marks_from quotes_before backslashes_before
all_ahead line ms e = let n : length line ≡ length line - 0 = omega arith in record { outside = refl; unescaped = refl; are = e ∙ ap (λ n. filter (is_mark line) (range_with_len 0 n)) n }

-- a token may begin at the first byte
pub begins_first : (line : List ℕ) → may_begin line 0 ≡ true
unfolding may_begin
begins_first line = refl

-- there are no more marks than bytes
pub marks_few : (line : List ℕ) → length (marks line) ≤ length line
unfolding marks
marks_few line =
    let both = length-filter_both (is_mark line) (λ i. not (is_mark line i)) (λ i. refl) (range_with_len 0 (length line)) in
    let all = length-range_with_len 0 (length line) in
    omega (arith, both, all)
