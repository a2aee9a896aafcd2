-- The quote that closes a string is the mark after its opening quote.
use Rattle.std.proofs.Common.{◌≡◌, ℕ, zero, suc, ◌+◌, ◌-◌, ◌<◌, ◌≤◌, ◌==◌, inl, inr, true, false, List, [], ◌∷◌, length, drop, get_or, sym, ◌∙◌, ap, refl, arith, subst}
use Rattle.std.proofs.lemmas.Bool.{cases_Bool, eqb-true, eqb-false, and_parts}
use Rattle.std.proofs.lemmas.Bool.Decides.{nat_tests}
use Rattle.jp_lanes.specs.Search.{is_special}
use Rattle.jp_model.specs.Characters.{is_quote, is_backslash}
use Rattle.jp_model.specs.Json.Places.{byte_at, Has}
use Rattle.jp_model.specs.Json.Strings.{SpellsCharacter, SpellsCharacters, SpellsBody}
use Rattle.jp_model.specs.Json.Marks.{is_inside, is_escaped, is_unescaped_quote}
use Rattle.jp_strings.proofs.Reading.{characters_longer}
use Rattle.jp_tape.specs.Ahead.{marks_from, IsAhead, is_closing}
use Rattle.jp_tape.proofs.More.{more_after}
use Rattle.jp_tape.specs.Places.{IsUnquoted}
use Rattle.jp_tape.specs.Reading.{Closes}
use Rattle.jp_tape.proofs.Closing.{character_plain, four_plain}
use Rattle.jp_tape.proofs.Ahead.{same_head, same_tail, marked, unmarked, none_at_end, free_next, slash_next, letter_next, no_quote_unescaped, escaped_no_quote, quote_unescaped, inside_stays, opens_next, closes_next, quote_is_mark, quote_begins, within_no_mark}

-- ---- inside of a string

-- within a string from a place up to another there is no mark
record Within (line : List ℕ) (i to : ℕ) : Type 0 where
  clear : marks_from line i ≡ marks_from line to
  unescaped : is_escaped line to ≡ false
  inside : is_inside line to ≡ true

then : (line : List ℕ) (i j k : ℕ) → marks_from line i ≡ marks_from line j → Within line j k → Within line i k
then line i j k e w = record { clear = e ∙ w.clear; unescaped = w.unescaped; inside = w.inside }

plain_byte : (b : ℕ) → is_special b ≡ false → (is_quote b ≡ false) × (is_backslash b ≡ false)
plain_byte b h = (grind (arith, nat_tests, h), grind (arith, nat_tests, h))

quiet : (line : List ℕ) (i : ℕ) → i < length line → is_special (byte_at line i) ≡ false → is_inside line i ≡ true → Within line i (i + 1)
quiet line i l p s =
    let b = plain_byte (byte_at line i) p in
    let u = no_quote_unescaped line i b.0 in
    record { clear = unmarked line i l (within_no_mark line i u s); unescaped = free_next line i b.1; inside = inside_stays line i u ∙ s }

quiet_run : (n : ℕ) (line : List ℕ) (i to : ℕ) → i + n ≡ to → to ≤ length line → ((k : ℕ) → i ≤ k → k < to → is_special (byte_at line k) ≡ false) → is_escaped line i ≡ false → is_inside line i ≡ true → Within line i to
quiet_run zero line i to h l p e s = let same : i ≡ to = omega arith in subst (λ x. Within line i x) same (record { clear = refl; unescaped = e; inside = s })
quiet_run (suc n) line i to h l p e s =
    let first = quiet line i (omega arith) (p i (omega arith) (omega arith)) s in
    then line i (i + 1) to first.clear (quiet_run n line (i + 1) to (omega arith) l (λ k a b. p k (omega arith) b) first.unescaped first.inside)

-- a backslash and the byte after it
escape : (line : List ℕ) (i : ℕ) → i + 1 < length line → byte_at line i ≡ 0x5C → is_escaped line i ≡ false → is_inside line i ≡ true → Within line i (i + 2)
escape line i l b e s =
    let u = no_quote_unescaped line i (ap is_quote b) in
    let t = inside_stays line i u ∙ s in
    let f = slash_next line i (ap is_backslash b) e in
    let v = escaped_no_quote line (i + 1) f in
    let two : i + 1 + 1 ≡ i + 2 = omega arith in
    subst (λ x. Within line i x) two (record {
      clear = unmarked line i (omega arith) (within_no_mark line i u s) ∙ unmarked line (i + 1) l (within_no_mark line (i + 1) v t);
      unescaped = letter_next line (i + 1) f;
      inside = inside_stays line (i + 1) v ∙ t;
    })

one_of_four : (line : List ℕ) (i k n : ℕ) → k ≡ i + 2 + n → n < 4 → (is_special (byte_at line (i + 2)) ≡ false) × (is_special (byte_at line (i + 3)) ≡ false) × (is_special (byte_at line (i + 4)) ≡ false) × (is_special (byte_at line (i + 5)) ≡ false) → is_special (byte_at line k) ≡ false
one_of_four line i k zero e l f = subst (λ x. is_special (byte_at line x) ≡ false) (omega (arith, e)) f.0
one_of_four line i k (suc zero) e l f = subst (λ x. is_special (byte_at line x) ≡ false) (omega (arith, e)) f.1
one_of_four line i k (suc (suc zero)) e l f = subst (λ x. is_special (byte_at line x) ≡ false) (omega (arith, e)) f.2
one_of_four line i k (suc (suc (suc zero))) e l f = subst (λ x. is_special (byte_at line x) ≡ false) (omega (arith, e)) f.3
one_of_four line i k (suc (suc (suc (suc n)))) e l f = absurd (omega (arith, l))

character : (line : List ℕ) (i j u : ℕ) → j ≤ length line → SpellsCharacter line i j u → is_escaped line i ≡ false → is_inside line i ≡ true → Within line i j
character line i j u l (inl a) e s = let o = a.bytes.order in quiet_run (j - i) line i j (omega (arith, o)) l (λ k x y. character_plain line i j u k a x y) e s
character line i j u l (inr (inl a)) e s = let i_in = a.has_letter.inside in subst (λ x. Within line i x) (sym a.end) (escape line i i_in a.backslash.is e s)
character line i j u l (inr (inr a)) e s =
    let end = a.end in
    let four = four_plain (byte_at line (i + 2)) (byte_at line (i + 3)) (byte_at line (i + 4)) (byte_at line (i + 5)) u a.spells in
    let first = escape line i a.letter.inside a.backslash.is e s in
    then line i (i + 2) j first.clear (quiet_run 4 line (i + 2) j (omega (arith, end)) l (λ k x y. one_of_four line i k (k - (i + 2)) (omega (arith, x)) (omega (arith, x, y, end)) four) first.unescaped first.inside)

characters : (us : List ℕ) (line : List ℕ) (i j : ℕ) → j ≤ length line → SpellsCharacters line i j us → is_escaped line i ≡ false → is_inside line i ≡ true → Within line i j
characters [] line i j l h e s = subst (λ x. Within line i x) h (record { clear = refl; unescaped = e; inside = s })
characters (u ∷ us) line i j l h e s =
    let o = characters_longer line h.0 j us h.2 in
    let first = character line i h.0 u (omega (arith, o, l)) h.1 e s in
    then line i h.0 j first.clear (characters us line h.0 j l h.2 first.unescaped first.inside)

-- ---- the next mark there

-- the next mark closes the string
record Shuts (line : List ℕ) (i m : ℕ) (rest : List ℕ) : Type 0 where
  order : i ≤ m
  quote : Has line m 0x22
  ahead : IsAhead line (m + 1) rest
  closing : is_unescaped_quote line m ≡ true
  unquoted : (k : ℕ) → i ≤ k → k < m → is_unescaped_quote line k ≡ false

quote_no_slash : (b : ℕ) → is_quote b ≡ true → is_backslash b ≡ false
quote_no_slash b h = ap is_backslash (eqb-true b 0x22 h)

shut_here : (line : List ℕ) (i m : ℕ) (rest : List ℕ) → i < length line → is_unescaped_quote line i ≡ true → is_inside line i ≡ true → marks_from line i ≡ m ∷ rest → Shuts line i m rest
shut_here line i m rest l u s e =
    let here = sym (marked line i l (quote_is_mark line i u)) ∙ e in
    let same = same_head i m (marks_from line (i + 1)) rest here in
    let q = (and_parts _ _ u).0 in
    subst (λ x. Shuts line i x rest) same (record {
      order = omega arith;
      quote = record { inside = l; is = eqb-true (byte_at line i) 0x22 q };
      ahead = record { outside = closes_next line i u s; unescaped = free_next line i (quote_no_slash (byte_at line i) q); are = sym (same_tail i m (marks_from line (i + 1)) rest here) };
      closing = u;
      unquoted = λ k a b. absurd (omega (arith, a, b));
    })

from_next : (line : List ℕ) (i m : ℕ) → is_unescaped_quote line i ≡ false → ((k : ℕ) → i + 1 ≤ k → k < m → is_unescaped_quote line k ≡ false) → (k : ℕ) → i ≤ k → k < m → is_unescaped_quote line k ≡ false
from_next line i m u later k a b =
    elim (cases_Bool (i == k)) [
      | inl e ↦ ap (is_unescaped_quote line) (sym (eqb-true i k e)) ∙ u
      | inr e ↦ (let f : i ≡ k → ⊥ = eqb-false i k e in later k (omega (arith, f, a)) b)
    ]

shuts : (n : ℕ) (line : List ℕ) (i m : ℕ) (rest : List ℕ) → i + n ≡ length line → is_inside line i ≡ true → marks_from line i ≡ m ∷ rest → Shuts line i m rest
shuts zero line i m rest h s e = let none = sym (none_at_end line i (omega arith)) ∙ e in absurd (cc)
shuts (suc n) line i m rest h s e =
    elim (cases_Bool (is_unescaped_quote line i)) [
      | inl u ↦ shut_here line i m rest (omega arith) u s e
      | inr u ↦ (
          let later = shuts n line (i + 1) m rest (omega arith) (inside_stays line i u ∙ s) (sym (unmarked line i (omega arith) (within_no_mark line i u s)) ∙ e) in
          let o = later.order in
          record { order = omega (arith, o); quote = later.quote; ahead = later.ahead; closing = later.closing; unquoted = from_next line i m u later.unquoted }
          )
    ]

-- ---- the string at a place

record Opens (line ms : List ℕ) (from : ℕ) : Type 0 where
  are : ms ≡ from ∷ marks_from line (from + 1)
  unescaped : is_escaped line (from + 1) ≡ false
  inside : is_inside line (from + 1) ≡ true

opens : (line ms : List ℕ) (from : ℕ) → Has line from 0x22 → IsAhead line from ms → Opens line ms from
opens line ms from q a =
    let u = quote_unescaped line from (ap is_quote q.is) a.unescaped in
    record { are = a.are ∙ marked line from q.inside (quote_is_mark line from u); unescaped = free_next line from (ap is_backslash q.is); inside = opens_next line from u a.outside }

-- a body that ends at a quote ends at the next mark
ends_body : (line ms : List ℕ) (from to : ℕ) (points : List ℕ) → Opens line ms from → SpellsBody line (from + 1) to points → Has line to 0x22 → ms ≡ from ∷ to ∷ marks_from line (to + 1)
ends_body line ms from to points o b q =
    let i = q.inside in
    let w = characters b.units line (from + 1) to (omega (arith, i)) b.characters o.unescaped o.inside in
    let u = quote_unescaped line to (ap is_quote q.is) w.unescaped in
    o.are ∙ ap (λ xs. from ∷ xs) (w.clear ∙ marked line to i (quote_is_mark line to u))

closes_by : (line ms : List ℕ) (from last : ℕ) (rest : List ℕ) → from < length line → Opens line ms from → ms ≡ from ∷ last ∷ rest → Closes line ms from last
unfolding IsUnquoted
closes_by line ms from last rest i o e =
    let next = same_tail from from (marks_from line (from + 1)) (last ∷ rest) (sym o.are ∙ e) in
    let s = shuts (length line - (from + 1)) line (from + 1) last rest (omega (arith, i)) o.inside next in
    let l = s.order in
    let n = ap length e in
    record {
      order = omega (arith, l);
      quote = s.quote;
      first = s.unquoted;
      only = λ to points b q. sym (same_head last to rest (marks_from line (to + 1)) (same_tail from from (last ∷ rest) (to ∷ marks_from line (to + 1)) (sym e ∙ ends_body line ms from to points o b q)));
      ahead = record { within = omega (arith, n); ahead = subst (λ xs. IsAhead line (last + 1) xs) (sym (ap (drop 2) e)) s.ahead };
      begins = quote_begins line last s.closing;
      more = λ c. more_after line ms 1 c (omega (arith, n)) (ap (λ (xs : List ℕ). is_closing (byte_at line (get_or xs 1 0))) e ∙ ap is_closing s.quote.is);
    }

two_at_least : (ms : List ℕ) (a : ℕ) (xs : List ℕ) → ms ≡ a ∷ xs → 2 ≤ length ms → (rest : List ℕ) × (ms ≡ a ∷ get_or ms 1 0 ∷ rest)
two_at_least ms a [] e l = let n = ap length e in absurd (omega (arith, n, l))
two_at_least ms a (x ∷ xs) e l = (xs, e ∙ ap (λ y. a ∷ y ∷ xs) (sym (ap (λ (ys : List ℕ). get_or ys 1 0) e)))

pub closes : (line ms : List ℕ) (from : ℕ) → Has line from 0x22 → IsAhead line from ms → 2 ≤ length ms → Closes line ms from (get_or ms 1 0)
closes line ms from q a l =
    let o = opens line ms from q a in
    let two = two_at_least ms from (marks_from line (from + 1)) o.are l in
    closes_by line ms from (get_or ms 1 0) two.0 q.inside o two.1
