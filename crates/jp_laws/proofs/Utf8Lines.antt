-- A line that spells a tree is UTF-8.
use Rattle.std.proofs.Common.{◌≡◌, ℕ, zero, suc, ◌+◌, ◌-◌, ◌<◌, ◌≤◌, inl, inr, List, [], ◌∷◌, ◌++◌, length, drop, Bool, true, false, cond, ◌&&◌, Option, Some, None, IsUtf8, IsAscii, encode_utf8, refl, sym, subst, arith}
use Rattle.std.specs.Char as char
use lib.Utf8.{encode}
use Rattle.std.proofs.lemmas.Bool.{cases_lt, ne_eqb}
use Rattle.std.proofs.lemmas.Bool.Decides.{nat_tests}
use Rattle.std.proofs.lemmas.List.{drop_more, drop_all}
use Rattle.std.proofs.lemmas.Str.{IsUtf8-append, IsUtf8-nil, IsUtf8-from_ascii, IsUtf8-encode, IsAscii-append}
use Rattle.jp_model.proofs.Reader.Lexical.{reads_rest}
use Rattle.jp_model.proofs.Reader.Scans.{has_from}
use Rattle.jp_model.specs.declared.Span.{Span}
use Rattle.jp_model.specs.Characters.{is_white, is_digit}
use Rattle.jp_model.specs.Json.Numbers.{AreDigits, AreSomeDigits, IsInt, Sign, no_sign, plus_sign, minus_sign, Exponent, IsExponent, Numeral, IsNumeral, minus_bytes, fraction_bytes, sign_bytes, exponent_bytes, numeral_bytes}
use Rattle.jp_model.specs.Json.Places.{byte_at, White, Has, Reads}
use Rattle.jp_model.specs.Json.Spelling.{Spells, SpellsValue, SpellsFirst, SpellsMore, SpellsLabel, SpellsString, Separator, Closes, opening, closing, word_of, null_word, Text}
use Rattle.jp_model.specs.Json.Strings.{ShortEscape, UnicodeEscape, SpellsCharacter, SpellsCharacters, SpellsBody, short_escape}
use Rattle.jp_model.specs.Json.Tree.{Tree, node, Value, null, boolean, number, string, container, Container, array, object, Children, no_child, child, Name, span}

-- where the rest of a line is UTF-8 from a position on, it is so from an earlier one on
abbrev Back : List ℕ → ℕ → ℕ → Type 0
Back line i j = IsUtf8 (drop j line) → IsUtf8 (drop i line)

pub ascii_one : (b : ℕ) → b < 128 → IsAscii (b ∷ [])
ascii_one b h zero = h
ascii_one b h (suc i) = omega arith

ascii_nil : IsAscii []
ascii_nil i = omega arith

ascii_cons : (b : ℕ) (bs : List ℕ) → b < 128 → IsAscii bs → IsAscii (b ∷ bs)
ascii_cons b bs h g zero = h
ascii_cons b bs h g (suc i) = g i

back_reads : (line : List ℕ) (i j : ℕ) (bytes : List ℕ) → Reads line i j bytes → IsUtf8 bytes → Back line i j
back_reads line i j bytes r u h = subst IsUtf8 (sym (reads_rest line i j bytes r)) (IsUtf8-append bytes (drop j line) u h)

back_byte : (line : List ℕ) (i : ℕ) → i < length line → byte_at line i < 128 → Back line i (i + 1)
back_byte line i l h u = subst IsUtf8 (sym (drop_more line i 0 l)) (IsUtf8-append (byte_at line i ∷ []) (drop (i + 1) line) (IsUtf8-from_ascii (byte_at line i ∷ []) (ascii_one (byte_at line i) h)) u)

back_has : (line : List ℕ) (i b : ℕ) → Has line i b → b < 128 → Back line i (i + 1)
back_has line i b h l = back_byte line i h.inside (let e = h.is in omega arith)

white_low : (b : ℕ) → is_white b ≡ true → b < 128
white_low b h = grind (arith, nat_tests, h)

back_white_by : (line : List ℕ) (k i j : ℕ) → i + k ≡ j → White line i j → Back line i j
back_white_by line zero i j e w u = subst (λ n. IsUtf8 (drop n line)) (let f : j ≡ i = omega arith in f) u
back_white_by line (suc k) i j e w u =
    let inside = w.within in
    back_byte line i (omega arith) (white_low (byte_at line i) (w.white i (omega arith) (omega arith)))
    (back_white_by line k (i + 1) j (omega arith) (record { order = omega arith; within = w.within; white = λ n a b. w.white n (omega arith) b }) u)

back_white : (line : List ℕ) (i j : ℕ) → White line i j → Back line i j
back_white line i j w = let o = w.order in back_white_by line (j - i) i j (omega arith) w

-- ---- numbers

digit_low : (b : ℕ) → is_digit b ≡ true → b < 128
digit_low b h = grind (arith, nat_tests, h)

ascii_digits : (ds : List ℕ) → AreDigits ds → IsAscii ds
ascii_digits [] a = ascii_nil
ascii_digits (d ∷ ds) a = ascii_cons d ds (digit_low d a.0) (ascii_digits ds a.1)

ascii_int : (ds : List ℕ) → IsInt ds → IsAscii ds
ascii_int [] i = absurd i
ascii_int (d ∷ []) i = ascii_one d (digit_low d i)
ascii_int (d ∷ e ∷ ds) i = ascii_cons d (e ∷ ds) (digit_low d i.0) (ascii_digits (e ∷ ds) i.2)

ascii_some : (ds : List ℕ) → AreSomeDigits ds → IsAscii ds
ascii_some [] a = absurd a
ascii_some (d ∷ ds) a = ascii_digits (d ∷ ds) a

ascii_sign : (s : Sign) → IsAscii (sign_bytes s)
ascii_sign no_sign = ascii_nil
ascii_sign plus_sign = ascii_one 0x2B (omega arith)
ascii_sign minus_sign = ascii_one 0x2D (omega arith)

ascii_exponent : (e : Option Exponent) → IsExponent e → IsAscii (exponent_bytes e)
ascii_exponent None h = ascii_nil
ascii_exponent (Some e) h = ascii_cons (cond e.capital 0x45 0x65) (sign_bytes e.sign ++ e.digits) (letter e.capital) (IsAscii-append (sign_bytes e.sign) e.digits (ascii_sign e.sign) (ascii_some e.digits h))
  where
    letter : (b : Bool) → cond b 0x45 0x65 < 128
    letter true = omega arith
    letter false = omega arith

ascii_fraction : (ds : List ℕ) → AreDigits ds → IsAscii (fraction_bytes ds)
ascii_fraction [] a = ascii_nil
ascii_fraction (d ∷ ds) a = ascii_cons 0x2E (d ∷ ds) (omega arith) (ascii_digits (d ∷ ds) a)

ascii_minus : (b : Bool) → IsAscii (minus_bytes b)
ascii_minus true = ascii_one 0x2D (omega arith)
ascii_minus false = ascii_nil

ascii_numeral : (n : Numeral) → IsNumeral n → IsAscii (numeral_bytes n)
ascii_numeral n h =
    IsAscii-append (minus_bytes n.negative) _ (ascii_minus n.negative)
    (IsAscii-append n.int _ (ascii_int n.int h.int) (IsAscii-append (fraction_bytes n.fraction) (exponent_bytes n.exponent) (ascii_fraction n.fraction h.fraction) (ascii_exponent n.exponent h.exponent)))

-- ---- strings

none_high : (letter : ℕ) → 128 ≤ letter → short_escape letter ≡ None
none_high letter g =
    rw (
      ne_eqb letter 0x22 (λ (e : letter ≡ 0x22). omega arith),
      ne_eqb letter 0x5C (λ (e : letter ≡ 0x5C). omega arith),
      ne_eqb letter 0x2F (λ (e : letter ≡ 0x2F). omega arith),
      ne_eqb letter 0x62 (λ (e : letter ≡ 0x62). omega arith),
      ne_eqb letter 0x66 (λ (e : letter ≡ 0x66). omega arith),
      ne_eqb letter 0x6E (λ (e : letter ≡ 0x6E). omega arith),
      ne_eqb letter 0x72 (λ (e : letter ≡ 0x72). omega arith),
      ne_eqb letter 0x74 (λ (e : letter ≡ 0x74). omega arith),
    ) refl

pub letter_low : (letter unit : ℕ) → short_escape letter ≡ Some unit → letter < 128
letter_low letter unit h = elim (cases_lt letter 128) [ inl l ↦ l | inr l ↦ let e = none_high letter l in absurd (cc) ]

pub hex_low : (c : ℕ) → char.is_digit c 16 ≡ true → c < 128
hex_low c h = grind (arith, nat_tests, h)

hex_some : (c : ℕ) → char.is_digit c 16 ≡ true → 0 < c
hex_some c h = grind (arith, nat_tests, h)

pub four_true : (a b c d : Bool) (x u : ℕ) → cond (a && b && c && d) (Some x) None ≡ Some u → (a ≡ true) × (b ≡ true) × (c ≡ true) × (d ≡ true)
four_true true true true true x u h = (refl, refl, refl, refl)
four_true true true true false x u h = absurd (cc)
four_true true true false d x u h = absurd (cc)
four_true true false c d x u h = absurd (cc)
four_true false b c d x u h = absurd (cc)

back_hex : (line : List ℕ) (i : ℕ) → char.is_digit (byte_at line i) 16 ≡ true → Back line i (i + 1)
back_hex line i h = back_has line i (byte_at line i) (has_from line i (byte_at line i) refl (hex_some (byte_at line i) h)) (hex_low (byte_at line i) h)

back_two : (line : List ℕ) (i j k : ℕ) → Back line i j → Back line j k → Back line i k
back_two line i j k f g u = f (g u)

back_at : (line : List ℕ) (i j k : ℕ) → j ≡ k → Back line i j → Back line i k
back_at line i j k e f u = f (subst (λ n. IsUtf8 (drop n line)) (sym e) u)

from_at : (line : List ℕ) (i j k : ℕ) → i ≡ k → Back line i j → Back line k j
from_at line i j k e f = subst (λ n. Back line n j) e f

back_unicode : (line : List ℕ) (i j u : ℕ) → UnicodeEscape line i j u → Back line i j
back_unicode line i j u h =
    let d = four_true (char.is_digit (byte_at line (i + 2)) 16) (char.is_digit (byte_at line (i + 3)) 16) (char.is_digit (byte_at line (i + 4)) 16) (char.is_digit (byte_at line (i + 5)) 16) _ u h.spells in
    let e = h.end in
    back_at line i (i + 5 + 1) j (omega arith)
    (back_two line i (i + 1) (i + 5 + 1) (back_has line i 0x5C h.backslash (omega arith))
    (back_two line (i + 1) (i + 2) (i + 5 + 1) (back_at line (i + 1) (i + 1 + 1) (i + 2) (omega arith) (back_has line (i + 1) 0x75 h.letter (omega arith)))
    (back_two line (i + 2) (i + 3) (i + 5 + 1) (back_at line (i + 2) (i + 2 + 1) (i + 3) (omega arith) (back_hex line (i + 2) d.0))
    (back_two line (i + 3) (i + 4) (i + 5 + 1) (back_at line (i + 3) (i + 3 + 1) (i + 4) (omega arith) (back_hex line (i + 3) d.1))
    (back_two line (i + 4) (i + 5) (i + 5 + 1) (back_at line (i + 4) (i + 4 + 1) (i + 5) (omega arith) (back_hex line (i + 4) d.2))
    (back_hex line (i + 5) d.3))))))

back_short : (line : List ℕ) (i j u : ℕ) → ShortEscape line i j u → Back line i j
back_short line i j u h =
    let e = h.end in
    back_at line i (i + 1 + 1) j (omega arith) (back_two line i (i + 1) (i + 1 + 1) (back_has line i 0x5C h.backslash (omega arith)) (back_has line (i + 1) h.letter h.has_letter (letter_low h.letter u h.spells)))

back_character : (line : List ℕ) (i j u : ℕ) → SpellsCharacter line i j u → Back line i j
back_character line i j u (inl h) = back_reads line i j (encode_utf8 u) h.bytes (IsUtf8-encode u h.scalar)
back_character line i j u (inr (inl h)) = back_short line i j u h
back_character line i j u (inr (inr h)) = back_unicode line i j u h

back_characters : (line : List ℕ) (us : List ℕ) (i j : ℕ) → SpellsCharacters line i j us → Back line i j
back_characters line [] i j h = back_at line i i j h (λ u. u)
back_characters line (u ∷ us) i j h = back_two line i h.0 j (back_character line i h.0 u h.1) (back_characters line us h.0 j h.2)

back_body : (line : List ℕ) (i j : ℕ) (points : List ℕ) → SpellsBody line i j points → Back line i j
back_body line i j points h = back_characters line h.units i j h.characters

back_string : (line : List ℕ) (i j : ℕ) (points : List ℕ) → SpellsString line i j points → Back line i j
back_string line i j points h =
    back_two line i (i + 1) j (back_has line i 0x22 h.opens (omega arith))
    (back_two line (i + 1) h.last j (back_body line (i + 1) h.last points h.body) (back_at line h.last (h.last + 1) j (sym h.end) (back_has line h.last 0x22 h.closes (omega arith))))

-- ---- trees

back_separator : (line : List ℕ) (byte i j : ℕ) → byte < 128 → Separator line byte i j → Back line i j
back_separator line byte i j l h = back_two line i h.place j (back_white line i h.place h.before) (back_two line h.place (h.place + 1) j (back_has line h.place byte h.is l) (back_white line (h.place + 1) j h.after))

back_label : (line : List ℕ) (kind : Container) (i j : ℕ) (name : Option Name) → SpellsLabel line kind i j name → Back line i j
back_label line array i j None h = back_at line i i j h (λ u. u)
back_label line array i j (Some name) h = absurd h
back_label line object i j None h = absurd h
back_label line object i j (Some name) h =
    back_two line i (i + 1) j (back_has line i 0x22 h.opens (omega arith))
    (from_at line name.body.start j (i + 1) h.behind_quote
    (back_two line name.body.start name.body.end j (back_body line name.body.start name.body.end name.points h.body)
    (back_two line name.body.end (name.body.end + 1) j (back_has line name.body.end 0x22 h.closes (omega arith)) (back_separator line 0x3A (name.body.end + 1) j (omega arith) h.colon))))

opening_low : (kind : Container) → opening kind < 128
opening_low array = omega arith
opening_low object = omega arith

closing_low : (kind : Container) → closing kind < 128
closing_low array = omega arith
closing_low object = omega arith

back_closes : (line : List ℕ) (kind : Container) (i j : ℕ) → Closes line kind i j → Back line i j
back_closes line kind i j h = back_two line i h.place j (back_white line i h.place h.white) (back_at line h.place (h.place + 1) j (sym h.end) (back_has line h.place (closing kind) h.bracket (closing_low kind)))

word_utf8 : (b : Bool) → IsUtf8 (word_of b)
unfolding encode
word_utf8 true = (word_of true, (refl, refl))
word_utf8 false = (word_of false, (refl, refl))

null_utf8 : IsUtf8 null_word
unfolding encode
null_utf8 = (null_word, (refl, refl))

mutual
  back_tree : (line : List ℕ) (t : Tree) → Spells line t → Back line (span t).start (span t).end
  back_tree line (node s v) h = back_value line s v h

  back_value : (line : List ℕ) (s : Span) (v : Value) → SpellsValue line s v → Back line s.start s.end
  back_value line s null h = back_reads line s.start s.end null_word h null_utf8
  back_value line s (boolean b) h = back_reads line s.start s.end (word_of b) h (word_utf8 b)
  back_value line s (number m e) h = back_reads line s.start s.end (numeral_bytes h.numeral) h.bytes (IsUtf8-from_ascii (numeral_bytes h.numeral) (ascii_numeral h.numeral h.correct))
  back_value line s (string x) h = back_string line s.start s.end x h
  back_value line s (container kind cs) h = back_two line s.start (s.start + 1) s.end (back_has line s.start (opening kind) h.0 (opening_low kind)) (back_first line kind (s.start + 1) s.end cs h.1)

  back_first : (line : List ℕ) (kind : Container) (i j : ℕ) (cs : Children) → SpellsFirst line kind i j cs → Back line i j
  back_first line kind i j no_child h = back_closes line kind i j h
  back_first line kind i j (child name t more) h =
      back_two line i h.0 j (back_white line i h.0 h.1)
      (back_two line h.0 (span t).start j (back_label line kind h.0 (span t).start name h.2) (back_two line (span t).start (span t).end j (back_tree line t h.3) (back_more line kind (span t).end j more h.4)))

  back_more : (line : List ℕ) (kind : Container) (i j : ℕ) (cs : Children) → SpellsMore line kind i j cs → Back line i j
  back_more line kind i j no_child h = back_closes line kind i j h
  back_more line kind i j (child name t more) h =
      back_two line i h.0 j (back_separator line 0x2C i h.0 (omega arith) h.1)
      (back_two line h.0 (span t).start j (back_label line kind h.0 (span t).start name h.2) (back_two line (span t).start (span t).end j (back_tree line t h.3) (back_more line kind (span t).end j more h.4)))

pub text_utf8 : (line : List ℕ) (t : Tree) → Text line t → IsUtf8 line
text_utf8 line t h =
    let rest : IsUtf8 (drop (length line) line) = subst IsUtf8 (sym (drop_all (length line) line (omega arith))) IsUtf8-nil in
    back_white line 0 (span t).start h.before (back_tree line t h.value (back_white line (span t).end (length line) h.after rest))
