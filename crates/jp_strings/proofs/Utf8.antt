-- What a body spells is UTF-8, and may be cut between its characters.
use Rattle.std.proofs.Common.{◌≡◌, ℕ, ◌+◌, ◌<◌, ◌≤◌, inl, inr, true, List, [], ◌∷◌, length, drop, get_or, sym, ◌∙◌, ap, subst, refl, arith, Some, encode_utf8, get_or-drop, add-zero, length-drop}
use lib.Utf8.{scalar}
use Rattle.std.specs.Str.{IsUtf8}
use Rattle.std.specs.Char as char
use Rattle.std.proofs.lemmas.List.{drop_more, drop_all, drop-drop, get_or_past}
use Rattle.std.proofs.lemmas.Bool.{cases_lt, lt-ltb, cond-true}
use Rattle.std.proofs.lemmas.Bool.Decides.{nat_tests}
use Rattle.std.proofs.lemmas.Str.{IsUtf8-encode, IsUtf8-append, IsUtf8-nil, IsUtf8-drop, IsUtf8-past_char, IsCharBoundary-after_ascii, encode_ascii}
use Rattle.jp_model.specs.Json.Places.{byte_at, Has}
use Rattle.jp_model.specs.Json.Strings.{SpellsCharacter, SpellsCharacters, short_escape}
use Rattle.jp_model.proofs.Reader.Lexical.{reads_rest, clash}
use Rattle.jp_strings.specs.Points.{is_text_from}
use Rattle.jp_strings.proofs.Escapes.{digits_are_hex}
use Rattle.jp_strings.proofs.Reading.{units_found}
use Rattle.jp_strings.proofs.Texts.{text_units}

-- ---- ASCII bytes
ascii_utf8 : (b : ℕ) → b < 128 → IsUtf8 (b ∷ [])
ascii_utf8 b l =
    let s : scalar b ≡ true = cond-true _ _ _ (lt-ltb b 55296 (omega (arith, l))) in
    subst (λ x. IsUtf8 x) (encode_ascii b l) (IsUtf8-encode b s)

-- a byte that stands inside and is ASCII
record Ascii (body : List ℕ) (i : ℕ) : Type 0 where
  inside : i < length body
  small : byte_at body i < 128

ascii_before : (body : List ℕ) (i j : ℕ) → Ascii body i → j ≡ i + 1 → IsUtf8 (drop j body) → IsUtf8 (drop i body)
ascii_before body i j a e u =
    let v : IsUtf8 (drop (i + 1) body) = subst (λ k. IsUtf8 (drop k body)) e u in
    subst (λ x. IsUtf8 x) (sym (drop_more body i 0 a.inside)) (IsUtf8-append (byte_at body i ∷ []) (drop (i + 1) body) (ascii_utf8 (byte_at body i) a.small) v)

ascii_behind : (body : List ℕ) (i j : ℕ) → Ascii body i → j ≡ i + 1 → IsUtf8 (drop i body) → IsUtf8 (drop j body)
ascii_behind body i j a e u =
    let first : get_or (drop i body) 0 0 ≡ byte_at body i = get_or-drop i body 0 0 ∙ ap (λ n. get_or body n 0) (add-zero i) in
    let small : get_or (drop i body) 0 0 < 128 = (let s = a.small in omega (arith, first, s)) in
    let inside : 0 < length (drop i body) = (let d = length-drop i body in let o = a.inside in omega (arith, d, o)) in
    let cut = IsUtf8-drop (drop i body) (0 + 1) u (IsCharBoundary-after_ascii (drop i body) 0 u inside small) in
    subst (λ x. IsUtf8 x) (drop-drop (0 + 1) i body ∙ ap (λ k. drop k body) (let k : i + (0 + 1) ≡ j = omega (arith, e) in k)) cut

-- ---- the bytes of escapes
letter_ascii : (l u : ℕ) → short_escape l ≡ Some u → l < 128
letter_ascii l u h = grind (arith, nat_tests, h)

hex_ascii : (c : ℕ) → char.is_digit c 16 ≡ true → c < 128
hex_ascii c h = grind (arith, nat_tests, h)

hex_at : (body : List ℕ) (i : ℕ) → char.is_digit (byte_at body i) 16 ≡ true → Ascii body i
hex_at body i h =
    elim (cases_lt i (length body)) [
      | inl lt ↦ record { inside = lt; small = hex_ascii (byte_at body i) h }
      | inr le ↦ absurd (clash _ (sym (ap (λ b. char.is_digit b 16) (get_or_past body i 0 le)) ∙ h) refl)
    ]

has_at : (body : List ℕ) (i b : ℕ) → Has body i b → b < 128 → Ascii body i
has_at body i b h l = record { inside = h.inside; small = (let e = h.is in omega (arith, e, l)) }

-- ---- one character
pub utf8_before : (body : List ℕ) (i j u : ℕ) → SpellsCharacter body i j u → IsUtf8 (drop j body) → IsUtf8 (drop i body)
utf8_before body i j u (inl a) h = subst (λ x. IsUtf8 x) (sym (reads_rest body i j (encode_utf8 u) a.bytes)) (IsUtf8-append (encode_utf8 u) (drop j body) (IsUtf8-encode u a.scalar) h)
utf8_before body i j u (inr (inl a)) h =
    ascii_before body i (i + 1) (has_at body i 0x5C a.backslash (omega arith)) refl
    (ascii_before body (i + 1) j (has_at body (i + 1) a.letter a.has_letter (letter_ascii a.letter u a.spells)) (let e = a.end in omega (arith, e)) h)
utf8_before body i j u (inr (inr a)) h =
    let digits = digits_are_hex (byte_at body (i + 2)) (byte_at body (i + 3)) (byte_at body (i + 4)) (byte_at body (i + 5)) u a.spells in
    ascii_before body i (i + 1) (has_at body i 0x5C a.backslash (omega arith)) refl
    (ascii_before body (i + 1) (i + 2) (has_at body (i + 1) 0x75 a.letter (omega arith)) (omega arith)
    (ascii_before body (i + 2) (i + 3) (hex_at body (i + 2) digits.first) (omega arith)
    (ascii_before body (i + 3) (i + 4) (hex_at body (i + 3) digits.second) (omega arith)
    (ascii_before body (i + 4) (i + 5) (hex_at body (i + 4) digits.third) (omega arith) (ascii_before body (i + 5) j (hex_at body (i + 5) digits.fourth) (let e = a.end in omega (arith, e)) h)))))

pub utf8_behind : (body : List ℕ) (i j u : ℕ) → SpellsCharacter body i j u → IsUtf8 (drop i body) → IsUtf8 (drop j body)
utf8_behind body i j u (inl a) h = IsUtf8-past_char (drop i body) (drop j body) u h (reads_rest body i j (encode_utf8 u) a.bytes)
utf8_behind body i j u (inr (inl a)) h =
    ascii_behind body (i + 1) j (has_at body (i + 1) a.letter a.has_letter (letter_ascii a.letter u a.spells)) (let e = a.end in omega (arith, e))
    (ascii_behind body i (i + 1) (has_at body i 0x5C a.backslash (omega arith)) refl h)
utf8_behind body i j u (inr (inr a)) h =
    let digits = digits_are_hex (byte_at body (i + 2)) (byte_at body (i + 3)) (byte_at body (i + 4)) (byte_at body (i + 5)) u a.spells in
    ascii_behind body (i + 5) j (hex_at body (i + 5) digits.fourth) (let e = a.end in omega (arith, e))
    (ascii_behind body (i + 4) (i + 5) (hex_at body (i + 4) digits.third) (omega arith)
    (ascii_behind body (i + 3) (i + 4) (hex_at body (i + 3) digits.second) (omega arith)
    (ascii_behind body (i + 2) (i + 3) (hex_at body (i + 2) digits.first) (omega arith)
    (ascii_behind body (i + 1) (i + 2) (has_at body (i + 1) 0x75 a.letter (omega arith)) (omega arith) (ascii_behind body i (i + 1) (has_at body i 0x5C a.backslash (omega arith)) refl h)))))

-- ---- all characters up to the end
pub spelled_utf8 : (body : List ℕ) (i : ℕ) (us : List ℕ) → SpellsCharacters body i (length body) us → IsUtf8 (drop i body)
spelled_utf8 body i [] h = subst (λ x. IsUtf8 x) (sym (drop_all i body (omega (arith, h)))) IsUtf8-nil
spelled_utf8 body i (u ∷ us) h = utf8_before body i h.0 u h.1 (spelled_utf8 body h.0 us h.2)

pub text_utf8 : (body : List ℕ) (at : ℕ) → is_text_from body at ≡ true → IsUtf8 (drop at body)
text_utf8 body at h = let t = text_units body at h in spelled_utf8 body at t.0 (units_found body at t.0 t.1)

-- a character ends within the bytes
pub character_within : (body : List ℕ) (i j u : ℕ) → SpellsCharacter body i j u → j ≤ length body
character_within body i j u (inl a) = a.bytes.within
character_within body i j u (inr (inl a)) = let o = a.has_letter.inside in let e = a.end in omega (arith, o, e)
character_within body i j u (inr (inr a)) =
    let digits = digits_are_hex (byte_at body (i + 2)) (byte_at body (i + 3)) (byte_at body (i + 4)) (byte_at body (i + 5)) u a.spells in
    let last = hex_at body (i + 5) digits.fourth in
    let o = last.inside in
    let e = a.end in
    omega (arith, o, e)
