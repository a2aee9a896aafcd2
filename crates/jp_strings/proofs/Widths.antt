-- How many bytes the text takes that a body spells: as many as the body, and the same ones, or fewer where it has an escape.
use Rattle.std.proofs.Common.{append-nil, append_assoc, length-append, ◌&&◌, ◌≡◌, ℕ, ◌+◌, ◌<◌, ◌≤◌, ◌⊎◌, inl, inr, true, false, List, [], ◌∷◌, ◌++◌, length, drop, sym, ◌∙◌, ap, refl, arith, Some, encode_utf8}
use lib.Utf8.{scalars, encodes}
use Rattle.std.specs.Char.{len_utf8}
use Rattle.std.specs.Str.{IsUtf8, chars}
use Rattle.std.proofs.lemmas.Bool.{and_from, cond_both, and_parts, false_from_ne_true}
use Rattle.std.proofs.lemmas.Bool.Decides.{nat_tests}
use Rattle.std.proofs.lemmas.List.{drop_all, get_or_append_left}
use Rattle.std.proofs.lemmas.Slice.Eq.{bytes_eq-Decides}
use Rattle.std.proofs.lemmas.Str.{length-encode, len_utf8_bounds, encodes-chars}
use Rattle.jp_model.specs.Characters.{is_high_surrogate, is_low_surrogate, pair_value, text_equal}
use Rattle.jp_model.specs.Json.Strings.{SpellsCharacter, SpellsCharacters, short_escape, paired}
use Rattle.jp_model.proofs.Reader.Lexical.{reads_rest, reads_end}
use Rattle.jp_model.specs.Json.Places.{byte_at}
use Rattle.jp_strings.specs.Points.{IsText, points_of, points_from, is_text_from}
use Rattle.jp_strings.proofs.Halves.{high_bounds, low_bounds}
use Rattle.jp_strings.proofs.Texts.{points_of_spelled, text_of_body, plain_goes_on}
use Rattle.jp_strings.proofs.Utf8.{text_utf8}
use Rattle.jp_strings.proofs.Runs.{unpaired}

-- the bytes from a position up to another are these scalars
record AreBytes (body : List ℕ) (i j : ℕ) (units : List ℕ) : Type 0 where
  scalars : scalars units ≡ true
  bytes : drop i body ≡ encodes units ++ drop j body
  width : length (encodes units) + i ≡ j

letter_width : (letter unit : ℕ) → short_escape letter ≡ Some unit → len_utf8 unit ≡ 1
letter_width letter unit h = grind (arith, nat_tests, h)

half_width : (unit : ℕ) → 0xD800 ≤ unit → 2 < len_utf8 unit
half_width unit h = grind (arith, nat_tests, h)

with_first : (body : List ℕ) (i m j u : ℕ) (us : List ℕ) → SpellsCharacter body i m u → AreBytes body m j us ⊎ (length (encodes us) + m < j) → AreBytes body i j (u ∷ us) ⊎ (length (encodes (u ∷ us)) + i < j)
with_first body i m j u us (inl a) (inl r) =
    let long = length-append (encode_utf8 u) (encodes us) in
    let end = reads_end body i m (encode_utf8 u) a.bytes in
    let rest = r.width in
    inl (record {
      scalars = and_from _ _ a.scalar r.scalars;
      bytes = reads_rest body i m (encode_utf8 u) a.bytes ∙ (ap (λ (xs : List ℕ). encode_utf8 u ++ xs) r.bytes ∙ sym (append_assoc (encode_utf8 u) (encodes us) (drop j body)));
      width = omega (arith, long, end, rest);
    })
with_first body i m j u us (inl a) (inr r) =
    let long = length-append (encode_utf8 u) (encodes us) in
    let end = reads_end body i m (encode_utf8 u) a.bytes in
    inr (omega (arith, long, end, r))
with_first body i m j u us (inr (inl a)) r =
    let long = length-append (encode_utf8 u) (encodes us) in
    let width = length-encode u in
    let one = letter_width a.letter u a.spells in
    let end = a.end in
    inr (elim r [ inl s ↦ (let rest = s.width in omega (arith, long, width, one, end, rest)) | inr s ↦ omega (arith, long, width, one, end, s) ])
with_first body i m j u us (inr (inr a)) r =
    let long = length-append (encode_utf8 u) (encodes us) in
    let width = length-encode u in
    let most = (len_utf8_bounds u).1 in
    let end = a.end in
    inr (elim r [ inl s ↦ (let rest = s.width in omega (arith, long, width, most, end, rest)) | inr s ↦ omega (arith, long, width, most, end, s) ])

units_or_fewer : (body : List ℕ) (i j : ℕ) (us : List ℕ) → SpellsCharacters body i j us → AreBytes body i j us ⊎ (length (encodes us) + i < j)
units_or_fewer body i j [] h = inl (record { scalars = refl; bytes = ap (λ k. drop k body) h; width = omega (arith, h) })
units_or_fewer body i j (u ∷ us) h = with_first body i h.0 j u us h.1 (units_or_fewer body h.0 j us h.2)

-- a pair takes fewer bytes than its halves would
pair_narrow : (u v : ℕ) (ps vs : List ℕ) → is_high_surrogate u ≡ true → is_low_surrogate v ≡ true → length (encodes ps) ≤ length (encodes vs) → length (encodes (pair_value u v ∷ ps)) ≤ length (encodes (u ∷ v ∷ vs))
pair_narrow u v ps vs h l le =
    let pair = length-append (encode_utf8 (pair_value u v)) (encodes ps) in
    let most = (len_utf8_bounds (pair_value u v)).1 in
    let width = length-encode (pair_value u v) in
    let first = length-append (encode_utf8 u) (encodes (v ∷ vs)) in
    let second = length-append (encode_utf8 v) (encodes vs) in
    let high = half_width u (high_bounds u h).0 in
    let low = half_width v (let b = (low_bounds v l).0 in omega (arith, b)) in
    let high_is = length-encode u in
    let low_is = length-encode v in
    omega (arith, pair, most, width, first, second, high, low, high_is, low_is, le)

paired_narrow : (us : List ℕ) → length (encodes (paired us)) ≤ length (encodes us)
paired_narrow [] = omega arith
paired_narrow (u ∷ []) = omega arith
paired_narrow (u ∷ v ∷ us) =
    let pairs = paired_narrow us in
    let singles = paired_narrow (v ∷ us) in
    let alone = length-append (encode_utf8 u) (encodes (paired (v ∷ us))) in
    let all = length-append (encode_utf8 u) (encodes (v ∷ us)) in
    cond_both (is_high_surrogate u && is_low_surrogate v) (pair_value u v ∷ paired us) (u ∷ paired (v ∷ us)) (λ (ps : List ℕ). length (encodes ps) ≤ length (encodes (u ∷ v ∷ us)))
    (λ e. let p = and_parts (is_high_surrogate u) (is_low_surrogate v) e in pair_narrow u v (paired us) us p.0 p.1 pairs)
    (λ e. omega (arith, singles, alone, all))

body_or_fewer : (body : List ℕ) → IsText body → (encodes (points_of body) ≡ body) ⊎ (length (encodes (points_of body)) < length body)
body_or_fewer body t =
    let us = t.spelled.units in
    let points : points_of body ≡ paired us = points_of_spelled body t.points t.spelled ∙ sym t.spelled.are in
    let narrow = paired_narrow us in
    let size = ap (λ (ps : List ℕ). length (encodes ps)) points in
    elim (units_or_fewer body 0 (length body) us t.spelled.characters) [
      | inl a ↦ inl (ap encodes (points ∙ unpaired us a.scalars) ∙ (sym (append-nil (encodes us)) ∙ (ap (λ (xs : List ℕ). encodes us ++ xs) (sym (drop_all (length body) body (omega arith))) ∙ sym a.bytes)))
      | inr l ↦ inr (omega (arith, size, narrow, l))
    ]

-- a body that begins with no backslash begins with the first byte of a text that it spells
pub like_starts : (body text : List ℕ) → IsText body → IsUtf8 text → 0 < length body → (byte_at body 0 ≡ 0x5C → ⊥) → text ≡ encodes (points_of body) → byte_at body 0 ≡ byte_at text 0
unfolding points_of
like_starts body text t u some plain same =
    let whole = text_of_body body t in
    let utf8 = text_utf8 body 0 whole in
    first utf8.0 utf8.1.1 whole
  where
    first : (cs : List ℕ) → encodes cs ≡ body → is_text_from body 0 ≡ true → byte_at body 0 ≡ byte_at text 0
    first [] e whole = absurd (let l = ap length e in omega (arith, l, some))
    first (c ∷ cs) e whole =
        let on = plain_goes_on body 0 c (encodes cs) whole some plain (sym e) in
        let long : 0 < length (encode_utf8 c) = (let width = length-encode c in let least = (len_utf8_bounds c).0 in omega (arith, width, least)) in
        ap (λ (xs : List ℕ). byte_at xs 0) (sym e) ∙ (get_or_append_left (encode_utf8 c) (encodes cs) 0 0 long
        ∙ (sym (get_or_append_left (encode_utf8 c) (encodes (points_from body (0 + length (encode_utf8 c)))) 0 0 long)
        ∙ sym (ap (λ (xs : List ℕ). byte_at xs 0) (same ∙ ap encodes on.points))))

-- so a text that begins otherwise is spelled by another body
pub unlike_starts : (body text : List ℕ) → IsText body → IsUtf8 text → 0 < length body → (byte_at body 0 ≡ 0x5C → ⊥) → (byte_at body 0 ≡ byte_at text 0 → ⊥) → text_equal (chars text) (points_of body) ≡ false
unlike_starts body text t u some plain n =
    false_from_ne_true _ (λ e. n (like_starts body text t u some plain (sym (encodes-chars text u) ∙ ap encodes ((bytes_eq-Decides (chars text) (points_of body)).0 e))))

-- a body that is no longer than a text spells it only where it is its bytes
pub unlike_texts : (body text : List ℕ) → IsText body → IsUtf8 text → length body ≤ length text → (body ≡ text → ⊥) → text_equal (chars text) (points_of body) ≡ false
unlike_texts body text t u le n =
    false_from_ne_true _ (λ e.
    let same : text ≡ encodes (points_of body) = sym (encodes-chars text u) ∙ ap encodes ((bytes_eq-Decides (chars text) (points_of body)).0 e) in
    let size = ap length same in
    elim (body_or_fewer body t) [ inl b ↦ n (sym (same ∙ b)) | inr l ↦ absurd (omega (arith, size, l, le)) ])
