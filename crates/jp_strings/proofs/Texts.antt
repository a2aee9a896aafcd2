-- What a body spells from a position on, one code point at a time.
use Rattle.std.proofs.Common.{◌≡◌, ℕ, ◌+◌, ◌*◌, ◌&&◌, ◌<◌, ◌≤◌, inl, inr, true, false, List, [], ◌∷◌, ◌++◌, length, drop, sym, ◌∙◌, ap, subst, refl, arith, Option, Some, None, encode_utf8}
use Rattle.std.specs.Char as char
use Rattle.std.specs.Option.{SomeIff}
use Rattle.std.proofs.lemmas.Bool.{and_cases, leb-false, ltb-false, and_left, and_right, lt-leb, le-ltb, ltb-true, not-true, not_from_false, or_parts, false_from_ne_true, true_from_ne_false}
use Rattle.std.proofs.lemmas.Option.{same_Some, cond_some}
use Rattle.std.proofs.lemmas.Str.{encode_same}
use lib.Utf8.{scalar_cases}
use Rattle.jp_model.specs.Json.Places.{byte_at, Has}
use Rattle.jp_model.specs.Json.Strings.{SpellsCharacter, SpellsCharacters, SpellsBody, short_escape, paired, has_lone_surrogate}
use Rattle.jp_model.specs.Characters.{four_digits, is_high_surrogate, is_low_surrogate, is_surrogate, pair_value}
use Rattle.jp_model.specs.Json.Reader.{and_then, character_at}
use Rattle.jp_model.proofs.Reader.Lexical.{reads_rest, reads_end, clash}
use Rattle.jp_model.proofs.Reader.Scans.{then_some}
use Rattle.jp_strings.specs.Points.{IsText, units_from, points_from, points_of, points_in, are_whole, is_text_from, GoesOn}
use Rattle.std.proofs.lemmas.Bool.Decides.{nat_tests}
use Rattle.jp_strings.proofs.Escapes.{digits_are_hex}
use Rattle.jp_strings.proofs.Reading.{character_found, character_whole, characters_longer, units_found, units_whole, units_next, units_at_end, with_unit}
use Rattle.jp_strings.proofs.Halves.{high_is_surrogate, low_is_surrogate, high_bounds, low_bounds, paired_single, paired_pair, paired_alone}

-- ---- texts by their units
pub text_units : (body : List ℕ) (at : ℕ) → is_text_from body at ≡ true → (us : List ℕ) × (units_from body at ≡ Some us) × (has_lone_surrogate (paired us) ≡ false)
unfolding is_text_from
text_units body at h = by (units_from body at) refl h
  where
    by : (o : Option (List ℕ)) → units_from body at ≡ o → are_whole o ≡ true → (us : List ℕ) × (units_from body at ≡ Some us) × (has_lone_surrogate (paired us) ≡ false)
    by None e h = absurd (clash _ h refl)
    by (Some us) e h = (us, e, not-true _ h)

pub text_from_units : (body : List ℕ) (at : ℕ) (us : List ℕ) → units_from body at ≡ Some us → has_lone_surrogate (paired us) ≡ false → is_text_from body at ≡ true
unfolding is_text_from
text_from_units body at us e h = ap are_whole e ∙ not_from_false _ h

pub points_from_units : (body : List ℕ) (at : ℕ) (us : List ℕ) → units_from body at ≡ Some us → points_from body at ≡ paired us
unfolding points_from
points_from_units body at us e = ap points_in e

pub text_within : (body : List ℕ) (at : ℕ) → is_text_from body at ≡ true → at ≤ length body
text_within body at h =
    let t = text_units body at h in
    let l = characters_longer body at (length body) t.0 (units_found body at t.0 t.1) in
    omega (arith, l)

-- ---- the first unit of a text
pub has_character : (body : List ℕ) (at : ℕ) → is_text_from body at ≡ true → at < length body → (c : ℕ × ℕ) × (character_at body at ≡ Some c)
has_character body at h l = let t = text_units body at h in by t.0 (units_found body at t.0 t.1)
  where
    by : (us : List ℕ) → SpellsCharacters body at (length body) us → (c : ℕ × ℕ) × (character_at body at ≡ Some c)
    by [] s = absurd (omega (arith, s, l))
    by (u ∷ us) s = ((u, s.0), character_whole body at s.0 u s.1)

-- what follows the first character, where that is known
behind_first : (body : List ℕ) (at unit behind : ℕ) (us : List ℕ) → at < length body → character_at body at ≡ Some (unit, behind) → units_from body at ≡ Some us → (vs : List ℕ) × (units_from body behind ≡ Some vs) × (us ≡ unit ∷ vs)
behind_first body at unit behind us l c e =
    let n : with_unit unit (units_from body behind) ≡ Some us =
    sym (ap (λ (x : Option (ℕ × ℕ)). and_then x (λ d. with_unit d.0 (units_from body d.1))) c) ∙ (sym (units_next body at (λ q. omega (arith, q, l))) ∙ e) in
    let q = then_some {A = List ℕ} _ _ _ n in
    (q.0, q.1, sym (same_Some _ _ q.2))

lone_single : (u : ℕ) (us : List ℕ) → is_high_surrogate u ≡ false → has_lone_surrogate (paired (u ∷ us)) ≡ false → (is_surrogate u ≡ false) × (has_lone_surrogate (paired us) ≡ false)
lone_single u us h w = or_parts _ _ (sym (ap has_lone_surrogate (paired_single u us h)) ∙ w)

pub record Single (body : List ℕ) (at unit behind : ℕ) : Type 0 where
  pub goes_on : GoesOn body at unit behind
  pub whole : is_surrogate unit ≡ false

-- a unit that is no high half is a code point
pub next_single : (body : List ℕ) (at unit behind : ℕ) → is_text_from body at ≡ true → at < length body → character_at body at ≡ Some (unit, behind) → is_high_surrogate unit ≡ false → Single body at unit behind
next_single body at unit behind h l c s =
    let t = text_units body at h in
    let b = behind_first body at unit behind t.0 l c t.1 in
    let w = lone_single unit b.0 s (sym (ap (λ us. has_lone_surrogate (paired us)) b.2) ∙ t.2) in
    let goes_on : GoesOn body at unit behind = record {
      points = points_from_units body at t.0 t.1 ∙ (ap paired b.2 ∙ (paired_single unit b.0 s ∙ ap (λ ps. unit ∷ ps) (sym (points_from_units body behind b.0 b.1))));
      text = text_from_units body behind b.0 b.1 w.1;
    } in
    record { goes_on = goes_on; whole = w.0 }

-- after a high half stands a low half
pub record Pair (body : List ℕ) (at high middle low behind : ℕ) : Type 0 where
  pub inside : middle < length body
  pub backslash : byte_at body middle ≡ 0x5C
  pub character : character_at body middle ≡ Some (low, behind)
  pub is_low : is_low_surrogate low ≡ true
  pub goes_on : GoesOn body at (pair_value high low) behind

pub scalar_is_whole : (u : ℕ) → char.IsScalar u → is_surrogate u ≡ false
scalar_is_whole u h =
    elim (scalar_cases u h) [
      | inl lt ↦ and_left _ _ (lt-leb _ _ lt)
      | inr r ↦ and_right _ _ (le-ltb _ _ r.0)
    ]

-- half of a pair is written as an escape
pub half_is_escaped : (body : List ℕ) (i j u : ℕ) → SpellsCharacter body i j u → is_surrogate u ≡ true → Has body i 0x5C
half_is_escaped body i j u (inl a) s = absurd (clash _ s (scalar_is_whole u a.scalar))
half_is_escaped body i j u (inr (inl a)) s = a.backslash
half_is_escaped body i j u (inr (inr a)) s = a.backslash

high_alone : (u : ℕ) → is_high_surrogate u ≡ true → has_lone_surrogate (paired (u ∷ [])) ≡ false → ⊥
high_alone u h w = clash _ (high_is_surrogate u h) (or_parts _ _ w).0

high_before : (u v : ℕ) (vs : List ℕ) → is_high_surrogate u ≡ true → has_lone_surrogate (paired (u ∷ v ∷ vs)) ≡ false → is_low_surrogate v ≡ false → ⊥
high_before u v vs h w l = clash _ (high_is_surrogate u h) (or_parts _ _ (sym (ap has_lone_surrogate (paired_alone u v vs l)) ∙ w)).0

pub next_pair : (body : List ℕ) (at high middle : ℕ) → is_text_from body at ≡ true → at < length body → character_at body at ≡ Some (high, middle) → is_high_surrogate high ≡ true → (low behind : ℕ) × Pair body at high middle low behind
next_pair body at high middle h l c s =
    let t = text_units body at h in
    let b = behind_first body at high middle t.0 l c t.1 in
    by b.0 b.1 (points_from_units body at t.0 t.1 ∙ ap paired b.2) (sym (ap (λ us. has_lone_surrogate (paired us)) b.2) ∙ t.2)
  where
    by : (us : List ℕ) → units_from body middle ≡ Some us → points_from body at ≡ paired (high ∷ us) → has_lone_surrogate (paired (high ∷ us)) ≡ false → (low behind : ℕ) × Pair body at high middle low behind
    by [] e p w = absurd (high_alone high s w)
    by (v ∷ vs) e p w =
        let spelled = units_found body middle (v ∷ vs) e in
        let is_low = true_from_ne_false _ (λ f. high_before high v vs s w f) in
        let has = half_is_escaped body middle spelled.0 v spelled.1 (low_is_surrogate v is_low) in
        let rest = units_whole body spelled.0 vs spelled.2 in
        let goes_on : GoesOn body at (pair_value high v) spelled.0 = record {
          points = p ∙ (paired_pair high v vs s is_low ∙ ap (λ ps. pair_value high v ∷ ps) (sym (points_from_units body spelled.0 vs rest)));
          text = text_from_units body spelled.0 vs rest (or_parts _ _ (sym (ap has_lone_surrogate (paired_pair high v vs s is_low)) ∙ w)).1;
        } in (
          v,
          spelled.0,
          record {
            inside = has.inside;
            backslash = has.is;
            character = character_whole body middle spelled.0 v spelled.1;
            is_low = is_low;
            goes_on = goes_on;
          },
        )

short_small : (l u : ℕ) → short_escape l ≡ Some u → u < 0x110000
short_small l u h = grind (arith, nat_tests, h)

digits_small : (a b c d u : ℕ) → four_digits a b c d ≡ Some u → u < 0x110000
digits_small a b c d u h =
    let value = char.digit_value a * 4096 + char.digit_value b * 256 + char.digit_value c * 16 + char.digit_value d in
    let all = cond_some (char.is_digit a 16 && char.is_digit b 16 && char.is_digit c 16 && char.is_digit d 16) value u h in
    let hex = digits_are_hex a b c d u h in
    below (char.digit_value a) (char.digit_value b) (char.digit_value c) (char.digit_value d) u (ltb-true _ _ hex.first) (ltb-true _ _ hex.second) (ltb-true _ _ hex.third) (ltb-true _ _ hex.fourth) all.1
  where
    below : (a b c d u : ℕ) → a < 16 → b < 16 → c < 16 → d < 16 → a * 4096 + b * 256 + c * 16 + d ≡ u → u < 0x110000
    below a b c d u p q r s e = omega (arith, p, q, r, s, e)

-- the unit of a character is below 110000
pub unit_small : (body : List ℕ) (i j u : ℕ) → SpellsCharacter body i j u → u < 0x110000
unit_small body i j u (inl a) = elim (scalar_cases u a.scalar) [ inl lt ↦ omega (arith, lt) | inr r ↦ r.1 ]
unit_small body i j u (inr (inl a)) = short_small a.letter u a.spells
unit_small body i j u (inr (inr a)) = digits_small (byte_at body (i + 2)) (byte_at body (i + 3)) (byte_at body (i + 4)) (byte_at body (i + 5)) u a.spells

-- a character that begins with no backslash is the one that UTF-8 has there
pub plain_goes_on : (body : List ℕ) (at c : ℕ) (rest : List ℕ) → is_text_from body at ≡ true → at < length body → (byte_at body at ≡ 0x5C → ⊥) → drop at body ≡ encode_utf8 c ++ rest → GoesOn body at c (at + length (encode_utf8 c))
plain_goes_on body at c rest h l n e = let d = has_character body at h l in by d.0.0 d.0.1 d.1 (character_found body at d.0 d.1)
  where
    by : (u m : ℕ) → character_at body at ≡ Some (u, m) → SpellsCharacter body at m u → GoesOn body at c (at + length (encode_utf8 c))
    by u m k (inl a) =
        let same = encode_same u c (drop m body) rest (sym (reads_rest body at m (encode_utf8 u) a.bytes) ∙ e) in
        let end : m ≡ at + length (encode_utf8 c) = reads_end body at m (encode_utf8 u) a.bytes ∙ ap (λ x. at + length (encode_utf8 x)) same.0 in
        let single = next_single body at u m h l k (false_from_ne_true _ (λ t. clash _ (high_is_surrogate u t) (scalar_is_whole u a.scalar))) in
        subst (λ x. GoesOn body at c x) end (subst (λ x. GoesOn body at x m) same.0 single.goes_on)
    by u m k (inr (inl a)) = absurd (n a.backslash.is)
    by u m k (inr (inr a)) = absurd (n a.backslash.is)

-- a unit that is no half is a scalar
pub single_in_range : (body : List ℕ) (at unit behind : ℕ) → character_at body at ≡ Some (unit, behind) → is_surrogate unit ≡ false → char.InScalarRange unit
single_in_range body at unit behind c s =
    let small = unit_small body at behind unit (character_found body at (unit, behind) c) in
    elim (and_cases _ _ s) [ inl a ↦ inl (leb-false 0xD800 unit a) | inr a ↦ inr (ltb-false unit 0xE000 a, omega (arith, small)) ]

pub pair_in_range : (high low : ℕ) → is_high_surrogate high ≡ true → is_low_surrogate low ≡ true → char.InScalarRange (pair_value high low)
pair_in_range high low h l = let a = high_bounds high h in let b = low_bounds low l in inr (omega (arith, a, b), omega (arith, a, b))

-- the same of the character that was read after the high half
pub record Second (body : List ℕ) (at high low behind : ℕ) : Type 0 where
  pub is_low : is_low_surrogate low ≡ true
  pub goes_on : GoesOn body at (pair_value high low) behind

pub second_half : (body : List ℕ) (at high middle : ℕ) (second : ℕ × ℕ) → is_text_from body at ≡ true → at < length body → character_at body at ≡ Some (high, middle) → is_high_surrogate high ≡ true → character_at body middle ≡ Some second → Second body at high second.0 second.1
second_half body at high middle second h l c s e =
    let p = next_pair body at high middle h l c s in
    let same : (p.0, p.1) ≡ second = same_Some _ _ (sym p.2.character ∙ e) in
    let found : Second body at high p.0 p.1 = record { is_low = p.2.is_low; goes_on = p.2.goes_on } in
    subst (λ (x : ℕ × ℕ). Second body at high x.0 x.1) same found

-- what `SomeIff` says of the value
pub some_value : (o : Option ℕ) (P : Type 0) (v r : ℕ) → SomeIff o P v → o ≡ Some r → r ≡ v
some_value o P v r h e = (subst (λ (x : Option ℕ). SomeIff x P v) e h).1

-- ---- a body as a whole
pub points_of_spelled : (body points : List ℕ) → SpellsBody body 0 (length body) points → points_of body ≡ points
unfolding points_of
points_of_spelled body points s = points_from_units body 0 s.units (units_whole body 0 s.units s.characters) ∙ s.are

pub text_of_body : (body : List ℕ) → IsText body → is_text_from body 0 ≡ true
text_of_body body t = text_from_units body 0 t.spelled.units (units_whole body 0 t.spelled.units t.spelled.characters) (ap has_lone_surrogate t.spelled.are ∙ t.is_whole)

pub points_at_end : (body : List ℕ) (at : ℕ) → at ≡ length body → points_from body at ≡ []
points_at_end body at e = points_from_units body at [] (units_at_end body at e)
