-- Characters that stand for themselves, many at a time.
use Rattle.std.proofs.Common.{append-nil, ◌==◌, nat_lt, ◌≡◌, ℕ, ◌+◌, ◌-◌, ◌<◌, ◌≤◌, inl, inr, true, false, ◌||◌, List, [], ◌∷◌, ◌++◌, length, drop, take, get_or, sym, ◌∙◌, ap, subst, refl, arith, Option, Some, None, encode_utf8, length-drop, get_or-drop, Bool, add-zero, append_assoc, length-append, None, MatchOption, ap₂}
use lib.Utf8.{scalar, scalars, encodes}
use Rattle.std.specs.Str.{IsUtf8, IsCharBoundary, chars}
use Rattle.std.proofs.lemmas.List.{drop_all, drop-drop, drop_at, take_at, take-append-drop, length-take-le}
use Rattle.std.proofs.lemmas.Bool.{cases_lt, and_parts, or_right, ltb-true, lt-ltb, eqb-true, or_cases, false_from_ne_true, true≢false}
use Rattle.std.proofs.lemmas.Str.{IsUtf8-take, IsUtf8-drop, IsCharBoundary-end, IsCharBoundary-before_ascii, byte_from_char, length-encode, len_utf8_bounds, encodes-chars, chars_from_encodes}
use Rattle.std.proofs.lemmas.Slice.Eq.{bytes_eq-Decides}
use Rattle.jp_lanes.specs.Search.{is_special}
use Rattle.jp_model.specs.Json.Places.{byte_at}
use Rattle.jp_model.specs.Json.Strings.{Unescaped, SpellsCharacter, SpellsCharacters, paired}
use Rattle.jp_model.specs.Characters.{text_equal, is_surrogate, is_high_surrogate, is_low_surrogate}
use Rattle.jp_model.specs.Json.Reader.{and_then, character_at}
use Rattle.jp_model.proofs.Reader.Bodies.{first_of_rest, unescaped_first}
use Rattle.jp_model.proofs.Reader.Lexical.{clash}
use Rattle.jp_strings.specs.declared.checks.Halves.{Halves}
use Rattle.jp_strings.specs.Halves.{differ, alone, alone_behind, answer, Advances}
use Rattle.jp_strings.specs.Plain.{ArePlain}
use Rattle.jp_strings.specs.Points.{IsText, points_of, units_from}
use Rattle.jp_strings.proofs.Halves.{low_is_surrogate, high_is_surrogate, paired_single}
use Rattle.jp_strings.proofs.Reading.{character_found, character_whole, character_longer, units_found, units_next, units_at_end, with_unit}
use Rattle.jp_strings.proofs.Texts.{scalar_is_whole, text_of_body, points_from_units}
use Rattle.jp_strings.proofs.Utf8.{utf8_behind, character_within, text_utf8}

-- these units in front of others, where there are others
abbrev pub with_units : List ℕ → Option (List ℕ) → Option (List ℕ)
with_units [] rest = rest
with_units (u ∷ us) rest = with_unit u (with_units us rest)

-- ---- one character
small_special : (b : ℕ) → b < 0x20 → is_special b ≡ true
small_special b l = or_right _ _ (lt-ltb b 0x20 l)

plain_character : (body : List ℕ) (at c : ℕ) (rest : List ℕ) → scalar c ≡ true → drop at body ≡ encode_utf8 c ++ rest → at + length (encode_utf8 c) ≤ length body → is_special (byte_at body at) ≡ false → character_at body at ≡ Some (c, at + length (encode_utf8 c))
plain_character body at c rest s e l p = character_whole body at (at + length (encode_utf8 c)) c (inl found)
  where
    -- where the character is ASCII it is the byte
    is_plain : c < 128 → is_special c ≡ false
    is_plain small = subst (λ b. is_special b ≡ false) (sym (first_of_rest body at) ∙ byte_from_char (drop at body) rest c e small) p

    not_quote : c ≡ 0x22 → ⊥
    not_quote q = clash _ (ap is_special q) (is_plain (omega (arith, q)))

    not_backslash : c ≡ 0x5C → ⊥
    not_backslash q = clash _ (ap is_special q) (is_plain (omega (arith, q)))

    no_control : 0x20 ≤ c
    no_control = elim (cases_lt c 0x20) [ inl lt ↦ absurd (clash _ (small_special c lt) (is_plain (omega (arith, lt)))) | inr le ↦ le ]

    found : Unescaped body at (at + length (encode_utf8 c)) c
    found = record {
      scalar = s;
      no_control = no_control;
      no_quote = not_quote;
      no_backslash = not_backslash;
      bytes = record { order = omega arith; within = l; are = ap (λ (xs : List ℕ). take (at + length (encode_utf8 c) - at) xs) e ∙ take_at (encode_utf8 c) rest (at + length (encode_utf8 c) - at) (omega arith) };
    }

-- ---- many characters
behind_char : (body tail : List ℕ) (at c : ℕ) → drop at body ≡ encode_utf8 c ++ tail → drop (at + length (encode_utf8 c)) body ≡ tail
behind_char body tail at c e = sym (drop-drop (length (encode_utf8 c)) at body) ∙ (ap (λ (xs : List ℕ). drop (length (encode_utf8 c)) xs) e ∙ drop_at (encode_utf8 c) tail (length (encode_utf8 c)) refl)

units_of_run : (cs body : List ℕ) (at end : ℕ) → scalars cs ≡ true → drop at body ≡ encodes cs ++ drop end body → end ≡ at + length (encodes cs) → end ≤ length body → ArePlain body at end → units_from body at ≡ with_units cs (units_from body end)
units_of_run [] body at end s e n l p = ap (units_from body) (sym (n ∙ add-zero at))
units_of_run (c ∷ cs) body at end s e n l p =
    let parts = and_parts (scalar c) (scalars cs) s in
    let long = length-append (encode_utf8 c) (encodes cs) in
    let width = length-encode c in
    let some = (len_utf8_bounds c).0 in
    let next : ℕ = at + length (encode_utf8 c) in
    let first : drop at body ≡ encode_utf8 c ++ (encodes cs ++ drop end body) = e ∙ append_assoc (encode_utf8 c) (encodes cs) (drop end body) in
    let order : at < end = omega (arith, n, long, width, some) in
    let character = plain_character body at c (encodes cs ++ drop end body) parts.0 first (omega (arith, n, long, l)) (p at (omega arith) order) in
    let rest = units_of_run cs body next end parts.1 (behind_char body (encodes cs ++ drop end body) at c first) (omega (arith, n, long)) l (λ k lo hi. p k (omega (arith, lo)) hi) in
    units_next body at (λ q. omega (arith, q, order, l))
    ∙ (ap (λ (x : Option (ℕ × ℕ)). and_then x (λ d. with_unit d.0 (units_from body d.1))) character ∙ ap (λ (o : Option (List ℕ)). with_unit c o) rest)

-- ---- what was seen
abbrev Takes : Halves → Halves → Type 0
Takes seen more = (unit : ℕ) (units : List ℕ) → is_surrogate unit ≡ false → alone_behind seen (unit ∷ units) ≡ alone_behind more units

answer_unit : (seen more : Halves) (unit : ℕ) (o : Option (List ℕ)) → ((units : List ℕ) → alone_behind seen (unit ∷ units) ≡ alone_behind more units) → answer seen (with_unit unit o) ≡ answer more o
answer_unit seen more unit None f = refl
answer_unit seen more unit (Some units) f = ap (λ b. Some b) (f units)

-- scalars after a scalar tell nothing new
scalar_takes : (more : Halves) → more.after_high ≡ false → Takes more more
scalar_takes more h unit units s =
    let low = false_from_ne_true _ (λ t. clash _ (low_is_surrogate unit t) s) in
    let high = false_from_ne_true _ (λ t. clash _ (high_is_surrogate unit t) s) in
    ap (λ b. more.is_lone || (differ b (is_low_surrogate unit) || alone (is_high_surrogate unit) units)) h
    ∙ (ap (λ b. more.is_lone || (differ false b || alone (is_high_surrogate unit) units)) low
    ∙ (ap (λ b. more.is_lone || (differ false false || alone b units)) high ∙ ap (λ b. more.is_lone || alone b units) (sym h)))

answer_scalars : (cs : List ℕ) (more : Halves) (o : Option (List ℕ)) → more.after_high ≡ false → scalars cs ≡ true → answer more (with_units cs o) ≡ answer more o
answer_scalars [] more o h s = refl
answer_scalars (c ∷ cs) more o h s =
    let parts = and_parts _ _ s in
    answer_unit more more c (with_units cs o) (λ units. scalar_takes more h c units (scalar_is_whole c parts.0)) ∙ answer_scalars cs more o h parts.1

answer_run : (cs : List ℕ) (seen more : Halves) (o : Option (List ℕ)) → 0 < length cs → more.after_high ≡ false → Takes seen more → scalars cs ≡ true → answer seen (with_units cs o) ≡ answer more o
answer_run [] seen more o l h f s = absurd (omega (arith, l))
answer_run (c ∷ cs) seen more o l h f s =
    let parts = and_parts _ _ s in
    answer_unit seen more c (with_units cs o) (λ units. f c units (scalar_is_whole c parts.0)) ∙ answer_scalars cs more o h parts.1

-- ---- steps
pub escape_advances : (body : List ℕ) (at unit end : ℕ) (seen more : Halves) → at < length body → IsUtf8 (drop at body) → character_at body at ≡ Some (unit, end) → ((units : List ℕ) → alone_behind seen (unit ∷ units) ≡ alone_behind more units) → Advances body at seen end more
escape_advances body at unit end seen more l u c f =
    let spelled = character_found body at (unit, end) c in
    record {
      order = character_longer body at end unit spelled;
      within = character_within body at end unit spelled;
      utf8 = utf8_behind body at end unit spelled u;
      same = ap (answer seen) (units_next body at (λ q. omega (arith, q, l)) ∙ ap (λ (x : Option (ℕ × ℕ)). and_then x (λ d. with_unit d.0 (units_from body d.1))) c) ∙ answer_unit seen more unit (units_from body end) f;
    }

special_small : (b : ℕ) → is_special b ≡ true → b < 128
special_small b h =
    elim (or_cases ((b == 0x22) || (b == 0x5C)) (nat_lt b 0x20) h) [
      | inl e ↦ elim (or_cases (b == 0x22) (b == 0x5C) e) [ inl q ↦ (let z = eqb-true b 0x22 q in omega (arith, z)) | inr q ↦ (let z = eqb-true b 0x5C q in omega (arith, z)) ]
      | inr e ↦ (let z = ltb-true b 0x20 e in omega (arith, z))
    ]

boundary : (body : List ℕ) (at end : ℕ) → at ≤ end → end ≤ length body → (end < length body → is_special (byte_at body end) ≡ true) → IsCharBoundary (drop at body) (end - at)
boundary body at end o l s =
    let d = length-drop at body in
    elim (cases_lt end (length body)) [
      | inl lt ↦
          (let e : get_or (drop at body) (end - at) 0 ≡ byte_at body end = get_or-drop at body (end - at) 0 ∙ ap (byte_at body) (let k : at + (end - at) ≡ end = omega arith in k) in
          let small = special_small (byte_at body end) (s lt) in
          IsCharBoundary-before_ascii (drop at body) (end - at) (omega (arith, d, lt)) (omega (arith, e, small)))
      | inr le ↦ subst (λ k. IsCharBoundary (drop at body) k) (let k : length (drop at body) ≡ end - at = omega (arith, d, le) in k) (IsCharBoundary-end (drop at body))
    ]

some_char : (cs : List ℕ) → 0 < length (encodes cs) → 0 < length cs
some_char [] l = absurd (omega (arith, l))
some_char (c ∷ cs) l = omega arith

-- the scalars of a run, which are some, and the units that they are
pub run_units : (body : List ℕ) (at end : ℕ) → at < end → end ≤ length body → IsUtf8 (drop at body) → ArePlain body at end → (end < length body → is_special (byte_at body end) ≡ true) →
    (cs : List ℕ) × (scalars cs ≡ true) × (encodes cs ≡ take (end - at) (drop at body)) × (0 < length cs) × (units_from body at ≡ with_units cs (units_from body end)) × IsUtf8 (drop end body)
run_units body at end o l u p s =
    let cut = boundary body at end (omega arith) l s in
    let d = length-drop at body in
    let whole : at + (end - at) ≡ end = omega arith in
    let rest : drop (end - at) (drop at body) ≡ drop end body = drop-drop (end - at) at body ∙ ap (λ k. drop k body) whole in
    let front = IsUtf8-take (drop at body) (end - at) u cut in
    let size : length (encodes front.0) ≡ end - at = ap length front.1.1 ∙ length-take-le (end - at) (drop at body) (omega (arith, d)) in
    let split : drop at body ≡ encodes front.0 ++ drop end body = sym (take-append-drop (end - at) (drop at body)) ∙ ap₂ (λ (xs ys : List ℕ). xs ++ ys) (sym front.1.1) rest in
    let units = units_of_run front.0 body at end front.1.0 split (omega (arith, size)) l p in
    (front.0, front.1.0, front.1.1, some_char front.0 (omega (arith, size)), units, subst (λ x. IsUtf8 x) rest (IsUtf8-drop (drop at body) (end - at) u cut))

pub run_advances : (body : List ℕ) (at end : ℕ) (seen more : Halves) → at < end → end ≤ length body → IsUtf8 (drop at body) → ArePlain body at end → (end < length body → is_special (byte_at body end) ≡ true) → more.after_high ≡ false → Takes seen more → Advances body at seen end more
run_advances body at end seen more o l u p s h f =
    let run = run_units body at end o l u p s in
    record { order = o; within = l; utf8 = run.5; same = ap (answer seen) run.4 ∙ answer_run run.0 seen more (units_from body end) run.3 h f run.1 }

-- ---- where there is no character
none_from : (o : Option (List ℕ)) → ((us : List ℕ) → o ≡ Some us → ⊥) → o ≡ None
none_from None f = refl
none_from (Some us) f = absurd (f us refl)

no_unescaped : (body : List ℕ) (i j u : ℕ) → i < length body → is_special (byte_at body i) ≡ true → Unescaped body i j u → ⊥
no_unescaped body i j u l h a =
    let small = special_small (byte_at body i) h in
    let first : u ≡ byte_at body i = unescaped_first body i j u (byte_at body i) a (record { inside = l; is = refl }) small in
    elim (or_cases _ _ (ap is_special first ∙ h)) [
      | inl e ↦ elim (or_cases _ _ e) [ inl q ↦ a.no_quote (eqb-true u 0x22 q) | inr q ↦ a.no_backslash (eqb-true u 0x5C q) ]
      | inr e ↦ (let z = ltb-true u 0x20 e in let o = a.no_control in omega (arith, z, o))
    ]

no_character : (body : List ℕ) (i j u : ℕ) → i < length body → is_special (byte_at body i) ≡ true → (byte_at body i ≡ 0x5C → ⊥) → SpellsCharacter body i j u → ⊥
no_character body i j u l h n (inl a) = no_unescaped body i j u l h a
no_character body i j u l h n (inr (inl a)) = n a.backslash.is
no_character body i j u l h n (inr (inr a)) = n a.backslash.is

no_characters : (body : List ℕ) (at : ℕ) (us : List ℕ) → at < length body → is_special (byte_at body at) ≡ true → (byte_at body at ≡ 0x5C → ⊥) → SpellsCharacters body at (length body) us → ⊥
no_characters body at [] l h n s = omega (arith, l, s)
no_characters body at (u ∷ us) l h n s = no_character body at s.0 u l h n s.1

pub special_stops : (body : List ℕ) (at : ℕ) → at < length body → is_special (byte_at body at) ≡ true → (byte_at body at ≡ 0x5C → ⊥) → units_from body at ≡ None
special_stops body at l h n = none_from (units_from body at) (λ us e. no_characters body at us l h n (units_found body at us e))

pub no_units : (body : List ℕ) (at : ℕ) → at < length body → character_at body at ≡ None → units_from body at ≡ None
no_units body at l c = units_next body at (λ q. omega (arith, q, l)) ∙ ap (λ (x : Option (ℕ × ℕ)). and_then x (λ d. with_unit d.0 (units_from body d.1))) c

pub at_none : {A : Type 0} (o : Option A) (P : Type 0) (Q : A → Type 0) → o ≡ None → P → MatchOption o P Q
at_none {A} o P Q e p = subst (λ (x : Option A). MatchOption x P Q) (sym e) p

-- ---- a body with no special byte
pub unpaired : (cs : List ℕ) → scalars cs ≡ true → paired cs ≡ cs
unpaired [] s = refl
unpaired (c ∷ cs) s =
    let parts = and_parts _ _ s in
    let single = false_from_ne_true _ (λ t. clash _ (high_is_surrogate c t) (scalar_is_whole c parts.0)) in
    paired_single c cs single ∙ ap (λ xs. c ∷ xs) (unpaired cs parts.1)

with_none : (cs : List ℕ) → with_units cs (Some []) ≡ Some cs
with_none [] = refl
with_none (c ∷ cs) = ap (λ (o : Option (List ℕ)). with_unit c o) (with_none cs)

pub plain_bytes : (body : List ℕ) → IsText body → ArePlain body 0 (length body) → encodes (points_of body) ≡ body
unfolding points_of
plain_bytes body t p =
    let utf8 = text_utf8 body 0 (text_of_body body t) in
    let cs = utf8.0 in
    let bytes : encodes cs ≡ body = utf8.1.1 in
    let split : drop 0 body ≡ encodes cs ++ drop (length body) body = sym bytes ∙ (sym (append-nil (encodes cs)) ∙ ap (λ (xs : List ℕ). encodes cs ++ xs) (sym (drop_all (length body) body (omega arith)))) in
    let size : length body ≡ 0 + length (encodes cs) = (let e = ap length bytes in omega (arith, e)) in
    let units = units_of_run cs body 0 (length body) utf8.1.0 split size (omega arith) p in
    let all : units_from body 0 ≡ Some cs = units ∙ (ap (λ (o : Option (List ℕ)). with_units cs o) (units_at_end body (length body) refl) ∙ with_none cs) in
    ap encodes (points_from_units body 0 cs all ∙ unpaired cs utf8.1.0) ∙ bytes

-- two such bodies that differ spell different scalars
pub plain_differ : (a b : List ℕ) → IsText a → IsText b → ArePlain a 0 (length a) → ArePlain b 0 (length b) → (a ≡ b → ⊥) → text_equal (points_of a) (points_of b) ≡ false
plain_differ a b s t p q n =
    false_from_ne_true _ (λ e. n (sym (plain_bytes a s p) ∙ (ap encodes ((bytes_eq-Decides (points_of a) (points_of b)).0 e) ∙ plain_bytes b t q)))

-- texts that are equal either way
pub equal_turned : (a b : List ℕ) → text_equal a b ≡ text_equal b a
equal_turned a b = go (text_equal b a) refl
  where
    go : (t : Bool) → text_equal b a ≡ t → text_equal a b ≡ text_equal b a
    go true e = (bytes_eq-Decides a b).1 (sym ((bytes_eq-Decides b a).0 e)) ∙ sym e
    go false e = false_from_ne_true _ (λ h. true≢false (sym ((bytes_eq-Decides b a).1 (sym ((bytes_eq-Decides a b).0 h))) ∙ e)) ∙ sym e

-- a test that tells whether such a body is the bytes of a text tells whether it spells it
pub plain_text_equal : (b : Bool) (body text : List ℕ) → IsText body → ArePlain body 0 (length body) → IsUtf8 text → (b ≡ true → body ≡ text) → (body ≡ text → b ≡ true) → b ≡ text_equal (chars text) (points_of body)
plain_text_equal true body text t p u f g =
    let same : points_of body ≡ chars text = chars_from_encodes (points_of body) text u (plain_bytes body t p ∙ f refl) in
    sym ((bytes_eq-Decides (chars text) (points_of body)).1 (sym same))
plain_text_equal false body text t p u f g =
    sym (false_from_ne_true _ (λ e. absurd (true≢false (sym (g (sym (plain_bytes body t p) ∙ (ap encodes (sym ((bytes_eq-Decides (chars text) (points_of body)).0 e)) ∙ encodes-chars text u)))))))
