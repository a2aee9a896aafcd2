-- How many characters some bytes have.
use Rattle.std.proofs.Common.{append_assoc, encode_utf8, ◌≡◌, ℕ, ◌+◌, ◌-◌, ◌/◌, ◌<◌, ◌≤◌, inl, inr, true, false, cond, nat_lt, List, [], ◌∷◌, ◌++◌, length, drop, take, sym, ◌∙◌, ap, refl, arith, Option, Some, length-append}
use Rattle.std.specs.List.{count_by}
use lib.Utf8.{scalar, scalars, encode, encodes, next}
use Rattle.std.proofs.lemmas.List.Sums.{sum_by-append}
use Rattle.std.proofs.lemmas.Bool.{and_parts, cases_eq, or_left, or_right, or_parts, or_from, le-ltb, le-leb, lt-leb, cond_both, false_from_ne_true}
use Rattle.std.proofs.lemmas.Option.{none-some, same_Some}
use Rattle.jp_lanes.specs.Search.{is_special}
use Rattle.jp_model.specs.Json.Places.{byte_at}
use Rattle.jp_model.specs.Json.Strings.{paired, has_lone_surrogate}
use Rattle.jp_model.proofs.Reader.Lexical.{clash}
use Rattle.jp_model.proofs.Reader.Scans.{then_some}
use Rattle.jp_strings.specs.Plain.{ArePlain, begins_character}
use Rattle.std.proofs.lemmas.Str.{encodes-append}
use Rattle.jp_strings.specs.Points.{units_from, points_from, is_text_from, GoesOn}
use Rattle.jp_strings.specs.Unescaped.{Unescapes}
use Rattle.jp_strings.specs.Counts.{Counts}
use Rattle.jp_strings.proofs.Halves.{high_is_surrogate, paired_single}
use Rattle.jp_strings.proofs.Reading.{with_unit}
use Rattle.jp_strings.proofs.Runs.{with_units, run_units, special_stops}
use Rattle.jp_strings.proofs.Texts.{text_units, text_from_units, points_from_units, scalar_is_whole}
use Rattle.jp_strings.proofs.Utf8.{text_utf8}

-- ---- bytes that begin a character
next_is_behind : (bits : ℕ) → begins_character (next bits) ≡ false
next_is_behind bits = or_from _ _ (le-ltb (next bits) 0x80 (omega arith)) (lt-leb 0xC0 (next bits) (omega arith))

lead : (b : ℕ) → 0xC0 ≤ b → begins_character b ≡ true
lead b l = or_right _ _ (le-leb 0xC0 b l)

count_lead : (b : ℕ) (rest : List ℕ) → begins_character b ≡ true → count_by begins_character rest ≡ 0 → count_by begins_character (b ∷ rest) ≡ 1
count_lead b rest e z = let one : ◌≡◌ {A = ℕ} (cond (begins_character b) 1 0) 1 = ap (λ t. cond {A = ℕ} t 1 0) e in let both = sum_by-append (λ (x : ℕ). cond {A = ℕ} (begins_character x) 1 0) (b ∷ []) rest in omega (arith, one, z, both)

count_behind : (bits : ℕ) (rest : List ℕ) → count_by begins_character rest ≡ 0 → count_by begins_character (next bits ∷ rest) ≡ 0
count_behind bits rest z = let none : ◌≡◌ {A = ℕ} (cond (begins_character (next bits)) 1 0) 0 = ap (λ t. cond {A = ℕ} t 1 0) (next_is_behind bits) in let both = sum_by-append (λ (x : ℕ). cond {A = ℕ} (begins_character x) 1 0) (next bits ∷ []) rest in omega (arith, none, z, both)

count_encode : (c : ℕ) → count_by begins_character (encode c) ≡ 1
unfolding encode
count_encode c =
    cond_both (nat_lt c 128) _ _ (λ (bs : List ℕ). count_by begins_character bs ≡ 1) (λ e. count_lead c [] (or_left _ _ e) refl)
    (λ _. cond_both (nat_lt c 2048) _ _ (λ (bs : List ℕ). count_by begins_character bs ≡ 1)
    (λ _. count_lead (192 + c / 64) (next c ∷ []) (lead (192 + c / 64) (omega arith)) (count_behind c [] refl))
    (λ _. cond_both (nat_lt c 65536) _ _ (λ (bs : List ℕ). count_by begins_character bs ≡ 1)
    (λ _. count_lead (224 + c / 4096) (next (c / 64) ∷ next c ∷ []) (lead (224 + c / 4096) (omega arith)) (count_behind (c / 64) (next c ∷ []) (count_behind c [] refl)))
    (λ _. count_lead (240 + c / 262144) (next (c / 4096) ∷ next (c / 64) ∷ next c ∷ []) (lead (240 + c / 262144) (omega arith))
    (count_behind (c / 4096) (next (c / 64) ∷ next c ∷ []) (count_behind (c / 64) (next c ∷ []) (count_behind c [] refl))))))

count_encodes : (cs : List ℕ) → count_by begins_character (encodes cs) ≡ length cs
count_encodes [] = refl
count_encodes (c ∷ cs) =
    let both = sum_by-append (λ b. cond (begins_character b) 1 0) (encode c) (encodes cs) in
    let first = count_encode c in
    let rest = count_encodes cs in
    omega (arith, both, first, rest)

-- ---- a run of them in front of others
with_units_some : (cs us : List ℕ) → with_units cs (Some us) ≡ Some (cs ++ us)
with_units_some [] us = refl
with_units_some (c ∷ cs) us = ap (λ (o : Option (List ℕ)). with_unit c o) (with_units_some cs us)

with_units_found : (cs us : List ℕ) (o : Option (List ℕ)) → with_units cs o ≡ Some us → (rest : List ℕ) × (o ≡ Some rest)
with_units_found [] us o e = (us, e)
with_units_found (c ∷ cs) us o e = let p = then_some {A = List ℕ} _ _ _ e in with_units_found cs p.0 o p.1

paired_front : (cs us : List ℕ) → scalars cs ≡ true → paired (cs ++ us) ≡ cs ++ paired us
paired_front [] us s = refl
paired_front (c ∷ cs) us s =
    let parts = and_parts (scalar c) (scalars cs) s in
    let single = false_from_ne_true _ (λ t. clash _ (high_is_surrogate c t) (scalar_is_whole c parts.0)) in
    paired_single c (cs ++ us) single ∙ ap (λ xs. c ∷ xs) (paired_front cs us parts.1)

lone_behind : (cs ps : List ℕ) → has_lone_surrogate (cs ++ ps) ≡ false → has_lone_surrogate ps ≡ false
lone_behind [] ps h = h
lone_behind (c ∷ cs) ps h = lone_behind cs ps (or_parts _ _ h).1

-- the scalars of a run, which are some, stand for themselves in front of what is spelled behind it
pub run_points : (body : List ℕ) (at end : ℕ) → at < end → end ≤ length body → is_text_from body at ≡ true → ArePlain body at end → (end < length body → is_special (byte_at body end) ≡ true) →
    (cs : List ℕ) × (scalars cs ≡ true) × (encodes cs ≡ take (end - at) (drop at body)) × (0 < length cs) × (points_from body at ≡ cs ++ points_from body end) × (is_text_from body end ≡ true)
run_points body at end o l t p s =
    let run = run_units body at end o l (text_utf8 body at t) p s in
    let cs = run.0 in
    let all = text_units body at t in
    let rest = with_units_found cs all.0 (units_from body end) (sym run.4 ∙ all.1) in
    let same : units_from body at ≡ Some (cs ++ rest.0) = run.4 ∙ (ap (λ (o : Option (List ℕ)). with_units cs o) rest.1 ∙ with_units_some cs rest.0) in
    let here : points_from body at ≡ cs ++ paired rest.0 = points_from_units body at (cs ++ rest.0) same ∙ paired_front cs rest.0 run.1 in
    let us : all.0 ≡ cs ++ rest.0 = same_Some _ _ (sym all.1 ∙ same) in
    let whole = sym (ap (λ xs. has_lone_surrogate (paired xs)) us ∙ ap has_lone_surrogate (paired_front cs rest.0 run.1)) ∙ all.2 in
    let behind = points_from_units body end rest.0 rest.1 in
    (cs, run.1, run.2, run.3, here ∙ ap (λ (xs : List ℕ). cs ++ xs) (sym behind), text_from_units body end rest.0 rest.1 (lone_behind cs (paired rest.0) whole))

pub run_counts : (body : List ℕ) (at end : ℕ) → at < end → end ≤ length body → is_text_from body at ≡ true → ArePlain body at end → (end < length body → is_special (byte_at body end) ≡ true) → Counts body at end (count_by begins_character (take (end - at) (drop at body)))
run_counts body at end o l t p s =
    let run = run_points body at end o l t p s in
    let count : count_by begins_character (take (end - at) (drop at body)) ≡ length run.0 = ap (count_by begins_character) (sym run.2) ∙ count_encodes run.0 in
    let some = run.3 in
    let size = ap length run.4 ∙ length-append run.0 (points_from body end) in
    record { some = omega (arith, count, some); points = omega (arith, count, size); text = run.5 }

-- appended to bytes, a run's bytes are what is spelled up to its end
pub run_unescapes : (body before : List ℕ) (at end : ℕ) → at < end → end ≤ length body → is_text_from body at ≡ true → ArePlain body at end → (end < length body → is_special (byte_at body end) ≡ true) → Unescapes body at end before (before ++ take (end - at) (drop at body))
run_unescapes body before at end o l t p s =
    let run = run_points body at end o l t p s in
    let some = run.3 in
    let size = ap length run.4 ∙ length-append run.0 (points_from body end) in
    record {
      some = omega (arith, some, size);
      bytes = append_assoc before (take (end - at) (drop at body)) (encodes (points_from body end))
          ∙ ap (λ (xs : List ℕ). before ++ xs) (ap (λ (xs : List ℕ). xs ++ encodes (points_from body end)) (sym run.2) ∙ (sym (encodes-append run.0 (points_from body end)) ∙ ap encodes (sym run.4)));
      text = run.5;
    }

-- so is the scalar that an escape stands for
pub scalar_unescapes : (body before : List ℕ) (at scalar end : ℕ) → GoesOn body at scalar end → Unescapes body at end before (before ++ encode_utf8 scalar)
scalar_unescapes body before at scalar end g =
    let size = ap length g.points in
    record {
      some = omega (arith, size);
      bytes = append_assoc before (encode_utf8 scalar) (encodes (points_from body end)) ∙ ap (λ (xs : List ℕ). before ++ xs) (ap encodes (sym g.points));
      text = g.text;
    }

-- where a text goes on at a special byte, that is a backslash
pub special_is_backslash : (body : List ℕ) (at : ℕ) → is_text_from body at ≡ true → at < length body → is_special (byte_at body at) ≡ true → byte_at body at ≡ 0x5C
special_is_backslash body at t l s =
    elim (cases_eq (byte_at body at) 0x5C) [
      | inl e ↦ e
      | inr n ↦ (let u = text_units body at t in absurd (none-some u.0 (sym (special_stops body at l s n) ∙ u.1)))
    ]
