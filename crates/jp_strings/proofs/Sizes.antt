-- How many code points a body spells, and that they are scalars.
use Rattle.std.proofs.Common.{◌≡◌, ℕ, ◌<◌, ◌≤◌, inl, inr, true, false, ◌&&◌, nat_le, nat_lt, List, [], ◌∷◌, length, sym, ◌∙◌, ap, subst, refl, arith}
use lib.Utf8.{scalar, scalars}
use Rattle.std.proofs.lemmas.Bool.{cond_both, and_parts, and_from, and_cases, or_parts, lt-ltb, le-leb, le-ltb, leb-false, ltb-false, cond-true, cond-false}
use Rattle.jp_model.specs.Characters.{is_high_surrogate, is_low_surrogate, is_surrogate, pair_value}
use Rattle.jp_model.specs.Json.Strings.{SpellsCharacters, paired, has_lone_surrogate}
use Rattle.jp_strings.specs.Points.{IsText, points_of}
use Rattle.jp_strings.proofs.Halves.{high_bounds, low_bounds}
use Rattle.jp_strings.proofs.Reading.{characters_longer}
use Rattle.jp_strings.proofs.Texts.{points_of_spelled, unit_small}

paired_short : (us : List ℕ) → length (paired us) ≤ length us
paired_short [] = omega arith
paired_short (u ∷ []) = omega arith
paired_short (u ∷ v ∷ us) =
    let a = paired_short us in
    let b = paired_short (v ∷ us) in
    cond_both (is_high_surrogate u && is_low_surrogate v) (pair_value u v ∷ paired us) (u ∷ paired (v ∷ us)) (λ (ps : List ℕ). length ps ≤ length (u ∷ v ∷ us)) (λ e. omega (arith, a)) (λ e. omega (arith, b))

pub points_short : (body : List ℕ) → IsText body → length (points_of body) ≤ length body
points_short body t =
    let e = ap length (points_of_spelled body t.points t.spelled ∙ sym t.spelled.are) in
    let s = paired_short t.spelled.units in
    let l = characters_longer body 0 (length body) t.spelled.units t.spelled.characters in
    omega (arith, e, s, l)

abbrev AllSmall : List ℕ → Type 0
AllSmall [] = Unit {0}
AllSmall (u ∷ us) = (u < 0x110000) × AllSmall us

units_small : (body : List ℕ) (i j : ℕ) (us : List ℕ) → SpellsCharacters body i j us → AllSmall us
units_small body i j [] h = tt
units_small body i j (u ∷ us) h = (unit_small body i h.0 u h.1, units_small body h.0 j us h.2)

pair_small : (u v : ℕ) → is_high_surrogate u ≡ true → is_low_surrogate v ≡ true → pair_value u v < 0x110000
pair_small u v h l = let a = high_bounds u h in let b = low_bounds v l in omega (arith, a, b)

paired_small : (us : List ℕ) → AllSmall us → AllSmall (paired us)
paired_small [] a = tt
paired_small (u ∷ []) a = a
paired_small (u ∷ v ∷ us) a =
    let pairs = paired_small us a.1.1 in
    let singles = paired_small (v ∷ us) a.1 in
    cond_both (is_high_surrogate u && is_low_surrogate v) (pair_value u v ∷ paired us) (u ∷ paired (v ∷ us)) (λ (ps : List ℕ). AllSmall ps) (λ e. let p = and_parts (is_high_surrogate u) (is_low_surrogate v) e in (pair_small u v p.0 p.1, pairs)) (λ e. (a.0, singles))

scalar_from : (u : ℕ) → u < 0x110000 → is_surrogate u ≡ false → scalar u ≡ true
scalar_from u l s =
    elim (and_cases (nat_le 0xD800 u) (nat_lt u 0xE000) s) as (λ _. scalar u ≡ true) [
      | inl a ↦ cond-true _ _ _ (lt-ltb u 55296 (leb-false 0xD800 u a))
      | inr a ↦ (let e = ltb-false u 0xE000 a in cond-false _ _ _ (le-ltb u 55296 (omega (arith, e))) ∙ and_from _ _ (le-leb 57344 u e) (lt-ltb u 1114112 l))
    ]

scalars_from : (ps : List ℕ) → AllSmall ps → has_lone_surrogate ps ≡ false → scalars ps ≡ true
scalars_from [] a w = refl
scalars_from (p ∷ ps) a w = let s = or_parts _ _ w in and_from _ _ (scalar_from p a.0 s.0) (scalars_from ps a.1 s.1)

pub points_are_scalars : (body : List ℕ) → IsText body → scalars (points_of body) ≡ true
points_are_scalars body t =
    let e = points_of_spelled body t.points t.spelled in
    let small : AllSmall t.points = subst AllSmall t.spelled.are (paired_small t.spelled.units (units_small body 0 (length body) t.spelled.units t.spelled.characters)) in
    ap scalars e ∙ scalars_from t.points small t.is_whole
