-- How halves of pairs meet.
use Rattle.std.proofs.Common.{◌≡◌, ℕ, ◌<◌, ◌≤◌, inl, inr, Bool, true, false, ◌||◌, List, [], ◌∷◌, sym, ◌∙◌, ap, ap₂, refl, arith, nat_lt, nat_le}
use Rattle.std.proofs.lemmas.Bool.{cases_Bool, and_parts, and_from, and_cases, and_left, and_right, cond-true, cond-false, leb-true, le-leb, lt-leb, ltb-true, ltb-false, lt-ltb, le-ltb, false_from_ne_true, or_left}
use Rattle.jp_model.specs.Characters.{is_high_surrogate, is_low_surrogate, is_surrogate, pair_value}
use Rattle.jp_model.specs.Json.Strings.{paired, has_lone_surrogate}
use Rattle.jp_model.proofs.Reader.Lexical.{clash}
use Rattle.jp_strings.specs.Halves.{differ, alone}

-- ---- one unit
pub high_bounds : (u : ℕ) → is_high_surrogate u ≡ true → (0xD800 ≤ u) × (u < 0xDC00)
high_bounds u h = let p = and_parts _ _ h in (leb-true _ _ p.0, ltb-true _ _ p.1)

pub low_bounds : (u : ℕ) → is_low_surrogate u ≡ true → (0xDC00 ≤ u) × (u < 0xE000)
low_bounds u h = let p = and_parts _ _ h in (leb-true _ _ p.0, ltb-true _ _ p.1)

pub surrogate_from : (u : ℕ) → 0xD800 ≤ u → u < 0xE000 → is_surrogate u ≡ true
surrogate_from u a b = and_from _ _ (le-leb _ _ a) (lt-ltb _ _ b)

pub high_is_surrogate : (u : ℕ) → is_high_surrogate u ≡ true → is_surrogate u ≡ true
high_is_surrogate u h = let b = high_bounds u h in surrogate_from u b.0 (omega (arith, b))

pub low_is_surrogate : (u : ℕ) → is_low_surrogate u ≡ true → is_surrogate u ≡ true
low_is_surrogate u h = let b = low_bounds u h in surrogate_from u (omega (arith, b)) b.1

pub high_is_not_low : (u : ℕ) → is_high_surrogate u ≡ true → is_low_surrogate u ≡ false
high_is_not_low u h = let b = high_bounds u h in and_left _ _ (lt-leb _ _ b.1)

pub low_is_not_high : (u : ℕ) → is_low_surrogate u ≡ true → is_high_surrogate u ≡ false
low_is_not_high u h = let b = low_bounds u h in and_right _ _ (le-ltb _ _ b.0)

pub pair_is_whole : (u v : ℕ) → is_surrogate (pair_value u v) ≡ false
pair_is_whole u v = let above : 0xE000 ≤ pair_value u v = omega arith in and_right (nat_le 0xD800 (pair_value u v)) (nat_lt (pair_value u v) 0xE000) (le-ltb (pair_value u v) 0xE000 above)

-- a unit that is no high half is half of a pair where it is a low half
pub surrogate_is_low : (u : ℕ) → is_high_surrogate u ≡ false → is_surrogate u ≡ is_low_surrogate u
surrogate_is_low u h =
    elim (cases_Bool (is_surrogate u)) [
      | inl s ↦
          (let p = and_parts (nat_le 0xD800 u) (nat_lt u 0xE000) s in
          elim (and_cases (nat_le 0xD800 u) (nat_lt u 0xDC00) h) as (λ _. is_surrogate u ≡ is_low_surrogate u) [
            | inl a ↦ absurd (clash (nat_le 0xD800 u) p.0 a)
            | inr a ↦ s ∙ sym (and_from (nat_le 0xDC00 u) (nat_lt u 0xE000) (le-leb 0xDC00 u (ltb-false u 0xDC00 a)) p.1)
          ])
      | inr s ↦ s ∙ sym (false_from_ne_true (is_low_surrogate u) (λ l. clash (is_surrogate u) (low_is_surrogate u l) s))
    ]

-- ---- pairs
pub paired_single : (u : ℕ) (us : List ℕ) → is_high_surrogate u ≡ false → paired (u ∷ us) ≡ u ∷ paired us
paired_single u [] h = refl
paired_single u (v ∷ us) h = cond-false _ _ _ (and_left _ _ h)

pub paired_pair : (u v : ℕ) (us : List ℕ) → is_high_surrogate u ≡ true → is_low_surrogate v ≡ true → paired (u ∷ v ∷ us) ≡ pair_value u v ∷ paired us
paired_pair u v us h l = cond-true _ _ _ (and_from _ _ h l)

pub paired_alone : (u v : ℕ) (us : List ℕ) → is_low_surrogate v ≡ false → paired (u ∷ v ∷ us) ≡ u ∷ paired (v ∷ us)
paired_alone u v us l = cond-false _ _ _ (and_right _ _ l)

-- ---- halves that stand alone, unit by unit
-- one unit: whether it is a high half and whether it is a low half are known
abbrev taken : Bool → Bool → Bool → List ℕ → Bool
taken after low high us = differ after low || alone high us

or_same : (a b c : Bool) → a ≡ b → (a || c) ≡ (b || c)
or_same a b c e = ap (λ x. x || c) e

abbrev OpenLaw : List ℕ → Type 0
OpenLaw us = (h : ℕ) → is_high_surrogate h ≡ true → alone true us ≡ has_lone_surrogate (paired (h ∷ us))

closed_by : (u : ℕ) (us : List ℕ) (b : Bool) → alone false us ≡ has_lone_surrogate (paired us) → OpenLaw us → is_high_surrogate u ≡ b → alone false (u ∷ us) ≡ has_lone_surrogate (paired (u ∷ us))
closed_by u us true closed opened h = ap₂ (λ low high. taken false low high us) (high_is_not_low u h) h ∙ opened u h
closed_by u us false closed opened h =
    ap₂ (λ low high. taken false low high us) (sym (surrogate_is_low u h)) h
    ∙ (ap (λ x. is_surrogate u || x) closed ∙ sym (ap has_lone_surrogate (paired_single u us h)))

open_by : (h v : ℕ) (vs : List ℕ) → is_high_surrogate h ≡ true → (b : Bool) → alone false vs ≡ has_lone_surrogate (paired vs) → is_low_surrogate v ≡ b → alone true (v ∷ vs) ≡ has_lone_surrogate (paired (h ∷ v ∷ vs))
open_by h v vs t true closed l =
    ap₂ (λ low high. taken true low high vs) l (low_is_not_high v l)
    ∙ (closed ∙ sym (ap has_lone_surrogate (paired_pair h v vs t l) ∙ or_same (is_surrogate (pair_value h v)) false (has_lone_surrogate (paired vs)) (pair_is_whole h v)))
open_by h v vs t false closed l =
    ap (λ low. taken true low (is_high_surrogate v) vs) l
    ∙ sym (ap has_lone_surrogate (paired_alone h v vs l) ∙ or_left _ _ (high_is_surrogate h t))

alone_laws : (us : List ℕ) → (alone false us ≡ has_lone_surrogate (paired us)) × OpenLaw us
alone_laws [] = (refl, λ h t. sym (or_left _ _ (high_is_surrogate h t)))
alone_laws (v ∷ vs) =
    let laws = alone_laws vs in
    (closed_by v vs (is_high_surrogate v) laws.0 laws.1 refl, λ h t. open_by h v vs t (is_low_surrogate v) laws.0 refl)

-- no half stands alone in the units exactly where none does in the code points
pub alone_law : (us : List ℕ) → alone false us ≡ has_lone_surrogate (paired us)
alone_law us = (alone_laws us).0
