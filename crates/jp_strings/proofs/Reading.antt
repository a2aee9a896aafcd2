-- What characters a body has, by the relation of RFC 8259 and by the function that computes it.
use Rattle.std.proofs.Common.{◌≡◌, ℕ, zero, suc, ◌≤◌, Bool, true, false, cond, ◌==◌, List, [], ◌∷◌, length, sym, ◌∙◌, ap, subst, refl, arith, Option, Some, None}
use Rattle.std.proofs.lemmas.Bool.{cond-true, eqb-true, eq-eqb, ne_eqb}
use Rattle.std.proofs.lemmas.Option.{same_Some, none-some}
use Rattle.jp_model.specs.Json.Strings.{SpellsCharacters}
use Rattle.jp_model.specs.Json.Reader.{and_then, character_at}
use Rattle.jp_model.proofs.Reader.Scans.{then_some, then_from}
pub use Rattle.jp_model.proofs.Reader.Bodies.{character_found, character_whole, no_backslash_byte, character_longer, characters_longer}
use Rattle.jp_strings.specs.Points.{units_within, units_from}

-- ---- all characters up to the end
end_found : (body : List ℕ) (at : ℕ) (us : List ℕ) → (at == length body) ≡ true → Some [] ≡ Some us → SpellsCharacters body at (length body) us
end_found body at us e h =
    let at_end : SpellsCharacters body at (length body) [] = eqb-true _ _ e in
    subst (λ (x : List ℕ). SpellsCharacters body at (length body) x) (same_Some _ _ h) at_end

none_found : (body : List ℕ) (at : ℕ) (b : Bool) (us : List ℕ) → (at == length body) ≡ b → cond b (Some []) None ≡ Some us → SpellsCharacters body at (length body) us
none_found body at true us e h = end_found body at us e h
none_found body at false us e h = absurd (none-some us h)

units_step : (body : List ℕ) (at : ℕ) (more : ℕ → Option (List ℕ)) → ((m : ℕ) (us : List ℕ) → more m ≡ Some us → SpellsCharacters body m (length body) us) → (b : Bool) (us : List ℕ) → (at == length body) ≡ b →
    (elim b as (λ x. Option (List ℕ)) [ true ↦ Some [] | false ↦ and_then (character_at body at) (λ c. and_then (more c.1) (λ units. Some (c.0 ∷ units))) ]) ≡ Some us → SpellsCharacters body at (length body) us
units_step body at more found true us e h = end_found body at us e h
units_step body at more found false us e h =
    let c = then_some {A = ℕ × ℕ} _ _ _ h in
    let q = then_some {A = List ℕ} _ _ _ c.2 in
    let all : SpellsCharacters body at (length body) (c.0.0 ∷ q.0) = (c.0.1, character_found body at c.0 c.1, found c.0.1 q.0 q.1) in
    subst (λ (x : List ℕ). SpellsCharacters body at (length body) x) (same_Some _ _ q.2) all

within_found : (n : ℕ) (body : List ℕ) (at : ℕ) (us : List ℕ) → units_within n body at ≡ Some us → SpellsCharacters body at (length body) us
within_found zero body at us h = none_found body at (at == length body) us refl h
within_found (suc n) body at us h = units_step body at (units_within n body) (within_found n body) (at == length body) us refl h

-- what the reader does at a position, where the test for the end is known
abbrev units_by : Bool → ℕ → List ℕ → ℕ → Option (List ℕ)
units_by b n body at = elim b as (λ x. Option (List ℕ)) [ true ↦ Some [] | false ↦ and_then (character_at body at) (λ c. and_then (units_within n body c.1) (λ units. Some (c.0 ∷ units))) ]

within_whole : (n : ℕ) (body : List ℕ) (i : ℕ) (us : List ℕ) → SpellsCharacters body i (length body) us → length us ≤ n → units_within n body i ≡ Some us
within_whole zero body i [] h l = cond-true _ _ _ (eq-eqb _ _ h)
within_whole zero body i (u ∷ us) h l = absurd (omega (arith, l))
within_whole (suc n) body i [] h l = ap (λ b. units_by b n body i) (eq-eqb _ _ h)
within_whole (suc n) body i (u ∷ us) h l =
    let a = character_longer body i h.0 u h.1 in
    let m = characters_longer body h.0 (length body) us h.2 in
    let test : (i == length body) ≡ false = ne_eqb _ _ (λ e. omega (arith, a, m, e)) in
    ap (λ b. units_by b n body i) test
    ∙ then_from _ _ (u, h.0) _ (character_whole body i h.0 u h.1) (then_from _ _ us _ (within_whole n body h.0 us h.2 (omega (arith, l))) refl)

pub units_found : (body : List ℕ) (at : ℕ) (us : List ℕ) → units_from body at ≡ Some us → SpellsCharacters body at (length body) us
unfolding units_from
units_found body at us h = within_found (length body) body at us h

pub units_whole : (body : List ℕ) (at : ℕ) (us : List ℕ) → SpellsCharacters body at (length body) us → units_from body at ≡ Some us
unfolding units_from
units_whole body at us h =
    let l = characters_longer body at (length body) us h in
    within_whole (length body) body at us h (omega (arith, l))

-- ---- one step of it
same_option : {A : Type 0} (o p : Option A) → ((a : A) → o ≡ Some a → p ≡ Some a) → ((a : A) → p ≡ Some a → o ≡ Some a) → o ≡ p
same_option None None f g = refl
same_option None (Some a) f g = g a refl
same_option (Some a) p f g = sym (f a refl)

pub units_at_end : (body : List ℕ) (at : ℕ) → at ≡ length body → units_from body at ≡ Some []
units_at_end body at e = units_whole body at [] e

abbrev pub with_unit : ℕ → Option (List ℕ) → Option (List ℕ)
with_unit unit rest = and_then rest (λ units. Some (unit ∷ units))

step_spelled : (body : List ℕ) (at : ℕ) (us : List ℕ) → (at ≡ length body → ⊥) → SpellsCharacters body at (length body) us → and_then (character_at body at) (λ c. with_unit c.0 (units_from body c.1)) ≡ Some us
step_spelled body at [] n h = absurd (n h)
step_spelled body at (u ∷ us) n h = then_from _ _ (u, h.0) _ (character_whole body at h.0 u h.1) (then_from _ _ us _ (units_whole body h.0 us h.2) refl)

pub units_next : (body : List ℕ) (at : ℕ) → (at ≡ length body → ⊥) → units_from body at ≡ and_then (character_at body at) (λ c. with_unit c.0 (units_from body c.1))
units_next body at n =
    same_option (units_from body at) (and_then (character_at body at) (λ c. with_unit c.0 (units_from body c.1)))
    (λ us h. step_spelled body at us n (units_found body at us h))
    (λ us h.
    let c = then_some {A = ℕ × ℕ} _ _ _ h in
    let q = then_some {A = List ℕ} _ _ _ c.2 in
    let all : SpellsCharacters body at (length body) (c.0.0 ∷ q.0) = (c.0.1, character_found body at c.0 c.1, units_found body c.0.1 q.0 q.1) in
    units_whole body at us (subst (λ (x : List ℕ). SpellsCharacters body at (length body) x) (same_Some _ _ q.2) all))
