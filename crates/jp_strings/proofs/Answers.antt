-- What the test of a body tells.
use Rattle.std.proofs.Common.{◌≡◌, ℕ, Bool, false, List, [], length, sym, ◌∙◌, ap, refl, arith, Option, Some, None}
use Rattle.std.specs.Str.{IsUtf8}
use Rattle.std.proofs.lemmas.Option.{none-some, same_Some}
use Rattle.jp_model.specs.Json.Strings.{SpellsBody, paired, has_lone_surrogate}
use Rattle.jp_strings.specs.declared.checks.Halves.{Halves}
use Rattle.jp_strings.specs.Halves.{alone_behind, answer}
use Rattle.jp_strings.specs.Points.{units_from}
use Rattle.jp_strings.proofs.Halves.{alone_law}
use Rattle.jp_strings.proofs.Reading.{units_found, units_whole, units_at_end}
use Rattle.jp_strings.proofs.Utf8.{spelled_utf8}

abbrev nothing_seen : Halves
nothing_seen = record { after_high = false; is_lone = false }

unanswered : (seen : Halves) (o : Option (List ℕ)) → answer seen o ≡ None → o ≡ None
unanswered seen None e = refl
unanswered seen (Some us) e = absurd (none-some (alone_behind seen us) (sym e))

answered : (seen : Halves) (o : Option (List ℕ)) (b : Bool) → answer seen o ≡ Some b → (us : List ℕ) × (o ≡ Some us) × (alone_behind seen us ≡ b)
answered seen None b e = absurd (none-some b e)
answered seen (Some us) b e = (us, refl, same_Some _ _ e)

-- no body is spelled where there are no units
pub no_body : (body : List ℕ) (at : ℕ) (seen : Halves) → answer nothing_seen (units_from body 0) ≡ answer seen (units_from body at) → units_from body at ≡ None → (points : List ℕ) → SpellsBody body 0 (length body) points → ⊥
no_body body at seen same none points s =
    let none_first = unanswered nothing_seen (units_from body 0) (same ∙ ap (answer seen) none) in
    none-some s.units (sym none_first ∙ units_whole body 0 s.units s.characters)

pub no_text : (body points : List ℕ) → SpellsBody body 0 (length body) points → IsUtf8 body
no_text body points s = spelled_utf8 body 0 s.units s.characters

-- what is spelled where the end was reached
pub reached : (body : List ℕ) (at : ℕ) (seen : Halves) (b : Bool) → answer nothing_seen (units_from body 0) ≡ answer seen (units_from body at) → at ≡ length body → alone_behind seen [] ≡ b → (points : List ℕ) × SpellsBody body 0 (length body) points × (has_lone_surrogate points ≡ b)
reached body at seen b same e h =
    let all = answered nothing_seen (units_from body 0) b (same ∙ (ap (answer seen) (units_at_end body at e) ∙ ap (λ x. Some x) h)) in
    let spelled : SpellsBody body 0 (length body) (paired all.0) = record { order = omega arith; units = all.0; characters = units_found body 0 all.0 all.1; are = refl } in
    (paired all.0, spelled, sym (alone_law all.0) ∙ all.2)
