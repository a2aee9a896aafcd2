-- Which bytes are the body of a string.
use Rattle.std.proofs.Common.{◌≡◌, ◌∙◌, ◌≤◌, ◌-◌, ℕ, List, length, arith, refl, sym, ap, true, false}
use Rattle.std.specs.Prelude.{slice_index, nat_le, ◌==◌, ◌&&◌}
use Rattle.std.proofs.lemmas.Grind.{common_steps}
use Rattle.jp_tally.specs.Texts.{body_in, is_string}
use Rattle.std.proofs.lemmas.Bool.{false_from_ne_true}
use Rattle.jp_model.specs.Json.Strings.{has_lone_surrogate, paired}
use Rattle.jp_strings.specs.Faults.{HasFault}
use Rattle.jp_strings.specs.Points.{IsText, is_text_from}
use Rattle.jp_strings.specs.declared.fault.StringFault.{StringFault}
use Rattle.jp_strings.specs.declared.fault.StringFault.TheVariants.{Shape, Surrogate}
use Rattle.jp_strings.proofs.Reading.{units_found}
use Rattle.jp_strings.proofs.Texts.{points_of_spelled, text_units}

pub is_text : (body : List ℕ) → is_text_from body 0 ≡ true → IsText body
is_text body h =
    let found = text_units body 0 h in
    record { points = paired found.0; spelled = record { order = omega arith; units = found.0; characters = units_found body 0 found.0 found.1; are = refl }; is_whole = found.2 }

pub no_text : (body : List ℕ) (fault : StringFault) → HasFault body fault → is_text_from body 0 ≡ false
no_text body Shape h = false_from_ne_true _ (λ t. h (is_text body t).points (is_text body t).spelled)
no_text body Surrogate h = false_from_ne_true _ (λ t.
    let text = is_text body t in
    let same : text.points ≡ h.0 = sym (points_of_spelled body text.points text.spelled) ∙ points_of_spelled body h.0 h.1 in
    let one : true ≡ false = sym h.2 ∙ (ap has_lone_surrogate (sym same) ∙ text.is_whole) in absurd (grind arith))

-- between quotes the body decides
pub between_quotes : (text : List ℕ) → 2 ≤ length text → slice_index text 0 ≡ 0x22 → slice_index text (length text - 1) ≡ 0x22 → is_string text ≡ is_text_from (body_in text) 0
between_quotes text long first last =
    let a : nat_le 2 (length text) ≡ true = grind (arith, common_steps) in
    let b : (slice_index text 0 == 0x22) ≡ true = ap (λ n. n == 0x22) first in
    let c : (slice_index text (length text - 1) == 0x22) ≡ true = ap (λ n. n == 0x22) last in
    ap (λ t. t && slice_index text 0 == 0x22 && slice_index text (length text - 1) == 0x22 && is_text_from (body_in text) 0) a
    ∙ (ap (λ t. t && slice_index text (length text - 1) == 0x22 && is_text_from (body_in text) 0) b
    ∙ ap (λ t. t && is_text_from (body_in text) 0) c)
