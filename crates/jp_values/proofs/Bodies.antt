-- A text by a test.
use Rattle.std.proofs.Common.{◌≡◌, ℕ, true, List, refl, arith}
use Rattle.jp_model.specs.Json.Strings.{paired}
use Rattle.jp_strings.specs.Points.{IsText, is_text_from}
use Rattle.jp_strings.proofs.Reading.{units_found}
use Rattle.jp_strings.proofs.Texts.{text_units}

pub text_is : (body : List ℕ) → is_text_from body 0 ≡ true → IsText body
text_is body h =
    let u = text_units body 0 h in
    record { points = paired u.0; spelled = record { order = omega arith; units = u.0; characters = units_found body 0 u.0 u.1; are = refl }; is_whole = u.2 }
