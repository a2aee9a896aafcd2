-- What stands at a backslash.
use Rattle.std.proofs.Common.{◌*◌, ◌&&◌, ◌≡◌, ℕ, ◌+◌, true, List, sym, ◌∙◌, ap, Option, Some}
use Rattle.std.proofs.lemmas.Bool.{and_parts, cond-true, cond-false, eq-eqb, ne_eqb}
use Rattle.std.specs.Char as char
use Rattle.std.proofs.lemmas.Option.{cond_some}
use Rattle.jp_model.specs.Json.Places.{byte_at}
use Rattle.jp_model.specs.Json.Strings.{short_escape}
use Rattle.jp_model.specs.Characters.{four_digits}
use Rattle.jp_model.specs.Json.Reader.{and_then, escaped_at, character_at}

at_backslash : (body : List ℕ) (at : ℕ) → byte_at body at ≡ 0x5C → character_at body at ≡ escaped_at body at
at_backslash body at e = cond-true _ _ _ (eq-eqb _ _ e)

pub unicode_escape_at : (body : List ℕ) (at : ℕ) (o : Option ℕ) → byte_at body at ≡ 0x5C → byte_at body (at + 1) ≡ 0x75 →
    o ≡ four_digits (byte_at body (at + 2)) (byte_at body (at + 3)) (byte_at body (at + 4)) (byte_at body (at + 5)) → and_then o (λ unit. Some (unit, at + 6)) ≡ character_at body at
unicode_escape_at body at o b u e = ap (λ (x : Option ℕ). and_then x (λ unit. Some (unit, at + 6))) e ∙ sym (at_backslash body at b ∙ cond-true _ _ _ (eq-eqb _ _ u))

pub short_escape_at : (body : List ℕ) (at : ℕ) (o : Option ℕ) → byte_at body at ≡ 0x5C → (byte_at body (at + 1) ≡ 0x75 → ⊥) →
    o ≡ short_escape (byte_at body (at + 1)) → and_then o (λ unit. Some (unit, at + 2)) ≡ character_at body at
short_escape_at body at o b u e = ap (λ (x : Option ℕ). and_then x (λ unit. Some (unit, at + 2))) e ∙ sym (at_backslash body at b ∙ cond-false _ _ _ (ne_eqb _ _ u))

pub record AreHex (a b c d : ℕ) : Type 0 where
  pub first : char.is_digit a 16 ≡ true
  pub second : char.is_digit b 16 ≡ true
  pub third : char.is_digit c 16 ≡ true
  pub fourth : char.is_digit d 16 ≡ true

pub digits_are_hex : (a b c d u : ℕ) → four_digits a b c d ≡ Some u → AreHex a b c d
digits_are_hex a b c d u h =
    let value = char.digit_value a * 4096 + char.digit_value b * 256 + char.digit_value c * 16 + char.digit_value d in
    let all = cond_some (char.is_digit a 16 && char.is_digit b 16 && char.is_digit c 16 && char.is_digit d 16) value u h in
    let p = and_parts _ _ all.0 in
    let q = and_parts _ _ p.0 in
    let r = and_parts _ _ q.0 in
    record { first = r.0; second = r.1; third = q.1; fourth = p.1 }
