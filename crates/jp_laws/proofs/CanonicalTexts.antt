-- What is written canonically can be read.
use Rattle.std.proofs.Common.{◌≡◌, ℕ, ◌+◌, true, ◌||◌, ◌==◌, nat_lt, List, ◌++◌, length, Some, refl, sym, ap, ◌∙◌}
use Rattle.std.specs.Char.{IsScalar}
use Rattle.std.proofs.lemmas.Bool.{cond_both, ltb-true, ltb-false, eqb-true}
use Rattle.jp_canon.specs.Canonical.{character_text}
use Rattle.jp_model.specs.Json.Strings.{SpellsCharacter, short_escape}
use Rattle.jp_laws.specs.JsonTexts.{Printer}
use Rattle.jp_laws.proofs.CanonicalNumerals.{said}
use Rattle.jp_laws.proofs.JsonTexts.{IsReadable}
use Rattle.jp_laws.proofs.SpelledCharacters.{control_spelled, escaped, escaped_itself, unescaped}
use Rattle.jp_laws.proofs.TextsFrom.{IsTextFrom}

abbrev pub canonical : Printer
canonical = record { character = character_text; numeral = λ m e. (said m e).numeral }

-- the escape of one letter that stands for one scalar
by_letter : (c point letter : ℕ) → (c == point) ≡ true → short_escape letter ≡ Some point → short_escape letter ≡ Some c
by_letter c point letter h e = e ∙ ap Some (sym (eqb-true c point h))

character_spelled : (line : List ℕ) (i c : ℕ) (rest : List ℕ) → IsScalar c → IsTextFrom line i (character_text c ++ rest) → SpellsCharacter line i (i + length (character_text c)) c
character_spelled line i c rest sound =
    cond_both ((c == 0x22) || (c == 0x5C)) _ _ Spelled (λ h s. escaped_itself line i c rest h s)
    (λ plain.
    cond_both (c == 0x08) _ _ Spelled (λ h s. escaped line i c rest 0x62 (by_letter c 0x08 0x62 h refl) s)
    (λ _.
    cond_both (c == 0x09) _ _ Spelled (λ h s. escaped line i c rest 0x74 (by_letter c 0x09 0x74 h refl) s)
    (λ _.
    cond_both (c == 0x0A) _ _ Spelled (λ h s. escaped line i c rest 0x6E (by_letter c 0x0A 0x6E h refl) s)
    (λ _.
    cond_both (c == 0x0C) _ _ Spelled (λ h s. escaped line i c rest 0x66 (by_letter c 0x0C 0x66 h refl) s)
    (λ _.
    cond_both (c == 0x0D) _ _ Spelled (λ h s. escaped line i c rest 0x72 (by_letter c 0x0D 0x72 h refl) s)
    (λ _. cond_both (nat_lt c 0x20) _ _ Spelled (λ h s. control_spelled line i c rest (ltb-true c 32 h) s) (λ h s. unescaped line i c rest sound plain (ltb-false c 0x20 h) s)))))))
  where
    Spelled : List ℕ → Type 0
    Spelled text = IsTextFrom line i (text ++ rest) → SpellsCharacter line i (i + length text) c

pub canonical_readable : IsReadable canonical
canonical_readable = record { character = character_spelled; numeral = λ m e. (said m e).correct }
