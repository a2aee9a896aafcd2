-- The ways to write a scalar of a string: by an escape of one letter, by its four hexadecimal digits, or as it is.
use Rattle.std.proofs.Common.{◌≡◌, ℕ, ◌+◌, ◌/◌, ◌%◌, ◌<◌, ◌≤◌, inl, inr, true, false, ◌||◌, ◌==◌, List, ◌∷◌, ◌++◌, length, Some, encode_utf8, codes, refl}
use Rattle.std.specs.Char.{IsScalar}
use Rattle.std.proofs.lemmas.Bool.{cond-true, or_left, or_parts, eqb-false}
use Rattle.jp_model.specs.Characters.{four_digits}
use Rattle.jp_model.specs.Json.Strings.{SpellsCharacter, short_escape}
use Rattle.jp_model.specs.Meaning.Paths.{hex_digit}
use Rattle.jp_laws.proofs.HexDigits.{low_is}
use Rattle.jp_laws.proofs.TextsFrom.{IsTextFrom, reads_front, nth, has_front, has_second}

four : {p q r s w x y z u : ℕ} → p ≡ w → q ≡ x → r ≡ y → s ≡ z → four_digits w x y z ≡ Some u → four_digits p q r s ≡ Some u
four c d g o t = rw (c, d, g, o) t

module _ (line : List ℕ) (i c : ℕ) (rest : List ℕ) where
  pub escaped : (letter : ℕ) → short_escape letter ≡ Some c → IsTextFrom line i (0x5C ∷ letter ∷ rest) → SpellsCharacter line i (i + 2) c
  escaped letter h s = inr (inl (record { letter = letter; backslash = has_front line i 0x5C _ s; has_letter = has_second line i 0x5C letter _ s; spells = h; end = refl }))

  -- a quote and a backslash
  pub escaped_itself : ((c == 0x22) || (c == 0x5C)) ≡ true → IsTextFrom line i (0x5C ∷ c ∷ rest) → SpellsCharacter line i (i + 2) c
  escaped_itself h s = escaped c (cond-true _ _ _ (or_left ((c == 0x22) || (c == 0x5C)) (c == 0x2F) h)) s

  pub control_spelled : c < 32 → IsTextFrom line i (codes "\\u00" ++ hex_digit (c / 16) ∷ hex_digit (c % 16) ∷ rest) → SpellsCharacter line i (i + 6) c
  control_spelled h s =
      inr (inr (record { backslash = has_front line i 0x5C _ s; letter = has_second line i 0x5C 0x75 _ s; spells = four (nth line i 2 _ s) (nth line i 3 _ s) (nth line i 4 _ s) (nth line i 5 _ s) (low_is c h); end = refl }))

  pub unescaped : IsScalar c → ((c == 0x22) || (c == 0x5C)) ≡ false → 0x20 ≤ c → IsTextFrom line i (encode_utf8 c ++ rest) → SpellsCharacter line i (i + length (encode_utf8 c)) c
  unescaped sound plain h s =
      let p = or_parts (c == 0x22) (c == 0x5C) plain in
      inl (record { scalar = sound; no_control = h; no_quote = eqb-false c 0x22 p.0; no_backslash = eqb-false c 0x5C p.1; bytes = reads_front line i (encode_utf8 c) rest s })
