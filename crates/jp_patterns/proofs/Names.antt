-- A name in ASCII, byte by byte.
use Rattle.std.proofs.Common.{◌≡◌, ◌∙◌, ℕ, List, sym, ap, bytes_eq}
use Rattle.std.specs.Str.{chars, IsUtf8}
use lib.Utf8.{encodes}
use Rattle.std.proofs.lemmas.Bool.Decides.{same_from_decides}
use Rattle.std.proofs.lemmas.Slice.Eq.{bytes_eq-Decides}
use Rattle.std.proofs.lemmas.Str.{encodes-chars}
use Rattle.jp_model.specs.Characters.{text_equal}

-- scalars are those of a word in ASCII where the bytes are
pub word_same : (x w : List ℕ) → IsUtf8 x → encodes w ≡ w → chars w ≡ w → bytes_eq x w ≡ text_equal (chars x) w
word_same x w u e c =
    sym (same_from_decides {P = x ≡ w} (text_equal (chars x) w) (bytes_eq x w)
    (λ h. sym (encodes-chars x u) ∙ (ap encodes ((bytes_eq-Decides (chars x) w).0 h) ∙ e), λ h. (bytes_eq-Decides (chars x) w).1 (ap chars h ∙ c)) (bytes_eq-Decides x w))
