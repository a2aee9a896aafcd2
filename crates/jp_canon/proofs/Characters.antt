-- A body in which each byte stands for itself is its own canonical text.
use Rattle.std.proofs.Common.{◌≡◌, ℕ, ◌+◌, ◌<◌, ◌≤◌, inl, inr, false, List, [], ◌∷◌, ◌++◌, length, get_or, ◌∙◌, sym, ap, ap₂, refl, subst, arith, encode_utf8, length-append}
use lib.Utf8.{encodes}
use Rattle.std.specs.List.{flat_map}
use Rattle.std.proofs.lemmas.Bool.{cases_lt}
use Rattle.std.proofs.lemmas.Bool.Decides.{nat_tests}
use Rattle.std.proofs.lemmas.List.{get_or-append-add}
use Rattle.std.proofs.lemmas.Str.{byte_from_char, length-encode, len_utf8_bounds}
use Rattle.jp_lanes.specs.Search.{is_special}
use Rattle.jp_strings.specs.Plain.{ArePlain}
use Rattle.jp_strings.specs.Points.{IsText, points_of}
use Rattle.jp_strings.proofs.Runs.{plain_bytes}
use Rattle.jp_canon.specs.Canonical.{character_text}

abbrev NoneSpecial : List ℕ → Type 0
NoneSpecial bytes = (k : ℕ) → k < length bytes → is_special (get_or bytes k 0) ≡ false

as_it_is : (c : ℕ) → is_special c ≡ false → character_text c ≡ encode_utf8 c
as_it_is c h = grind (arith, nat_tests, h)

wide_stands : (c : ℕ) → 128 ≤ c → is_special c ≡ false
wide_stands c l = grind (arith, nat_tests, l)

-- a character whose first byte stands for itself
stands : (c : ℕ) (rest : List ℕ) → NoneSpecial (encode_utf8 c ++ rest) → is_special c ≡ false
stands c rest h = elim (cases_lt c 128) [
  | inl small ↦ subst (λ b. is_special b ≡ false) (byte_from_char (encode_utf8 c ++ rest) rest c refl small) (h 0 (omega (arith, length-append (encode_utf8 c) rest, length-encode c, len_utf8_bounds c)))
  | inr wide ↦ wide_stands c wide
]

unescaped : (cs : List ℕ) → NoneSpecial (encodes cs) → flat_map character_text cs ≡ encodes cs
unescaped [] h = refl
unescaped (c ∷ cs) h =
    let size = length-append (encode_utf8 c) (encodes cs) in
    ap₂ (λ (x y : List ℕ). x ++ y) (as_it_is c (stands c (encodes cs) h))
    (unescaped cs (λ k l. ap is_special (sym (get_or-append-add (encode_utf8 c) (encodes cs) k 0)) ∙ h (length (encode_utf8 c) + k) (omega (arith, size, l))))

pub plain_characters : (body : List ℕ) → IsText body → ArePlain body 0 (length body) → flat_map character_text (points_of body) ≡ body
plain_characters body t p =
    let bytes : encodes (points_of body) ≡ body = plain_bytes body t p in
    unescaped (points_of body) (subst (λ (x : List ℕ). NoneSpecial x) (sym bytes) (λ k l. p k (omega arith) l)) ∙ bytes
