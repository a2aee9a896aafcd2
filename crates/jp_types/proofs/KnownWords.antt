-- The names of the functions, byte by byte.
use Rattle.std.proofs.Common.{◌≡◌, ◌∙◌, ℕ, List, [], ◌∷◌, true, false, Option, Some, None, codes, refl, sym, ap, bytes_eq, if◌then◌else◌}
use Rattle.std.specs.Str.{chars, IsUtf8}
use lib.Utf8.{encode, encodes}
use Rattle.std.proofs.lemmas.Bool.Decides.{same_from_decides}
use Rattle.std.proofs.lemmas.Slice.Eq.{bytes_eq-Decides}
use Rattle.std.proofs.lemmas.Str.{encodes-chars}
use Rattle.jp_model.specs.Characters.{text_equal}
use Rattle.jp_model.specs.Query.Typing.{Signature, value_kind, nodes_kind, logical_kind, signature_of}

-- a name is a word in ASCII where its bytes are
word_same : (x w : List ℕ) → IsUtf8 x → encodes w ≡ w → chars w ≡ w → text_equal (chars x) w ≡ bytes_eq x w
word_same x w u e c =
    same_from_decides {P = x ≡ w} (text_equal (chars x) w) (bytes_eq x w)
    (λ h. sym (encodes-chars x u) ∙ (ap encodes ((bytes_eq-Decides (chars x) w).0 h) ∙ e), λ h. (bytes_eq-Decides (chars x) w).1 (ap chars h ∙ c)) (bytes_eq-Decides x w)

-- the function of these bytes
abbrev pub signature_by : List ℕ → Option Signature
signature_by f =
    if bytes_eq f (codes "length") then Some (record { parameters = value_kind ∷ []; answer = value_kind })
    else if bytes_eq f (codes "count") then Some (record { parameters = nodes_kind ∷ []; answer = value_kind })
    else if bytes_eq f (codes "value") then Some (record { parameters = nodes_kind ∷ []; answer = value_kind })
    else if bytes_eq f (codes "match") then Some (record { parameters = value_kind ∷ value_kind ∷ []; answer = logical_kind })
    else if bytes_eq f (codes "search") then Some (record { parameters = value_kind ∷ value_kind ∷ []; answer = logical_kind })
    else None

pub signature_same : (f : List ℕ) → IsUtf8 f → signature_of (chars f) ≡ signature_by f
unfolding chars encode
signature_same f u =
    rw (word_same f (codes "length") u refl refl, word_same f (codes "count") u refl refl, word_same f (codes "value") u refl refl, word_same f (codes "match") u refl refl, word_same f (codes "search") u refl refl) refl

-- Below, the tests in their order.
abbrev Value1 : Option Signature
Value1 = Some (record { parameters = value_kind ∷ []; answer = value_kind })

abbrev Nodes1 : Option Signature
Nodes1 = Some (record { parameters = nodes_kind ∷ []; answer = value_kind })

abbrev Pattern : Option Signature
Pattern = Some (record { parameters = value_kind ∷ value_kind ∷ []; answer = logical_kind })

pub length_is : (f : List ℕ) → IsUtf8 f → bytes_eq f (codes "length") ≡ true → Value1 ≡ signature_of (chars f)
length_is f u h = sym (signature_same f u ∙ rw h refl)

pub count_is : (f : List ℕ) → IsUtf8 f → bytes_eq f (codes "length") ≡ false → bytes_eq f (codes "count") ≡ true → Nodes1 ≡ signature_of (chars f)
count_is f u a h = sym (signature_same f u ∙ rw (a, h) refl)

pub value_is : (f : List ℕ) → IsUtf8 f → bytes_eq f (codes "length") ≡ false → bytes_eq f (codes "count") ≡ false → bytes_eq f (codes "value") ≡ true → Nodes1 ≡ signature_of (chars f)
value_is f u a b h = sym (signature_same f u ∙ rw (a, b, h) refl)

pub match_is : (f : List ℕ) → IsUtf8 f → bytes_eq f (codes "length") ≡ false → bytes_eq f (codes "count") ≡ false → bytes_eq f (codes "value") ≡ false → bytes_eq f (codes "match") ≡ true → Pattern ≡ signature_of (chars f)
match_is f u a b c h = sym (signature_same f u ∙ rw (a, b, c, h) refl)

pub search_is : (f : List ℕ) → IsUtf8 f → bytes_eq f (codes "length") ≡ false → bytes_eq f (codes "count") ≡ false → bytes_eq f (codes "value") ≡ false → bytes_eq f (codes "match") ≡ false → bytes_eq f (codes "search") ≡ true → Pattern ≡ signature_of (chars f)
search_is f u a b c d h = sym (signature_same f u ∙ rw (a, b, c, d, h) refl)

pub none_is : (f : List ℕ) → IsUtf8 f → bytes_eq f (codes "length") ≡ false → bytes_eq f (codes "count") ≡ false → bytes_eq f (codes "value") ≡ false → bytes_eq f (codes "match") ≡ false → bytes_eq f (codes "search") ≡ false → ◌≡◌ {A = Option Signature} None (signature_of (chars f))
none_is f u a b c d h = sym (signature_same f u ∙ rw (a, b, c, d, h) refl)
