-- A body with no reverse solidus and no apostrophe is printed as it stands.
use Rattle.std.proofs.Common.{◌≡◌, ℕ, ◌+◌, ◌<◌, ◌≤◌, inl, inr, true, false, List, [], ◌∷◌, ◌++◌, length, drop, get_or, sym, ◌∙◌, ap, ap₂, refl, arith, append-nil, append_assoc, encode_utf8, encode_utf8_all}
use lib.Utf8.{encode}
use Rattle.std.specs.List.{flat_map, list_all}
use Rattle.std.proofs.lemmas.Bool.{false_from_ne_true}
use Rattle.std.proofs.lemmas.Bool.Decides.{nat_tests}
use Rattle.std.proofs.lemmas.List.{drop_all, get_or-drop}
use Rattle.std.proofs.lemmas.List.Folds.{list_all_at}
use Rattle.jp_model.specs.Characters.{is_surrogate, is_high_surrogate}
use Rattle.jp_model.specs.Json.Places.{byte_at, Has}
use Rattle.jp_model.specs.Json.Strings.{Unescaped, SpellsCharacters, paired}
use Rattle.jp_model.specs.Meaning.Paths.{name_scalar}
use Rattle.jp_model.proofs.Reader.Lexical.{clash, reads_rest, reads_end}
use Rattle.jp_strings.specs.Points.{IsText, points_of}
use Rattle.jp_strings.proofs.Halves.{high_is_surrogate, paired_single}
use Rattle.jp_strings.proofs.Texts.{scalar_is_whole, points_of_spelled}
use Rattle.jp_rows.specs.Names.{name_text, stands_unescaped}

-- a unit that is a scalar, and is printed as itself
record IsPlainUnit (u : ℕ) : Type 0 where
  whole : is_surrogate u ≡ false
  is : name_scalar u ≡ u ∷ []

abbrev AllPlain : List ℕ → Type 0
AllPlain [] = Unit {0}
AllPlain (u ∷ us) = IsPlainUnit u × AllPlain us

printed_alone : (u : ℕ) → 0x20 ≤ u → (u ≡ 0x27 → ⊥) → (u ≡ 0x5C → ⊥) → name_scalar u ≡ u ∷ []
printed_alone u a b c = grind (arith, nat_tests)

no_high : (u : ℕ) → is_surrogate u ≡ false → is_high_surrogate u ≡ false
no_high u h = false_from_ne_true (is_high_surrogate u) (λ e. clash _ (high_is_surrogate u e) h)

paired_plain : (us : List ℕ) → AllPlain us → paired us ≡ us
paired_plain [] p = refl
paired_plain (u ∷ us) p = paired_single u us (no_high u p.0.whole) ∙ ap (λ x. u ∷ x) (paired_plain us p.1)

printed_plain : (us : List ℕ) → AllPlain us → flat_map name_scalar us ≡ us
printed_plain [] p = refl
printed_plain (u ∷ us) p = ap₂ (λ (x y : List ℕ). x ++ y) p.0.is (printed_plain us p.1)

-- a byte that is not plain does not stand in a plain body
no_mark : (body : List ℕ) (i b : ℕ) → list_all stands_unescaped body ≡ true → i < length body → byte_at body i ≡ b → stands_unescaped b ≡ false → ⊥
no_mark body i b h l e m = clash _ h (list_all_at stands_unescaped body i 0 l (ap stands_unescaped e ∙ m))

has_no_mark : (body : List ℕ) (i b : ℕ) → list_all stands_unescaped body ≡ true → Has body i b → stands_unescaped b ≡ false → ⊥
has_no_mark body i b h m e = no_mark body i b h m.inside m.is e

first_byte : (body : List ℕ) (i b : ℕ) (rest : List ℕ) → drop i body ≡ b ∷ rest → byte_at body i ≡ b
first_byte body i b rest h =
    ap (λ n. get_or body n 0) (let e : i ≡ i + 0 = omega arith in e) ∙ (sym (get_or-drop i body 0 0) ∙ ap (λ x. get_or x 0 0) h)

no_apostrophe : (body : List ℕ) (i j u : ℕ) → list_all stands_unescaped body ≡ true → Unescaped body i j u → u ≡ 0x27 → ⊥
unfolding encode
no_apostrophe body i j u h a e =
    let stands : drop i body ≡ 0x27 ∷ drop j body = reads_rest body i j (encode_utf8 u) a.bytes ∙ ap (λ x. encode_utf8 x ++ drop j body) e in
    let wide : length (encode_utf8 u) ≡ 1 = ap (λ x. length (encode_utf8 x)) e in
    let end = reads_end body i j (encode_utf8 u) a.bytes in
    let within = a.bytes.within in
    no_mark body i 0x27 h (omega (arith, wide, end, within)) (first_byte body i 0x27 (drop j body) stands) refl

unescaped_plain : (body : List ℕ) (i j u : ℕ) → list_all stands_unescaped body ≡ true → Unescaped body i j u → IsPlainUnit u
unescaped_plain body i j u h a = record {
  whole = scalar_is_whole u a.scalar;
  is = printed_alone u a.no_control (no_apostrophe body i j u h a) a.no_backslash;
}

-- the characters from a position on are plain, and encode the bytes there
characters_plain : (body : List ℕ) (i j : ℕ) (us : List ℕ) → list_all stands_unescaped body ≡ true → SpellsCharacters body i j us → AllPlain us × (drop i body ≡ encode_utf8_all us ++ drop j body)
characters_plain body i j [] h s = (tt, ap (λ n. drop n body) s)
characters_plain body i j (u ∷ us) h s =
    elim s.1 [
      | inl a ↦ (let rest = characters_plain body s.0 j us h s.2 in (
        (unescaped_plain body i s.0 u h a, rest.0),
        reads_rest body i s.0 (encode_utf8 u) a.bytes ∙ (ap (λ x. encode_utf8 u ++ x) rest.1 ∙ sym (append_assoc (encode_utf8 u) (encode_utf8_all us) (drop j body))),
      ))
      | inr (inl a) ↦ absurd (has_no_mark body i 0x5C h a.backslash refl)
      | inr (inr a) ↦ absurd (has_no_mark body i 0x5C h a.backslash refl)
    ]

pub plain_name : (body : List ℕ) → IsText body → list_all stands_unescaped body ≡ true → name_text (points_of body) ≡ body
plain_name body t h =
    let us : List ℕ = t.spelled.units in
    let p = characters_plain body 0 (length body) us h t.spelled.characters in
    let points : points_of body ≡ us = points_of_spelled body t.points t.spelled ∙ (sym t.spelled.are ∙ paired_plain us p.0) in
    ap name_text points ∙ (ap encode_utf8_all (printed_plain us p.0) ∙ (sym (append-nil (encode_utf8_all us)) ∙ (ap (λ x. encode_utf8_all us ++ x) (sym (drop_all (length body) body (omega arith))) ∙ sym p.1)))
