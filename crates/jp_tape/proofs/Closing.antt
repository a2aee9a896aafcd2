-- Where the body of a string ends: at the first quote that is not escaped.
use Rattle.std.proofs.Common.{◌≡◌, ℕ, ◌-◌, ◌<◌, ◌≤◌, inl, inr, true, false, List, ◌++◌, drop, get_or, ◌∙◌, ap, arith, Some, encode_utf8, get_or-drop}
use Rattle.std.proofs.lemmas.Bool.{cases_lt, and_parts}
use Rattle.std.proofs.lemmas.Bool.Decides.{nat_tests}
use Rattle.std.proofs.lemmas.Option.{cond_some}
use Rattle.std.proofs.lemmas.Str.{inside_one}
use Rattle.std.specs.Char as char
use Rattle.jp_model.specs.Characters.{four_digits}
use Rattle.jp_model.specs.Json.Places.{byte_at}
use Rattle.jp_model.specs.Json.Strings.{Unescaped}
use Rattle.jp_model.proofs.Reader.Lexical.{reads_end, reads_rest}
use Rattle.jp_lanes.specs.Search.{is_special}

-- ---- bytes that are not special

not_special : (b : ℕ) → 0x20 ≤ b → (b ≡ 0x22 → ⊥) → (b ≡ 0x5C → ⊥) → is_special b ≡ false
not_special b l q s = grind (arith, nat_tests, l, q, s)

-- a character that stands for itself has none
pub character_plain : (line : List ℕ) (i j u k : ℕ) → Unescaped line i j u → i ≤ k → k < j → is_special (byte_at line k) ≡ false
character_plain line i j u k a l h =
    let rest : drop i line ≡ encode_utf8 u ++ drop j line = reads_rest line i j (encode_utf8 u) a.bytes in
    let e = reads_end line i j (encode_utf8 u) a.bytes in
    let there : get_or (drop i line) (k - i) 0 ≡ byte_at line k = get_or-drop i line (k - i) 0 ∙ ap (byte_at line) (omega (arith, l)) in
    elim (cases_lt (byte_at line k) 128) [
      | inl lt ↦ (
          let same : u ≡ byte_at line k = inside_one u (drop j line) (drop i line) (k - i) rest (omega (arith, e, l, h)) (omega (arith, lt, there)) ∙ there in
          let c = a.no_control in
          not_special (byte_at line k) (omega (arith, same, c)) (λ q. a.no_quote (same ∙ q)) (λ q. a.no_backslash (same ∙ q))
          )
      | inr le ↦ not_special (byte_at line k) (omega (arith, le)) (λ q. absurd (omega (arith, le, q))) (λ q. absurd (omega (arith, le, q)))
    ]

-- nor has a hexadecimal digit
digit_plain : (b : ℕ) → char.is_digit b 16 ≡ true → is_special b ≡ false
digit_plain b h = grind (arith, nat_tests, h)

pub four_plain : (a b c d u : ℕ) → four_digits a b c d ≡ Some u → (is_special a ≡ false) × (is_special b ≡ false) × (is_special c ≡ false) × (is_special d ≡ false)
four_plain a b c d u h =
    let p = cond_some _ _ _ h in
    let q = and_parts _ _ p.0 in
    let r = and_parts _ _ q.0 in
    let s = and_parts _ _ r.0 in
    (digit_plain a s.0, digit_plain b s.1, digit_plain c r.1, digit_plain d q.1)

-- ---- what a search for the closing quote knows

-- ---- what follows from the byte there
