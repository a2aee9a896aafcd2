-- What is known between the bytes of a value: it comes back to what it was, and till then a bracket or a string is open.
use Rattle.std.proofs.Common.{◌≡◌, ◌≢◌, ℕ, ◌+◌, ◌-◌, ◌/◌, ◌%◌, ◌<◌, ◌≤◌, inl, inr, Bool, true, false, cond, ◌&&◌, eqb, ltb, List, [], ◌∷◌, ◌++◌, Option, Some, None, refl, sym, ap, subst, ◌∙◌, arith}
use Rattle.std.specs.Bool.{⊤}
use Rattle.std.specs.Char as char
use Rattle.std.specs.Prelude.{if◌then◌else◌}
use Rattle.std.proofs.lemmas.Bool.{and_right, cases_lt, ne_eqb, false≢true}
use Rattle.std.proofs.lemmas.Bool.Decides.{eqb_tells}
use Rattle.std.proofs.lemmas.List.Sums.{fold-append}
use lib.Utf8.{encode}
use Rattle.jp_model.specs.Characters.{is_white, is_quote, is_backslash, four_digits}
use Rattle.jp_model.proofs.Reader.Lexical.{each_white}
use Rattle.jp_model.specs.Json.Strings.{short_escape}
use Rattle.jp_cut.specs.Machine.{is_opening, is_closing, is_whole, behind, xor}
use Rattle.jp_cut.specs.Passing.{behind_all}
use Rattle.jp_cut.specs.declared.machine.Known.{Known}
use Rattle.jp_cut.specs.declared.machine.Place.{Place}

-- each of some bytes
abbrev pub Each : (ℕ → Type 0) → List ℕ → Type 0
Each P [] = ⊤
Each P (byte ∷ rest) = P byte × Each P rest

pub each_append : (P : ℕ → Type 0) (first second : List ℕ) → Each P first → Each P second → Each P (first ++ second)
each_append P [] second h k = k
each_append P (byte ∷ rest) second h k = (h.0, each_append P rest second h.1 k)

-- ---- what is known outside strings, in one, and after a backslash of one

abbrev pub outside : Place → ℕ → Known
outside place depth = record { place = place; depth = depth; inside = false; escaped = false }

abbrev pub within : Place → ℕ → Known
within place depth = record { place = place; depth = depth; inside = true; escaped = false }

abbrev pub escaping : Place → ℕ → Known
escaping place depth = record { place = place; depth = depth; inside = true; escaped = true }

-- a bracket or a string is open
abbrev pub IsUnfinished : Known → Type 0
IsUnfinished known = is_whole known ≡ false

-- one is, in front of some bytes and after each of them
abbrev pub StaysUnfinished : Known → List ℕ → Type 0
StaysUnfinished known [] = IsUnfinished known
StaysUnfinished known (byte ∷ rest) = IsUnfinished known × StaysUnfinished (behind known byte) rest

-- and this is known after them all
pub record Crosses (known : Known) (bytes : List ℕ) (next : Known) : Type 0 where
  pub stays : StaysUnfinished known bytes
  pub same : behind_all known bytes ≡ next

stays_join : (known : Known) (first second : List ℕ) → StaysUnfinished known first → StaysUnfinished (behind_all known first) second → StaysUnfinished known (first ++ second)
stays_join known [] second stays more = more
stays_join known (byte ∷ rest) second stays more = (stays.0, stays_join (behind known byte) rest second stays.1 more)

pub crosses_join : (known middle next : Known) (first second : List ℕ) → Crosses known first middle → Crosses middle second next → Crosses known (first ++ second) next
crosses_join known middle next first second h g = record {
  stays = stays_join known first second h.stays (subst (λ (k : Known). StaysUnfinished k second) (sym h.same) g.stays);
  same = fold-append behind known first second ∙ ap (λ (k : Known). behind_all k second) h.same ∙ g.same;
}

pub crosses_none : (known : Known) → IsUnfinished known → Crosses known [] known
crosses_none known unfinished = record { stays = unfinished; same = refl }

pub crosses_one : (known next : Known) (byte : ℕ) → IsUnfinished known → IsUnfinished next → behind known byte ≡ next → Crosses known (byte ∷ []) next
crosses_one known next byte unfinished still e = record { stays = (unfinished, subst (λ (k : Known). IsUnfinished k) (sym e) still); same = e }

-- a byte, and what follows
pub crosses_then : (known middle next : Known) (byte : ℕ) (rest : List ℕ) → IsUnfinished known → behind known byte ≡ middle → Crosses middle rest next → Crosses known (byte ∷ rest) next
crosses_then known middle next byte rest unfinished e g = record {
  stays = (unfinished, subst (λ (k : Known). StaysUnfinished k rest) (sym e) g.stays);
  same = ap (λ (k : Known). behind_all k rest) e ∙ g.same;
}

not_zero : (d : ℕ) (other : Bool) → 0 < d → (eqb d 0 && other) ≡ false
not_zero d other some = elim (eqb_tells d 0) [ inl same ↦ absurd (omega (arith, same.1)) | inr other_is ↦ ap (λ b. b && other) other_is.0 ]

pub outside_open : (place : Place) (depth : ℕ) → 0 < depth → IsUnfinished (outside place depth)
outside_open place depth some = not_zero depth true some

pub within_open : (place : Place) (depth : ℕ) → IsUnfinished (within place depth)
within_open place depth = and_right (eqb depth 0) false refl

pub escaping_open : (place : Place) (depth : ℕ) → IsUnfinished (escaping place depth)
escaping_open place depth = and_right (eqb depth 0) false refl

-- ---- bytes outside strings

-- a byte that neither opens nor closes a bracket or a string
pub record IsPlain (byte : ℕ) : Type 0 where
  pub no_opening : is_opening byte ≡ false
  pub no_closing : is_closing byte ≡ false
  pub no_quote : is_quote byte ≡ false
  pub no_backslash : is_backslash byte ≡ false

-- what is known after a byte outside strings, by what it is
abbrev told : Place → ℕ → Bool → Bool → Bool → Bool → Known
told place depth opening closing quote backslash = record {
  place = place;
  depth = if opening then depth + 1 else (if closing then depth - 1 else depth);
  inside = xor false (quote && true);
  escaped = backslash && true;
}

pub plain_behind : (place : Place) (depth byte : ℕ) → IsPlain byte → behind (outside place depth) byte ≡ outside place depth
plain_behind place depth byte h =
    ap (λ b. told place depth b (is_closing byte) (is_quote byte) (is_backslash byte)) h.no_opening
    ∙ ap (λ b. told place depth false b (is_quote byte) (is_backslash byte)) h.no_closing
    ∙ ap (λ b. told place depth false false b (is_backslash byte)) h.no_quote
    ∙ ap (λ b. told place depth false false false b) h.no_backslash

pub plain_crosses : (place : Place) (depth : ℕ) (bytes : List ℕ) → 0 < depth → Each IsPlain bytes → Crosses (outside place depth) bytes (outside place depth)
plain_crosses place depth [] some h = crosses_none (outside place depth) (outside_open place depth some)
plain_crosses place depth (byte ∷ rest) some h =
    crosses_then (outside place depth) (outside place depth) (outside place depth) byte rest (outside_open place depth some) (plain_behind place depth byte h.0) (plain_crosses place depth rest some h.1)

pub white_plain : (byte : ℕ) → is_white byte ≡ true → IsPlain byte
white_plain byte h =
    each_white IsPlain (record { no_opening = refl; no_closing = refl; no_quote = refl; no_backslash = refl }) (record { no_opening = refl; no_closing = refl; no_quote = refl; no_backslash = refl })
    (record { no_opening = refl; no_closing = refl; no_quote = refl; no_backslash = refl }) (record { no_opening = refl; no_closing = refl; no_quote = refl; no_backslash = refl }) byte h

-- ---- bytes of strings

-- a byte that neither closes a string nor escapes another
pub record IsQuiet (byte : ℕ) : Type 0 where
  pub no_quote : is_quote byte ≡ false
  pub no_backslash : is_backslash byte ≡ false

quiet_behind : (place : Place) (depth byte : ℕ) → IsQuiet byte → behind (within place depth) byte ≡ within place depth
quiet_behind place depth byte h =
    ap (λ b. let k : Known = record { place = place; depth = depth; inside = xor true (b && true); escaped = is_backslash byte && true } in k) h.no_quote
    ∙ ap (λ b. let k : Known = record { place = place; depth = depth; inside = true; escaped = b && true } in k) h.no_backslash

escaped_behind : (place : Place) (depth byte : ℕ) → behind (escaping place depth) byte ≡ within place depth
escaped_behind place depth byte =
    ap (λ b. let k : Known = record { place = place; depth = depth; inside = xor true b; escaped = is_backslash byte && false } in k) (and_right (is_quote byte) false refl)
    ∙ ap (λ b. let k : Known = record { place = place; depth = depth; inside = true; escaped = b } in k) (and_right (is_backslash byte) false refl)

pub quiet_crosses : (place : Place) (depth : ℕ) (bytes : List ℕ) → Each IsQuiet bytes → Crosses (within place depth) bytes (within place depth)
quiet_crosses place depth [] h = crosses_none (within place depth) (within_open place depth)
quiet_crosses place depth (byte ∷ rest) h =
    crosses_then (within place depth) (within place depth) (within place depth) byte rest (within_open place depth) (quiet_behind place depth byte h.0) (quiet_crosses place depth rest h.1)

-- a backslash, a byte that it escapes, and bytes that are quiet
pub escape_crosses : (place : Place) (depth byte : ℕ) (rest : List ℕ) → Each IsQuiet rest → Crosses (within place depth) (0x5C ∷ byte ∷ rest) (within place depth)
escape_crosses place depth byte rest h =
    crosses_then (within place depth) (escaping place depth) (within place depth) 0x5C (byte ∷ rest) (within_open place depth) refl
    (crosses_then (escaping place depth) (within place depth) (within place depth) byte rest (escaping_open place depth) (escaped_behind place depth byte) (quiet_crosses place depth rest h))

high_quiet : (b : ℕ) → 128 ≤ b → IsQuiet b
high_quiet b h = record { no_quote = ne_eqb b 0x22 (λ e. absurd (omega arith)); no_backslash = ne_eqb b 0x5C (λ e. absurd (omega arith)) }

-- the bytes of a character are the character alone, or none of them is below 80
pub encode_each : (P : ℕ → Type 0) (c : ℕ) → P c → ((b : ℕ) → 128 ≤ b → P b) → Each P (encode c)
unfolding encode
encode_each P c one high =
    elim (ltb c 128) as (λ v. Each P (cond v (c ∷ []) (cond (ltb c 2048) ((192 + c / 64) ∷ (128 + c % 64) ∷ []) (cond (ltb c 65536) ((224 + c / 4096) ∷ (128 + c / 64 % 64) ∷ (128 + c % 64) ∷ []) ((240 + c / 262144) ∷ (128 + c / 4096 % 64) ∷ (128 + c / 64 % 64) ∷ (128 + c % 64) ∷ []))))) [
      | true ↦ (one, tt)
      | false ↦ elim (ltb c 2048) as (λ v. Each P (cond v ((192 + c / 64) ∷ (128 + c % 64) ∷ []) (cond (ltb c 65536) ((224 + c / 4096) ∷ (128 + c / 64 % 64) ∷ (128 + c % 64) ∷ []) ((240 + c / 262144) ∷ (128 + c / 4096 % 64) ∷ (128 + c / 64 % 64) ∷ (128 + c % 64) ∷ [])))) [
        | true ↦ (high (192 + c / 64) (omega arith), (high (128 + c % 64) (omega arith), tt))
        | false ↦ elim (ltb c 65536) as (λ v. Each P (cond v ((224 + c / 4096) ∷ (128 + c / 64 % 64) ∷ (128 + c % 64) ∷ []) ((240 + c / 262144) ∷ (128 + c / 4096 % 64) ∷ (128 + c / 64 % 64) ∷ (128 + c % 64) ∷ []))) [
          | true ↦ (high (224 + c / 4096) (omega arith), (high (128 + c / 64 % 64) (omega arith), (high (128 + c % 64) (omega arith), tt)))
          | false ↦ (high (240 + c / 262144) (omega arith), (high (128 + c / 4096 % 64) (omega arith), (high (128 + c / 64 % 64) (omega arith), (high (128 + c % 64) (omega arith), tt))))
        ]
      ]
    ]

pub encode_quiet : (c : ℕ) → c ≢ 0x22 → c ≢ 0x5C → Each IsQuiet (encode c)
encode_quiet c q b = encode_each IsQuiet c (record { no_quote = ne_eqb c 0x22 q; no_backslash = ne_eqb c 0x5C b }) high_quiet

no_letter : (letter : ℕ) → ((k : ℕ) → 0x20 ≤ k → k < 128 → letter ≢ k) → short_escape letter ≡ None
no_letter letter none =
    rw (
      ne_eqb letter 0x22 (none 0x22 (omega arith) (omega arith)),
      ne_eqb letter 0x5C (none 0x5C (omega arith) (omega arith)),
      ne_eqb letter 0x2F (none 0x2F (omega arith) (omega arith)),
      ne_eqb letter 0x62 (none 0x62 (omega arith) (omega arith)),
      ne_eqb letter 0x66 (none 0x66 (omega arith) (omega arith)),
      ne_eqb letter 0x6E (none 0x6E (omega arith) (omega arith)),
      ne_eqb letter 0x72 (none 0x72 (omega arith) (omega arith)),
      ne_eqb letter 0x74 (none 0x74 (omega arith) (omega arith)),
    ) refl

-- the letter of an escape is a character of ASCII, and no control character
pub escape_letter : (letter unit : ℕ) → short_escape letter ≡ Some unit → (0x20 ≤ letter) × (letter < 128)
escape_letter letter unit h =
    elim (cases_lt letter 0x20) [
      | inl low ↦ (let e = no_letter letter (λ k l m is. omega arith) in absurd (cc))
      | inr shown ↦ elim (cases_lt letter 128) [
        | inl l ↦ (shown, l)
        | inr high ↦ (let e = no_letter letter (λ k l m is. omega arith) in absurd (cc))
      ]
    ]

-- hexadecimal digits are quiet
hex_quiet : (x : ℕ) → char.is_digit x 16 ≡ true → IsQuiet x
hex_quiet x h = record {
  no_quote = ne_eqb x 0x22 (λ e. absurd (false≢true (sym (ap (λ y. char.is_digit y 16) e) ∙ h)));
  no_backslash = ne_eqb x 0x5C (λ e. absurd (false≢true (sym (ap (λ y. char.is_digit y 16) e) ∙ h)));
}

both : (a b : Bool) → (a && b) ≡ true → (a ≡ true) × (b ≡ true)
both true b h = (refl, h)
both false b h = absurd (false≢true h)

found : (b : Bool) (v unit : ℕ) → cond b (Some v) None ≡ Some unit → b ≡ true
found true v unit e = refl
found false v unit e = let none_is : Option ℕ = None in absurd (cc)

-- each of four hexadecimal digits
pub each_digit : (P : ℕ → Type 0) → ((x : ℕ) → char.is_digit x 16 ≡ true → P x) → (a b c d unit : ℕ) → four_digits a b c d ≡ Some unit → Each P (a ∷ b ∷ c ∷ d ∷ [])
each_digit P of a b c d unit h =
    let all = found _ _ unit h in
    let p = both (char.is_digit a 16 && char.is_digit b 16 && char.is_digit c 16) (char.is_digit d 16) all in
    let q = both (char.is_digit a 16 && char.is_digit b 16) (char.is_digit c 16) p.0 in
    let r = both (char.is_digit a 16) (char.is_digit b 16) q.0 in
    (of a r.0, (of b r.1, (of c q.1, (of d p.1, tt))))

pub digits_quiet : (a b c d unit : ℕ) → four_digits a b c d ≡ Some unit → Each IsQuiet (a ∷ b ∷ c ∷ d ∷ [])
digits_quiet a b c d unit h = each_digit IsQuiet hex_quiet a b c d unit h
