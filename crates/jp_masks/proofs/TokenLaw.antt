-- The marks of a JSON text are its tokens, along its derivation.
use Rattle.std.proofs.Common.{◌≡◌, ◌≢◌, ℕ, zero, suc, ◌+◌, ◌-◌, ◌/◌, ◌%◌, ◌<◌, ◌≤◌, Bool, true, false, cond, ◌&&◌, ltb, List, [], ◌∷◌, ◌++◌, length, get_or, refl, sym, ap, ◌∙◌, arith, subst, All, Option, Some, None, encode_utf8, inl, inr, append-nil}
use Rattle.std.specs.Char as char
use lib.Utf8.{encode}
use Rattle.std.proofs.lemmas.Bool.{ne_eqb, false≢true}
use Rattle.std.proofs.lemmas.Bool.Decides.{nat_tests}
use Rattle.std.proofs.lemmas.List.Edits.{get_or-between, length-between}
use Rattle.std.proofs.lemmas.List.Elements.{All-append, All-cons}
use Rattle.jp_model.specs.declared.Span.{Span}
use Rattle.jp_model.specs.Characters.{is_digit}
use Rattle.jp_model.specs.Json.Places.{Has, Reads}
use Rattle.jp_model.specs.Json.Numbers.{Numeral, IsNumeral, AreDigits, AreSomeDigits, IsInt, Exponent, Sign, no_sign, plus_sign, minus_sign, IsExponent, minus_bytes, fraction_bytes, sign_bytes, exponent_bytes, numeral_bytes}
use Rattle.jp_model.specs.Json.Strings.{SpellsBody, SpellsCharacter, SpellsCharacters}
use Rattle.jp_model.specs.Json.Spelling.{word_of, null_word, Text, Spells, SpellsValue, SpellsFirst, SpellsMore, SpellsLabel, Separator, Closes, opening, closing}
use Rattle.jp_model.specs.Json.Tree.{Tree, node, Value, null, boolean, number, string, container, Container, array, object, Children, no_child, child, Name, span}
use Rattle.jp_model.proofs.Reader.Lexical.{reads_end}
use Rattle.jp_model.proofs.Reader.Numbers.{int_digits}
use Rattle.jp_masks.specs.Tokens.{tokens, value_tokens, first_tokens, more_tokens, label_tokens}
use Rattle.jp_masks.proofs.Scans.{byte, From, Plain, Quiet, Knows, Begins, Goes, then, stays, structural_byte, opening_quote, closing_quote, backslash_byte, escaped_byte, plain_run, white_space, quiet_run, at_start}

-- ---- which bytes are plain, or quiet

none : (P : ℕ → Type 0) → All P []
none P k d l = absurd (omega arith)

digit_plain : (d : ℕ) → is_digit d ≡ true → Plain d
digit_plain d h = record { no_white = grind (arith, nat_tests, h); no_structural = grind (arith, nat_tests, h); no_quote = grind (arith, nat_tests, h); no_backslash = grind (arith, nat_tests, h) }

digits_plain : (ds : List ℕ) → AreDigits ds → All Plain ds
digits_plain [] a = none Plain
digits_plain (d ∷ ds) a = All-cons Plain d ds (digit_plain d a.0) (digits_plain ds a.1)

some_plain : (ds : List ℕ) → AreSomeDigits ds → All Plain ds
some_plain [] a = absurd a
some_plain (d ∷ ds) a = digits_plain (d ∷ ds) a

minus_plain : (negative : Bool) → All Plain (minus_bytes negative)
minus_plain true = All-cons Plain 0x2D [] (record { no_white = refl; no_structural = refl; no_quote = refl; no_backslash = refl }) (none Plain)
minus_plain false = none Plain

fraction_plain : (ds : List ℕ) → AreDigits ds → All Plain (fraction_bytes ds)
fraction_plain [] a = none Plain
fraction_plain (d ∷ ds) a = All-cons Plain 0x2E (d ∷ ds) (record { no_white = refl; no_structural = refl; no_quote = refl; no_backslash = refl }) (digits_plain (d ∷ ds) a)

sign_plain : (s : Sign) → All Plain (sign_bytes s)
sign_plain no_sign = none Plain
sign_plain plus_sign = All-cons Plain 0x2B [] (record { no_white = refl; no_structural = refl; no_quote = refl; no_backslash = refl }) (none Plain)
sign_plain minus_sign = All-cons Plain 0x2D [] (record { no_white = refl; no_structural = refl; no_quote = refl; no_backslash = refl }) (none Plain)

letter_plain : (capital : Bool) → Plain (cond capital 0x45 0x65)
letter_plain true = record { no_white = refl; no_structural = refl; no_quote = refl; no_backslash = refl }
letter_plain false = record { no_white = refl; no_structural = refl; no_quote = refl; no_backslash = refl }

exponent_plain : (e : Option Exponent) → IsExponent e → All Plain (exponent_bytes e)
exponent_plain None h = none Plain
exponent_plain (Some e) h = All-cons Plain (cond e.capital 0x45 0x65) (sign_bytes e.sign ++ e.digits) (letter_plain e.capital) (All-append Plain (sign_bytes e.sign) e.digits (sign_plain e.sign) (some_plain e.digits h))

numeral_plain : (n : Numeral) → IsNumeral n → All Plain (numeral_bytes n)
numeral_plain n h =
    All-append Plain (minus_bytes n.negative) (n.int ++ (fraction_bytes n.fraction ++ exponent_bytes n.exponent)) (minus_plain n.negative)
    (All-append Plain n.int (fraction_bytes n.fraction ++ exponent_bytes n.exponent) (digits_plain n.int (int_digits n.int h.int))
    (All-append Plain (fraction_bytes n.fraction) (exponent_bytes n.exponent) (fraction_plain n.fraction h.fraction) (exponent_plain n.exponent h.exponent)))

int_some : (minus int rest : List ℕ) → IsInt int → 0 < length (minus ++ (int ++ rest))
int_some minus [] rest i = absurd i
int_some [] (d ∷ ds) rest i = omega arith
int_some (m ∷ ms) (d ∷ ds) rest i = omega arith

letters_plain : (a b c d : ℕ) (rest : List ℕ) → Plain a → Plain b → Plain c → Plain d → All Plain rest → All Plain (a ∷ b ∷ c ∷ d ∷ rest)
letters_plain a b c d rest p q r s t = All-cons Plain a (b ∷ c ∷ d ∷ rest) p (All-cons Plain b (c ∷ d ∷ rest) q (All-cons Plain c (d ∷ rest) r (All-cons Plain d rest s t)))

null_plain : All Plain null_word
null_plain = letters_plain 0x6E 0x75 0x6C 0x6C [] (record { no_white = refl; no_structural = refl; no_quote = refl; no_backslash = refl }) (record { no_white = refl; no_structural = refl; no_quote = refl; no_backslash = refl }) (record { no_white = refl; no_structural = refl; no_quote = refl; no_backslash = refl }) (record { no_white = refl; no_structural = refl; no_quote = refl; no_backslash = refl }) (none Plain)

word_plain : (b : Bool) → All Plain (word_of b)
word_plain true = letters_plain 0x74 0x72 0x75 0x65 [] (record { no_white = refl; no_structural = refl; no_quote = refl; no_backslash = refl }) (record { no_white = refl; no_structural = refl; no_quote = refl; no_backslash = refl }) (record { no_white = refl; no_structural = refl; no_quote = refl; no_backslash = refl }) (record { no_white = refl; no_structural = refl; no_quote = refl; no_backslash = refl }) (none Plain)
word_plain false = letters_plain 0x66 0x61 0x6C 0x73 (0x65 ∷ []) (record { no_white = refl; no_structural = refl; no_quote = refl; no_backslash = refl }) (record { no_white = refl; no_structural = refl; no_quote = refl; no_backslash = refl }) (record { no_white = refl; no_structural = refl; no_quote = refl; no_backslash = refl }) (record { no_white = refl; no_structural = refl; no_quote = refl; no_backslash = refl })
    (All-cons Plain 0x65 [] (record { no_white = refl; no_structural = refl; no_quote = refl; no_backslash = refl }) (none Plain))

word_some : (b : Bool) → 0 < length (word_of b)
word_some true = omega arith
word_some false = omega arith

high_quiet : (b : ℕ) → 128 ≤ b → Quiet b
high_quiet b h = record { no_quote = ne_eqb b 0x22 (λ e. absurd (omega arith)); no_backslash = ne_eqb b 0x5C (λ e. absurd (omega arith)) }

encode_quiet : (c : ℕ) → c ≢ 0x22 → c ≢ 0x5C → All Quiet (encode c)
unfolding encode
encode_quiet c q b =
    elim (ltb c 128) as (λ v. All Quiet (cond v (c ∷ []) (cond (ltb c 2048) ((192 + c / 64) ∷ (128 + c % 64) ∷ []) (cond (ltb c 65536) ((224 + c / 4096) ∷ (128 + c / 64 % 64) ∷ (128 + c % 64) ∷ []) ((240 + c / 262144) ∷ (128 + c / 4096 % 64) ∷ (128 + c / 64 % 64) ∷ (128 + c % 64) ∷ []))))) [
      | true ↦ All-cons Quiet c [] (record { no_quote = ne_eqb c 0x22 q; no_backslash = ne_eqb c 0x5C b }) (none Quiet)
      | false ↦ elim (ltb c 2048) as (λ v. All Quiet (cond v ((192 + c / 64) ∷ (128 + c % 64) ∷ []) (cond (ltb c 65536) ((224 + c / 4096) ∷ (128 + c / 64 % 64) ∷ (128 + c % 64) ∷ []) ((240 + c / 262144) ∷ (128 + c / 4096 % 64) ∷ (128 + c / 64 % 64) ∷ (128 + c % 64) ∷ [])))) [
        | true ↦ two (192 + c / 64) (128 + c % 64) (omega arith) (omega arith)
        | false ↦ elim (ltb c 65536) as (λ v. All Quiet (cond v ((224 + c / 4096) ∷ (128 + c / 64 % 64) ∷ (128 + c % 64) ∷ []) ((240 + c / 262144) ∷ (128 + c / 4096 % 64) ∷ (128 + c / 64 % 64) ∷ (128 + c % 64) ∷ []))) [
          | true ↦ All-cons Quiet (224 + c / 4096) ((128 + c / 64 % 64) ∷ (128 + c % 64) ∷ []) (high_quiet (224 + c / 4096) (omega arith)) (two (128 + c / 64 % 64) (128 + c % 64) (omega arith) (omega arith))
          | false ↦ All-cons Quiet (240 + c / 262144) ((128 + c / 4096 % 64) ∷ (128 + c / 64 % 64) ∷ (128 + c % 64) ∷ []) (high_quiet (240 + c / 262144) (omega arith))
              (All-cons Quiet (128 + c / 4096 % 64) ((128 + c / 64 % 64) ∷ (128 + c % 64) ∷ []) (high_quiet (128 + c / 4096 % 64) (omega arith)) (two (128 + c / 64 % 64) (128 + c % 64) (omega arith) (omega arith)))
        ]
      ]
    ]
  where
    two : (a b : ℕ) → 128 ≤ a → 128 ≤ b → All Quiet (a ∷ b ∷ [])
    two a b l m = All-cons Quiet a (b ∷ []) (high_quiet a l) (All-cons Quiet b [] (high_quiet b m) (none Quiet))

-- a hexadecimal digit is neither a quote nor a backslash
hex_quiet : (x : ℕ) → char.is_digit x 16 ≡ true → Quiet x
hex_quiet x h = record {
  no_quote = ne_eqb x 0x22 (λ e. absurd (false≢true (sym (ap (λ y. char.is_digit y 16) e) ∙ h)));
  no_backslash = ne_eqb x 0x5C (λ e. absurd (false≢true (sym (ap (λ y. char.is_digit y 16) e) ∙ h)));
}

both : (a b : Bool) → (a && b) ≡ true → (a ≡ true) × (b ≡ true)
both true b h = (refl, h)
both false b h = absurd (false≢true h)

found : (b : Bool) (v unit : ℕ) → cond b (Some v) None ≡ Some unit → b ≡ true
found true v unit e = refl
found false v unit e = let none_is : Option ℕ = None in absurd (cc)

module _ (line : List ℕ) where
  reads_each : (P : ℕ → Type 0) (i j : ℕ) (bytes : List ℕ) → Reads line i j bytes → All P bytes → From line i j P
  reads_each P i j bytes r all k low high =
      let w = r.within in
      let count : length bytes ≡ j - i = sym (ap length r.are) ∙ length-between line i j w in
      let position : i + (k - i) ≡ k = omega arith in
      let inside : i + (k - i) < j = omega arith in
      subst P (sym (ap (λ (xs : List ℕ). get_or xs (k - i) 0) r.are) ∙ get_or-between line i j (k - i) 0 inside ∙ ap (λ n. get_or line n 0) position) (all (k - i) 0 (omega arith))

  -- a number or a word
  run : (i j : ℕ) (bytes : List ℕ) → Reads line i j bytes → All Plain bytes → 0 < length bytes → Knows line i false false → Begins line i true → Goes line i j (i ∷ []) false false
  run i j bytes r all some k m = let e = reads_end line i j bytes r in plain_run line i j (omega arith) (reads_each Plain i j bytes r all) k m

  character : (i j u : ℕ) → SpellsCharacter line i j u → Knows line i false true → Goes line i j [] false true
  character i j u (inl a) k =
      let o = a.bytes.order in
      quiet_run line (j - i) i j (omega arith) (reads_each Quiet i j (encode_utf8 u) a.bytes (encode_quiet u a.no_quote a.no_backslash)) k
  character i j u (inr (inl a)) k =
      let first = backslash_byte line i a.backslash.is k in
      let second = escaped_byte line (i + 1) first.knows in
      let end : i + 1 + 1 ≡ j = omega (arith, a.end) in
      subst (λ x. Goes line i x [] false true) end (then line i (i + 1) (i + 1 + 1) [] [] true true false true first second)
  character i j u (inr (inr a)) k =
      let first = backslash_byte line i a.backslash.is k in
      let second = escaped_byte line (i + 1) first.knows in
      let d = digits (found _ _ u a.spells) in
      let end : i + 6 ≡ j = sym a.end in
      let each : From line (i + 1 + 1) (i + 6) Quiet = λ x low high. at x (x - (i + 2)) (omega arith) (omega arith) d in
      let rest = quiet_run line 4 (i + 1 + 1) (i + 6) (omega arith) each second.knows in
      subst (λ x. Goes line i x [] false true) end (then line i (i + 1) (i + 6) [] [] true true false true first (then line (i + 1) (i + 1 + 1) (i + 6) [] [] false true false true second rest))
    where
      Hex : ℕ → Type 0
      Hex x = char.is_digit (byte line x) 16 ≡ true

      digits : (char.is_digit (byte line (i + 2)) 16 && char.is_digit (byte line (i + 3)) 16 && char.is_digit (byte line (i + 4)) 16 && char.is_digit (byte line (i + 5)) 16) ≡ true → Hex (i + 2) × Hex (i + 3) × Hex (i + 4) × Hex (i + 5)
      digits h =
          let p = both (char.is_digit (byte line (i + 2)) 16 && char.is_digit (byte line (i + 3)) 16 && char.is_digit (byte line (i + 4)) 16) (char.is_digit (byte line (i + 5)) 16) h in
          let q = both (char.is_digit (byte line (i + 2)) 16 && char.is_digit (byte line (i + 3)) 16) (char.is_digit (byte line (i + 4)) 16) p.0 in
          let r = both (char.is_digit (byte line (i + 2)) 16) (char.is_digit (byte line (i + 3)) 16) q.0 in
          (r.0, r.1, q.1, p.1)

      at : (x n : ℕ) → x ≡ i + 2 + n → n < 4 → Hex (i + 2) × Hex (i + 3) × Hex (i + 4) × Hex (i + 5) → Quiet (byte line x)
      at x zero e l d = let p : x ≡ i + 2 = omega arith in hex_quiet (byte line x) (subst Hex (sym p) d.0)
      at x (suc zero) e l d = let p : x ≡ i + 3 = omega arith in hex_quiet (byte line x) (subst Hex (sym p) d.1)
      at x (suc (suc zero)) e l d = let p : x ≡ i + 4 = omega arith in hex_quiet (byte line x) (subst Hex (sym p) d.2)
      at x (suc (suc (suc zero))) e l d = let p : x ≡ i + 5 = omega arith in hex_quiet (byte line x) (subst Hex (sym p) d.3)
      at x (suc (suc (suc (suc n)))) e l d = absurd (omega arith)

  characters : (us : List ℕ) (i j : ℕ) → SpellsCharacters line i j us → Knows line i false true → Goes line i j [] false true
  characters [] i j h k = subst (λ x. Goes line i x [] false true) h (stays line i false true k)
  characters (u ∷ us) i j h k =
      let first = character i h.0 u h.1 k in
      then line i h.0 j [] [] false true false true first (characters us h.0 j h.2 first.knows)

  -- a quote, a body and a quote
  quoted : (from start last : ℕ) (points : List ℕ) → Has line from 0x22 → start ≡ from + 1 → SpellsBody line start last points → Has line last 0x22 → Knows line from false false
      → Goes line from (last + 1) (from ∷ last ∷ []) false false × Begins line (last + 1) true
  quoted from start last points opens e body closes k =
      let first = opening_quote line from opens.is k in
      let middle = characters body.units start last body.characters (subst (λ x. Knows line x false true) (sym e) first.knows) in
      let end = closing_quote line last closes.is middle.knows in (
        then line from (from + 1) (last + 1) (from ∷ []) (last ∷ []) false true false false first
            (subst (λ x. Goes line x (last + 1) (last ∷ []) false false) e (then line start last (last + 1) [] (last ∷ []) false true false false middle end.0)),
        end.1,
      )

  -- a structural byte between white space
  separated : (b from to : ℕ) (h : Separator line b from to) → ((i : ℕ) → Has line i b → Knows line i false false → Goes line i (i + 1) (i ∷ []) false false × Begins line (i + 1) true) → Knows line from false false
      → Goes line from to (h.place ∷ []) false false × Begins line to true
  separated b from to h mark k =
      let white = white_space line from h.place h.before k in
      let here = mark h.place h.is white.0.knows in
      let behind = white_space line (h.place + 1) to h.after here.0.knows in (
        then line from h.place to [] (h.place ∷ []) false false false false white.0
            (then line h.place (h.place + 1) to (h.place ∷ []) [] false false false false here.0 behind.0),
        behind.1 here.1,
      )

  opened : (kind : Container) (i : ℕ) → Has line i (opening kind) → Knows line i false false → Goes line i (i + 1) (i ∷ []) false false × Begins line (i + 1) true
  opened array i h k = structural_byte line i 0x5B h.is refl refl refl refl k
  opened object i h k = structural_byte line i 0x7B h.is refl refl refl refl k

  closed : (kind : Container) (i : ℕ) → Has line i (closing kind) → Knows line i false false → Goes line i (i + 1) (i ∷ []) false false × Begins line (i + 1) true
  closed array i h k = structural_byte line i 0x5D h.is refl refl refl refl k
  closed object i h k = structural_byte line i 0x7D h.is refl refl refl refl k

  comma : (i : ℕ) → Has line i 0x2C → Knows line i false false → Goes line i (i + 1) (i ∷ []) false false × Begins line (i + 1) true
  comma i h k = structural_byte line i 0x2C h.is refl refl refl refl k

  colon : (i : ℕ) → Has line i 0x3A → Knows line i false false → Goes line i (i + 1) (i ∷ []) false false × Begins line (i + 1) true
  colon i h k = structural_byte line i 0x3A h.is refl refl refl refl k

  ended : (kind : Container) (from to : ℕ) (h : Closes line kind from to) → Knows line from false false → Goes line from to (h.place ∷ []) false false
  ended kind from to h k =
      let white = white_space line from h.place h.white k in
      let here = closed kind h.place h.bracket white.0.knows in
      subst (λ x. Goes line from x (h.place ∷ []) false false) (sym h.end) (then line from h.place (h.place + 1) [] (h.place ∷ []) false false false false white.0 here.0)

  label : (kind : Container) (from value : ℕ) (name : Option Name) (h : SpellsLabel line kind from value name) → Knows line from false false → Begins line from true → Goes line from value (label_tokens line kind from value name h) false false × Begins line value true
  label array from value None h k m = (subst (λ x. Goes line from x [] false false) h (stays line from false false k), subst (λ x. Begins line x true) h m)
  label array from value (Some name) h k m = absurd h
  label object from value None h k m = absurd h
  label object from value (Some name) h k m =
      let spelled = quoted from name.body.start name.body.end name.points h.opens h.behind_quote h.body h.closes k in
      let parted = separated 0x3A (name.body.end + 1) value h.colon colon spelled.0.knows in
      (then line from (name.body.end + 1) value (from ∷ name.body.end ∷ []) (h.colon.place ∷ []) false false false false spelled.0 parted.0, parted.1)

  mutual
    tree : (t : Tree) (h : Spells line t) → Knows line (span t).start false false → Begins line (span t).start true → Goes line (span t).start (span t).end (tokens line t h) false false
    tree (node s v) h k m = value s v h k m

    value : (s : Span) (v : Value) (h : SpellsValue line s v) → Knows line s.start false false → Begins line s.start true → Goes line s.start s.end (value_tokens line s v h) false false
    value s null h k m = run s.start s.end null_word h null_plain (omega arith) k m
    value s (boolean b) h k m = run s.start s.end (word_of b) h (word_plain b) (word_some b) k m
    value s (number n e) h k m = run s.start s.end (numeral_bytes h.numeral) h.bytes (numeral_plain h.numeral h.correct) (int_some (minus_bytes h.numeral.negative) h.numeral.int _ h.correct.int) k m
    value s (string points) h k m =
        let spelled = quoted s.start (s.start + 1) h.last points h.opens refl h.body h.closes k in
        subst (λ x. Goes line s.start x (s.start ∷ h.last ∷ []) false false) (sym h.end) spelled.0
    value s (container kind children) h k m =
        let here = opened kind s.start h.0 k in
        then line s.start (s.start + 1) s.end (s.start ∷ []) (first_tokens line kind (s.start + 1) s.end children h.1) false false false false here.0 (first children kind (s.start + 1) s.end h.1 here.0.knows here.1)

    first : (c : Children) (kind : Container) (from to : ℕ) (h : SpellsFirst line kind from to c) → Knows line from false false → Begins line from true → Goes line from to (first_tokens line kind from to c h) false false
    first no_child kind from to h k m = ended kind from to h k
    first (child name t rest) kind from to h k m =
        let white = white_space line from h.0 h.1 k in
        let named = label kind h.0 (span t).start name h.2 white.0.knows (white.1 m) in
        let this = tree t h.3 named.0.knows named.1 in
        then line from h.0 to [] _ false false false false white.0
        (then line h.0 (span t).start to _ _ false false false false named.0
        (then line (span t).start (span t).end to _ _ false false false false this (more rest kind (span t).end to h.4 this.knows)))

    more : (c : Children) (kind : Container) (from to : ℕ) (h : SpellsMore line kind from to c) → Knows line from false false → Goes line from to (more_tokens line kind from to c h) false false
    more no_child kind from to h k = ended kind from to h k
    more (child name t rest) kind from to h k =
        let parted = separated 0x2C from h.0 h.1 comma k in
        let named = label kind h.0 (span t).start name h.2 parted.0.knows parted.1 in
        let this = tree t h.3 named.0.knows named.1 in
        then line from h.0 to (h.1.place ∷ []) _ false false false false parted.0
        (then line h.0 (span t).start to _ _ false false false false named.0
        (then line (span t).start (span t).end to _ _ false false false false this (more rest kind (span t).end to h.4 this.knows)))

pub marks_are_its_tokens : (line : List ℕ) (t : Tree) (text : Text line t) → Goes line 0 (length line) (tokens line t text.value) false false
marks_are_its_tokens line t text =
    let white = white_space line 0 (span t).start text.before (at_start line).0 in
    let this = tree line t text.value white.0.knows (white.1 (at_start line).1) in
    let behind = white_space line (span t).end (length line) text.after this.knows in
    subst (λ (positions : List ℕ). Goes line 0 (length line) positions false false) (append-nil (tokens line t text.value))
    (then line 0 (span t).start (length line) [] (tokens line t text.value ++ []) false false false false white.0
    (then line (span t).start (span t).end (length line) (tokens line t text.value) [] false false false false this behind.0))
