-- What is known after a value is what was known before it.
use Rattle.std.proofs.Common.{◌≡◌, ℕ, ◌+◌, ◌-◌, ◌<◌, inl, inr, Bool, true, false, cond, List, [], ◌∷◌, ◌++◌, length, Option, Some, None, refl, sym, ap, subst, ◌∙◌, arith, append_assoc}
use Rattle.std.specs.Prelude.{◌==◌}
use Rattle.std.proofs.lemmas.Bool.Decides.{nat_tests}
use Rattle.jp_model.specs.Characters.{is_white, is_quote, is_backslash, is_digit}
use Rattle.jp_model.specs.Json.Numbers.{AreDigits, Sign, no_sign, plus_sign, minus_sign, Exponent, IsExponent, Numeral, IsNumeral, minus_bytes, fraction_bytes, sign_bytes, exponent_bytes, numeral_bytes}
use Rattle.jp_model.specs.Json.Faults.{has_open_end}
use Rattle.jp_model.proofs.Reader.Whole.{int_long}
use Rattle.jp_model.specs.Json.Spelling.{opening, closing, word_of, null_word}
use Rattle.jp_model.specs.Json.Tree.{Tree, node, Value, null, boolean, number, string, container, Container, array, object, Children, no_child, child, Name, value_of}
use Rattle.jp_model.proofs.Reader.Numbers.{int_digits, some_digits}
use Rattle.jp_cut.specs.Machine.{is_opening, is_closing, behind}
use Rattle.jp_cut.specs.declared.machine.Place.{Place}
use Rattle.jp_cut_laws.proofs.Written.{IsWhite, IsSeparator, IsEnd, IsCharacter, AreCharacters, IsString, IsLabel, Writes, WritesValue, WritesFirst, WritesMore}
use Rattle.jp_cut_laws.proofs.Crossing.{Each, each_append, outside, within, Crosses, crosses_join, crosses_none, crosses_one, crosses_then, outside_open, within_open, IsPlain, plain_crosses, white_plain, IsQuiet, quiet_crosses, escape_crosses, encode_quiet, digits_quiet}

-- ---- words and numbers

-- a byte of a number or a word
pub record IsOfWord (byte : ℕ) : Type 0 where
  pub low : byte < 128
  pub no_white : is_white byte ≡ false
  pub no_comma : (byte == 0x2C) ≡ false
  pub plain : IsPlain byte

pub words_plain : (bytes : List ℕ) → Each IsOfWord bytes → Each IsPlain bytes
words_plain [] h = tt
words_plain (byte ∷ rest) h = (h.0.plain, words_plain rest h.1)

digit_of_word : (d : ℕ) → is_digit d ≡ true → IsOfWord d
digit_of_word d h = record {
  low = grind (arith, nat_tests, h);
  no_white = grind (arith, nat_tests, h);
  no_comma = grind (arith, nat_tests, h);
  plain = record { no_opening = grind (arith, nat_tests, h); no_closing = grind (arith, nat_tests, h); no_quote = grind (arith, nat_tests, h); no_backslash = grind (arith, nat_tests, h) };
}

-- a byte of which each test computes
abbrev computed : (byte : ℕ) → byte < 128 → is_white byte ≡ false → (byte == 0x2C) ≡ false → is_opening byte ≡ false → is_closing byte ≡ false → is_quote byte ≡ false → is_backslash byte ≡ false → IsOfWord byte
computed byte l a b c d e f = record { low = l; no_white = a; no_comma = b; plain = record { no_opening = c; no_closing = d; no_quote = e; no_backslash = f } }

digits_of_word : (ds : List ℕ) → AreDigits ds → Each IsOfWord ds
digits_of_word [] a = tt
digits_of_word (d ∷ ds) a = (digit_of_word d a.0, digits_of_word ds a.1)

minus_of_word : (b : Bool) → Each IsOfWord (minus_bytes b)
minus_of_word true = (computed 0x2D (omega arith) refl refl refl refl refl refl, tt)
minus_of_word false = tt

fraction_of_word : (ds : List ℕ) → AreDigits ds → Each IsOfWord (fraction_bytes ds)
fraction_of_word [] a = tt
fraction_of_word (d ∷ ds) a = (computed 0x2E (omega arith) refl refl refl refl refl refl, digits_of_word (d ∷ ds) a)

sign_of_word : (s : Sign) → Each IsOfWord (sign_bytes s)
sign_of_word no_sign = tt
sign_of_word plus_sign = (computed 0x2B (omega arith) refl refl refl refl refl refl, tt)
sign_of_word minus_sign = (computed 0x2D (omega arith) refl refl refl refl refl refl, tt)

letter_of_word : (b : Bool) → IsOfWord (cond b 0x45 0x65)
letter_of_word true = computed 0x45 (omega arith) refl refl refl refl refl refl
letter_of_word false = computed 0x65 (omega arith) refl refl refl refl refl refl

exponent_of_word : (e : Option Exponent) → IsExponent e → Each IsOfWord (exponent_bytes e)
exponent_of_word None h = tt
exponent_of_word (Some e) h = (letter_of_word e.capital, each_append IsOfWord (sign_bytes e.sign) e.digits (sign_of_word e.sign) (digits_of_word e.digits (some_digits e.digits h)))

pub numeral_of_word : (n : Numeral) → IsNumeral n → Each IsOfWord (numeral_bytes n)
numeral_of_word n h =
    each_append IsOfWord (minus_bytes n.negative) _ (minus_of_word n.negative)
    (each_append IsOfWord n.int _ (digits_of_word n.int (int_digits n.int h.int)) (each_append IsOfWord (fraction_bytes n.fraction) (exponent_bytes n.exponent) (fraction_of_word n.fraction h.fraction) (exponent_of_word n.exponent h.exponent)))

pub null_of_word : Each IsOfWord null_word
null_of_word = (computed 0x6E (omega arith) refl refl refl refl refl refl, (computed 0x75 (omega arith) refl refl refl refl refl refl, (computed 0x6C (omega arith) refl refl refl refl refl refl, (computed 0x6C (omega arith) refl refl refl refl refl refl, tt))))

pub boolean_of_word : (b : Bool) → Each IsOfWord (word_of b)
boolean_of_word true = (computed 0x74 (omega arith) refl refl refl refl refl refl, (computed 0x72 (omega arith) refl refl refl refl refl refl, (computed 0x75 (omega arith) refl refl refl refl refl refl, (computed 0x65 (omega arith) refl refl refl refl refl refl, tt))))
boolean_of_word false = (computed 0x66 (omega arith) refl refl refl refl refl refl, (computed 0x61 (omega arith) refl refl refl refl refl refl, (computed 0x6C (omega arith) refl refl refl refl refl refl, (computed 0x73 (omega arith) refl refl refl refl refl refl, (computed 0x65 (omega arith) refl refl refl refl refl refl, tt)))))

-- a value whose bytes alone do not show its end has bytes of a word alone, and at least one
pub open_of_word_by : (v : Value) (bytes : List ℕ) → WritesValue bytes v → has_open_end v ≡ true → Each IsOfWord bytes × (0 < length bytes)
open_of_word_by null bytes h e = subst (λ xs. Each IsOfWord xs × (0 < length xs)) (sym h) (null_of_word, omega arith)
open_of_word_by (boolean true) bytes h e = subst (λ xs. Each IsOfWord xs × (0 < length xs)) (sym h) (boolean_of_word true, omega arith)
open_of_word_by (boolean false) bytes h e = subst (λ xs. Each IsOfWord xs × (0 < length xs)) (sym h) (boolean_of_word false, omega arith)
open_of_word_by (number m x) bytes h e =
    let long = int_long h.numeral.negative h.numeral.int (fraction_bytes h.numeral.fraction ++ exponent_bytes h.numeral.exponent) h.correct.int in
    subst (λ xs. Each IsOfWord xs × (0 < length xs)) h.joined (numeral_of_word h.numeral h.correct, omega (arith, long))
open_of_word_by (string points) bytes h e = absurd (cc)
open_of_word_by (container kind children) bytes h e = absurd (cc)

pub open_of_word : (t : Tree) (bytes : List ℕ) → Writes bytes t → has_open_end (value_of t) ≡ true → Each IsOfWord bytes × (0 < length bytes)
open_of_word (node s v) bytes h e = open_of_word_by v bytes h e

-- ---- brackets

pub opened : (place : Place) (depth : ℕ) (kind : Container) → behind (outside place depth) (opening kind) ≡ outside place (depth + 1)
opened place depth array = refl
opened place depth object = refl

pub closed : (place : Place) (depth : ℕ) (kind : Container) → behind (outside place (depth + 1)) (closing kind) ≡ outside place depth
closed place depth array = ap (outside place) (let e : depth + 1 - 1 ≡ depth = omega arith in e)
closed place depth object = ap (outside place) (let e : depth + 1 - 1 ≡ depth = omega arith in e)

comma_plain : IsPlain 0x2C
comma_plain = record { no_opening = refl; no_closing = refl; no_quote = refl; no_backslash = refl }

colon_plain : IsPlain 0x3A
colon_plain = record { no_opening = refl; no_closing = refl; no_quote = refl; no_backslash = refl }

pub whites_plain : (bytes : List ℕ) → IsWhite bytes → Each IsPlain bytes
whites_plain [] h = tt
whites_plain (byte ∷ rest) h = (white_plain byte h.0, whites_plain rest h.1)

separator_plain : (b : ℕ) (bytes : List ℕ) → IsPlain b → IsSeparator b bytes → Each IsPlain bytes
separator_plain b bytes plain h =
    subst (Each IsPlain) (sym h.joined) (each_append IsPlain h.before (b ∷ h.after) (whites_plain h.before h.white_before) (plain, whites_plain h.after h.white_after))

-- ---- strings

module _ (place : Place) (depth : ℕ) where
  character_crosses : (bytes : List ℕ) (unit : ℕ) → IsCharacter bytes unit → Crosses (within place depth) bytes (within place depth)
  character_crosses bytes unit (inl h) = quiet_crosses place depth bytes (subst (Each IsQuiet) (sym h.joined) (encode_quiet unit h.no_quote h.no_backslash))
  character_crosses bytes unit (inr (inl h)) = subst (λ xs. Crosses (within place depth) xs (within place depth)) (sym h.joined) (escape_crosses place depth h.letter [] tt)
  character_crosses bytes unit (inr (inr h)) =
      subst (λ xs. Crosses (within place depth) xs (within place depth)) (sym h.joined) (escape_crosses place depth 0x75 (h.a ∷ h.b ∷ h.c ∷ h.d ∷ []) (digits_quiet h.a h.b h.c h.d unit h.spells))

  pub characters_cross : (units bytes : List ℕ) → AreCharacters bytes units → Crosses (within place depth) bytes (within place depth)
  characters_cross [] bytes h = subst (λ xs. Crosses (within place depth) xs (within place depth)) (sym h) (crosses_none (within place depth) (within_open place depth))
  characters_cross (unit ∷ units) bytes h =
      subst (λ xs. Crosses (within place depth) xs (within place depth)) (sym h.2)
      (crosses_join (within place depth) (within place depth) (within place depth) h.0 h.1 (character_crosses h.0 unit h.3) (characters_cross units h.1 h.4))

  string_crosses : (bytes points : List ℕ) → 0 < depth → IsString bytes points → Crosses (outside place depth) bytes (outside place depth)
  string_crosses bytes points some h =
      subst (λ xs. Crosses (outside place depth) xs (outside place depth)) (sym h.joined)
      (crosses_then (outside place depth) (within place depth) (outside place depth) 0x22 (h.body ++ 0x22 ∷ []) (outside_open place depth some) refl
      (crosses_join (within place depth) (within place depth) (outside place depth) h.body (0x22 ∷ []) (characters_cross h.units h.body h.characters)
      (crosses_one (within place depth) (outside place depth) 0x22 (within_open place depth) (outside_open place depth some) refl)))

  label_crosses : (kind : Container) (bytes : List ℕ) (name : Option Name) → 0 < depth → IsLabel kind bytes name → Crosses (outside place depth) bytes (outside place depth)
  label_crosses array bytes None some h = subst (λ xs. Crosses (outside place depth) xs (outside place depth)) (sym h) (crosses_none (outside place depth) (outside_open place depth some))
  label_crosses array bytes (Some name) some h = absurd h
  label_crosses object bytes None some h = absurd h
  label_crosses object bytes (Some name) some h =
      subst (λ xs. Crosses (outside place depth) xs (outside place depth)) (sym h.joined)
      (crosses_join (outside place depth) (outside place depth) (outside place depth) h.name h.colon (string_crosses h.name name.points some h.quoted)
      (plain_crosses place depth h.colon some (separator_plain 0x3A h.colon colon_plain h.separator)))

-- ---- values

-- bytes that cross, and a closing bracket
pub record Inside (place : Place) (depth : ℕ) (kind : Container) (bytes : List ℕ) : Type 0 where
  pub front : List ℕ
  pub joined : bytes ≡ front ++ closing kind ∷ []
  pub crosses : Crosses (outside place depth) front (outside place depth)

module _ (place : Place) where
  ended : (kind : Container) (depth : ℕ) (bytes : List ℕ) → 0 < depth → IsEnd kind bytes → Inside place depth kind bytes
  ended kind depth bytes some h = record { front = h.before; joined = h.joined; crosses = plain_crosses place depth h.before some (whites_plain h.before h.white) }

  four : (a b c rest bytes front last : List ℕ) → bytes ≡ a ++ (b ++ (c ++ rest)) → rest ≡ front ++ last → bytes ≡ (a ++ (b ++ (c ++ front))) ++ last
  four a b c rest bytes front last e r =
      e ∙ ap (λ xs. a ++ (b ++ (c ++ xs))) r ∙ sym (append_assoc a (b ++ (c ++ front)) last ∙ ap (λ xs. a ++ xs) (append_assoc b (c ++ front) last ∙ ap (λ xs. b ++ xs) (append_assoc c front last)))

  four_cross : (depth : ℕ) (a b c front : List ℕ) → Crosses (outside place depth) a (outside place depth) → Crosses (outside place depth) b (outside place depth) → Crosses (outside place depth) c (outside place depth) → Crosses (outside place depth) front (outside place depth) → Crosses (outside place depth) (a ++ (b ++ (c ++ front))) (outside place depth)
  four_cross depth a b c front p q r s =
      let k = outside place depth in
      crosses_join k k k a (b ++ (c ++ front)) p (crosses_join k k k b (c ++ front) q (crosses_join k k k c front r s))

  mutual
    pub tree_crosses : (t : Tree) (depth : ℕ) (bytes : List ℕ) → 0 < depth → Writes bytes t → Crosses (outside place depth) bytes (outside place depth)
    tree_crosses (node s v) depth bytes some h = value_crosses v depth bytes some h

    value_crosses : (v : Value) (depth : ℕ) (bytes : List ℕ) → 0 < depth → WritesValue bytes v → Crosses (outside place depth) bytes (outside place depth)
    value_crosses null depth bytes some h = plain_crosses place depth bytes some (subst (Each IsPlain) (sym h) (words_plain null_word null_of_word))
    value_crosses (boolean b) depth bytes some h = plain_crosses place depth bytes some (subst (Each IsPlain) (sym h) (words_plain (word_of b) (boolean_of_word b)))
    value_crosses (number m e) depth bytes some h = plain_crosses place depth bytes some (subst (Each IsPlain) h.joined (words_plain (numeral_bytes h.numeral) (numeral_of_word h.numeral h.correct)))
    value_crosses (string points) depth bytes some h = string_crosses place depth bytes points some h
    value_crosses (container kind children) depth bytes some h =
        let k = outside place depth in
        let deeper = outside place (depth + 1) in
        let inside = first_crosses children kind (depth + 1) h.0 (omega arith) h.2 in
        subst (λ xs. Crosses k xs k) (sym (h.1 ∙ ap (λ xs. opening kind ∷ xs) inside.joined))
        (crosses_then k deeper k (opening kind) (inside.front ++ closing kind ∷ []) (outside_open place depth some) (opened place depth kind)
        (crosses_join deeper deeper k inside.front (closing kind ∷ []) inside.crosses
        (crosses_one deeper k (closing kind) (outside_open place (depth + 1) (omega arith)) (outside_open place depth some) (closed place depth kind))))

    pub first_crosses : (c : Children) (kind : Container) (depth : ℕ) (bytes : List ℕ) → 0 < depth → WritesFirst kind bytes c → Inside place depth kind bytes
    first_crosses no_child kind depth bytes some h = ended kind depth bytes some h
    first_crosses (child name t rest) kind depth bytes some h =
        let more = more_crosses rest kind depth h.3 some h.8 in
        record {
          front = h.0 ++ (h.1 ++ (h.2 ++ more.front));
          joined = four h.0 h.1 h.2 h.3 bytes more.front (closing kind ∷ []) h.4 more.joined;
          crosses = four_cross depth h.0 h.1 h.2 more.front (plain_crosses place depth h.0 some (whites_plain h.0 h.5)) (label_crosses place depth kind h.1 name some h.6) (tree_crosses t depth h.2 some h.7) more.crosses;
        }

    more_crosses : (c : Children) (kind : Container) (depth : ℕ) (bytes : List ℕ) → 0 < depth → WritesMore kind bytes c → Inside place depth kind bytes
    more_crosses no_child kind depth bytes some h = ended kind depth bytes some h
    more_crosses (child name t rest) kind depth bytes some h =
        let more = more_crosses rest kind depth h.3 some h.8 in
        record {
          front = h.0 ++ (h.1 ++ (h.2 ++ more.front));
          joined = four h.0 h.1 h.2 h.3 bytes more.front (closing kind ∷ []) h.4 more.joined;
          crosses = four_cross depth h.0 h.1 h.2 more.front (plain_crosses place depth h.0 some (separator_plain 0x2C h.0 comma_plain h.5)) (label_crosses place depth kind h.1 name some h.6) (tree_crosses t depth h.2 some h.7) more.crosses;
        }
