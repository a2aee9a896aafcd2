-- The bytes of an element are kept, up to its comma or the bracket of its array.
use Rattle.std.proofs.Common.{◌≡◌, ℕ, ◌<◌, Bool, true, false, ◌&&◌, List, [], ◌∷◌, ◌++◌, length, refl, sym, ap, subst, ◌∙◌, arith}
use Rattle.std.specs.Bool.{⊤}
use Rattle.std.specs.Prelude.{◌==◌, if◌then◌else◌}
use Rattle.std.proofs.lemmas.List.Sums.{fold-append}
use Rattle.jp_model.specs.Characters.{is_white}
use Rattle.jp_model.specs.Json.Numbers.{numeral_bytes}
use Rattle.jp_model.specs.Json.Places.{bytes_between}
use Rattle.jp_model.specs.Json.Spelling.{opening, closing, word_of, null_word}
use Rattle.jp_model.specs.Json.Tree.{Tree, node, Value, null, boolean, number, string, container, Container, array, object, span}
use Rattle.jp_model.proofs.Reader.Lexical.{each_white}
use Rattle.jp_cut.specs.Machine.{is_whole, behind, nothing_open, does, element}
use Rattle.jp_cut.specs.Passing.{behind_all}
use Rattle.jp_cut.specs.declared.machine.Place.TheVariants.{Between, NextElement, Element}
use Rattle.jp_cut.specs.declared.machine.Known.{Known}
use Rattle.jp_cut.specs.declared.machine.Turn.TheVariants.{Kept, Last, Ended}
use Rattle.jp_cut.proofs.Passing.{kept_in_element}
use Rattle.jp_cut_laws.specs.Elements.{IsElement}
use Rattle.jp_cut_laws.proofs.Crossing.{Each, outside, within, StaysUnfinished, Crosses, IsPlain, plain_behind, white_plain}
use Rattle.jp_cut_laws.proofs.Parts.{between_none, or_false}
use Rattle.jp_cut_laws.proofs.Values.{IsOfWord, null_of_word, boolean_of_word, numeral_of_word, first_crosses, characters_cross, open_of_word_by}
use Rattle.jp_cut_laws.proofs.Whole.{accepted_parts}
use Rattle.jp_cut_laws.proofs.Written.{IsWhite, Writes, WritesValue}

-- each of some bytes is kept
abbrev pub KeepEach : Known → List ℕ → Type 0
KeepEach known [] = ⊤
KeepEach known (byte ∷ rest) = (element known byte ≡ does Kept (behind known byte)) × KeepEach (behind known byte) rest

-- and this is known after them
pub record Keep (known : Known) (bytes : List ℕ) (next : Known) : Type 0 where
  pub each : KeepEach known bytes
  pub same : behind_all known bytes ≡ next

keep_each_join : (known : Known) (first second : List ℕ) → KeepEach known first → KeepEach (behind_all known first) second → KeepEach known (first ++ second)
keep_each_join known [] second a b = b
keep_each_join known (byte ∷ rest) second a b = (a.0, keep_each_join (behind known byte) rest second a.1 b)

keep_join : (known middle next : Known) (first second : List ℕ) → Keep known first middle → Keep middle second next → Keep known (first ++ second) next
keep_join known middle next first second h g = record {
  each = keep_each_join known first second h.each (subst (λ (k : Known). KeepEach k second) (sym h.same) g.each);
  same = fold-append behind known first second ∙ ap (λ (k : Known). behind_all k second) h.same ∙ g.same;
}

-- a byte, and what follows
keep_then : (known middle next : Known) (byte : ℕ) (rest : List ℕ) → element known byte ≡ does Kept middle → behind known byte ≡ middle → Keep middle rest next → Keep known (byte ∷ rest) next
keep_then known middle next byte rest e b g = record {
  each = (e ∙ ap (does Kept) (sym b), subst (λ (k : Known). KeepEach k rest) (sym b) g.each);
  same = ap (λ (k : Known). behind_all k rest) b ∙ g.same;
}

crosses_each : (known : Known) (bytes : List ℕ) → StaysUnfinished known bytes → KeepEach known bytes
crosses_each known [] h = tt
crosses_each known (byte ∷ rest) h = (kept_in_element (is_whole known) (byte == 0x2C) (byte == 0x5D) (byte == 0x7D) (behind known byte) h.0, crosses_each (behind known byte) rest h.1)

keep_crossed : (known next : Known) (bytes : List ℕ) → Crosses known bytes next → Keep known bytes next
keep_crossed known next bytes h = record { each = crosses_each known bytes h.stays; same = h.same }

-- ---- bytes where nothing is open

abbrev pub whole : Known
whole = nothing_open Element

-- a byte that is no comma and neither opens nor closes a bracket or a string
record IsKept (byte : ℕ) : Type 0 where
  no_comma : (byte == 0x2C) ≡ false
  plain : IsPlain byte

no_end : (w a b c : Bool) (known : Known) → a ≡ false → b ≡ false → c ≡ false
    → (if w && a then does Ended (nothing_open NextElement) else (if w && b then does Ended (nothing_open Between) else (if w && c then does Last (nothing_open Between) else does Kept known))) ≡ does Kept known
no_end false a b c known p q r = refl
no_end true true b c known p q r = absurd (cc)
no_end true false true c known p q r = absurd (cc)
no_end true false false true known p q r = absurd (cc)
no_end true false false false known p q r = refl

keep_plain : (bytes : List ℕ) → Each IsKept bytes → Keep whole bytes whole
keep_plain [] h = record { each = tt; same = refl }
keep_plain (byte ∷ rest) h =
    let brackets = or_false (byte == 0x5D) (byte == 0x7D) h.0.plain.no_closing in
    let same = plain_behind Element 0 byte h.0.plain in
    keep_then whole whole whole byte rest (no_end (is_whole whole) (byte == 0x2C) (byte == 0x5D) (byte == 0x7D) (behind whole byte) h.0.no_comma brackets.0 brackets.1 ∙ ap (does Kept) same) same (keep_plain rest h.1)

words_kept : (bytes : List ℕ) → Each IsOfWord bytes → Each IsKept bytes
words_kept [] h = tt
words_kept (byte ∷ rest) h = (record { no_comma = h.0.no_comma; plain = h.0.plain }, words_kept rest h.1)

white_kept : (bytes : List ℕ) → IsWhite bytes → Each IsKept bytes
white_kept [] h = tt
white_kept (byte ∷ rest) h = (record { no_comma = each_white (λ b. (b == 0x2C) ≡ false) refl refl refl refl byte h.0; plain = white_plain byte h.0 }, white_kept rest h.1)

-- ---- values

open_bracket : (kind : Container) → (element whole (opening kind) ≡ does Kept (outside Element 1)) × (behind whole (opening kind) ≡ outside Element 1)
open_bracket array = (refl, refl)
open_bracket object = (refl, refl)

close_bracket : (kind : Container) → (element (outside Element 1) (closing kind) ≡ does Kept whole) × (behind (outside Element 1) (closing kind) ≡ whole)
close_bracket array = (refl, refl)
close_bracket object = (refl, refl)

keep_value : (v : Value) (bytes : List ℕ) → WritesValue bytes v → Keep whole bytes whole
keep_value null bytes h = subst (λ xs. Keep whole xs whole) (sym h) (keep_plain null_word (words_kept null_word null_of_word))
keep_value (boolean b) bytes h = subst (λ xs. Keep whole xs whole) (sym h) (keep_plain (word_of b) (words_kept (word_of b) (boolean_of_word b)))
keep_value (number m e) bytes h = subst (λ xs. Keep whole xs whole) h.joined (keep_plain (numeral_bytes h.numeral) (words_kept (numeral_bytes h.numeral) (numeral_of_word h.numeral h.correct)))
keep_value (string points) bytes h =
    let inside = within Element 0 in
    subst (λ xs. Keep whole xs whole) (sym h.joined)
    (keep_then whole inside whole 0x22 (h.body ++ 0x22 ∷ []) refl refl
    (keep_join inside inside whole h.body (0x22 ∷ []) (keep_crossed inside inside h.body (characters_cross Element 0 h.units h.body h.characters))
    (keep_then inside whole whole 0x22 [] refl refl (record { each = tt; same = refl }))))
keep_value (container kind children) bytes h =
    let deeper = outside Element 1 in
    let found = first_crosses Element children kind 1 h.0 (omega arith) h.2 in
    subst (λ xs. Keep whole xs whole) (sym (h.1 ∙ ap (λ xs. opening kind ∷ xs) found.joined))
    (keep_then whole deeper whole (opening kind) (found.front ++ closing kind ∷ []) (open_bracket kind).0 (open_bracket kind).1
    (keep_join deeper deeper whole found.front (closing kind ∷ []) (keep_crossed deeper deeper found.front found.crosses)
    (keep_then deeper whole whole (closing kind) [] (close_bracket kind).0 (close_bracket kind).1 (record { each = tt; same = refl }))))

keep_tree : (t : Tree) (bytes : List ℕ) → Writes bytes t → Keep whole bytes whole
keep_tree (node s v) bytes h = keep_value v bytes h

-- the first byte of a value
pub record Begins (bytes : List ℕ) : Type 0 where
  pub byte : ℕ
  pub rest : List ℕ
  pub joined : bytes ≡ byte ∷ rest
  pub no_white : is_white byte ≡ false
  pub no_bracket : (byte == 0x5D) ≡ false

begins_with : (byte : ℕ) (rest bytes : List ℕ) → bytes ≡ byte ∷ rest → is_white byte ≡ false → (byte == 0x5D) ≡ false → Begins bytes
begins_with byte rest bytes e w b = record { byte = byte; rest = rest; joined = e; no_white = w; no_bracket = b }

word_begins_with : (bytes : List ℕ) → Each IsOfWord bytes × (0 < length bytes) → Begins bytes
word_begins_with [] h = absurd (let l = h.1 in omega (arith, l))
word_begins_with (byte ∷ rest) h = begins_with byte rest (byte ∷ rest) refl h.0.0.no_white (or_false (byte == 0x5D) (byte == 0x7D) h.0.0.plain.no_closing).0

value_begins : (v : Value) (bytes : List ℕ) → WritesValue bytes v → Begins bytes
value_begins null bytes h = word_begins_with bytes (open_of_word_by null bytes h refl)
value_begins (boolean b) bytes h = word_begins_with bytes (open_of_word_by (boolean b) bytes h refl)
value_begins (number m e) bytes h = word_begins_with bytes (open_of_word_by (number m e) bytes h refl)
value_begins (string points) bytes h = begins_with 0x22 (h.body ++ 0x22 ∷ []) bytes h.joined refl refl
value_begins (container array children) bytes h = begins_with 0x5B h.0 bytes h.1 refl refl
value_begins (container object children) bytes h = begins_with 0x7B h.0 bytes h.1 refl refl

tree_begins : (t : Tree) (bytes : List ℕ) → Writes bytes t → Begins bytes
tree_begins (node s v) bytes h = value_begins v bytes h

-- ---- an element with white space after it

pub element_begins : (bytes : List ℕ) (t : Tree) → IsElement bytes t → Begins bytes × Keep whole bytes whole
element_begins bytes t h =
    let parts = accepted_parts bytes t h.accepted in
    let value = bytes_between bytes (span t).start (span t).end in
    let none : parts.before ≡ [] = parts.is_before ∙ ap (bytes_between bytes 0) h.start ∙ between_none bytes 0 in
    let joined : bytes ≡ value ++ parts.after = parts.joined ∙ ap (λ xs. xs ++ (value ++ parts.after)) none in
    let first = tree_begins t value parts.writes in (
      begins_with first.byte (first.rest ++ parts.after) bytes (joined ∙ ap (λ xs. xs ++ parts.after) first.joined) first.no_white first.no_bracket,
      subst (λ xs. Keep whole xs whole) (sym joined) (keep_join whole whole whole value parts.after (keep_tree t value parts.writes) (keep_plain parts.after (white_kept parts.after parts.white_after))),
    )
