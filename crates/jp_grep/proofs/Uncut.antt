-- Among the first bytes of a mark of another format no JSON text and no element ends.
use Rattle.std.proofs.Common.{◌≡◌, ◌∙◌, ◌&&◌, ◌||◌, ℕ, suc, zero, List, [], ◌∷◌, ◌++◌, drop, take, Bool, true, false, eqb, fold, ◌==◌, refl, sym, ap, ap₂, arith, if◌then◌else◌, None, Some}
use Rattle.std.specs.List.{starts_with}
use Rattle.std.proofs.lemmas.Bool.{eqb-true}
use Rattle.jp_model.specs.Characters.{is_quote, is_white, text_equal}
use Rattle.jp_model.specs.Lines.{without_byte_order_mark}
use Rattle.jp_cut.specs.Cuts.{Cut, cut_of, pieces_come, start, take_in, turned}
use Rattle.jp_cut.specs.Machine.{begin, behind, behind_word, does, ends_word, is_array_start, is_opening, nothing_open, step}
use Rattle.jp_cut.specs.declared.machine.Pieces.{Pieces}
use Rattle.jp_cut.specs.declared.machine.Pieces.TheVariants.{Texts, Elements}
use Rattle.jp_cut.specs.declared.machine.Place.TheVariants.{Between, Word, Text, ArrayStart}
use Rattle.jp_cut.specs.declared.machine.Turn.TheVariants.{Passed, Kept}
use Rattle.jp_grep.specs.Formats.{Mark as FormatMark, begins_mark, begins_one, first_format, format_of, marks}
use Rattle.jp_grep.proofs.Marked.{Mark}

-- no byte of these ends a word
abbrev are_plain : List ℕ → Bool
are_plain [] = true
are_plain (byte ∷ rest) = if ends_word byte then false else are_plain rest

abbrev all_plain : List FormatMark → Bool
all_plain [] = true
all_plain (mark ∷ rest) = if are_plain mark.bytes then all_plain rest else false

none_true : (b rest : Bool) → (if b then false else rest) ≡ true → (b ≡ false) × (rest ≡ true)
none_true true rest h = absurd (cc)
none_true false rest h = (refl, h)

both_true : (b rest : Bool) → (if b then rest else false) ≡ true → (b ≡ true) × (rest ≡ true)
both_true true rest h = (refl, h)
both_true false rest h = absurd (cc)

and_true : (a b : Bool) → (a && b) ≡ true → (a ≡ true) × (b ≡ true)
and_true true b h = (refl, h)
and_true false b h = absurd (cc)

-- the beginning of a plain mark is plain
begun_plain : (mark bytes : List ℕ) → starts_with eqb mark bytes ≡ true → are_plain mark ≡ true → are_plain bytes ≡ true
begun_plain mark [] s h = refl
begun_plain [] (b ∷ bytes) s h = absurd (cc)
begun_plain (m ∷ mark) (b ∷ bytes) s h =
    let same = and_true (eqb b m) (starts_with eqb mark bytes) s in
    let plain = none_true (ends_word m) (are_plain mark) h in
    ap₂ (λ (e r : Bool). if e then false else r) (ap ends_word (eqb-true b m same.0) ∙ plain.0) (begun_plain mark bytes same.1 plain.1)

one_plain : (some : List FormatMark) (bytes : List ℕ) → begins_one some bytes ≡ true → all_plain some ≡ true → are_plain bytes ≡ true
one_plain [] bytes s h = absurd (cc)
one_plain (mark ∷ rest) bytes s h = by (starts_with eqb mark.bytes bytes) refl (λ e. one_plain rest bytes e (both_true (are_plain mark.bytes) (all_plain rest) h).1)
  where
    by : (v : Bool) → starts_with eqb mark.bytes bytes ≡ v → (begins_one rest bytes ≡ true → are_plain bytes ≡ true) → are_plain bytes ≡ true
    by true e later = begun_plain mark.bytes bytes e (both_true (are_plain mark.bytes) (all_plain rest) h).0
    by false e later = later (sym (ap (λ b. b || begins_one rest bytes) e) ∙ s)

plain_dropped : (n : ℕ) (bytes : List ℕ) → are_plain bytes ≡ true → are_plain (drop n bytes) ≡ true
plain_dropped zero bytes h = h
plain_dropped (suc n) [] h = refl
plain_dropped (suc n) (b ∷ bytes) h = plain_dropped n bytes (none_true (ends_word b) (are_plain bytes) h).1

plain_unmarked : (bytes : List ℕ) → are_plain bytes ≡ true → are_plain (without_byte_order_mark bytes) ≡ true
plain_unmarked bytes h = by (text_equal (take 3 bytes) Mark)
  where
    by : (b : Bool) → are_plain (if b then drop 3 bytes else bytes) ≡ true
    by true = plain_dropped 3 bytes h
    by false = h

neither : (a b : Bool) → (a || b) ≡ false → (a ≡ false) × (b ≡ false)
neither true b h = absurd (cc)
neither false b h = (refl, h)

opens_array : (pieces : Pieces) (byte : ℕ) → is_opening byte ≡ false → is_array_start pieces byte ≡ false
opens_array Texts byte h = refl
opens_array Elements byte h = (neither (byte == 0x5B) (byte == 0x7B) h).0

begins_word : (pieces : Pieces) (byte : ℕ) → ends_word byte ≡ false → begin pieces byte ≡ does Kept (nothing_open Word)
begins_word pieces byte plain =
    let quote = neither (is_white byte || is_opening byte) (is_quote byte) plain in
    let white = neither (is_white byte) (is_opening byte) quote.0 in
    ap₂ (λ (a b : Bool). if a then does Passed (nothing_open Between)
    else (if b then does Passed (nothing_open ArrayStart)
    else (if is_opening byte || is_quote byte then does Kept (behind (nothing_open Text) byte) else does Kept (nothing_open Word)))) white.0 (opens_array pieces byte white.1)
    ∙ ap₂ (λ (a b : Bool). if a || b then does Kept (behind (nothing_open Text) byte) else does Kept (nothing_open Word)) white.1 quote.1

-- a byte that ends no word is one of it
word_keeps : (pieces : Pieces) (cut : Cut) (byte : ℕ) → cut.known ≡ nothing_open Word → ends_word byte ≡ false
    → ((take_in pieces cut byte).ended ≡ cut.ended) × ((take_in pieces cut byte).known ≡ nothing_open Word)
unfolding take_in step
word_keeps pieces cut byte word plain =
    let stays = ap (λ k. step pieces k byte) word ∙ ap (λ (b : Bool). if b then does (behind_word (begin pieces byte).turn) (begin pieces byte).known else does Kept (nothing_open Word)) plain in
    (ap (λ s. (turned s.turn cut byte).ended) stays, ap (λ s. s.known) stays)

-- or begins one
word_begins : (pieces : Pieces) (byte : ℕ) → ends_word byte ≡ false → ((take_in pieces start byte).ended ≡ []) × ((take_in pieces start byte).known ≡ nothing_open Word)
unfolding take_in step
word_begins pieces byte plain =
    let stays = begins_word pieces byte plain in
    (ap (λ s. (turned s.turn start byte).ended) stays, ap (λ s. s.known) stays)

-- a word goes on with each of them
word_goes_on : (pieces : Pieces) (cut : Cut) (bytes : List ℕ) → cut.ended ≡ [] → cut.known ≡ nothing_open Word → are_plain bytes ≡ true → (fold (take_in pieces) cut bytes).ended ≡ []
word_goes_on pieces cut [] none word h = none
word_goes_on pieces cut (b ∷ bytes) none word h =
    let plain = none_true (ends_word b) (are_plain bytes) h in
    let next = word_keeps pieces cut b word plain.0 in
    word_goes_on pieces (take_in pieces cut b) bytes (next.0 ∙ none) next.1 plain.1

plain_uncut : (pieces : Pieces) (bytes : List ℕ) → are_plain bytes ≡ true → (cut_of pieces bytes).ended ≡ []
unfolding cut_of
plain_uncut pieces [] h = refl
plain_uncut pieces (b ∷ bytes) h =
    let plain = none_true (ends_word b) (are_plain bytes) h in
    let next = word_begins pieces b plain.0 in
    word_goes_on pieces (take_in pieces start b) bytes next.0 next.1 plain.1

pub none_ended : (pieces : Pieces) (bytes : List ℕ) → begins_mark bytes ≡ true → pieces_come pieces false bytes ≡ []
unfolding begins_mark
none_ended pieces bytes h = plain_uncut pieces (without_byte_order_mark bytes) (plain_unmarked bytes (one_plain marks bytes h refl))

-- bytes that have no mark and are no beginning of one have none with more bytes after them
no_mark_more : (mark bytes more : List ℕ) → starts_with eqb bytes mark ≡ false → starts_with eqb mark bytes ≡ false → starts_with eqb (bytes ++ more) mark ≡ false
no_mark_more [] bytes more s h = absurd (cc)
no_mark_more (m ∷ mark) [] more s h = absurd (cc)
no_mark_more (m ∷ mark) (b ∷ bytes) more s h = by (eqb m b) refl (no_mark_more mark bytes more)
  where
    back : (a b : ℕ) → eqb a b ≡ true → eqb b a ≡ true
    back a b e = grind (arith, e)

    by : (v : Bool) → eqb m b ≡ v → (starts_with eqb bytes mark ≡ false → starts_with eqb mark bytes ≡ false → starts_with eqb (bytes ++ more) mark ≡ false)
        → (eqb m b && starts_with eqb (bytes ++ more) mark) ≡ false
    by false e later = ap (λ v. v && starts_with eqb (bytes ++ more) mark) e
    by true e later =
        ap (λ v. v && starts_with eqb (bytes ++ more) mark) e
        ∙ later (sym (ap (λ v. v && starts_with eqb bytes mark) e) ∙ s) (sym (ap (λ v. v && starts_with eqb mark bytes) (back m b e)) ∙ h)

none_more : (some : List FormatMark) (bytes more : List ℕ) → first_format some bytes ≡ None → begins_one some bytes ≡ false → first_format some (bytes ++ more) ≡ None
none_more [] bytes more f h = refl
none_more (mark ∷ rest) bytes more f h = by (starts_with eqb bytes mark.bytes) refl (none_more rest bytes more)
  where
    some_none : {A : Type 0} {x : A} → Some x ≡ None → ⊥
    some_none e = cc

    by : (v : Bool) → starts_with eqb bytes mark.bytes ≡ v → (first_format rest bytes ≡ None → begins_one rest bytes ≡ false → first_format rest (bytes ++ more) ≡ None) → first_format (mark ∷ rest) (bytes ++ more) ≡ None
    by true e later = absurd (some_none (sym (ap (λ (b : Bool). if b then Some mark.format else first_format rest bytes) e) ∙ f))
    by false e later =
        let unbegun = neither (starts_with eqb mark.bytes bytes) (begins_one rest bytes) h in
        ap (λ (b : Bool). if b then Some mark.format else first_format rest (bytes ++ more)) (no_mark_more mark.bytes bytes more e unbegun.0)
        ∙ later (sym (ap (λ (b : Bool). if b then Some mark.format else first_format rest bytes) e) ∙ f) unbegun.1

pub format_settled : (bytes more : List ℕ) → format_of bytes ≡ None → begins_mark bytes ≡ false → format_of (bytes ++ more) ≡ None
unfolding format_of begins_mark
format_settled bytes more f h = none_more marks bytes more f h
