-- The bytes of a value are taken as one piece.
use Rattle.std.proofs.Common.{◌≡◌, ℕ, ◌+◌, ◌<◌, Bool, true, false, ◌||◌, List, [], ◌∷◌, ◌++◌, length, refl, sym, ap, ap₂, subst, ◌∙◌, arith, append_assoc}
use Rattle.std.proofs.lemmas.Bool.{or_from}
use Rattle.std.proofs.lemmas.List.{append-nil}
use Rattle.std.proofs.lemmas.List.Sums.{fold-append}
use Rattle.std.specs.Prelude.{◌==◌, fold, if◌then◌else◌}
use Rattle.jp_model.specs.Characters.{is_white, is_quote}
use Rattle.jp_model.specs.Json.Faults.{has_open_end}
use Rattle.jp_model.specs.Json.Spelling.{opening, closing}
use Rattle.jp_model.specs.Json.Tree.{Tree, node, Value, null, boolean, number, string, container, Container, array, object, Children, value_of}
use Rattle.jp_cut.specs.Cuts.{Piece, Cut, line_feeds_in, turned, take_in}
use Rattle.jp_cut.specs.Machine.{is_opening, is_array_start, ends_word, is_whole, behind, nothing_open, does, begin, behind_word, step_at, step}
use Rattle.jp_cut.specs.Passing.{is_inside}
use Rattle.jp_cut.specs.declared.machine.Pieces.{Pieces}
use Rattle.jp_cut.specs.declared.machine.Pieces.TheVariants.{Texts, Elements}
use Rattle.jp_cut.specs.declared.machine.Place.{Place}
use Rattle.jp_cut.specs.declared.machine.Place.TheVariants.{Between, Word, Text, ArrayStart, NextElement, Element}
use Rattle.jp_cut.specs.declared.machine.Known.{Known}
use Rattle.jp_cut.specs.declared.machine.Turn.{Turn}
use Rattle.jp_cut.specs.declared.machine.Turn.TheVariants.{Passed, Kept}
use Rattle.jp_cut.specs.declared.machine.Step.{Step}
use Rattle.jp_cut.proofs.Passing.{kept_in_text, kept_in_element, kept_one, behind_kept}
use Rattle.jp_cut_laws.proofs.Written.{Writes, WritesValue}
use Rattle.jp_cut_laws.proofs.Crossing.{Each, outside, within, IsUnfinished, StaysUnfinished, Crosses}
use Rattle.jp_cut_laws.proofs.Values.{IsOfWord, first_crosses, characters_cross, open_of_word}
use Rattle.jp_cut_laws.proofs.Parts.{or_false}
use Rattle.jp_cut_laws.specs.Values.{is_split}

-- what some bytes are cut into, with what is known after them
abbrev pub with_known : Cut → Known → Cut
with_known cut known = record { ended = cut.ended; begun = cut.begun; line_feeds = cut.line_feeds; known = known }

-- pieces have ended, and none is open
abbrev pub between : List Piece → ℕ → Cut
between ended line_feeds = record { ended = ended; begun = []; line_feeds = line_feeds; known = nothing_open Between }

-- a piece is open
abbrev pub begun_at : List Piece → ℕ → List ℕ → Known → Cut
begun_at ended line_feeds bytes known = record { ended = ended; begun = bytes; line_feeds = line_feeds; known = known }

-- one more has ended
abbrev pub one_more : List Piece → ℕ → List ℕ → Cut
one_more ended line_feeds bytes = between (ended ++ record { bytes = bytes; is_closed = true; line_feeds = line_feeds } ∷ []) (line_feeds + line_feeds_in bytes)

-- what a byte makes of a cut, where its step is known
pub taken : (pieces : Pieces) (cut : Cut) (byte : ℕ) (turn : Turn) (known : Known) → step pieces cut.known byte ≡ does turn known → take_in pieces cut byte ≡ with_known (turned turn cut byte) known
unfolding take_in
taken pieces cut byte turn known e = ap (λ (s : Step). with_known (turned s.turn cut byte) s.known) e

-- ---- bytes that cross

kept_at : (place : Place) (pieces : Pieces) (known : Known) (byte : ℕ) → is_inside place ≡ true → IsUnfinished known → IsUnfinished (behind known byte) → step_at place pieces known byte ≡ does Kept (behind known byte)
kept_at Between pieces known byte e some more = absurd (cc)
kept_at Word pieces known byte e some more = absurd (cc)
kept_at Text pieces known byte e some more = kept_in_text (is_whole (behind known byte)) (behind known byte) more
kept_at ArrayStart pieces known byte e some more = absurd (cc)
kept_at NextElement pieces known byte e some more = absurd (cc)
kept_at Element pieces known byte e some more = kept_in_element (is_whole known) (byte == 0x2C) (byte == 0x5D) (byte == 0x7D) (behind known byte) some

kept : (pieces : Pieces) (known : Known) (byte : ℕ) → is_inside known.place ≡ true → IsUnfinished known → IsUnfinished (behind known byte) → step pieces known byte ≡ does Kept (behind known byte)
unfolding step
kept pieces known byte e some more = kept_at known.place pieces known byte e some more

now_unfinished : (known : Known) (bytes : List ℕ) → StaysUnfinished known bytes → IsUnfinished known
now_unfinished known [] stays = stays
now_unfinished known (byte ∷ rest) stays = stays.0

pub kept_across : (pieces : Pieces) (cut : Cut) (bytes : List ℕ) (next : Known) → is_inside cut.known.place ≡ true → Crosses cut.known bytes next
    → fold (take_in pieces) cut bytes ≡ begun_at cut.ended cut.line_feeds (cut.begun ++ bytes) next
kept_across pieces cut [] next inside h = ap₂ (begun_at cut.ended cut.line_feeds) (sym (append-nil cut.begun)) h.same
kept_across pieces cut (byte ∷ rest) next inside h =
    ap (λ (c : Cut). fold (take_in pieces) c rest) (kept_one pieces cut byte (kept pieces cut.known byte inside h.stays.0 (now_unfinished (behind cut.known byte) rest h.stays.1)))
    ∙ kept_across pieces (behind_kept cut (byte ∷ [])) rest next inside (record { stays = h.stays.1; same = h.same })
    ∙ ap (λ xs. begun_at cut.ended cut.line_feeds xs next) (append_assoc cut.begun (byte ∷ []) rest)

-- ---- arrays, objects and strings

-- the bracket or the quotation mark that begins a text
bracket_opens : (pieces : Pieces) (kind : Container) (children : Children) → is_split pieces (container kind children) ≡ false → (ended : List Piece) (n : ℕ) → take_in pieces (between ended n) (opening kind) ≡ begun_at ended n (opening kind ∷ []) (outside Text 1)
unfolding take_in step
bracket_opens Texts array children e ended n = refl
bracket_opens Texts object children e ended n = refl
bracket_opens Elements array children e ended n = absurd (cc)
bracket_opens Elements object children e ended n = refl

quote_opens : (pieces : Pieces) (ended : List Piece) (n : ℕ) → take_in pieces (between ended n) 0x22 ≡ begun_at ended n (0x22 ∷ []) (within Text 0)
unfolding take_in step
quote_opens Texts ended n = refl
quote_opens Elements ended n = refl

module _ (pieces : Pieces) (ended : List Piece) (n : ℕ) where
  -- a byte that begins a text, bytes that cross, and a byte that ends it
  bracketed : (first last : ℕ) (middle : List ℕ) (known : Known) → known.place ≡ Text → take_in pieces (between ended n) first ≡ begun_at ended n (first ∷ []) known
      → Crosses known middle known → take_in pieces (begun_at ended n (first ∷ middle) known) last ≡ one_more ended n (first ∷ (middle ++ last ∷ []))
      → fold (take_in pieces) (between ended n) (first ∷ (middle ++ last ∷ [])) ≡ one_more ended n (first ∷ (middle ++ last ∷ []))
  bracketed first last middle known place opens h closes =
      ap (λ (c : Cut). fold (take_in pieces) c (middle ++ last ∷ [])) opens
      ∙ fold-append (take_in pieces) (begun_at ended n (first ∷ []) known) middle (last ∷ [])
      ∙ ap (λ (c : Cut). take_in pieces c last) (kept_across pieces (begun_at ended n (first ∷ []) known) middle known (ap is_inside place) h)
      ∙ closes

  bracket_closes : (kind : Container) (bytes : List ℕ) → take_in pieces (begun_at ended n bytes (outside Text 1)) (closing kind) ≡ one_more ended n (bytes ++ closing kind ∷ [])
  unfolding take_in step
  bracket_closes array bytes = refl
  bracket_closes object bytes = refl

  quote_closes : (bytes : List ℕ) → take_in pieces (begun_at ended n bytes (within Text 0)) 0x22 ≡ one_more ended n (bytes ++ 0x22 ∷ [])
  unfolding take_in step
  quote_closes bytes = refl

  -- a value that shows its end is a piece
  shown : (v : Value) (bytes : List ℕ) → WritesValue bytes v → has_open_end v ≡ false → is_split pieces v ≡ false → fold (take_in pieces) (between ended n) bytes ≡ one_more ended n bytes
  shown null bytes h e whole = absurd (cc)
  shown (boolean b) bytes h e whole = absurd (cc)
  shown (number m x) bytes h e whole = absurd (cc)
  shown (string points) bytes h e whole =
      subst (λ xs. fold (take_in pieces) (between ended n) xs ≡ one_more ended n xs) (sym h.joined)
      (bracketed 0x22 0x22 h.body (within Text 0) refl (quote_opens pieces ended n) (characters_cross Text 0 h.units h.body h.characters) (quote_closes (0x22 ∷ h.body)))
  shown (container kind children) bytes h e whole =
      let inside = first_crosses Text children kind 1 h.0 (omega arith) h.2 in
      subst (λ xs. fold (take_in pieces) (between ended n) xs ≡ one_more ended n xs) (sym (h.1 ∙ ap (λ xs. opening kind ∷ xs) inside.joined))
      (bracketed (opening kind) (closing kind) inside.front (outside Text 1) refl (bracket_opens pieces kind children whole ended n) inside.crosses (bracket_closes kind (opening kind ∷ inside.front)))

  pub shown_taken : (t : Tree) (bytes : List ℕ) → Writes bytes t → has_open_end (value_of t) ≡ false → is_split pieces (value_of t) ≡ false → fold (take_in pieces) (between ended n) bytes ≡ one_more ended n bytes
  shown_taken (node s v) bytes h e whole = shown v bytes h e whole

-- ---- numbers and words

-- the step of a byte between texts, by whether it is white space, the bracket of an array whose elements are pieces, or the
-- first byte of a text that shows its end
abbrev begin_by : Bool → Bool → Bool → ℕ → Step
begin_by isWhite splits shows byte = if isWhite then does Passed (nothing_open Between) else (if splits then does Passed (nothing_open ArrayStart) else (if shows then does Kept (behind (nothing_open Text) byte) else does Kept (nothing_open Word)))

begins_word : (isWhite splits shows : Bool) (byte : ℕ) → isWhite ≡ false → splits ≡ false → shows ≡ false → begin_by isWhite splits shows byte ≡ does Kept (nothing_open Word)
begins_word true splits shows byte e s f = absurd (cc)
begins_word false true shows byte e s f = absurd (cc)
begins_word false false true byte e s f = absurd (cc)
begins_word false false false byte e s f = refl

begins_text : (isWhite splits shows : Bool) (byte : ℕ) → isWhite ≡ false → splits ≡ false → shows ≡ true → begin_by isWhite splits shows byte ≡ does Kept (behind (nothing_open Text) byte)
begins_text true splits shows byte e s f = absurd (cc)
begins_text false true shows byte e s f = absurd (cc)
begins_text false false true byte e s f = refl
begins_text false false false byte e s f = absurd (cc)

begins_array : (isWhite splits shows : Bool) (byte : ℕ) → isWhite ≡ false → splits ≡ true → begin_by isWhite splits shows byte ≡ does Passed (nothing_open ArrayStart)
begins_array true splits shows byte e s = absurd (cc)
begins_array false true shows byte e s = refl
begins_array false false shows byte e s = absurd (cc)

goes_on : (ends : Bool) (next : Step) → ends ≡ false → (if ends then does (behind_word next.turn) next.known else does Kept (nothing_open Word)) ≡ does Kept (nothing_open Word)
goes_on true next e = absurd (cc)
goes_on false next e = refl

ends_there : (ends : Bool) (next : Step) → ends ≡ true → (if ends then does (behind_word next.turn) next.known else does Kept (nothing_open Word)) ≡ does (behind_word next.turn) next.known
ends_there true next e = refl
ends_there false next e = absurd (cc)

-- a byte that opens no bracket begins no array
pub no_array_start : (pieces : Pieces) (byte : ℕ) → is_opening byte ≡ false → is_array_start pieces byte ≡ false
no_array_start Texts byte e = refl
no_array_start Elements byte e = (or_false (byte == 0x5B) (byte == 0x7B) e).0

pub text_begins : (pieces : Pieces) (byte : ℕ) → is_white byte ≡ false → is_array_start pieces byte ≡ false → (is_opening byte || is_quote byte) ≡ true → step pieces (nothing_open Between) byte ≡ does Kept (behind (nothing_open Text) byte)
unfolding step
text_begins pieces byte e s f = begins_text (is_white byte) (is_array_start pieces byte) (is_opening byte || is_quote byte) byte e s f

pub word_begins : (pieces : Pieces) (byte : ℕ) → is_white byte ≡ false → is_array_start pieces byte ≡ false → (is_opening byte || is_quote byte) ≡ false → step pieces (nothing_open Between) byte ≡ does Kept (nothing_open Word)
unfolding step
word_begins pieces byte e s f = begins_word (is_white byte) (is_array_start pieces byte) (is_opening byte || is_quote byte) byte e s f

pub array_begins : (pieces : Pieces) (byte : ℕ) → is_white byte ≡ false → is_array_start pieces byte ≡ true → step pieces (nothing_open Between) byte ≡ does Passed (nothing_open ArrayStart)
unfolding step
array_begins pieces byte e s = begins_array (is_white byte) (is_array_start pieces byte) (is_opening byte || is_quote byte) byte e s

pub word_goes_on : (pieces : Pieces) (byte : ℕ) → ends_word byte ≡ false → step pieces (nothing_open Word) byte ≡ does Kept (nothing_open Word)
unfolding step
word_goes_on pieces byte e = goes_on (ends_word byte) (begin pieces byte) e

no_end : (byte : ℕ) → IsOfWord byte → ends_word byte ≡ false
no_end byte h = or_from _ _ (or_from _ _ h.no_white h.plain.no_opening) h.plain.no_quote

word_ends : (pieces : Pieces) (byte : ℕ) → ends_word byte ≡ true → step pieces (nothing_open Word) byte ≡ does (behind_word (begin pieces byte).turn) (begin pieces byte).known
unfolding step
word_ends pieces byte e = ends_there (ends_word byte) (begin pieces byte) e

begins : (pieces : Pieces) (byte : ℕ) → step pieces (nothing_open Between) byte ≡ does (begin pieces byte).turn (begin pieces byte).known
unfolding step
begins pieces byte = refl

module _ (pieces : Pieces) (ended : List Piece) (n : ℕ) where
  rest_of_word : (bytes rest : List ℕ) → Each IsOfWord rest → fold (take_in pieces) (begun_at ended n bytes (nothing_open Word)) rest ≡ begun_at ended n (bytes ++ rest) (nothing_open Word)
  rest_of_word bytes [] h = ap (λ xs. begun_at ended n xs (nothing_open Word)) (sym (append-nil bytes))
  rest_of_word bytes (byte ∷ rest) h =
      ap (λ (c : Cut). fold (take_in pieces) c rest) (taken pieces (begun_at ended n bytes (nothing_open Word)) byte Kept (nothing_open Word) (word_goes_on pieces byte (no_end byte h.0)))
      ∙ rest_of_word (bytes ++ byte ∷ []) rest h.1
      ∙ ap (λ xs. begun_at ended n xs (nothing_open Word)) (append_assoc bytes (byte ∷ []) rest)

  word : (byte : ℕ) (rest : List ℕ) → Each IsOfWord (byte ∷ rest) → fold (take_in pieces) (between ended n) (byte ∷ rest) ≡ begun_at ended n (byte ∷ rest) (nothing_open Word)
  word byte rest h =
      ap (λ (c : Cut). fold (take_in pieces) c rest) (taken pieces (between ended n) byte Kept (nothing_open Word) (word_begins pieces byte h.0.no_white (no_array_start pieces byte h.0.plain.no_opening) (or_from _ _ h.0.plain.no_opening h.0.plain.no_quote)))
      ∙ rest_of_word (byte ∷ []) rest h.1

  -- it ends before such a byte
  ended_by : (isWhite splits shows : Bool) (byte : ℕ) (bytes : List ℕ)
      → with_known (turned (behind_word (begin_by isWhite splits shows byte).turn) (begun_at ended n bytes (nothing_open Word)) byte) (begin_by isWhite splits shows byte).known
      ≡ with_known (turned (begin_by isWhite splits shows byte).turn (one_more ended n bytes) byte) (begin_by isWhite splits shows byte).known
  ended_by true splits shows byte bytes = refl
  ended_by false true shows byte bytes = refl
  ended_by false false true byte bytes = refl
  ended_by false false false byte bytes = refl

  pub word_ended : (bytes : List ℕ) (byte : ℕ) (rest : List ℕ) → ends_word byte ≡ true → fold (take_in pieces) (begun_at ended n bytes (nothing_open Word)) (byte ∷ rest) ≡ fold (take_in pieces) (one_more ended n bytes) (byte ∷ rest)
  word_ended bytes byte rest e =
      ap (λ (c : Cut). fold (take_in pieces) c rest)
      (taken pieces (begun_at ended n bytes (nothing_open Word)) byte (behind_word (begin pieces byte).turn) (begin pieces byte).known (word_ends pieces byte e)
      ∙ ended_by (is_white byte) (is_array_start pieces byte) (is_opening byte || is_quote byte) byte bytes
      ∙ sym (taken pieces (one_more ended n bytes) byte (begin pieces byte).turn (begin pieces byte).known (begins pieces byte)))

  some_word : (bytes : List ℕ) → 0 < length bytes → Each IsOfWord bytes → fold (take_in pieces) (between ended n) bytes ≡ begun_at ended n bytes (nothing_open Word)
  some_word [] some h = absurd (omega arith)
  some_word (byte ∷ rest) some h = word byte rest h

  pub open_taken : (t : Tree) (bytes : List ℕ) → Writes bytes t → has_open_end (value_of t) ≡ true → fold (take_in pieces) (between ended n) bytes ≡ begun_at ended n bytes (nothing_open Word)
  open_taken t bytes h e = let all = open_of_word t bytes h e in some_word bytes all.1 all.0
