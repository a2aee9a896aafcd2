-- The machine that cuts a stream into JSON texts (RFC 8259, section 2), or into the elements of its arrays (RFC 8259,
-- section 5): what is known between two bytes, and what a byte does.
use Rattle.std.specs.Prelude.{ℕ, ◌+◌, ◌-◌, Bool, true, false, not, ◌&&◌, ◌||◌, ◌==◌, if◌then◌else◌}
use Rattle.jp_model.specs.Characters.{is_white, is_quote, is_backslash}
use Rattle.jp_cut.specs.declared.machine.Pieces.{Pieces}
use Rattle.jp_cut.specs.declared.machine.Pieces.TheVariants.{Texts, Elements}
use Rattle.jp_cut.specs.declared.machine.Place.{Place}
use Rattle.jp_cut.specs.declared.machine.Place.TheVariants.{Between, Word, Text, ArrayStart, NextElement, Element}
use Rattle.jp_cut.specs.declared.machine.Known.{Known}
use Rattle.jp_cut.specs.declared.machine.Turn.{Turn}
use Rattle.jp_cut.specs.declared.machine.Turn.TheVariants.{Passed, Kept, Last, Ended, EndedBefore}
use Rattle.jp_cut.specs.declared.machine.Step.{Step}

-- begin-array and begin-object, [ and { (RFC 8259, section 2)
abbrev pub is_opening : ℕ → Bool
is_opening byte = (byte == 0x5B) || (byte == 0x7B)

-- end-array and end-object, ] and } (RFC 8259, section 2)
abbrev pub is_closing : ℕ → Bool
is_closing byte = (byte == 0x5D) || (byte == 0x7D)

-- A text that begins with no bracket and no quotation mark ends before white space, before an opening bracket and before a
-- quotation mark (profile).
abbrev pub ends_word : ℕ → Bool
ends_word byte = is_white byte || is_opening byte || is_quote byte

-- ---- brackets and strings

-- what is known at a place where no bracket of the piece and no string is open
abbrev pub nothing_open : Place → Known
nothing_open place = record { place = place; depth = 0; inside = false; escaped = false }

-- no bracket of the piece and no string is open
abbrev pub is_whole : Known → Bool
is_whole known = known.depth == 0 && not known.inside

-- how many brackets are open after a byte outside strings, of whichever kind they are (profile)
abbrev pub depth_behind : ℕ → ℕ → ℕ
depth_behind depth byte = if is_opening byte then depth + 1 else (if is_closing byte then depth - 1 else depth)

-- one of both
abbrev pub xor : Bool → Bool → Bool
xor true other = not other
xor false other = other

-- After a byte of a piece. A quotation mark that no reverse solidus escapes opens a string, and the next such one closes it
-- (RFC 8259, section 7); brackets count outside strings alone.
abbrev pub behind : Known → ℕ → Known
behind known byte = record {
  place = known.place;
  depth = if known.inside then known.depth else depth_behind known.depth byte;
  inside = xor known.inside (is_quote byte && not known.escaped);
  escaped = is_backslash byte && not known.escaped;
}

-- ---- what a byte does at each place

-- what a byte does, and what is known after it
abbrev pub does : Turn → Known → Step
does turn known = record { turn = turn; known = known }

-- the elements are pieces, and the byte opens an array (RFC 8259, section 5)
abbrev pub is_array_start : Pieces → ℕ → Bool
is_array_start Texts byte = false
is_array_start Elements byte = byte == 0x5B

-- Between texts white space is passed over (RFC 8259, section 2), and any other byte begins a text.
abbrev pub begin : Pieces → ℕ → Step
begin pieces byte =
    if is_white byte then does Passed (nothing_open Between)
    else (if is_array_start pieces byte then does Passed (nothing_open ArrayStart)
    else (if is_opening byte || is_quote byte then does Kept (behind (nothing_open Text) byte)
    else does Kept (nothing_open Word)))

-- where another text ended before the byte
abbrev pub behind_word : Turn → Turn
behind_word Passed = Ended
behind_word Kept = EndedBefore
behind_word Last = Last
behind_word Ended = Ended
behind_word EndedBefore = EndedBefore

-- in a text that began with no bracket and no quotation mark
abbrev pub in_word : Pieces → Known → ℕ → Step
in_word pieces known byte =
    if ends_word byte then does (behind_word (begin pieces byte).turn) (begin pieces byte).known else does Kept known

-- in a text of brackets or a string, which ends where none is open any more
abbrev pub in_text : Known → Step
in_text known = if is_whole known then does Last (nothing_open Between) else does Kept known

-- In an element. An array is cut at its commas and ends with its bracket (RFC 8259, section 5). A bracket of the other kind
-- ends it too, and is the last byte of the element (profile).
abbrev pub element : Known → ℕ → Step
element known byte =
    if is_whole known && (byte == 0x2C) then does Ended (nothing_open NextElement)
    else (if is_whole known && (byte == 0x5D) then does Ended (nothing_open Between)
    else (if is_whole known && (byte == 0x7D) then does Last (nothing_open Between)
    else does Kept (behind known byte)))

-- In front of an element white space is passed over (RFC 8259, section 2).
abbrev pub next_element : ℕ → Step
next_element byte = if is_white byte then does Passed (nothing_open NextElement) else element (nothing_open Element) byte

-- So it is in front of the first, but an array of white space alone has none (RFC 8259, section 5).
abbrev pub first_element : ℕ → Step
first_element byte =
    if is_white byte then does Passed (nothing_open ArrayStart)
    else (if byte == 0x5D then does Passed (nothing_open Between) else element (nothing_open Element) byte)

-- at each place
abbrev pub step_at : Place → Pieces → Known → ℕ → Step
step_at Between pieces known byte = begin pieces byte
step_at Word pieces known byte = in_word pieces known byte
step_at Text pieces known byte = in_text (behind known byte)
step_at ArrayStart pieces known byte = first_element byte
step_at NextElement pieces known byte = next_element byte
step_at Element pieces known byte = element known byte

-- what a byte does
unfoldable pub step : Pieces → Known → ℕ → Step
step pieces known byte = step_at known.place pieces known byte
