-- How many brackets can be open after a byte.
use Rattle.std.proofs.Common.{◌≡◌, ℕ, ◌+◌, ◌-◌, ◌≤◌, Bool, true, false, ◌&&◌, ◌||◌, arith, subst, sym, refl}
use Rattle.std.specs.Prelude.{◌==◌, if◌then◌else◌}
use Rattle.jp_model.specs.Characters.{is_white, is_quote}
use Rattle.jp_cut.specs.Machine.{is_opening, is_closing, is_array_start, ends_word, nothing_open, is_whole, behind, does, begin, behind_word, element, step_at, step}
use Rattle.jp_cut.specs.declared.machine.Pieces.{Pieces}
use Rattle.jp_cut.specs.declared.machine.Place.{Place}
use Rattle.jp_cut.specs.declared.machine.Place.TheVariants.{Between, Word, Text, ArrayStart, NextElement, Element}
use Rattle.jp_cut.specs.declared.machine.Known.{Known}
use Rattle.jp_cut.specs.declared.machine.Turn.{Turn}
use Rattle.jp_cut.specs.declared.machine.Turn.TheVariants.{Passed, Kept, Last, Ended, EndedBefore}
use Rattle.jp_cut.specs.declared.machine.Step.{Step}

-- the greatest number of brackets that are open after a byte, by what it does and how many were open before it
abbrev pub most_open : Turn → ℕ → ℕ
most_open Passed depth = 0
most_open Kept depth = depth + 1
most_open Last depth = 0
most_open Ended depth = 0
most_open EndedBefore depth = 1

-- a step opens at most one bracket, and none where it leaves no open piece
abbrev pub OpensOne : ℕ → Step → Type 0
OpensOne depth done = done.known.depth ≤ most_open done.turn depth

one_more : (opens closes : Bool) (d : ℕ) → (if opens then d + 1 else (if closes then d - 1 else d)) ≤ d + 1
one_more true closes d = omega arith
one_more false true d = omega arith
one_more false false d = omega arith

behind_one : (inside : Bool) (d : ℕ) (place : Place) (escaped : Bool) (byte : ℕ) → (behind (record { place = place; depth = d; inside = inside; escaped = escaped }) byte).depth ≤ d + 1
behind_one true d place escaped byte = omega arith
behind_one false d place escaped byte = one_more (is_opening byte) (is_closing byte) d

pub behind_le : (known : Known) (byte : ℕ) → (behind known byte).depth ≤ known.depth + 1
behind_le known byte = behind_one known.inside known.depth known.place known.escaped byte

begin_cases : (white array opens : Bool) (byte d : ℕ)
    → OpensOne d (if white then does Passed (nothing_open Between) else (if array then does Passed (nothing_open ArrayStart) else (if opens then does Kept (behind (nothing_open Text) byte) else does Kept (nothing_open Word))))
begin_cases true array opens byte d = omega arith
begin_cases false true opens byte d = omega arith
begin_cases false false true byte d = omega (arith, behind_le (nothing_open Text) byte)
begin_cases false false false byte d = omega arith

begin_le : (pieces : Pieces) (byte d : ℕ) → OpensOne d (begin pieces byte)
begin_le pieces byte d = begin_cases (is_white byte) (is_array_start pieces byte) (is_opening byte || is_quote byte) byte d

word_turn : (turn : Turn) (known : Known) (d : ℕ) → known.depth ≤ most_open turn 0 → OpensOne d (does (behind_word turn) known)
word_turn Passed known d h = h
word_turn Kept known d h = h
word_turn Last known d h = h
word_turn Ended known d h = h
word_turn EndedBefore known d h = h

word_cases : (ends : Bool) (known : Known) (next : Step) → OpensOne 0 next → OpensOne known.depth (if ends then does (behind_word next.turn) next.known else does Kept known)
word_cases true known next h = word_turn next.turn next.known known.depth h
word_cases false known next h = omega arith

text_cases : (whole : Bool) (known next : Known) → next.depth ≤ known.depth + 1 → OpensOne known.depth (if whole then does Last (nothing_open Between) else does Kept next)
text_cases true known next h = omega arith
text_cases false known next h = h

element_cases : (comma bracket brace : Bool) (known next : Known) → next.depth ≤ known.depth + 1
    → OpensOne known.depth (if comma then does Ended (nothing_open NextElement) else (if bracket then does Ended (nothing_open Between) else (if brace then does Last (nothing_open Between) else does Kept next)))
element_cases true bracket brace known next h = omega arith
element_cases false true brace known next h = omega arith
element_cases false false true known next h = omega arith
element_cases false false false known next h = h

element_le : (known : Known) (byte : ℕ) → OpensOne known.depth (element known byte)
element_le known byte = element_cases (is_whole known && (byte == 0x2C)) (is_whole known && (byte == 0x5D)) (is_whole known && (byte == 0x7D)) known (behind known byte) (behind_le known byte)

-- a step from depth 0 is one from any
from_none : (turn : Turn) (known : Known) (d : ℕ) → OpensOne 0 (does turn known) → OpensOne d (does turn known)
from_none Passed known d h = h
from_none Kept known d h = omega (arith, h)
from_none Last known d h = h
from_none Ended known d h = h
from_none EndedBefore known d h = h

next_cases : (white : Bool) (byte d : ℕ) → OpensOne d (if white then does Passed (nothing_open NextElement) else element (nothing_open Element) byte)
next_cases true byte d = omega arith
next_cases false byte d = let made = element (nothing_open Element) byte in from_none made.turn made.known d (element_le (nothing_open Element) byte)

first_cases : (white bracket : Bool) (byte d : ℕ) → OpensOne d (if white then does Passed (nothing_open ArrayStart) else (if bracket then does Passed (nothing_open Between) else element (nothing_open Element) byte))
first_cases true bracket byte d = omega arith
first_cases false true byte d = omega arith
first_cases false false byte d = let made = element (nothing_open Element) byte in from_none made.turn made.known d (element_le (nothing_open Element) byte)

step_at_le : (place : Place) (pieces : Pieces) (known : Known) (byte : ℕ) → OpensOne known.depth (step_at place pieces known byte)
step_at_le Between pieces known byte = begin_le pieces byte known.depth
step_at_le Word pieces known byte = word_cases (ends_word byte) known (begin pieces byte) (begin_le pieces byte 0)
step_at_le Text pieces known byte = text_cases (is_whole (behind known byte)) known (behind known byte) (behind_le known byte)
step_at_le ArrayStart pieces known byte = first_cases (is_white byte) (byte == 0x5D) byte known.depth
step_at_le NextElement pieces known byte = next_cases (is_white byte) byte known.depth
step_at_le Element pieces known byte = element_le known byte

-- a step opens at most one bracket
pub step_le : (pieces : Pieces) (known : Known) (byte : ℕ) (done : Step) (turn : Turn) → done ≡ step pieces known byte → done.turn ≡ turn → done.known.depth ≤ most_open turn known.depth
unfolding step
step_le pieces known byte done turn e t =
    subst (λ (u : Turn). done.known.depth ≤ most_open u known.depth) t
    (subst (λ (x : Step). OpensOne known.depth x) (sym e) (step_at_le known.place pieces known byte))

-- and that in every case
pub step_one : (pieces : Pieces) (known : Known) (byte : ℕ) (done : Step) → done ≡ step pieces known byte → done.known.depth ≤ known.depth + 1
step_one pieces known byte done e = any_turn done.turn known.depth done.known.depth (step_le pieces known byte done done.turn e refl)
  where
    any_turn : (turn : Turn) (d n : ℕ) → n ≤ most_open turn d → n ≤ d + 1
    any_turn Passed d n h = omega arith
    any_turn Kept d n h = h
    any_turn Last d n h = omega arith
    any_turn Ended d n h = omega arith
    any_turn EndedBefore d n h = omega arith
