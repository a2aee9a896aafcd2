-- Bytes of a piece that can be passed over, since none of them ends it.
use Rattle.std.specs.Prelude.{◌≡◌, ℕ, zero, suc, ◌+◌, ◌-◌, ◌<◌, Bool, true, false, List, [], ◌∷◌, fold, if◌then◌else◌, ⊤}
use Rattle.jp_lanes.specs.Word.{bit}
use Rattle.jp_cut.specs.declared.machine.Pieces.{Pieces}
use Rattle.jp_cut.specs.declared.machine.Turn.TheVariants.{Kept}
use Rattle.jp_cut.specs.declared.machine.Place.{Place}
use Rattle.jp_cut.specs.declared.machine.Place.TheVariants.{Between, Word, Text, ArrayStart, NextElement, Element}
use Rattle.jp_cut.specs.declared.machine.Known.{Known}
use Rattle.jp_cut.specs.Machine.{behind, step}

-- in a text of brackets or a string, or in an element
abbrev pub is_inside : Place → Bool
is_inside Between = false
is_inside Word = false
is_inside Text = true
is_inside ArrayStart = false
is_inside NextElement = false
is_inside Element = true

-- after some bytes of a piece
abbrev pub behind_all : Known → List ℕ → Known
behind_all known bytes = fold behind known bytes

-- a bracket of the piece stays open, in front of some bytes and after each of them
abbrev pub StaysOpen : Known → List ℕ → Type 0
StaysOpen known [] = 0 < known.depth
StaysOpen known (byte ∷ rest) = (0 < known.depth) × StaysOpen (behind known byte) rest

-- such bytes were passed over, and this is known after them
pub record Passes (known : Known) (bytes : List ℕ) (next : Known) : Type 0 where
  pub stays : StaysOpen known bytes
  pub same : next ≡ behind_all known bytes

-- how many brackets are open before byte i, where bits tell which bytes open one and which close one
unfoldable pub open_before : (opening closing depth i : ℕ) → ℕ
open_before opening closing depth zero = depth
open_before opening closing depth (suc i) =
    let before = open_before opening closing depth i in
    if bit opening i then before + 1 else (if bit closing i then before - 1 else before)

-- each of some bytes is of the open piece
abbrev pub AreKept : Pieces → Known → List ℕ → Type 0
AreKept pieces known [] = ⊤
AreKept pieces known (byte ∷ rest) = ((step pieces known byte).turn ≡ Kept) × AreKept pieces (step pieces known byte).known rest

-- after bytes of the open piece
abbrev pub known_after : Pieces → Known → List ℕ → Known
known_after pieces known bytes = fold (λ now byte. (step pieces now byte).known) known bytes

-- such bytes are of the open piece, and this is known after them
pub record Keeps (pieces : Pieces) (known : Known) (bytes : List ℕ) (next : Known) : Type 0 where
  pub are : AreKept pieces known bytes
  pub same : next ≡ known_after pieces known bytes
