-- What a scanner and its marks hold of the bytes that were fed.
use Rattle.std.specs.Prelude.{◌≡◌, ℕ, ◌+◌, ◌*◌, ◌/◌, ◌%◌, List, [], ◌++◌, length, take, true, Some}
use Rattle.std.specs.Str.{IsUtf8}
use Rattle.std.specs.Vec.{vec_capacity}
use Rattle.jp_masks.specs.Written.{written}
use Rattle.jp_masks.specs.Validity.{HasTested}
use Rattle.jp_model.specs.declared.Framing.{Framing}
use Rattle.jp_masks.specs.Machine.{start, before}
use Rattle.jp_masks.specs.Found.{found, all_at}
use Rattle.jp_masks.specs.Sinks.{Sink, sink_of}
use Rattle.jp_masks.specs.declared.row.Row.{Row}
use Rattle.jp_masks.specs.declared.lines.Marks.{Marks}
use Rattle.jp_masks.specs.declared.progress.Progress.{Progress}
use Rattle.jp_masks.specs.declared.scanner.Scanner.{Scanner}

-- the sink of these rows and positions
abbrev pub stored : List Row → List ℕ → ℕ → ℕ → Sink
stored rows positions positions_before line_start = record { rows = rows; positions = positions; before = positions_before; start = line_start }

-- these bytes, which are whole blocks, were scanned, and the marks are theirs
pub record InBlocks (framing : Framing) (whole : List ℕ) (progress : Progress) (sink : Marks) : Type 0 where
  pub framed : progress.framing ≡ framing
  pub scanned : progress.scanned ≡ length whole
  pub in_blocks : length whole % 64 ≡ 0
  pub stored : stored sink.rows.items (written sink.positions) sink.positions_before progress.start ≡ sink_of framing whole
  pub known : progress.carry ≡ before (Some framing) start whole (length whole)
  pub tested : HasTested progress.validity whole

-- The text was fed. Its whole blocks were scanned, and the rest, which is shorter than a block, is held.
pub record HasScanned (framing : Framing) (text : List ℕ) (scanner : Scanner) (sink : Marks) : Type 0 where
  pub whole : List ℕ
  pub joined : text ≡ whole ++ take scanner.held_len scanner.held
  pub in_blocks : InBlocks framing whole scanner.progress sink

-- how many bytes were fed
abbrev pub bytes_fed : Scanner → ℕ
bytes_fed scanner = scanner.progress.scanned + scanner.held_len

-- nothing was found
pub record IsEmpty (sink : Marks) : Type 0 where
  pub rows : sink.rows.items ≡ []
  pub positions : written sink.positions ≡ []
  pub positions_before : sink.positions_before ≡ 0

-- the memory stayed
pub record HasRoomOf (old new : Marks) : Type 0 where
  pub rows : vec_capacity new.rows ≡ vec_capacity old.rows
  pub positions : vec_capacity new.positions.room ≡ vec_capacity old.positions.room

-- both hold the same
pub record IsUnchanged (old new : Marks) : Type 0 where
  pub rows : new.rows.items ≡ old.rows.items
  pub positions : written new.positions ≡ written old.positions
  pub positions_before : new.positions_before ≡ old.positions_before
  pub is_utf8 : new.is_utf8 ≡ old.is_utf8

-- what was there is still there, in front
pub record Grows (old new : Marks) : Type 0 where
  pub more_rows : List Row
  pub more_positions : List ℕ
  pub rows : new.rows.items ≡ old.rows.items ++ more_rows
  pub positions : written new.positions ≡ written old.positions ++ more_positions
  pub is_utf8 : new.is_utf8 ≡ old.is_utf8

-- the blocks of 64 bytes at the front
abbrev pub whole_blocks : List ℕ → List ℕ
whole_blocks text = take (64 * (length text / 64)) text

-- The marks are those of all lines of this text, and a text that is told to be UTF-8 is.
pub record AreAllOf (framing : Framing) (text : List ℕ) (sink : Marks) : Type 0 where
  pub lines : found sink ≡ all_at framing text
  pub utf8 : sink.is_utf8 ≡ true → IsUtf8 text

-- the same, in some framing
pub record HasAllOf (text : List ℕ) (sink : Marks) : Type 0 where
  pub framing : Framing
  pub all : AreAllOf framing text sink

-- Of these marks all is as before that can be said of them: the lines that were found, what was scanned into them, of which
-- text they are all, and whether they are of none.
pub record IsAsBefore (old new : Marks) : Type 0 where
  pub lines : found new ≡ found old
  pub scanned : (framing : Framing) (text : List ℕ) (scanner : Scanner) → HasScanned framing text scanner old → HasScanned framing text scanner new
  pub all : (framing : Framing) (text : List ℕ) → AreAllOf framing text old → AreAllOf framing text new
  pub empty : IsEmpty old → IsEmpty new
