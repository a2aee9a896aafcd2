-- What the first bytes of a stream tell: that it is refused as a whole, or that it may be one of lines.
use Rattle.std.specs.Prelude.{◌≡◌, ℕ, List, ◌++◌, true, false, None, Some, ◌⊎◌}
use Rattle.jp_devices.specs.Devices.{Came}
use Rattle.jp_model.specs.declared.Framing.{Framing}
use Rattle.jp_model.specs.Lines.{is_framed}
use Rattle.jp_grep.specs.Formats.{begins_mark, format_of}
use Rattle.jp_grep.specs.declared.fault.SearchFault.{SearchFault}
use Rattle.jp_grep.specs.declared.fault.SearchFault.TheVariants as faults

-- with some bytes after them these are framed
abbrev pub MayBeFramed : Framing → List ℕ → Type 0
MayBeFramed framing bytes = (more : List ℕ) × (is_framed framing (bytes ++ more) ≡ true)

-- whatever follows them, they are not
abbrev pub IsUnframed : Framing → List ℕ → Type 0
IsUnframed framing bytes = (more : List ℕ) → is_framed framing (bytes ++ more) ≡ false

-- The first bytes of a stream do not refuse it: they have no mark, and they are the beginning of one, or may be framed.
pub record MayGoOn (framing : Framing) (bytes : List ℕ) : Type 0 where
  pub format : format_of bytes ≡ None
  pub framed : (begins_mark bytes ≡ true) ⊎ MayBeFramed framing bytes

-- The first bytes of a stream refuse it as a whole by this fault, whatever follows them: they have the mark of a format, or they
-- are no beginning of a mark and unframed.
abbrev pub AreRefused : Framing → List ℕ → SearchFault → Type 0
AreRefused framing bytes (faults.Foreign format) = format_of bytes ≡ Some format
AreRefused framing bytes faults.Framing = (format_of bytes ≡ None) × (begins_mark bytes ≡ false) × IsUnframed framing bytes
AreRefused framing bytes fault = ⊥

-- a whole stream that is lines
pub record IsOfLines (framing : Framing) (bytes : List ℕ) : Type 0 where
  pub format : format_of bytes ≡ None
  pub framed : is_framed framing bytes ≡ true

-- A stream is refused as a whole by what came of it: by its first bytes, or where it has ended since it is not framed.
abbrev pub IsRefused : Framing → Came → SearchFault → Type 0
IsRefused framing came fault = AreRefused framing came.bytes fault
    ⊎ (came.ended ≡ true) × (fault ≡ faults.Framing) × (format_of came.bytes ≡ None) × (is_framed framing came.bytes ≡ false)
