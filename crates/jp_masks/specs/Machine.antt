-- What a scan knows before a byte, and how a byte changes it. After a byte that ends a line all is as at the start.
use Rattle.std.specs.Prelude.{ℕ, zero, suc, List, Bool, true, false, not, ◌&&◌, ◌||◌, slice_index, Option}
use Rattle.jp_model.specs.declared.Framing.{Framing}
use Rattle.jp_model.specs.Characters.{is_white, is_structural, is_backslash, is_quote}
use Rattle.jp_masks.specs.Ends.{is_end}
use Rattle.jp_masks.specs.declared.block.Carry.{Carry}

-- one of both
abbrev pub xor : Bool → Bool → Bool
xor true other = not other
xor false other = other

-- at the start of a line
abbrev pub start : Carry
start = record { escaped = false; inside = false; may_begin = true }

-- a quote that opens or closes a string
abbrev pub opens : Carry → ℕ → Bool
opens before byte = is_quote byte && not before.escaped

-- after a byte
abbrev pub after : Option Framing → Carry → ℕ → Carry
after framing before byte = record {
  escaped = is_backslash byte && not before.escaped;
  inside = not (is_end framing byte) && xor before.inside (opens before byte);
  may_begin = is_white byte || is_structural byte || opens before byte || is_end framing byte;
}

-- the byte is a mark
abbrev pub is_marked : Carry → ℕ → Bool
is_marked before byte =
    opens before byte
    || (not before.inside
    && (is_structural byte || (before.may_begin && not (is_white byte || is_quote byte))))

-- what is known before byte i, where `first` was known before byte 0
unfoldable pub before : Option Framing → Carry → List ℕ → ℕ → Carry
before framing first bytes zero = first
before framing first bytes (suc i) = after framing (before framing first bytes i) (slice_index bytes i)
