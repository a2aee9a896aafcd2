-- Where marks begin anew.
use Rattle.std.specs.Prelude.{ℕ, Bool, false, Option, Some, None}
use Rattle.jp_model.specs.declared.Framing.{Framing}
use Rattle.jp_model.specs.Lines.{is_separator, separator_of}

-- the byte ends a line: none does where one line stands alone
abbrev pub is_end : Option Framing → ℕ → Bool
is_end None byte = false
is_end (Some framing) byte = is_separator (separator_of framing) byte
