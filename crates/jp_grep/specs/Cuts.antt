-- Where the lines end that are whole, and what they leave.
use Rattle.std.specs.Prelude.{◌≡◌, ℕ, List, [], ◌∷◌, ◌++◌, Bool, true, false}
use Rattle.jp_model.specs.declared.Framing.{Framing}
use Rattle.jp_model.specs.declared.Framing.TheVariants as framings
use Rattle.jp_model.specs.Lines.{HasNoSeparator, separator_of, without_byte_order_mark}

-- no line ends in these bytes
abbrev pub HasNoEnd : Framing → List ℕ → Type 0
HasNoEnd framing bytes = HasNoSeparator (separator_of framing) bytes

-- The last line that ends in some bytes ends between these two parts of them: after a line feed, or in front of the RS of the
-- next text (RFC 7464, section 2.1).
abbrev pub EndsBetween : Framing → List ℕ → List ℕ → Type 0
EndsBetween framings.Lines front rest = (line : List ℕ) × (front ≡ line ++ 0x0A ∷ []) × HasNoSeparator 0x0A rest
EndsBetween framings.Sequence front rest = (text : List ℕ) × (rest ≡ 0x1E ∷ text) × HasNoSeparator 0x1E text

-- the text of a stream in some bytes of it; a byte order mark at its front is none of it (RFC 8259, section 8.1)
abbrev pub text_of : Bool → List ℕ → List ℕ
text_of true bytes = without_byte_order_mark bytes
text_of false bytes = bytes
