-- Literals whose numbers can be read (RFC 9535, section 2.3.5.1).
use Rattle.std.specs.Prelude.{◌^◌, length, Bool, true, not, ◌&&◌, nat_lt}
use Rattle.jp_model.specs.Characters.{text_equal}
use Rattle.jp_model.specs.Json.Numbers.{numeral_bytes, numeral_of, is_long_exponent}
use Rattle.jp_model.specs.Json.Reader.{is_numeral}
use Rattle.jp_model.specs.Query.Limits.{segments_pass, logical_passes}
use Rattle.jp_model.specs.Query.Syntax.{Literal, number_literal, Segments, Logical}

-- a number is spelled as RFC 8259, section 6, has it, its exponent is short enough (profile), and its bytes can be counted
-- in thirty-two bits
abbrev pub is_sound : Literal → Bool
is_sound (number_literal x) =
    (text_equal (numeral_bytes (numeral_of x)) x && (is_numeral (numeral_of x) && not (is_long_exponent (numeral_of x)))) && nat_lt (length x) (2 ^ 32)
is_sound _ = true

-- each literal of a query can be read
abbrev pub has_sound_literals : Segments → Bool
has_sound_literals q = segments_pass q (record { integer = λ i. true; literal = is_sound; function = λ f. true })

-- each literal of an expression can be read
abbrev pub logical_has_sound_literals : Logical → Bool
logical_has_sound_literals l = logical_passes l (record { integer = λ i. true; literal = is_sound; function = λ f. true })
