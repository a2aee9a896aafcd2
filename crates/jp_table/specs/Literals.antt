-- The values of JSON that have a text without quotes and brackets.
use Rattle.std.specs.Prelude.{◌≡◌, ◌↔◌, ℕ, List, Bool, true, false, ◌&&◌, ◌||◌, bytes_eq}
use Rattle.jp_model.specs.Json.Numbers.{IsNumeral, Numeral, numeral_bytes, numeral_of}
use Rattle.jp_model.specs.Json.Reader.{is_numeral}
use Rattle.jp_model.specs.Json.Spelling.{null_word, word_of}

-- the bytes are a number: the parts at their front are a number's, and they are all of them (RFC 8259, section 6)
unfoldable pub is_number : List ℕ → Bool
is_number bytes = is_numeral (numeral_of bytes) && bytes_eq (numeral_bytes (numeral_of bytes)) bytes

-- some parts that the grammar of numbers allows are spelled by these bytes
abbrev pub IsSpelled : List ℕ → Type 0
IsSpelled bytes = (n : Numeral) × IsNumeral n × (numeral_bytes n ≡ bytes)

-- The bytes that are a number are those that the grammar spells.
abbrev pub NumbersAreSpelled : Type 0
NumbersAreSpelled = (bytes : List ℕ) → (is_number bytes ≡ true) ↔ IsSpelled bytes

-- the bytes are `null`, `true`, `false` or a number (RFC 8259, section 3)
abbrev pub is_literal : List ℕ → Bool
is_literal bytes = bytes_eq bytes null_word || bytes_eq bytes (word_of true) || bytes_eq bytes (word_of false) || is_number bytes
