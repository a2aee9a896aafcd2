-- The names of a normalized path as bytes (RFC 9535, section 2.7).
use Rattle.std.specs.Prelude.{ℕ, List, Bool, not, ◌&&◌, ◌==◌, flat_map, chars, encode_utf8_all}
use Rattle.jp_model.specs.Meaning.Paths.{name_scalar}
use Rattle.jp_strings.specs.Points.{IsText, points_of}
use Rattle.jp_rows.specs.declared.names.Name.{Name}
use Rattle.jp_rows.specs.declared.names.Name.TheVariants as names

-- what stands between the quotes of a name of these scalars
abbrev pub name_text : List ℕ → List ℕ
name_text points = encode_utf8_all (flat_map name_scalar points)

-- neither a reverse solidus nor an apostrophe
abbrev pub stands_unescaped : ℕ → Bool
stands_unescaped byte = not (byte == 0x5C) && not (byte == 0x27)

-- the scalars of a name
abbrev pub scalars_of : Name → List ℕ
scalars_of (names.Scalars text) = chars text.now
scalars_of (names.Body body) = points_of body.now

-- its body, if that is given, is one of a text
abbrev pub IsOfText : Name → Type 0
IsOfText (names.Scalars text) = Unit
IsOfText (names.Body body) = IsText body.now
