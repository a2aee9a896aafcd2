-- Data of other formats, which a stream is by the mark that it begins with.
use Rattle.std.specs.Prelude.{ℕ, List, [], ◌∷◌, ◌++◌, map, codes, Bool, eqb, Option, Some, None, if◌then◌else◌}
use Rattle.std.specs.List.{list_any, starts_with}
use denote.Ref.{Bor}
use Rattle.jp_grep.specs.declared.format.Format.{Format}
use Rattle.jp_grep.specs.declared.format.Format.TheVariants as formats

-- a mark, and the format of what begins with it
pub record Mark : Type 0 where
  pub format : Format
  pub bytes : List ℕ

-- the marks of bzip2, in which a digit from 1 to 9 gives the size of the blocks
abbrev pub bzip2_mark : ℕ → Mark
bzip2_mark digit = record { format = formats.Bzip2; bytes = codes "BZh" ++ digit ∷ 0x31 ∷ 0x41 ∷ 0x59 ∷ 0x26 ∷ 0x53 ∷ 0x59 ∷ [] }

-- all marks: of gzip (RFC 1952, section 2.3.1), Zstandard (RFC 8878, section 3.1.1), xz, zip, UTF-16 (RFC 2781, section 3.2) and
-- bzip2
abbrev pub marks : List Mark
marks =
    record { format = formats.Gzip; bytes = 0x1F ∷ 0x8B ∷ [] }
    ∷ record { format = formats.Zstd; bytes = 0x28 ∷ 0xB5 ∷ 0x2F ∷ 0xFD ∷ [] }
    ∷ record { format = formats.Xz; bytes = 0xFD ∷ codes "7zXZ" ++ 0x00 ∷ [] }
    ∷ record { format = formats.Zip; bytes = codes "PK" ++ 0x03 ∷ 0x04 ∷ [] }
    ∷ record { format = formats.Utf16; bytes = 0xFF ∷ 0xFE ∷ [] }
    ∷ record { format = formats.Utf16; bytes = 0xFE ∷ 0xFF ∷ [] }
    ∷ map bzip2_mark (codes "123456789")

-- the format of the first of some marks that the bytes begin with
abbrev pub first_format : List Mark → List ℕ → Option Format
first_format [] bytes = None
first_format (mark ∷ rest) bytes = if starts_with eqb bytes mark.bytes then Some mark.format else first_format rest bytes

-- the format whose mark the bytes begin with
unfoldable pub format_of : List ℕ → Option Format
format_of bytes = first_format marks bytes

-- the bytes are the beginning of one of some marks, or all of it
abbrev pub begins_one : List Mark → List ℕ → Bool
begins_one some bytes = list_any (λ mark. starts_with eqb mark.bytes bytes) some

-- the bytes are the beginning of a mark
unfoldable pub begins_mark : List ℕ → Bool
begins_mark bytes = begins_one marks bytes

-- a mark as a pair that the program has
abbrev pub as_mark : Format × Bor (List ℕ) → Mark
as_mark pair = record { format = pair.0; bytes = pair.1.now }
