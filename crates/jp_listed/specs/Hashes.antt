-- The hash of a text.
use Rattle.std.specs.Prelude.{ℕ, ◌+◌, ◌*◌, ◌%◌, ◌^◌, List, [], ◌∷◌}

-- a hash with a byte more
abbrev pub hashed : ℕ → ℕ → ℕ
hashed hash byte = ((hash + byte) % 2 ^ 64 * 0x9E3779B97F4A7C15) % 2 ^ 64

-- a hash with more bytes
abbrev pub hash_on : ℕ → List ℕ → ℕ
hash_on hash [] = hash
hash_on hash (byte ∷ bytes) = hash_on (hashed hash byte) bytes

-- the hash of a text
abbrev pub hash_of : List ℕ → ℕ
hash_of text = hash_on 0 text
