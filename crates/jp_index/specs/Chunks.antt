-- Lines in chunks.
use Rattle.std.specs.Prelude.{◌≡◌, ℕ, zero, suc, ◌++◌, take, drop, ◌<◌, ◌≤◌, Bool, false, List, [], ◌∷◌, Vec, vec_len, vec_capacity}
use Rattle.std.specs.List.{flat_map}
use Rattle.std.specs.declared.alloc.Global.{Global}

-- the lines of some chunks, one chunk after another
abbrev pub lines_in : List (Vec ℕ Global) → List ℕ
lines_in chunks = flat_map (λ chunk. chunk.items) chunks

-- a chunk has a line, and room for one more
pub record IsChunk (chunk : Vec ℕ Global) : Type 0 where
  pub has_line : 1 ≤ vec_len chunk
  pub has_room : vec_len chunk < 512
  pub most : 512 ≤ vec_capacity chunk

-- a chunk has no line, and room for some
pub record IsSpare (chunk : Vec ℕ Global) : Type 0 where
  pub no_line : chunk.items ≡ []
  pub most : 512 ≤ vec_capacity chunk

-- there is a first line, and it passes
abbrev pub begins_by : (ℕ → Bool) → List ℕ → Bool
begins_by test [] = false
begins_by test (line ∷ lines) = test line

-- the lines of the chunk at a position
abbrev pub chunk_at : List (Vec ℕ Global) → ℕ → List ℕ
chunk_at [] i = []
chunk_at (chunk ∷ chunks) zero = chunk.items
chunk_at (chunk ∷ chunks) (suc i) = chunk_at chunks i

-- the lines of the chunks in front of a chunk, and of those after it
abbrev pub lines_before : List (Vec ℕ Global) → ℕ → List ℕ
lines_before chunks i = lines_in (take i chunks)

abbrev pub lines_behind : List (Vec ℕ Global) → ℕ → List ℕ
lines_behind chunks i = lines_in (drop (suc i) chunks)

-- the lines of some chunks, with others in the place of one chunk's
abbrev pub with_chunk : List (Vec ℕ Global) → ℕ → List ℕ → List ℕ
with_chunk chunks i lines = lines_before chunks i ++ (lines ++ lines_behind chunks i)
