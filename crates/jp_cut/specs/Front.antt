-- The front of a stream.
use Rattle.std.specs.Prelude.{ℕ, Bool, true, false, ◌&&◌, ◌==◌, List, [], ◌∷◌}

-- These bytes may be the beginning of a byte order mark that is still to come whole (RFC 8259, section 8.1).
abbrev pub may_become_mark : List ℕ → Bool
may_become_mark [] = true
may_become_mark (first ∷ []) = first == 0xEF
may_become_mark (first ∷ second ∷ []) = (first == 0xEF) && (second == 0xBB)
may_become_mark (first ∷ second ∷ third ∷ rest) = false
