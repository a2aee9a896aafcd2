-- The tape of a line.
use Rattle.std.specs.Prelude.{◌≡◌, ℕ, ◌<◌, ◌^◌, Bool, true, false, List, length, unwrap_or}
use Rattle.std.specs.Option.{is_some}
use Rattle.jp_model.specs.Json.Tree.{Tree, node, null}
use Rattle.jp_model.specs.Json.Faults.{has_surrogate, has_long_exponent, has_duplicate}
use Rattle.jp_model.specs.Json.Reader.{tree_of}
use Rattle.jp_nodes.specs.Words.{tape_words}

-- the line spells a tree
unfoldable pub is_spelled : List ℕ → Bool
is_spelled line = is_some (tree_of line)

-- the tree that a line spells, and null where it spells none
unfoldable pub spelled : List ℕ → Tree
spelled line = unwrap_or (tree_of line) (node (record { start = 0; end = 0 }) null)

-- The words are the tape of the line, which spells a tree and has at most 4,294,967,295 bytes. In the tree no half of a
-- surrogate pair stands alone, no number has a long exponent, and no object has two members of one name (RFC 8259,
-- sections 8.2, 9 and 4; profile).
pub record IsTapeOf (words line : List ℕ) : Type 0 where
  pub spelled_line : is_spelled line ≡ true
  pub words_are : words ≡ tape_words (spelled line)
  pub short : length line < 2 ^ 32
  pub whole : has_surrogate (spelled line) ≡ false
  pub exponents : has_long_exponent line (spelled line) ≡ false
  pub distinct : has_duplicate (spelled line) ≡ false
