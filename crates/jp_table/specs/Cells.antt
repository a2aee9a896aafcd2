-- The cells of a table, and which of them stand in quotes between commas.
use Rattle.std.specs.Prelude.{ℕ, List, [], Bool, true, false, ◌||◌, ◌==◌, length}
use Rattle.std.specs.List.{list_any}
use Rattle.jp_model.specs.Json.Numbers.{head_of}
use Rattle.jp_model.specs.Json.Spelling.{opening}
use Rattle.jp_model.specs.Json.Tree.{array, object}
use Rattle.jp_table.specs.Literals.{is_literal}
use Rattle.jp_table.specs.declared.cell.CellKind.{CellKind}
use Rattle.jp_table.specs.declared.cell.CellKind.TheVariants as kinds

-- a cell: what it has, and the text of that
pub record Cell : Type 0 where
  pub kind : CellKind
  pub text : List ℕ

-- a cell of nothing
abbrev pub no_cell : Cell
no_cell = record { kind = kinds.Nothing; text = [] }

-- a text that stands for itself
abbrev pub bare_cell : List ℕ → Cell
bare_cell text = record { kind = kinds.Bare; text = text }

-- a string
abbrev pub text_cell : List ℕ → Cell
text_cell text = record { kind = kinds.Text; text = text }

-- a byte for which a cell between commas is quoted: a comma, a quote, a carriage return or a line feed (RFC 4180, section 2,
-- rule 6)
abbrev pub wants_quotes : ℕ → Bool
wants_quotes byte = byte == 0x2C || byte == 0x22 || byte == 0x0D || byte == 0x0A

-- Quotes tell what a cell has: a string that would be taken for nothing or for a literal without them, an array or an object
-- (profile).
abbrev pub tells_kind : CellKind → List ℕ → Bool
tells_kind kinds.Nothing text = false
tells_kind kinds.Bare text = false
tells_kind kinds.Text text = length text == 0 || is_literal text
tells_kind kinds.Structure text = true

-- a cell between commas stands in quotes
abbrev pub is_quoted : Cell → Bool
is_quoted cell = tells_kind cell.kind cell.text || list_any wants_quotes cell.text

-- a text begins as that of an array or an object does
abbrev pub begins_structure : List ℕ → Bool
begins_structure text = head_of text == opening array || head_of text == opening object
