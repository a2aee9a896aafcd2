-- How a value is spelled where it is printed.
use Rattle.std.specs.Prelude.{ℕ, List, Bool, true, false, not, ◌==◌, ◌||◌, encode_utf8_all, filter, if◌then◌else◌}
use Rattle.std.specs.Option.{option_map_or}
use Rattle.jp_model.specs.Json.Tree.{Tree, value_of}
use Rattle.jp_model.specs.Rows.{source}
use Rattle.jp_nodes.specs.Contents.{text_in}
use Rattle.jp_nodes.specs.Kinds.{kind_of}
use Rattle.jp_nodes.specs.declared.Kind.{Kind}
use Rattle.jp_nodes.specs.declared.Kind.TheVariants as kinds
use Rattle.jp_canon.specs.Canonical.{canonical_text}
use Rattle.jp_form.specs.declared.form.Units.{Units}
use Rattle.jp_form.specs.declared.form.Units.TheVariants as unit
use Rattle.jp_form.specs.declared.form.Table.{Table}
use Rattle.jp_form.specs.declared.form.Table.TheVariants as tables
use Rattle.jp_form.specs.declared.form.Spelling.{Spelling}
use Rattle.jp_form.specs.declared.form.Spelling.TheVariants as spellings
use Rattle.jp_table.specs.Cells.{Cell}
use Rattle.jp_table.specs.declared.cell.CellKind.{CellKind}
use Rattle.jp_table.specs.declared.cell.CellKind.TheVariants as cells

-- a line feed or a carriage return: in a JSON text each of them is white space between two tokens (RFC 8259, section 2)
abbrev pub is_line_break : ℕ → Bool
is_line_break byte = (byte == 0x0A) || (byte == 0x0D)

-- The bytes of a value as they are printed. Those of a text that may have several lines are one row without its line breaks.
abbrev pub printed : Units → List ℕ → List ℕ
printed (unit.Lines framing) bytes = bytes
printed (unit.Pieces pieces) bytes = filter (λ byte. not (is_line_break byte)) bytes

-- a string by its characters in UTF-8, where each escape gives what it stands for (RFC 8259, section 7), and any other value by
-- other bytes
abbrev pub plain_or : List ℕ → Tree → List ℕ
plain_or other t = option_map_or encode_utf8_all (text_in (value_of t)) other

-- a value as it is wanted: as its line spells it, plain, or in canonical form
abbrev pub spelled : Spelling → Units → List ℕ → Tree → List ℕ
spelled spellings.Source units line t = printed units (source line t)
spelled spellings.Text units line t = plain_or (printed units (source line t)) t
spelled spellings.Canonical units line t = canonical_text t

-- an array or an object
abbrev pub has_children : Kind → Bool
has_children kinds.Array = true
has_children kinds.Object = true
has_children _ = false

-- an array or an object in canonical form, any other value plain
abbrev pub flat : List ℕ → Tree → List ℕ
flat line t = if has_children (kind_of (value_of t)) then canonical_text t else plain_or (source line t) t

-- a value as the cells of a table spell it (profile)
abbrev pub cell_text_of : Table → List ℕ → Tree → List ℕ
cell_text_of tables.Tabs line t = flat line t
cell_text_of tables.Commas line t = flat line t
cell_text_of tables.Canonical line t = canonical_text t

-- what a cell with a value of a kind has
abbrev pub cell_kind : Kind → CellKind
cell_kind kinds.Text = cells.Text
cell_kind kinds.Array = cells.Structure
cell_kind kinds.Object = cells.Structure
cell_kind _ = cells.Bare

-- the cell of a value
abbrev pub cell_of : Table → List ℕ → Tree → Cell
cell_of table line t = record { kind = cell_kind (kind_of (value_of t)); text = cell_text_of table line t }
