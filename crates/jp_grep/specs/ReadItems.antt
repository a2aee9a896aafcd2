-- Lines, texts and elements that were read.
use Rattle.std.specs.Prelude.{◌≡◌, ℕ, List, length, map, zip, Option, Some, None, MatchOption}
use denote.Ref.{Bor}
use Rattle.jp_model.specs.declared.Framing.TheVariants as framings
use Rattle.jp_model.specs.Json.Places.{bytes_between}
use Rattle.jp_model.specs.Json.Status.{LineStatus, blank, refused, parsed}
use Rattle.jp_cut.specs.declared.cutter.PieceAt.{PieceAt}
use Rattle.jp_lines.specs.Batches.{IsBatch, texts_of}
use Rattle.jp_lines.specs.Views.{text_of_view, tree_of_view}
use Rattle.jp_lines.specs.declared.batch.Batch.{Batch}
use Rattle.jp_lines.specs.declared.batch.LineState.{LineState}
use Rattle.jp_lines.specs.declared.batch.LineState.TheVariants as states
use Rattle.jp_grep.specs.Items.{Item, item_with, line_item}
use Rattle.jp_grep.specs.declared.items.ReadItem.{ReadItem}
use Rattle.jp_grep.specs.declared.items.ReadItems.{ReadItems}

-- what is told of a text that was read
abbrev pub status_by : LineState → LineStatus
status_by states.Blank = blank
status_by (states.Refused fault) = refused fault
status_by (states.Tree view) = parsed (tree_of_view view)

-- a line, text or element that was read
abbrev pub item_of : ReadItem → Item
item_of item = record { text = item.text.now; status = status_by item.state; from_line = item.from_line; most = None; given_up = None }

-- where it has a tree, that is opened over its text
abbrev pub IsOpened : LineState → List ℕ → Type 0
IsOpened (states.Tree view) text = text_of_view view ≡ text
IsOpened _ text = Unit {0}

abbrev pub IsReadItem : ReadItem → Type 0
IsReadItem item = IsOpened item.state item.text.now

-- the bytes of a piece among those that are held
abbrev pub piece_text : List ℕ → PieceAt → List ℕ
piece_text held at = bytes_between held at.start at.end

-- a piece of this text
abbrev pub piece_with : List ℕ × PieceAt → Item
piece_with pair = item_with pair.0 pair.1.is_closed pair.1.line_feeds

-- a piece by where it is held
abbrev pub held_item : List ℕ → PieceAt → Item
held_item held at = piece_with (piece_text held at, at)

-- those of a batch, where this is known of each piece
abbrev pub items_by : Option (Bor (List PieceAt)) → Batch → List Item
items_by None batch = map (line_item batch.framing) (texts_of batch)
items_by (Some pieces) batch = map piece_with (zip (texts_of batch) pieces.now)

abbrev pub items_of : ReadItems → List Item
items_of items = items_by items.pieces items.batch

-- the texts of a batch are pieces
pub record ArePieces (batch : Batch) (pieces : List PieceAt) : Type 0 where
  pub framing : batch.framing ≡ framings.Lines
  pub as_many : length pieces ≡ length (texts_of batch)

-- each is read
pub record AreRead (items : ReadItems) : Type 0 where
  pub batch : IsBatch items.batch
  pub pieces : MatchOption items.pieces (Unit {0}) (λ pieces. ArePieces items.batch pieces.now)
