-- As many were read as there are texts.
use Rattle.std.proofs.Common.{◌≡◌, List, length, zip, arith, subst, Option, Some, None}
use Rattle.std.specs.Prelude.{MatchOption}
use denote.Ref.{Bor}
use Rattle.std.proofs.lemmas.List.{length-map}
use Rattle.std.proofs.lemmas.Slice.Zip.{length-zip}
use Rattle.jp_cut.specs.declared.cutter.PieceAt.{PieceAt}
use Rattle.jp_lines.specs.Batches.{texts_of}
use Rattle.jp_lines.specs.declared.batch.Batch.{Batch}
use Rattle.jp_grep.specs.Items.{line_item}
use Rattle.jp_grep.specs.ReadItems.{ArePieces, AreRead, items_by, items_of, piece_with}
use Rattle.jp_grep.specs.declared.items.ReadItems.{ReadItems}

by_pieces : (batch : Batch) (pieces : Option (Bor (List PieceAt))) → MatchOption pieces (Unit {0}) (λ some. ArePieces batch some.now) → length (items_by pieces batch) ≡ length (texts_of batch)
by_pieces batch None are = length-map (texts_of batch) (line_item batch.framing)
by_pieces batch (Some some) are = omega (arith, length-map (zip (texts_of batch) some.now) piece_with, length-zip (texts_of batch) some.now, are.as_many)

pub items_long : (items : ReadItems) → AreRead items → length (items_of items) ≡ length (texts_of items.batch)
items_long items read = by_pieces items.batch items.pieces read.pieces

-- as many pieces are known
pub pieces_long : (items : ReadItems) (pieces : Bor (List PieceAt)) → items.pieces ≡ Some pieces → AreRead items → length pieces.now ≡ length (texts_of items.batch)
pieces_long items pieces is read = (subst (λ (some : Option (Bor (List PieceAt))). MatchOption some (Unit {0}) (λ of. ArePieces items.batch of.now)) is read.pieces).as_many
