-- Which pieces of a stream are noted.
use Rattle.std.specs.Prelude.{◌≡◌, ℕ, List, [], ◌++◌, map, true, false}
use Rattle.jp_model.specs.declared.Framing.TheVariants as framings
use Rattle.jp_model.specs.declared.Span.{Span}
use Rattle.jp_cut.specs.Cuts.{AreFirst, Piece, pieces_come}
use Rattle.jp_cut.specs.declared.cutter.PieceAt.{PieceAt}
use Rattle.jp_cut.specs.declared.machine.Pieces.{Pieces}
use Rattle.jp_cut.specs.Holding.{HasRead}
use Rattle.jp_grep.specs.Faults.{is_front_fault}
use Rattle.jp_grep.specs.Fronts.{AreRefused}
use Rattle.jp_grep.specs.Items.{Item, piece_item}
use Rattle.jp_grep.specs.ReadItems.{held_item}
use Rattle.jp_grep.specs.declared.cutting.Cutting.{Cutting}
use Rattle.jp_grep.specs.declared.fault.SearchFault.{SearchFault}

-- where it is
abbrev pub span_of : PieceAt → Span
span_of at = record { start = at.start; end = at.end }

-- what is noted, as items
abbrev pub noted_items : Cutting → List Item
noted_items cutting = map (held_item cutting.cutter.held.items) cutting.pieces.items

-- The pieces that are noted are those that were handed out after others, and all that ended.
pub record FindsEnded (pieces : Pieces) (stream : List ℕ) (handed : List Piece) (cutting : Cutting) : Type 0 where
  pub more : List Piece
  pub read : HasRead pieces stream (handed ++ more) cutting.cutter
  pub items : noted_items cutting ≡ map piece_item more
  pub closed : pieces_come pieces false stream ≡ handed ++ more
  pub first : (further : List ℕ) → AreFirst pieces (stream ++ further) (handed ++ more)

-- they are the others of a stream that has ended
pub record FindsLast (pieces : Pieces) (stream : List ℕ) (handed : List Piece) (cutting : Cutting) : Type 0 where
  pub more : List Piece
  pub items : noted_items cutting ≡ map piece_item more
  pub all : pieces_come pieces true stream ≡ handed ++ more

-- a fault by which a stream is refused as a whole stands for its first bytes, before which nothing was handed out
abbrev pub RefusesFront : List ℕ → List ℕ → List Piece → SearchFault → Type 0
RefusesFront came bytes handed fault = is_front_fault fault ≡ true → (handed ≡ []) × AreRefused framings.Lines (came ++ bytes) fault
