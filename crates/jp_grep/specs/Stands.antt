-- Which lines, texts or elements of the bytes that came are answered, and what a source holds of the others.
use Rattle.std.specs.Prelude.{◌≡◌, ℕ, ◌<◌, ◌^◌, List, [], ◌++◌, length, map, Bool, true, false, None}
use Rattle.jp_model.specs.declared.Framing.{Framing}
use Rattle.jp_cut.specs.Cuts.{AreFirst, Piece, pieces_come}
use Rattle.jp_cut.specs.Holding.{HasRead}
use Rattle.jp_cut.specs.declared.machine.Pieces.{Pieces}
use Rattle.jp_form.specs.declared.form.Units.{Units}
use Rattle.jp_form.specs.declared.form.Units.TheVariants as unit
use Rattle.jp_grep.specs.Formats.{begins_mark, format_of}
use Rattle.jp_grep.specs.Items.{Item, line_item, piece_item}
use Rattle.jp_grep.specs.Positions.{IsAt}
use Rattle.jp_grep.specs.declared.cutting.Cutting.{Cutting}
use Rattle.jp_grep.specs.declared.source.Source.{Source}
use Rattle.jp_grep.specs.declared.source.Source.TheVariants as sources
use Rattle.jp_grep.specs.declared.stream.Stream.{Stream}

-- a stream of lines
pub record StandsInLines (framing : Framing) (came : List ℕ) (stream : Stream) (answered : List Item) : Type 0 where
  pub lines : List (List ℕ)
  pub items : answered ≡ map (line_item framing) lines
  pub at : IsAt framing came stream.held.items lines stream.is_first
  pub framed : stream.framing ≡ framing
  pub few : length stream.held.items < 2 ^ 32

-- No piece is cut: the bytes that came may become the mark of another format.
pub record IsUncut (pieces : Pieces) (came : List ℕ) (cutting : Cutting) (handed : List Piece) : Type 0 where
  pub front : cutting.front.items ≡ came
  pub none : handed ≡ []
  pub begins : begins_mark came ≡ true
  pub format : format_of came ≡ None
  pub cutter : HasRead pieces [] [] cutting.cutter

-- the bytes that came are cut, and these pieces were handed out
pub record IsCut (pieces : Pieces) (came : List ℕ) (cutting : Cutting) (handed : List Piece) : Type 0 where
  pub read : HasRead pieces came handed cutting.cutter
  pub format : (more : List ℕ) → format_of (came ++ more) ≡ None

-- they are all that ended, and whatever comes the first
pub record IsCutToEnd (pieces : Pieces) (came : List ℕ) (cutting : Cutting) (handed : List Piece) : Type 0 where
  pub cut : IsCut pieces came cutting handed
  pub closed : pieces_come pieces false came ≡ handed
  pub first : (more : List ℕ) → AreFirst pieces (came ++ more) handed

-- the front of the stream is held, or it is cut
abbrev pub IsTaken : Pieces → List ℕ → Cutting → List Piece → Bool → Type 0
IsTaken pieces came cutting handed true = IsUncut pieces came cutting handed
IsTaken pieces came cutting handed false = IsCut pieces came cutting handed

abbrev pub IsAnswered : Pieces → List ℕ → Cutting → List Piece → Bool → Type 0
IsAnswered pieces came cutting handed true = IsUncut pieces came cutting handed
IsAnswered pieces came cutting handed false = IsCutToEnd pieces came cutting handed

-- a stream of texts or elements
pub record StandsInPieces (pieces : Pieces) (came : List ℕ) (cutting : Cutting) (answered : List Item) : Type 0 where
  pub handed : List Piece
  pub items : answered ≡ map piece_item handed
  pub at : IsAnswered pieces came cutting handed cutting.is_first

-- the one or the other
abbrev pub Stands : Units → List ℕ → Source → List Item → Type 0
Stands (unit.Lines framing) came (sources.Lines stream) answered = StandsInLines framing came stream answered
Stands (unit.Lines framing) came (sources.Pieces cutting) answered = ⊥
Stands (unit.Pieces pieces) came (sources.Lines stream) answered = ⊥
Stands (unit.Pieces pieces) came (sources.Pieces cutting) answered = StandsInPieces pieces came cutting answered

-- somehow
pub record HasStood (units : Units) (source : Source) : Type 0 where
  pub came : List ℕ
  pub answered : List Item
  pub stands : Stands units came source answered
