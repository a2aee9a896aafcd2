-- Where a source stands: what came is answered as far as it ended, and may go on.
use Rattle.std.proofs.Common.{◌≡◌, ◌∙◌, ℕ, List, [], map, append-nil, refl, sym, ap, subst, Bool, true, false, None, inr}
use Rattle.jp_cut.specs.Cuts.{Piece, pieces_come}
use Rattle.jp_cut.specs.declared.machine.Pieces.{Pieces}
use Rattle.jp_form.specs.declared.form.Units.{Units}
use Rattle.jp_form.specs.declared.form.Units.TheVariants as unit
use Rattle.jp_grep.specs.Formats.{format_of}
use Rattle.jp_grep.specs.Fronts.{MayGoOn}
use Rattle.jp_grep.specs.Items.{Item, framing_by, items_come, line_item, piece_item}
use Rattle.jp_grep.specs.Stands.{IsAnswered, Stands, StandsInLines}
use Rattle.jp_grep.specs.declared.cutting.Cutting.{Cutting}
use Rattle.jp_grep.specs.declared.source.Source.{Source}
use Rattle.jp_grep.specs.declared.source.Source.TheVariants as sources
use Rattle.jp_grep.specs.declared.stream.Stream.{Stream}
use Rattle.jp_grep.proofs.Position.{closed_now, goes_as_lines}
use Rattle.jp_grep.proofs.Uncut.{none_ended}

closed_by : (pieces : Pieces) (came : List ℕ) (cutting : Cutting) (handed : List Piece) (first : Bool) → IsAnswered pieces came cutting handed first → pieces_come pieces false came ≡ handed
closed_by pieces came cutting handed true at = none_ended pieces came at.begins ∙ sym at.none
closed_by pieces came cutting handed false at = at.closed

-- what ended is answered
pub come_now : (units : Units) (came : List ℕ) (source : Source) (answered : List Item) → Stands units came source answered → items_come units false came ≡ answered
come_now (unit.Lines framing) came (sources.Lines stream) answered at = ap (map (line_item framing)) (closed_now framing came stream.held.items at.lines stream.is_first at.at) ∙ sym at.items
come_now (unit.Lines framing) came (sources.Pieces cutting) answered at = absurd at
come_now (unit.Pieces pieces) came (sources.Lines stream) answered at = absurd at
come_now (unit.Pieces pieces) came (sources.Pieces cutting) answered at = ap (map piece_item) (closed_by pieces came cutting at.handed cutting.is_first at.at) ∙ sym at.items

unmarked : (pieces : Pieces) (came : List ℕ) (cutting : Cutting) (handed : List Piece) (first : Bool) → IsAnswered pieces came cutting handed first → format_of came ≡ None
unmarked pieces came cutting handed true at = at.format
unmarked pieces came cutting handed false at = ap format_of (sym (append-nil came)) ∙ at.cut.format []

-- what came may go on
pub goes_as : (units : Units) (came : List ℕ) (source : Source) (answered : List Item) → Stands units came source answered → MayGoOn (framing_by units) came
goes_as (unit.Lines framing) came (sources.Lines stream) answered at = goes_as_lines framing came stream.held.items at.lines stream.is_first at.at
goes_as (unit.Lines framing) came (sources.Pieces cutting) answered at = absurd at
goes_as (unit.Pieces pieces) came (sources.Lines stream) answered at = absurd at
goes_as (unit.Pieces pieces) came (sources.Pieces cutting) answered at = record { format = unmarked pieces came cutting at.handed cutting.is_first at.at; framed = inr ([], refl) }

-- a stream of lines stands where its framing is the one that is asked for
pub are_lines : (units : Units) (came : List ℕ) (stream : Stream) (answered : List Item) → Stands units came (sources.Lines stream) answered
    → (units ≡ unit.Lines stream.framing) × StandsInLines stream.framing came stream answered
are_lines (unit.Lines framing) came stream answered at = subst (λ f. (unit.Lines framing ≡ unit.Lines f) × StandsInLines f came stream answered) (sym at.framed) (refl, at)
are_lines (unit.Pieces pieces) came stream answered at = absurd at
