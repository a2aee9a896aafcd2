-- What is so of the pieces of a stream is so of them as items.
use Rattle.std.proofs.Common.{◌≡◌, ◌∙◌, ℕ, List, [], ◌++◌, append-nil, map, refl, sym, ap, subst, Bool, true, false, None}
use Rattle.std.proofs.lemmas.List.{map-append}
use Rattle.jp_model.specs.declared.Framing.TheVariants as framings
use Rattle.jp_cut.specs.Cuts.{AreFirst, Piece, pieces_come}
use Rattle.jp_cut.specs.Holding.{HasRead}
use Rattle.jp_cut.specs.declared.machine.Pieces.{Pieces}
use Rattle.jp_form.specs.declared.form.Units.{Units}
use Rattle.jp_form.specs.declared.form.Units.TheVariants as unit
use Rattle.jp_grep.specs.Finding.{FindsEnded, FindsLast, noted_items}
use Rattle.jp_grep.specs.Formats.{format_of}
use Rattle.jp_grep.specs.Fronts.{AreRefused, IsOfLines}
use Rattle.jp_grep.specs.Items.{Item, framing_by, items_come, piece_item}
use Rattle.jp_grep.specs.Stands.{IsAnswered, IsTaken, Stands, StandsInPieces}
use Rattle.jp_grep.specs.declared.cutting.Cutting.{Cutting}
use Rattle.jp_grep.specs.declared.fault.SearchFault.{SearchFault}
use Rattle.jp_grep.specs.declared.source.Source.TheVariants as sources

-- a stream of pieces stands where pieces are asked for
are_pieces : (units : Units) (came : List ℕ) (cutting : Cutting) (answered : List Item) → Stands units came (sources.Pieces cutting) answered
    → (pieces : Pieces) × (units ≡ unit.Pieces pieces) × StandsInPieces pieces came cutting answered
are_pieces (unit.Pieces pieces) came cutting answered at = (pieces, refl, at)
are_pieces (unit.Lines framing) came cutting answered at = absurd at

first_by : (pieces : Pieces) (came more : List ℕ) (cutting : Cutting) (handed : List Piece) (first : Bool) → IsAnswered pieces came cutting handed first → AreFirst pieces (came ++ more) handed
first_by pieces came more cutting handed true at = record {
  others = λ ends. pieces_come pieces ends (came ++ more);
  joined = λ ends. ap (λ l. l ++ pieces_come pieces ends (came ++ more)) (sym at.none);
}
first_by pieces came more cutting handed false at = at.first more

unmarked : (pieces : Pieces) (came : List ℕ) (cutting : Cutting) (handed : List Piece) (first : Bool) → IsAnswered pieces came cutting handed first → format_of came ≡ None
unmarked pieces came cutting handed true at = at.format
unmarked pieces came cutting handed false at = ap format_of (sym (append-nil came)) ∙ at.cut.format []

module _ (units : Units) (came : List ℕ) (cutting : Cutting) (answered : List Item) (stands : Stands units came (sources.Pieces cutting) answered) where
  pub pieces_of_it : Pieces
  pieces_of_it = (are_pieces units came cutting answered stands).0

  pub units_are : units ≡ unit.Pieces pieces_of_it
  unfolding pieces_of_it
  units_are = (are_pieces units came cutting answered stands).1

  pub in_pieces : StandsInPieces pieces_of_it came cutting answered
  unfolding pieces_of_it
  in_pieces = (are_pieces units came cutting answered stands).2

  -- what was answered is the first of all that comes
  pub first_come : (ends : Bool) (bytes : List ℕ) → (others : List Item) × (items_come units ends (came ++ bytes) ≡ (answered ++ []) ++ others)
  first_come ends bytes =
      let first = first_by pieces_of_it came bytes cutting in_pieces.handed cutting.is_first in_pieces.at in (
        map piece_item (first.others ends),
        ap (λ u. items_come u ends (came ++ bytes)) units_are
            ∙ ap (map piece_item) (first.joined ends)
            ∙ map-append piece_item in_pieces.handed (first.others ends)
            ∙ ap (λ l. l ++ map piece_item (first.others ends)) (sym in_pieces.items ∙ sym (append-nil answered)),
      )

  pub refused_so : (bytes : List ℕ) (fault : SearchFault) → (in_pieces.handed ≡ []) × AreRefused framings.Lines (came ++ bytes) fault → (answered ≡ []) × AreRefused (framing_by units) (came ++ bytes) fault
  refused_so bytes fault said = (
    in_pieces.items ∙ ap (map piece_item) said.0,
    subst (λ (u : Units). AreRefused (framing_by u) (came ++ bytes) fault) (sym units_are) said.1,
  )

  -- any bytes are pieces
  pub framed_so : IsOfLines (framing_by units) came
  framed_so = subst (λ (u : Units). IsOfLines (framing_by u) came) (sym units_are) (record { format = unmarked pieces_of_it came cutting in_pieces.handed cutting.is_first in_pieces.at; framed = refl })

  -- no piece was handed out while the front of the stream is held
  pub stand_before : (new : Cutting) (bytes : List ℕ) → IsTaken pieces_of_it (came ++ bytes) new in_pieces.handed new.is_first → new.is_first ≡ true → Stands units (came ++ bytes) (sources.Pieces new) (answered ++ [])
  stand_before new bytes taken first =
      subst (λ (u : Units). Stands u (came ++ bytes) (sources.Pieces new) (answered ++ [])) (sym units_are) (record {
        handed = in_pieces.handed;
        items = append-nil answered ∙ in_pieces.items;
        at = subst (λ (b : Bool). IsAnswered pieces_of_it (came ++ bytes) new in_pieces.handed b) (sym first) (subst (λ (b : Bool). IsTaken pieces_of_it (came ++ bytes) new in_pieces.handed b) first taken);
      })

  more_items : (noted : Cutting) (more : List Piece) → noted_items noted ≡ map piece_item more → answered ++ noted_items noted ≡ map piece_item (in_pieces.handed ++ more)
  more_items noted more e = ap (λ l. l ++ noted_items noted) in_pieces.items ∙ ap (λ l. map piece_item in_pieces.handed ++ l) e ∙ sym (map-append piece_item in_pieces.handed more)

  -- those that ended are noted
  pub stand_more : (taken noted : Cutting) (bytes : List ℕ) → IsTaken pieces_of_it (came ++ bytes) taken in_pieces.handed taken.is_first → taken.is_first ≡ false → noted.is_first ≡ taken.is_first
      → FindsEnded pieces_of_it (came ++ bytes) in_pieces.handed noted → Stands units (came ++ bytes) (sources.Pieces noted) (answered ++ noted_items noted)
  stand_more taken noted bytes is cut same found =
      let cut_is = subst (λ (b : Bool). IsTaken pieces_of_it (came ++ bytes) taken in_pieces.handed b) cut is in
      subst (λ (u : Units). Stands u (came ++ bytes) (sources.Pieces noted) (answered ++ noted_items noted)) (sym units_are) (record {
        handed = in_pieces.handed ++ found.more;
        items = more_items noted found.more found.items;
        at = subst (λ (b : Bool). IsAnswered pieces_of_it (came ++ bytes) noted (in_pieces.handed ++ found.more) b) (sym (same ∙ cut)) (record {
          cut = record { read = found.read; format = cut_is.format };
          closed = found.closed;
          first = found.first;
        });
      })

  pub read_of : (taken : Cutting) (bytes : List ℕ) → IsTaken pieces_of_it (came ++ bytes) taken in_pieces.handed taken.is_first → taken.is_first ≡ false → HasRead pieces_of_it (came ++ bytes) in_pieces.handed taken.cutter
  read_of taken bytes is cut = (subst (λ (b : Bool). IsTaken pieces_of_it (came ++ bytes) taken in_pieces.handed b) cut is).read

  pub ended_come : (noted : Cutting) (bytes : List ℕ) → FindsEnded pieces_of_it (came ++ bytes) in_pieces.handed noted → (others : List Item) × (items_come units false (came ++ bytes) ≡ (answered ++ noted_items noted) ++ others)
  ended_come noted bytes found = (
    [],
    ap (λ u. items_come u false (came ++ bytes)) units_are ∙ ap (map piece_item) found.closed ∙ sym (more_items noted found.more found.items) ∙ sym (append-nil (answered ++ noted_items noted)),
  )

  -- so are the last ones
  pub all_come : (noted : Cutting) → FindsLast pieces_of_it came in_pieces.handed noted → items_come units true came ≡ answered ++ noted_items noted
  all_come noted found = ap (λ u. items_come u true came) units_are ∙ ap (map piece_item) found.all ∙ sym (more_items noted found.more found.items)
