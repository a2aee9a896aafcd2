-- What is so of the lines of a stream is so of them as items.
use Rattle.std.proofs.Common.{◌≡◌, ◌∙◌, ◌<◌, ◌^◌, ℕ, List, [], ◌++◌, length, map, sym, ap, subst, Bool, true, false, None}
use Rattle.std.proofs.lemmas.List.{map-append}
use Rattle.jp_model.specs.declared.Framing.{Framing}
use Rattle.jp_model.specs.Lines.{is_framed, lines, without_byte_order_mark}
use Rattle.jp_grep.specs.Formats.{format_of}
use Rattle.jp_form.specs.declared.form.Units.{Units}
use Rattle.jp_form.specs.declared.form.Units.TheVariants as unit
use Rattle.jp_grep.specs.Cuts.{HasNoEnd}
use Rattle.jp_grep.specs.Fronts.{AreRefused, IsOfLines, MayGoOn}
use Rattle.jp_grep.specs.Items.{Item, framing_by, items_come, line_item}
use Rattle.jp_grep.specs.Positions.{IsAt}
use Rattle.jp_grep.specs.Stands.{Stands, StandsInLines}
use Rattle.jp_grep.specs.Streams.{closed_in}
use Rattle.jp_grep.specs.declared.fault.SearchFault.{SearchFault}
use Rattle.jp_grep.specs.declared.source.Source.TheVariants as sources
use Rattle.jp_grep.specs.declared.stream.Stream.{Stream}
use Rattle.jp_grep.proofs.Standing.{are_lines}

-- before a line was answered, what is held may go on, and no line ends in it
at_front : (framing : Framing) (came held : List ℕ) (answered : List (List ℕ)) (first : Bool) → IsAt framing came held answered first → first ≡ true → MayGoOn framing held × HasNoEnd framing held
at_front framing came held answered true at e = (subst (λ l. MayGoOn framing l) (sym at.same) at.front, subst (λ l. HasNoEnd framing l) (sym at.same) at.unended)
at_front framing came held answered false at e = absurd (cc)

more_items : (framing : Framing) (answered : List Item) (before more : List (List ℕ)) → answered ≡ map (line_item framing) before → answered ++ map (line_item framing) more ≡ map (line_item framing) (before ++ more)
more_items framing answered before more is = ap (λ l. l ++ map (line_item framing) more) is ∙ sym (map-append (line_item framing) before more)

module _ (units : Units) (came : List ℕ) (stream : Stream) (answered : List Item) (stands : Stands units came (sources.Lines stream) answered) where
  pub units_are : units ≡ unit.Lines stream.framing
  units_are = (are_lines units came stream answered stands).0

  pub in_lines : StandsInLines stream.framing came stream answered
  in_lines = (are_lines units came stream answered stands).1

  pub front_goes : stream.is_first ≡ true → MayGoOn stream.framing stream.held.items × HasNoEnd stream.framing stream.held.items
  front_goes first = at_front stream.framing came stream.held.items in_lines.lines stream.is_first in_lines.at first

  -- where more bytes came and these lines are answered too
  pub stand_more : (new : Stream) (bytes : List ℕ) (more : List (List ℕ)) → IsAt stream.framing (came ++ bytes) new.held.items (in_lines.lines ++ more) new.is_first → new.framing ≡ stream.framing
      → length new.held.items < 2 ^ 32 → Stands units (came ++ bytes) (sources.Lines new) (answered ++ map (line_item stream.framing) more)
  stand_more new bytes more at framed few =
      subst (λ (u : Units). Stands u (came ++ bytes) (sources.Lines new) (answered ++ map (line_item stream.framing) more)) (sym units_are) (record {
        lines = in_lines.lines ++ more;
        items = more_items stream.framing answered in_lines.lines more in_lines.items;
        at = at;
        framed = framed;
        few = few;
      })

  -- they are the first
  pub first_more : (bytes : List ℕ) (more others : List (List ℕ)) → closed_in stream.framing (without_byte_order_mark (came ++ bytes)) ≡ (in_lines.lines ++ more) ++ others
      → (rest : List Item) × (items_come units false (came ++ bytes) ≡ (answered ++ map (line_item stream.framing) more) ++ rest)
  first_more bytes more others e = (
    map (line_item stream.framing) others,
    ap (λ u. items_come u false (came ++ bytes)) units_are
        ∙ ap (map (line_item stream.framing)) e
        ∙ map-append (line_item stream.framing) (in_lines.lines ++ more) others
        ∙ ap (λ l. l ++ map (line_item stream.framing) others) (sym (more_items stream.framing answered in_lines.lines more in_lines.items)),
  )

  pub refused_more : (bytes : List ℕ) (fault : SearchFault) → (in_lines.lines ≡ []) × AreRefused stream.framing (came ++ bytes) fault → (answered ≡ []) × AreRefused (framing_by units) (came ++ bytes) fault
  refused_more bytes fault said = (
    in_lines.items ∙ ap (map (line_item stream.framing)) said.0,
    subst (λ (u : Units). AreRefused (framing_by u) (came ++ bytes) fault) (sym units_are) said.1,
  )

  -- the stream has ended
  pub all_lines : (more : List (List ℕ)) → lines stream.framing came ≡ in_lines.lines ++ more → items_come units true came ≡ answered ++ map (line_item stream.framing) more
  all_lines more e =
      ap (λ u. items_come u true came) units_are
      ∙ ap (map (line_item stream.framing)) e
      ∙ sym (more_items stream.framing answered in_lines.lines more in_lines.items)

  pub framed_so : IsOfLines stream.framing came → IsOfLines (framing_by units) came
  framed_so h = subst (λ (u : Units). IsOfLines (framing_by u) came) (sym units_are) h

  pub unframed_so : is_framed stream.framing came ≡ false → is_framed (framing_by units) came ≡ false
  unframed_so h = subst (λ (u : Units). is_framed (framing_by u) came ≡ false) (sym units_are) h

  -- no line was answered yet
  pub none_answered : stream.is_first ≡ true → (answered ≡ []) × (format_of came ≡ None) × (stream.held.items ≡ came)
  none_answered first =
      let front = subst (λ (b : Bool). IsAt stream.framing came stream.held.items in_lines.lines b) first in_lines.at in
      (in_lines.items ∙ ap (map (line_item stream.framing)) front.none, front.front.format, front.same)
