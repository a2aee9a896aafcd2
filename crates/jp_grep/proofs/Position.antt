-- Which lines of the bytes that came are answered, and what is held of the others.
use Rattle.std.proofs.Common.{◌≡◌, ◌∙◌, ℕ, List, [], ◌∷◌, ◌++◌, refl, sym, ap, subst, append_assoc, append-nil, Bool, true, false, arith, inl, inr}
use Rattle.std.proofs.lemmas.List.Elements.{All-append}
use Rattle.jp_model.specs.declared.Framing.{Framing}
use Rattle.jp_model.specs.declared.Framing.TheVariants as framings
use Rattle.jp_model.specs.Lines.{first_piece, is_blank, is_framed, is_separator, lines, pieces, separator_of, without_byte_order_mark}
use Rattle.jp_masks.specs.Found.{lines_in}
use Rattle.jp_grep.specs.Cuts.{EndsBetween, HasNoEnd, text_of}
use Rattle.jp_grep.specs.Streams.{closed_in}
use Rattle.jp_grep.specs.Formats.{format_of}
use Rattle.jp_grep.specs.Fronts.{IsOfLines, MayGoOn}
use Rattle.jp_grep.specs.Positions.{IsAt, IsBehind}
use Rattle.jp_grep.proofs.Formatted.{begun_between, format_between, none_here}
use Rattle.jp_grep.proofs.Marked.{goes_on, still_between, still_clear}
use Rattle.jp_grep.proofs.Cut.{blank_front, closed_front, closed_grows, closed_nowhere, none_closed, parted}

-- nothing came
pub at_front : (framing : Framing) → IsAt framing [] [] [] true
at_front framing = record { same = refl; none = refl; unended = λ k d l. absurd (omega arith); front = record { format = none_here.1; framed = inl none_here.0 } }

-- the lines that are answered are those that are closed
pub closed_now : (framing : Framing) (came held : List ℕ) (answered : List (List ℕ)) (first : Bool) → IsAt framing came held answered first → closed_in framing (without_byte_order_mark came) ≡ answered
closed_now framing came held answered true h = closed_nowhere framing (without_byte_order_mark came) (still_clear (separator_of framing) came h.unended) ∙ sym h.none
closed_now framing came held answered false h = h.closed

-- bytes came in which no line ends
pub held_more : (framing : Framing) (came held more : List ℕ) (answered : List (List ℕ)) (first : Bool) → HasNoEnd framing more → (first ≡ true → MayGoOn framing (held ++ more)) → IsAt framing came held answered first
    → IsAt framing (came ++ more) (held ++ more) answered first
held_more framing came held more answered true clear goes h = record {
  same = ap (λ l. l ++ more) h.same;
  none = h.none;
  unended = All-append (λ byte. is_separator (separator_of framing) byte ≡ false) came more h.unended clear;
  front = subst (λ l. MayGoOn framing (l ++ more)) h.same (goes refl);
}
held_more framing came held more answered false clear goes h = record {
  mark = λ further.
      ap without_byte_order_mark (append_assoc came more further)
      ∙ h.mark (more ++ further)
      ∙ sym (append_assoc (without_byte_order_mark came) more further)
      ∙ sym (ap (λ l. l ++ further) (h.mark more));
  rest = λ further.
      ap (λ l. lines_in framing (l ++ further)) (h.mark more)
      ∙ ap (lines_in framing) (append_assoc (without_byte_order_mark came) more further)
      ∙ h.rest (more ++ further)
      ∙ ap (λ l. answered ++ lines_in framing l) (sym (append_assoc held more further));
  closed = ap (closed_in framing) (h.mark more) ∙ none_closed framing (without_byte_order_mark came) more clear ∙ h.closed;
  front = λ further. subst (λ l. IsOfLines framing l) (sym (append_assoc came more further)) (h.front (more ++ further));
}

framed_front : (framing : Framing) (front rest more : List ℕ) → EndsBetween framing front rest → is_framed framing (front ++ (rest ++ more)) ≡ is_framed framing front
framed_front framings.Lines front rest more h = refl
framed_front framings.Sequence front rest more h =
    ap (λ l. is_blank (first_piece (pieces 30 l))) (goes_on framings.Sequence front rest more h)
    ∙ blank_front (without_byte_order_mark front) rest more (still_between framings.Sequence front rest h)

-- where a line ended, the stream is one of lines, whatever follows
front_lines : (framing : Framing) (front rest more : List ℕ) → EndsBetween framing front rest → MayGoOn framing (front ++ rest) → IsOfLines framing (front ++ (rest ++ more))
front_lines framing front rest more h may = record {
  format = format_between framing front rest more h ∙ may.format;
  framed = elim may.framed [
    | inl begun ↦ absurd (apart (sym begun ∙ begun_between framing front rest h))
    | inr framed ↦ framed_front framing front rest more h ∙ sym (framed_front framing front rest framed.0 h) ∙ ap (is_framed framing) (sym (append_assoc front rest framed.0)) ∙ framed.1
  ];
}
  where
    apart : true ≡ false → ⊥
    apart e = cc

-- a line ended, the first one
behind_first : (framing : Framing) (front rest : List ℕ) → EndsBetween framing front rest → MayGoOn framing (front ++ rest) → IsBehind framing (front ++ rest) rest (lines_in framing (without_byte_order_mark front))
behind_first framing front rest h may =
    let text = without_byte_order_mark front in
    let marked : without_byte_order_mark (front ++ rest) ≡ text ++ rest = ap (λ l. without_byte_order_mark (front ++ l)) (sym (append-nil rest)) ∙ goes_on framing front rest [] h ∙ ap (λ l. text ++ l) (append-nil rest) in
    let between = still_between framing front rest h in
    record {
      mark = λ more. ap without_byte_order_mark (append_assoc front rest more) ∙ goes_on framing front rest more h ∙ sym (append_assoc text rest more) ∙ sym (ap (λ l. l ++ more) marked);
      rest = λ more. ap (λ l. lines_in framing (l ++ more)) marked ∙ ap (lines_in framing) (append_assoc text rest more) ∙ parted framing text rest more between;
      closed = ap (closed_in framing) marked ∙ closed_front framing text rest between;
      front = λ more. subst (λ l. IsOfLines framing l) (sym (append_assoc front rest more)) (front_lines framing front rest more h may);
    }

-- the cut among the bytes that came last is one of all bytes
still_cut : (framing : Framing) (before front rest : List ℕ) → EndsBetween framing front rest → EndsBetween framing (before ++ front) rest
still_cut framings.Lines before front rest h = (before ++ h.0, ap (λ l. before ++ l) h.1 ∙ sym (append_assoc before h.0 (10 ∷ [])), h.2)
still_cut framings.Sequence before front rest h = h

-- a line ended, after others
behind_more : (framing : Framing) (came held front rest : List ℕ) (answered : List (List ℕ)) → EndsBetween framing front rest → IsBehind framing came held answered
    → IsBehind framing (came ++ (front ++ rest)) rest (answered ++ lines_in framing (held ++ front))
behind_more framing came held front rest answered h at =
    let text = without_byte_order_mark came in
    let more = front ++ rest in
    let mine = lines_in framing (held ++ front) in
    let sum : lines_in framing (text ++ front) ≡ answered ++ mine = at.rest front in
    record {
      mark = λ further.
          ap without_byte_order_mark (append_assoc came more further)
          ∙ at.mark (more ++ further)
          ∙ sym (append_assoc text more further)
          ∙ sym (ap (λ l. l ++ further) (at.mark more));
      rest = λ further.
          ap (λ l. lines_in framing (l ++ further)) (at.mark more ∙ sym (append_assoc text front rest))
          ∙ ap (lines_in framing) (append_assoc (text ++ front) rest further)
          ∙ parted framing (text ++ front) rest further (still_cut framing text front rest h)
          ∙ ap (λ ls. ls ++ lines_in framing (rest ++ further)) sum;
      closed = ap (closed_in framing) (at.mark more ∙ sym (append_assoc text front rest)) ∙ closed_front framing (text ++ front) rest (still_cut framing text front rest h) ∙ sum;
      front = λ further. subst (λ l. IsOfLines framing l) (sym (append_assoc came more further)) (at.front (more ++ further));
    }

-- the bytes that came last were cut, and the lines in front of the cut were answered
pub cut_off : (framing : Framing) (came held front rest : List ℕ) (answered : List (List ℕ)) (first : Bool) → EndsBetween framing front rest → IsAt framing came held answered first
    → (first ≡ true → MayGoOn framing (held ++ (front ++ rest)))
    → IsAt framing (came ++ (front ++ rest)) rest (answered ++ lines_in framing (text_of first (held ++ front))) false
cut_off framing came held front rest answered true h at goes =
    let all = came ++ front in
    let same : held ++ front ≡ all = ap (λ l. l ++ front) at.same in
    let whole : held ++ (front ++ rest) ≡ all ++ rest = sym (append_assoc held front rest) ∙ ap (λ l. l ++ rest) same in
    let behind = behind_first framing all rest (still_cut framing came front rest h) (subst (λ l. MayGoOn framing l) whole (goes refl)) in
    subst (λ (ls : List (List ℕ)). IsBehind framing (came ++ (front ++ rest)) rest ls)
    (ap (λ l. lines_in framing (without_byte_order_mark l)) (sym same) ∙ sym (ap (λ ls. ls ++ lines_in framing (without_byte_order_mark (held ++ front))) at.none))
    (subst (λ (l : List ℕ). IsBehind framing l rest (lines_in framing (without_byte_order_mark all))) (append_assoc came front rest) behind)
cut_off framing came held front rest answered false h at goes = behind_more framing came held front rest answered h at

lines_marked : (framing : Framing) (bytes : List ℕ) → lines framing bytes ≡ lines_in framing (without_byte_order_mark bytes)
lines_marked framings.Lines bytes = refl
lines_marked framings.Sequence bytes = refl

-- the stream ended, and the lines of what is held are the others
pub all_answered : (framing : Framing) (came held : List ℕ) (answered : List (List ℕ)) (first : Bool) → IsAt framing came held answered first → lines framing came ≡ answered ++ lines_in framing (text_of first held)
all_answered framing came held answered true at =
    lines_marked framing came
    ∙ ap (λ l. lines_in framing (without_byte_order_mark l)) (sym at.same)
    ∙ sym (ap (λ ls. ls ++ lines_in framing (without_byte_order_mark held)) at.none)
all_answered framing came held answered false at =
    lines_marked framing came
    ∙ ap (lines_in framing) (sym (append-nil (without_byte_order_mark came)))
    ∙ at.rest []
    ∙ ap (λ l. answered ++ lines_in framing l) (append-nil held)

pub all_framed : (framing : Framing) (came held : List ℕ) (answered : List (List ℕ)) (first : Bool) → IsAt framing came held answered first → (first ≡ true → is_framed framing held ≡ true) → is_framed framing came ≡ true
all_framed framing came held answered true at framed = ap (is_framed framing) (sym at.same) ∙ framed refl
all_framed framing came held answered false at framed = ap (is_framed framing) (sym (append-nil came)) ∙ (at.front []).framed

-- what came goes on as lines
pub goes_as_lines : (framing : Framing) (came held : List ℕ) (answered : List (List ℕ)) (first : Bool) → IsAt framing came held answered first → MayGoOn framing came
goes_as_lines framing came held answered true at = at.front
goes_as_lines framing came held answered false at = record { format = ap format_of (sym (append-nil came)) ∙ (at.front []).format; framed = inr ([], (at.front []).framed) }

-- more lines may close in more bytes, and those that are answered stay the first
pub grows : (framing : Framing) (came held more : List ℕ) (answered : List (List ℕ)) (first : Bool) → IsAt framing came held answered first
    → (others : List (List ℕ)) × (closed_in framing (without_byte_order_mark (came ++ more)) ≡ answered ++ others)
grows framing came held more answered true at = (closed_in framing (without_byte_order_mark (came ++ more)), ap (λ ls. ls ++ closed_in framing (without_byte_order_mark (came ++ more))) (sym at.none))
grows framing came held more answered false at =
    let grown = closed_grows framing (without_byte_order_mark came) more in
    (grown.0, ap (closed_in framing) (at.mark more) ∙ grown.1 ∙ ap (λ ls. ls ++ grown.0) at.closed)

-- the lines that are closed by the bytes that came last are those in front of the cut
pub cut_closed : (framing : Framing) (came held front rest : List ℕ) (answered : List (List ℕ)) (first : Bool) → EndsBetween framing front rest → IsAt framing came held answered first
    → closed_in framing (without_byte_order_mark (came ++ (front ++ rest))) ≡ answered ++ lines_in framing (text_of first (held ++ front))
cut_closed framing came held front rest answered true h at =
    let all = came ++ front in
    let cut = still_cut framing came front rest h in
    let text = without_byte_order_mark all in
    ap (λ l. closed_in framing (without_byte_order_mark l)) (sym (append_assoc came front rest))
    ∙ ap (closed_in framing) (ap (λ l. without_byte_order_mark (all ++ l)) (sym (append-nil rest)) ∙ goes_on framing all rest [] cut ∙ ap (λ l. text ++ l) (append-nil rest))
    ∙ closed_front framing text rest (still_between framing all rest cut)
    ∙ ap (λ l. lines_in framing (without_byte_order_mark (l ++ front))) (sym at.same)
    ∙ sym (ap (λ ls. ls ++ lines_in framing (without_byte_order_mark (held ++ front))) at.none)
cut_closed framing came held front rest answered false h at = (behind_more framing came held front rest answered h at).closed

-- the stream ended, and its front is framed
pub ends_as_lines : (framing : Framing) (came held : List ℕ) (answered : List (List ℕ)) (first : Bool) → IsAt framing came held answered first → (first ≡ true → is_framed framing held ≡ true) → IsOfLines framing came
ends_as_lines framing came held answered first at framed = record {
  format = (goes_as_lines framing came held answered first at).format;
  framed = all_framed framing came held answered first at framed;
}
