-- The lines of a text that is cut where a line ends.
use Rattle.std.proofs.Common.{◌≡◌, ◌∙◌, ℕ, List, [], ◌∷◌, ◌++◌, drop, refl, sym, ap, ap₂, subst, append_assoc, append-nil, false}
use Rattle.std.proofs.lemmas.List.Elements.{All-append}
use Rattle.jp_model.specs.declared.Framing.{Framing}
use Rattle.jp_model.specs.declared.Framing.TheVariants as framings
use Rattle.jp_model.specs.Lines.{HasNoSeparator, before_last_piece, closed_lines, closed_pieces, first_piece, is_blank, is_separator, line_unless_empty, open_line, open_piece, pieces, sequence_texts, without_empty}
use Rattle.jp_model.proofs.Pieces.{before_last-append, closed-append, closed_clear, open_clear, open-separator, pieces_clear, pieces_some}
use Rattle.jp_masks.specs.Found.{lines_in}
use Rattle.jp_lines.proofs.Parts.{lines_parted, pieces_are, pieces_parted, sequence_parted}
use Rattle.jp_grep.specs.Cuts.{EndsBetween, HasNoEnd}
use Rattle.jp_grep.specs.Streams.{closed_in}

-- bytes in which no line ends close none
closed_more : (separator : ℕ) (text more : List ℕ) → HasNoSeparator separator more → closed_pieces separator (text ++ more) ≡ closed_pieces separator text
closed_more separator text more clear =
    closed-append separator text more
    ∙ ap (λ ps. closed_pieces separator text ++ ps) (closed_clear separator (open_piece separator text ++ more) (All-append (λ byte. is_separator separator byte ≡ false) (open_piece separator text) more (pieces_clear separator text) clear))
    ∙ append-nil (closed_pieces separator text)

pub none_closed : (framing : Framing) (text more : List ℕ) → HasNoEnd framing more → closed_in framing (text ++ more) ≡ closed_in framing text
none_closed framings.Lines text more clear = closed_more 10 text more clear
none_closed framings.Sequence text more clear = ap (λ ps. without_empty (drop 1 ps)) (closed_more 30 text more clear)

pub closed_nowhere : (framing : Framing) (text : List ℕ) → HasNoEnd framing text → closed_in framing text ≡ []
closed_nowhere framings.Lines text clear = closed_clear 10 text clear
closed_nowhere framings.Sequence text clear = ap (λ ps. without_empty (drop 1 ps)) (closed_clear 30 text clear)

-- a line feed leaves no line open
none_open : (front line : List ℕ) → front ≡ line ++ 10 ∷ [] → open_line front ≡ []
none_open front line e = ap open_line e ∙ open-separator 10 line

-- the lines of the front, and then those of what follows it
pub parted : (framing : Framing) (front rest more : List ℕ) → EndsBetween framing front rest → lines_in framing (front ++ (rest ++ more)) ≡ lines_in framing front ++ lines_in framing (rest ++ more)
parted framings.Lines front rest more h = lines_parted front (rest ++ more) (none_open front h.0 h.1)
parted framings.Sequence front rest more h =
    subst (λ l. sequence_texts (front ++ (l ++ more)) ≡ sequence_texts front ++ sequence_texts (l ++ more)) (sym h.1) (sequence_parted front (h.0 ++ more))

-- the pieces in front of a separator after which none stands
all_closed : (front text : List ℕ) → HasNoSeparator 30 text → closed_pieces 30 (front ++ 30 ∷ text) ≡ pieces 30 front
all_closed front text clear =
    let only : pieces 30 text ≡ text ∷ [] = sym (pieces_are 30 text) ∙ ap₂ (λ (ps : List (List ℕ)) (p : List ℕ). ps ++ p ∷ []) (closed_clear 30 text clear) (open_clear 30 text clear) in
    ap before_last_piece (pieces_parted 30 front text ∙ ap (λ ps. pieces 30 front ++ ps) only)
    ∙ before_last-append 30 text (pieces 30 front) []
    ∙ append-nil (pieces 30 front)

-- the lines of the front are those that are closed
pub closed_front : (framing : Framing) (front rest : List ℕ) → EndsBetween framing front rest → closed_in framing (front ++ rest) ≡ lines_in framing front
closed_front framings.Lines front rest h =
    let clear = none_open front h.0 h.1 in
    closed_more 10 front rest h.2
    ∙ sym (ap (λ l. closed_lines front ++ line_unless_empty l) clear ∙ append-nil (closed_lines front))
closed_front framings.Sequence front rest h =
    ap (λ l. without_empty (drop 1 (closed_pieces 30 (front ++ l)))) h.1
    ∙ ap (λ ps. without_empty (drop 1 ps)) (all_closed front h.0 h.2)

-- the first piece stands before the first separator, whatever follows that
first_of : (front text : List ℕ) → first_piece (pieces 30 (front ++ 30 ∷ text)) ≡ first_piece (pieces 30 front)
first_of front text =
    let some = pieces_some 30 front in
    ap first_piece (pieces_parted 30 front text ∙ ap (λ ps. ps ++ pieces 30 text) some.2) ∙ sym (ap first_piece some.2)

-- whether a sequence is framed shows before its first separator
pub blank_front : (front rest more : List ℕ) → EndsBetween framings.Sequence front rest → is_blank (first_piece (pieces 30 (front ++ (rest ++ more)))) ≡ is_blank (first_piece (pieces 30 front))
blank_front front rest more h =
    ap (λ l. is_blank (first_piece (pieces 30 (front ++ (l ++ more))))) h.1
    ∙ ap is_blank (first_of front (h.0 ++ more))

without_empty-append : (ps qs : List (List ℕ)) → without_empty (ps ++ qs) ≡ without_empty ps ++ without_empty qs
without_empty-append [] qs = refl
without_empty-append (p ∷ ps) qs = ap (λ ls. line_unless_empty p ++ ls) (without_empty-append ps qs) ∙ sym (append_assoc (line_unless_empty p) (without_empty ps) (without_empty qs))

-- in more bytes more lines may close
pub closed_grows : (framing : Framing) (text more : List ℕ) → (others : List (List ℕ)) × (closed_in framing (text ++ more) ≡ closed_in framing text ++ others)
closed_grows framings.Lines text more = (closed_pieces 10 (open_line text ++ more), closed-append 10 text more)
closed_grows framings.Sequence text more =
    let later = closed_pieces 30 (open_piece 30 text ++ more) in
    let is : closed_in framings.Sequence (text ++ more) ≡ without_empty (drop 1 (closed_pieces 30 text ++ later)) = ap (λ ps. without_empty (drop 1 ps)) (closed-append 30 text more) in
    let split = by (closed_pieces 30 text) later in
    (split.0, is ∙ split.1)
  where
    by : (front later : List (List ℕ)) → (others : List (List ℕ)) × (without_empty (drop 1 (front ++ later)) ≡ without_empty (drop 1 front) ++ others)
    by [] later = (without_empty (drop 1 later), refl)
    by (p ∷ front) later = (without_empty later, without_empty-append front later)
