-- The lines of a front that a cut ends, and then those of the rest, are the lines of the text.
use Rattle.std.proofs.Common.{◌≡◌, ◌∙◌, ◌<◌, ◌≤◌, ◌+◌, ℕ, List, [], ◌∷◌, ◌++◌, length, take, drop, get_or, refl, sym, ap, ap₂, subst, arith, append_assoc, append-nil, take_all, take-append-drop, eq-eqb}
use Rattle.std.specs.Prelude.{Some, None, slice_range}
use Rattle.std.proofs.lemmas.List.{take_more, take_rest, drop_all, drop_more, drop-drop, length-drop, get_or-drop}
use Rattle.std.proofs.lemmas.List.Splits.{slice_split-cons_yes, slice_split_at}
use Rattle.std.proofs.lemmas.Bool.{eqb-true}
use Rattle.memchr.specs.Find.{IsFirstByte, is_byte}
use Rattle.jp_model.specs.declared.Framing.{Framing}
use Rattle.jp_model.specs.declared.Framing.TheVariants as framings
use Rattle.jp_model.specs.Lines.{is_separator, pieces, before_last_piece, last_piece, closed_pieces, open_piece, closed_lines, open_line, line_unless_empty, without_empty, text_lines, sequence_texts, lines, without_byte_order_mark, is_blank, is_framed, first_piece}
use Rattle.jp_model.proofs.Pieces.{pieces_some, pieces-append, pieces_clear, closed-append, open-append, open-separator}
use Rattle.jp_model.proofs.LineSteps.{first_cut, only_cut}
use Rattle.jp_masks.specs.Found.{lines_in}

-- ---- after a line feed

pub lines_parted : (front rest : List ℕ) → open_line front ≡ [] → text_lines (front ++ rest) ≡ text_lines front ++ text_lines rest
lines_parted front rest e =
    ap₂ (λ (ls : List (List ℕ)) (l : List ℕ). ls ++ line_unless_empty l)
    (closed-append 10 front rest ∙ ap (λ l. closed_lines front ++ closed_lines (l ++ rest)) e)
    (open-append 10 front rest ∙ ap (λ l. open_line (l ++ rest)) e)
    ∙ append_assoc (closed_lines front) (closed_lines rest) (line_unless_empty (open_line rest))
    ∙ sym (ap (λ ls. ls ++ text_lines rest) (ap (λ l. closed_lines front ++ line_unless_empty l) e ∙ append-nil (closed_lines front)))

-- ---- in front of a record separator

whole : (first : List ℕ) (rest : List (List ℕ)) → before_last_piece (first ∷ rest) ++ last_piece (first ∷ rest) ∷ [] ≡ first ∷ rest
whole first [] = refl
whole first (next ∷ rest) = ap (λ l. first ∷ l) (whole next rest)

-- all pieces but the last, and the last
pub pieces_are : (separator : ℕ) (text : List ℕ) → closed_pieces separator text ++ open_piece separator text ∷ [] ≡ pieces separator text
pieces_are separator text =
    let some = pieces_some separator text in
    subst (λ ps. before_last_piece ps ++ last_piece ps ∷ [] ≡ ps) (sym some.2) (whole some.0 some.1)

-- a separator ends the last piece of what stands before it
pub pieces_parted : (separator : ℕ) (front rest : List ℕ) → pieces separator (front ++ separator ∷ rest) ≡ pieces separator front ++ pieces separator rest
pieces_parted separator front rest =
    pieces-append separator front (separator ∷ rest)
    ∙ ap (λ ps. closed_pieces separator front ++ ps) (slice_split_at (is_separator separator) (open_piece separator front) separator rest (pieces_clear separator front) (eq-eqb separator separator refl))
    ∙ sym (append_assoc (closed_pieces separator front) (open_piece separator front ∷ []) (pieces separator rest))
    ∙ ap (λ ps. ps ++ pieces separator rest) (pieces_are separator front)

without_empty-append : (ps qs : List (List ℕ)) → without_empty (ps ++ qs) ≡ without_empty ps ++ without_empty qs
without_empty-append [] qs = refl
without_empty-append (p ∷ ps) qs = ap (λ ls. line_unless_empty p ++ ls) (without_empty-append ps qs) ∙ sym (append_assoc (line_unless_empty p) (without_empty ps) (without_empty qs))

behind_first : (first : List ℕ) (rest more : List (List ℕ)) → drop 1 ((first ∷ rest) ++ more) ≡ drop 1 (first ∷ rest) ++ more
behind_first first rest more = refl

pub sequence_parted : (front rest : List ℕ) → sequence_texts (front ++ 30 ∷ rest) ≡ sequence_texts front ++ sequence_texts (30 ∷ rest)
sequence_parted front rest =
    let some = pieces_some 30 front in
    ap (λ ps. without_empty (drop 1 ps)) (pieces_parted 30 front rest)
    ∙ ap without_empty (subst (λ ps. drop 1 (ps ++ pieces 30 rest) ≡ drop 1 ps ++ pieces 30 rest) (sym some.2) (behind_first some.0 some.1 (pieces 30 rest)))
    ∙ without_empty-append (drop 1 (pieces 30 front)) (pieces 30 rest)
    ∙ ap (λ ps. sequence_texts front ++ without_empty (drop 1 ps)) (sym (slice_split-cons_yes (is_separator 30) 30 rest (eq-eqb 30 30 refl)))

-- ---- the cut that a search finds

module _ (text : List ℕ) (least position separator : ℕ) (within : least ≤ length text) (h : IsFirstByte (is_byte separator) (slice_range text least (length text)) (Some position)) where
  behind_least : slice_range text least (length text) ≡ drop least text
  behind_least = take_rest text least

  pub position_within : least + position < length text
  position_within = omega (arith, h.0.high, ap length behind_least, length-drop least text)

  byte_there : get_or text (least + position) 0 ≡ separator
  byte_there = sym (get_or-drop least text position 0) ∙ ap (λ l. get_or l position 0) (sym behind_least) ∙ eqb-true (get_or (slice_range text least (length text)) position 0) separator h.1

  pub parted_lines : separator ≡ 10 → text_lines text ≡ text_lines (take (least + position + 1) text) ++ text_lines (drop (least + position + 1) text)
  parted_lines e =
      ap text_lines (sym (take-append-drop (least + position + 1) text))
      ∙ lines_parted (take (least + position + 1) text) (drop (least + position + 1) text)
      (ap open_line (take_more text (least + position) 0 position_within ∙ ap (λ b. take (least + position) text ++ b ∷ []) (byte_there ∙ e)) ∙ open-separator 10 (take (least + position) text))

  pub parted_sequence : separator ≡ 30 → sequence_texts text ≡ sequence_texts (take (least + position) text) ++ sequence_texts (drop (least + position) text)
  parted_sequence e =
      let front = take (least + position) text in
      let rest : drop (least + position) text ≡ 30 ∷ drop (least + position + 1) text = drop_more text (least + position) 0 position_within ∙ ap (λ b. b ∷ drop (least + position + 1) text) (byte_there ∙ e) in
      ap sequence_texts (sym (take-append-drop (least + position) text) ∙ ap (λ l. front ++ l) rest)
      ∙ sequence_parted front (drop (least + position + 1) text)
      ∙ ap (λ l. sequence_texts front ++ sequence_texts l) (sym rest)

pub no_lines : (framing : Framing) → lines_in framing [] ≡ []
no_lines framings.Lines = refl
no_lines framings.Sequence = refl

-- a text that is not cut
pub parted_nowhere : (framing : Framing) (text : List ℕ) → lines_in framing text ≡ lines_in framing (take (length text) text) ++ lines_in framing (drop (length text) text)
parted_nowhere framing text =
    sym (append-nil (lines_in framing text))
    ∙ ap₂ (λ (front : List ℕ) (rest : List (List ℕ)). lines_in framing front ++ rest) (sym (take_all (length text) text (omega arith)))
    (sym (no_lines framing) ∙ ap (lines_in framing) (sym (drop_all (length text) text (omega arith))))

-- nothing is left
pub all_parts : (framing : Framing) (before all : List (List ℕ)) (bytes : List ℕ) (start : ℕ) → length bytes ≤ start → before ++ lines_in framing (drop start bytes) ≡ all → before ≡ all
all_parts framing before all bytes start past came =
    sym (append-nil before) ∙ ap (λ ls. before ++ ls) (sym (no_lines framing) ∙ ap (lines_in framing) (sym (drop_all start bytes past))) ∙ came

-- the lines of what stands after a byte order mark
pub all_lines : (framing : Framing) (bytes : List ℕ) (start : ℕ) → drop start bytes ≡ without_byte_order_mark bytes → lines_in framing (drop start bytes) ≡ lines framing bytes
all_lines framings.Lines bytes start e = ap text_lines e
all_lines framings.Sequence bytes start e = ap sequence_texts e

-- what was read, and the lines of the rest, are all lines
pub part_came : (framing : Framing) (before after all : List (List ℕ)) (bytes rest : List ℕ) (start n : ℕ) → rest ≡ drop start bytes
    → lines_in framing rest ≡ lines_in framing (take n rest) ++ lines_in framing (drop n rest)
    → after ≡ before ++ lines_in framing (slice_range bytes start (start + n)) → before ++ lines_in framing (drop start bytes) ≡ all
    → after ++ lines_in framing (drop (start + n) bytes) ≡ all
part_came framing before after all bytes rest start n same parted came so_far =
    let front : slice_range bytes start (start + n) ≡ take n rest = ap₂ (λ (k : ℕ) (l : List ℕ). take k l) (omega arith) (sym same) in
    let back : drop (start + n) bytes ≡ drop n rest = sym (drop-drop n start bytes) ∙ ap (drop n) (sym same) in
    ap₂ (λ (ls : List (List ℕ)) (l : List ℕ). ls ++ lines_in framing l) (came ∙ ap (λ l. before ++ lines_in framing l) front) back
    ∙ append_assoc before (lines_in framing (take n rest)) (lines_in framing (drop n rest))
    ∙ ap (λ ls. before ++ ls) (sym parted ∙ ap (lines_in framing) same) ∙ so_far

-- ---- the framing of a sequence

pub framed_at : (bytes text : List ℕ) (position separator : ℕ) → text ≡ without_byte_order_mark bytes → separator ≡ 30 → IsFirstByte (is_byte separator) text (Some position)
    → is_blank (take position text) ≡ is_framed framings.Sequence bytes
framed_at bytes text position separator e s h =
    let first : pieces 30 text ≡ take position text ∷ pieces 30 (slice_range text (position + 1) (length text)) = first_cut 30 text position (subst (λ b. IsFirstByte (is_byte b) text (Some position)) s h) in
    ap (λ ps. is_blank (first_piece ps)) (sym first) ∙ ap (λ l. is_blank (first_piece (pieces 30 l))) e

pub framed_whole : (bytes text : List ℕ) (separator : ℕ) → text ≡ without_byte_order_mark bytes → separator ≡ 30 → IsFirstByte (is_byte separator) text None
    → is_blank text ≡ is_framed framings.Sequence bytes
framed_whole bytes text separator e s h =
    let only : pieces 30 text ≡ text ∷ [] = only_cut 30 text (subst (λ b. IsFirstByte (is_byte b) text None) s h) in
    ap (λ ps. is_blank (first_piece ps)) (sym only) ∙ ap (λ l. is_blank (first_piece (pieces 30 l))) e
