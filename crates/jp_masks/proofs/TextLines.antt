-- The lines that are told by their positions are the lines of the text.
use Rattle.std.proofs.Common.{◌≡◌, ℕ, ◌+◌, ◌<◌, nat_lt, Bool, true, false, ◌&&◌, List, [], ◌∷◌, ◌++◌, length, drop, map, slice_range, refl, sym, ap, ap₂, ◌∙◌, arith, append_assoc, append-nil}
use Rattle.std.proofs.lemmas.Bool.{lt-ltb}
use Rattle.std.proofs.lemmas.List.{length-append, map-append}
use Rattle.jp_model.specs.declared.Framing.{Framing}
use Rattle.jp_model.specs.declared.Framing.TheVariants.{Lines, Sequence}
use Rattle.jp_model.specs.Json.Marks.{marks}
use Rattle.jp_model.specs.Lines.{separator_of, pieces, before_last_piece, last_piece, closed_pieces, open_piece, line_unless_empty, without_empty}
use Rattle.jp_model.proofs.Pieces.{pieces_some}
use Rattle.jp_masks.specs.Found.{LineAt, one_if, is_line, is_last_line, lines_at, bytes_of, closed_at, last_at, all_at, lines_in}
use Rattle.jp_masks.proofs.FoundLaw.{middle}
use Rattle.jp_masks.proofs.LinesLaw.{with_tail, with_tail-more, length-with_tail, pieces_all}

abbrev line_at : ℕ → List ℕ → LineAt
line_at start piece = record { start = start; end = start + length piece; positions = marks piece }

-- the pieces that are lines
abbrev kept : Framing → ℕ → List (List ℕ) → List (List ℕ)
kept framing start [] = []
kept framing start (piece ∷ rest) = one_if (is_line framing start (start + length piece)) piece ++ kept framing (start + length piece + 1) rest

abbrev kept_last : Framing → ℕ → List ℕ → List (List ℕ)
kept_last framing start piece = one_if (is_last_line framing start (start + length piece)) piece

one_if-map : {X Y : Type 0} (f : X → Y) (is : Bool) (x : X) → map f (one_if is x) ≡ one_if is (f x)
one_if-map f true x = refl
one_if-map f false x = refl

module _ (framing : Framing) (text : List ℕ) where
  abbrev bytes : LineAt → List ℕ
  bytes line = slice_range text line.start line.end

  piece_bytes : (front piece rest : List ℕ) (start : ℕ) → text ≡ front ++ (piece ++ rest) → length front ≡ start → slice_range text start (start + length piece) ≡ piece
  piece_bytes front piece rest start e l = (λ t. slice_range (e t) (sym l t) (sym l t + length piece)) ∙ middle front piece rest

  kept_bytes : (front tail : List ℕ) (start : ℕ) (ps : List (List ℕ)) → text ≡ front ++ with_tail (separator_of framing) ps tail → length front ≡ start → map bytes (lines_at framing start ps) ≡ kept framing start ps
  unfolding with_tail
  kept_bytes front tail start [] e l = refl
  kept_bytes front tail start (piece ∷ rest) e l =
      let sep = separator_of framing in
      let later : text ≡ (front ++ (piece ++ sep ∷ [])) ++ with_tail sep rest tail =
      e ∙ ap (λ l. front ++ l) (sym (append_assoc piece (sep ∷ []) (with_tail sep rest tail))) ∙ sym (append_assoc front (piece ++ sep ∷ []) (with_tail sep rest tail)) in
      map-append bytes (one_if (is_line framing start (start + length piece)) (line_at start piece)) (lines_at framing (start + length piece + 1) rest)
      ∙ ap₂ (λ (x y : List (List ℕ)). x ++ y)
      (one_if-map bytes (is_line framing start (start + length piece)) (line_at start piece) ∙ ap (λ p. one_if (is_line framing start (start + length piece)) p) (piece_bytes front piece (sep ∷ with_tail sep rest tail) start e l))
      (kept_bytes (front ++ (piece ++ sep ∷ [])) tail (start + length piece + 1) rest later (omega (arith, l, length-append front (piece ++ sep ∷ []), length-append piece (sep ∷ []))))

  abbrev closed : List (List ℕ)
  closed = closed_pieces (separator_of framing) text

  abbrev last : List ℕ
  last = open_piece (separator_of framing) text

  all_bytes : map bytes (all_at framing text) ≡ kept framing 0 closed ++ kept_last framing (bytes_of closed) last
  unfolding all_at closed_at with_tail
  all_bytes =
      let sep = separator_of framing in
      let whole : text ≡ [] ++ with_tail sep closed last = sym (pieces_all sep text) in
      let parts : text ≡ with_tail sep closed [] ++ (last ++ []) = sym (pieces_all sep text) ∙ with_tail-more sep closed [] last ∙ ap (λ l. with_tail sep closed [] ++ l) (sym (append-nil last)) in
      map-append bytes (lines_at framing 0 closed) (last_at framing (bytes_of closed) last)
      ∙ ap₂ (λ (x y : List (List ℕ)). x ++ y) (kept_bytes [] last 0 closed whole refl)
      (one_if-map bytes (is_last_line framing (bytes_of closed) (bytes_of closed + length last)) (line_at (bytes_of closed) last)
      ∙ ap (λ p. one_if (is_last_line framing (bytes_of closed) (bytes_of closed + length last)) p) (piece_bytes (with_tail sep closed []) last [] (bytes_of closed) parts (length-with_tail sep closed [] ∙ omega arith)))

  kept_marks : (start : ℕ) (ps : List (List ℕ)) → map (λ (line : LineAt). line.positions) (lines_at framing start ps) ≡ map marks (kept framing start ps)
  kept_marks start [] = refl
  kept_marks start (piece ∷ rest) =
      let is = is_line framing start (start + length piece) in
      map-append (λ (line : LineAt). line.positions) (one_if is (line_at start piece)) (lines_at framing (start + length piece + 1) rest)
      ∙ ap₂ (λ (x y : List (List ℕ)). x ++ y) (one_if-map (λ (line : LineAt). line.positions) is (line_at start piece) ∙ sym (one_if-map marks is piece)) (kept_marks (start + length piece + 1) rest)
      ∙ sym (map-append marks (one_if is piece) (kept framing (start + length piece + 1) rest))

  all_positions : map (λ (line : LineAt). line.positions) (all_at framing text) ≡ map marks (kept framing 0 closed ++ kept_last framing (bytes_of closed) last)
  unfolding all_at closed_at
  all_positions =
      let is = is_last_line framing (bytes_of closed) (bytes_of closed + length last) in
      map-append (λ (line : LineAt). line.positions) (lines_at framing 0 closed) (last_at framing (bytes_of closed) last)
      ∙ ap₂ (λ (x y : List (List ℕ)). x ++ y) (kept_marks 0 closed) (one_if-map (λ (line : LineAt). line.positions) is (line_at (bytes_of closed) last) ∙ sym (one_if-map marks is last))
      ∙ sym (map-append marks (kept framing 0 closed) (kept_last framing (bytes_of closed) last))

-- ---- what is kept

lines_kept : (start : ℕ) (ps : List (List ℕ)) → kept Lines start ps ≡ ps
lines_kept start [] = refl
lines_kept start (piece ∷ rest) = ap (λ l. piece ∷ l) (lines_kept (start + length piece + 1) rest)

longer : (start : ℕ) (piece : List ℕ) → 0 < length piece → nat_lt start (start + length piece) ≡ true
longer start piece h = lt-ltb start (start + length piece) (omega arith)

not_longer : (start : ℕ) → nat_lt start (start + 0) ≡ false
not_longer start = grind (arith)

one_kept : (start : ℕ) (piece : List ℕ) → one_if (nat_lt start (start + length piece)) piece ≡ line_unless_empty piece
one_kept start [] = ap (λ b. one_if b []) (not_longer start)
one_kept start (byte ∷ bytes) = ap (λ b. one_if b (byte ∷ bytes)) (longer start (byte ∷ bytes) (omega arith))

both_true : (a b : Bool) → a ≡ true → (a && b) ≡ b
both_true true b e = refl
both_true false b e = absurd (cc)

one_behind : (start : ℕ) (piece : List ℕ) → 0 < start → one_if (nat_lt 0 start && nat_lt start (start + length piece)) piece ≡ line_unless_empty piece
one_behind start piece h = ap (λ b. one_if b piece) (both_true (nat_lt 0 start) (nat_lt start (start + length piece)) (lt-ltb 0 start h)) ∙ one_kept start piece

texts_kept : (start : ℕ) (ps : List (List ℕ)) → 0 < start → kept Sequence start ps ≡ without_empty ps
texts_kept start [] h = refl
texts_kept start (piece ∷ rest) h = ap₂ (λ (x y : List (List ℕ)). x ++ y) (one_behind start piece h) (texts_kept (start + length piece + 1) rest (omega arith))

without_empty-append : (xs ys : List (List ℕ)) → without_empty (xs ++ ys) ≡ without_empty xs ++ without_empty ys
without_empty-append [] ys = refl
without_empty-append (x ∷ xs) ys = ap (λ l. line_unless_empty x ++ l) (without_empty-append xs ys) ∙ sym (append_assoc (line_unless_empty x) (without_empty xs) (without_empty ys))

-- the last piece with those before it
split_last : (first : List ℕ) (rest : List (List ℕ)) → before_last_piece (first ∷ rest) ++ last_piece (first ∷ rest) ∷ [] ≡ first ∷ rest
split_last first [] = refl
split_last first (next ∷ rest) = ap (λ l. first ∷ l) (split_last next rest)

all_pieces : (separator : ℕ) (text : List ℕ) → closed_pieces separator text ++ open_piece separator text ∷ [] ≡ pieces separator text
all_pieces separator text =
    let some = pieces_some separator text in
    (λ t. before_last_piece (some.2 t) ++ last_piece (some.2 t) ∷ []) ∙ split_last some.0 some.1 ∙ sym some.2

texts_all : (closed : List (List ℕ)) (last : List ℕ) → kept Sequence 0 closed ++ kept_last Sequence (bytes_of closed) last ≡ without_empty (drop 1 (closed ++ last ∷ []))
texts_all [] last = refl
texts_all (first ∷ closed) last =
    ap₂ (λ (x y : List (List ℕ)). x ++ y) (texts_kept (0 + length first + 1) closed (omega arith)) (one_behind (length first + 1 + bytes_of closed) last (omega arith) ∙ sym (append-nil (line_unless_empty last)))
    ∙ sym (without_empty-append closed (last ∷ []))

pub kept_are_lines : (framing : Framing) (text : List ℕ) → kept framing 0 (closed_pieces (separator_of framing) text) ++ kept_last framing (bytes_of (closed_pieces (separator_of framing) text)) (open_piece (separator_of framing) text) ≡ lines_in framing text
kept_are_lines Lines text = ap₂ (λ (x y : List (List ℕ)). x ++ y) (lines_kept 0 (closed_pieces 0x0A text)) (one_kept (bytes_of (closed_pieces 0x0A text)) (open_piece 0x0A text))
kept_are_lines Sequence text = texts_all (closed_pieces 0x1E text) (open_piece 0x1E text) ∙ ap (λ (ps : List (List ℕ)). without_empty (drop 1 ps)) (all_pieces 0x1E text)

pub bytes_are : (framing : Framing) (text : List ℕ) → map (λ (line : LineAt). slice_range text line.start line.end) (all_at framing text) ≡ lines_in framing text
bytes_are framing text = all_bytes framing text ∙ kept_are_lines framing text

pub marks_are : (framing : Framing) (text : List ℕ) → map (λ (line : LineAt). line.positions) (all_at framing text) ≡ map marks (lines_in framing text)
marks_are framing text = all_positions framing text ∙ ap (map marks) (kept_are_lines framing text)
