-- The rows that are stored of a text are its lines.
use Rattle.std.proofs.Common.{◌≡◌, ℕ, ◌+◌, ◌-◌, ◌*◌, ◌/◌, ◌%◌, ◌<◌, Bool, true, false, List, [], ◌∷◌, ◌++◌, length, take, map, slice_range, refl, sym, ap, ap₂, ◌∙◌, arith, append_assoc, append-nil}
use Rattle.std.proofs.lemmas.List.{length-append, length-take, map-append}
use Rattle.std.proofs.Math.Seq.{drop-append_seam, take-append_seam}
use Rattle.jp_model.specs.declared.Framing.{Framing}
use Rattle.jp_model.specs.Lines.{separator_of, closed_pieces, open_piece}
use Rattle.jp_model.specs.Json.Marks.{marks}
use Rattle.jp_masks.specs.Written.{written}
use Rattle.jp_masks.specs.declared.row.Row.{Row}
use Rattle.jp_masks.specs.declared.lines.Marks.{Marks}
use Rattle.jp_masks.specs.declared.progress.Progress.{Progress}
use Rattle.jp_masks.specs.Found.{LineAt, one_if, is_line, is_last_line, lines_at, line_of, bytes_of, found, closed_at, all_at}
use Rattle.jp_masks.proofs.SinkLaw.{bytes_all}
use Rattle.jp_masks.specs.Sinks.{Sink, row_if, rows_of, all_marks, sink_of}
use Rattle.jp_masks.specs.declared.scanner.Scanner.{Scanner}
use Rattle.jp_masks.specs.Scanned.{stored, InBlocks, HasScanned, whole_blocks}

-- a part between two others
pub middle : (front mid tail : List ℕ) → slice_range (front ++ (mid ++ tail)) (length front) (length front + length mid) ≡ mid
middle front mid tail =
    let count : length front + length mid - length front ≡ length mid = omega arith in
    ap₂ (λ n (l : List ℕ). take n l) count (drop-append_seam front (mid ++ tail)) ∙ take-append_seam mid tail

map-one_if : (f : Row → LineAt) (is : Bool) (row : Row) → map f (one_if is row) ≡ one_if is (f row)
map-one_if f true row = refl
map-one_if f false row = refl

abbrev pub row : ℕ → ℕ → ℕ → ℕ → Row
row start end from to = record { start = start; end = end; positions_start = from; positions_end = to }

-- the row of a piece whose marks are among the positions
pub found_piece : (is : Bool) (positions front tail : List ℕ) (start end : ℕ) (piece : List ℕ) → positions ≡ front ++ (marks piece ++ tail)
    → map (line_of positions) (row_if is start end (length front) (length front + length (marks piece))) ≡ one_if is (record { start = start; end = end; positions = marks piece })
found_piece is positions front tail start end piece e =
    map-one_if (line_of positions) is (row start end (length front) (length front + length (marks piece)))
    ∙ ap (λ (positions : List ℕ). one_if is (let l : LineAt = record { start = start; end = end; positions = positions } in l))
    (ap (λ p. slice_range p (length front) (length front + length (marks piece))) e ∙ middle front (marks piece) tail)

pub found_pieces : (framing : Framing) (positions front tail : List ℕ) (start : ℕ) (pieces : List (List ℕ)) → positions ≡ front ++ (all_marks pieces ++ tail)
    → map (line_of positions) (rows_of framing start (length front) pieces) ≡ lines_at framing start pieces
found_pieces framing positions front tail start [] e = refl
found_pieces framing positions front tail start (piece ∷ rest) e =
    let here : positions ≡ front ++ (marks piece ++ (all_marks rest ++ tail)) = e ∙ ap (λ l. front ++ l) (append_assoc (marks piece) (all_marks rest) tail) in
    let later : positions ≡ (front ++ marks piece) ++ (all_marks rest ++ tail) = here ∙ sym (append_assoc front (marks piece) (all_marks rest ++ tail)) in
    map-append (line_of positions) (row_if (is_line framing start (start + length piece)) start (start + length piece) (length front) (length front + length (marks piece))) (rows_of framing (start + length piece + 1) (length front + length (marks piece)) rest)
    ∙ ap₂ (λ (x y : List LineAt). x ++ y) (found_piece (is_line framing start (start + length piece)) positions front (all_marks rest ++ tail) start (start + length piece) piece here)
    (ap (λ n. map (line_of positions) (rows_of framing (start + length piece + 1) n rest)) (sym (length-append front (marks piece))) ∙ found_pieces framing positions (front ++ marks piece) tail (start + length piece + 1) rest later)

-- what is stored of a text
pub found_stored : (framing : Framing) (text : List ℕ) (sink : Marks) → sink.rows.items ≡ (sink_of framing text).rows → (written sink.positions) ≡ (sink_of framing text).positions → found sink ≡ closed_at framing text
unfolding found closed_at sink_of
found_stored framing text sink e f =
    (λ t. map (line_of (f t)) (e t))
    ∙ found_pieces framing (all_marks (closed_pieces (separator_of framing) text) ++ marks (open_piece (separator_of framing) text)) [] (marks (open_piece (separator_of framing) text)) 0 (closed_pieces (separator_of framing) text) refl

pub found_blocks : (framing : Framing) (whole : List ℕ) (progress : Progress) (sink : Marks) → InBlocks framing whole progress sink → found sink ≡ closed_at framing whole
found_blocks framing whole progress sink was = found_stored framing whole sink (ap (λ (s : Sink). s.rows) was.stored) (ap (λ (s : Sink). s.positions) was.stored)

-- whole blocks, and fewer bytes than a block
pub blocks_of : (text whole held : List ℕ) → text ≡ whole ++ held → length whole % 64 ≡ 0 → length held < 64 → whole_blocks text ≡ whole
blocks_of text whole held e d l =
    let total = ap length e ∙ length-append whole held in
    let count : 64 * (length text / 64) ≡ length whole = omega (arith, total, d, l) in
    ap₂ (λ n (t : List ℕ). take n t) count e ∙ take-append_seam whole held

-- after each piece the lines of the whole blocks are found
pub found_fed : (framing : Framing) (text : List ℕ) (scanner : Scanner) (sink : Marks) → HasScanned framing text scanner sink → found sink ≡ closed_at framing (whole_blocks text)
found_fed framing text scanner sink was =
    let short : length (take scanner.held_len scanner.held) < 64 = omega (arith, scanner.short, length-take scanner.held_len scanner.held) in
    found_blocks framing was.whole scanner.progress sink was.in_blocks
    ∙ ap (closed_at framing) (sym (blocks_of text was.whole (take scanner.held_len scanner.held) was.joined was.in_blocks.in_blocks short))

-- the lines with the last one
pub found_all : (framing : Framing) (text : List ℕ) (sink : Marks) (rows : List Row) (positions : List ℕ) (before start end : ℕ) → stored rows positions before start ≡ sink_of framing text
    → sink.rows.items ≡ rows ++ row_if (is_last_line framing start end) start end before (length positions) → (written sink.positions) ≡ positions → end ≡ length text → found sink ≡ all_at framing text
unfolding found closed_at all_at sink_of
found_all framing text sink rows positions before start end was e f l =
    let closed = closed_pieces (separator_of framing) text in
    let last = open_piece (separator_of framing) text in
    let positions_are = ap (λ (s : Sink). s.positions) was in
    let start_is = ap (λ (s : Sink). s.start) was in
    let total : end ≡ bytes_of closed + length last = l ∙ sym (bytes_all framing text) in
    let count : length positions ≡ length (all_marks closed) + length (marks last) = ap length positions_are ∙ length-append (all_marks closed) (marks last) in
    let rows_are : sink.rows.items ≡ rows_of framing 0 0 closed ++ row_if (is_last_line framing (bytes_of closed) (bytes_of closed + length last)) (bytes_of closed) (bytes_of closed + length last) (length (all_marks closed)) (length (all_marks closed) + length (marks last)) =
    e ∙ (λ t. (was t).rows ++ row_if (is_last_line framing (start_is t) (total t)) (start_is t) (total t) (was t).before (count t)) in
    let all : List ℕ = all_marks closed ++ marks last in
    (λ t. map (line_of ((f ∙ positions_are) t)) (rows_are t))
    ∙ map-append (line_of all) (rows_of framing 0 0 closed) (row_if (is_last_line framing (bytes_of closed) (bytes_of closed + length last)) (bytes_of closed) (bytes_of closed + length last) (length (all_marks closed)) (length (all_marks closed) + length (marks last)))
    ∙ ap₂ (λ (x y : List LineAt). x ++ y) (found_pieces framing all [] (marks last) 0 closed refl)
    (found_piece (is_last_line framing (bytes_of closed) (bytes_of closed + length last)) all (all_marks closed) [] (bytes_of closed) (bytes_of closed + length last) last (ap (λ m. all_marks closed ++ m) (sym (append-nil (marks last)))))
