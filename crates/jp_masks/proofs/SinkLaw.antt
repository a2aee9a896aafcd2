-- What one more byte, and one more block, change in what is stored.
use Rattle.std.proofs.Common.{◌≡◌, ℕ, zero, suc, ◌+◌, ◌-◌, ◌<◌, ◌≤◌, Bool, true, false, ◌||◌, cond, List, [], ◌∷◌, ◌++◌, length, take, get_or, refl, sym, ap, ap₂, ◌∙◌, arith, append_assoc, Some}
use Rattle.std.specs.List.{filter, range_with_len}
use Rattle.std.proofs.lemmas.List.{length-append, append-nil}
use lib.Bits.{bit_or}
use Rattle.jp_model.specs.declared.Framing.{Framing}
use Rattle.jp_model.specs.Lines.{separator_of, closed_pieces, open_piece}
use Rattle.jp_model.specs.Json.Marks.{marks}
use Rattle.jp_lanes.specs.Word.{bit}
use Rattle.jp_lanes.proofs.Words.{bit-or}
use Rattle.jp_masks.specs.Positions.{set_bits}
use Rattle.jp_masks.specs.Ends.{is_end}
use Rattle.jp_masks.specs.Machine.{is_marked, before}
use Rattle.jp_masks.specs.Found.{is_line, bytes_of}
use Rattle.jp_masks.specs.Sinks.{Sink, row_if, rows_of, all_marks, sink_of, close_at, mark_at, add_position, add_positions}
use Rattle.jp_masks.specs.declared.row.Row.{Row}
use Rattle.jp_masks.proofs.LineMore.{by_push, known_after, known_at_end, open_clear, marks-push}
use Rattle.jp_masks.proofs.Pieces.{closed-push, open-push}
use Rattle.jp_masks.proofs.Along.{length-done, known_done, done-next, set_bits_upto}

all_marks-push : (closed : List (List ℕ)) (piece : List ℕ) → all_marks (closed ++ piece ∷ []) ≡ all_marks closed ++ marks piece
all_marks-push [] piece = append-nil (marks piece)
all_marks-push (first ∷ closed) piece = ap (λ rest. marks first ++ rest) (all_marks-push closed piece) ∙ sym (append_assoc (marks first) (all_marks closed) (marks piece))

pub bytes_of-push : (closed : List (List ℕ)) (piece : List ℕ) → bytes_of (closed ++ piece ∷ []) ≡ bytes_of closed + length piece + 1
bytes_of-push [] piece = omega arith
bytes_of-push (first ∷ closed) piece = let below = bytes_of-push closed piece in omega arith

module _ (framing : Framing) where
  abbrev pub closed : List ℕ → List (List ℕ)
  closed text = closed_pieces (separator_of framing) text

  abbrev pub last : List ℕ → List ℕ
  last text = open_piece (separator_of framing) text

  -- the row of a piece, if it is a line
  abbrev row : ℕ → ℕ → ℕ → ℕ → List Row
  row from to positions_from positions_to = row_if (is_line framing from to) from to positions_from positions_to

  rows-push : (from positions : ℕ) (pieces : List (List ℕ)) (piece : List ℕ)
      → rows_of framing from positions (pieces ++ piece ∷ []) ≡ rows_of framing from positions pieces ++ row (from + bytes_of pieces) (from + bytes_of pieces + length piece) (positions + length (all_marks pieces)) (positions + length (all_marks pieces ++ marks piece))
  rows-push from positions [] piece =
      let from_is : from ≡ from + 0 = omega arith in
      let to_is : from + length piece ≡ from + 0 + length piece = omega arith in
      let positions_is : positions ≡ positions + 0 = omega arith in
      append-nil (row from (from + length piece) positions (positions + length (marks piece))) ∙ (λ t. row (from_is t) (to_is t) (positions_is t) (positions + length (marks piece)))
  rows-push from positions (first ∷ pieces) piece =
      let from_is : from + length first + 1 + bytes_of pieces ≡ from + (length first + 1 + bytes_of pieces) = omega arith in
      let to_is : from + length first + 1 + bytes_of pieces + length piece ≡ from + (length first + 1 + bytes_of pieces) + length piece = omega arith in
      let before_is : positions + length (marks first) + length (all_marks pieces) ≡ positions + length (marks first ++ all_marks pieces) = omega (arith, length-append (marks first) (all_marks pieces)) in
      let positions_is : positions + length (marks first) + length (all_marks pieces ++ marks piece) ≡ positions + length ((marks first ++ all_marks pieces) ++ marks piece) =
      omega (arith, length-append (marks first) (all_marks pieces ++ marks piece), ap length (append_assoc (marks first) (all_marks pieces) (marks piece))) in
      ap (λ rest. row from (from + length first) positions (positions + length (marks first)) ++ rest)
      (rows-push (from + length first + 1) (positions + length (marks first)) pieces piece
      ∙ (λ t. rows_of framing (from + length first + 1) (positions + length (marks first)) pieces ++ row (from_is t) (to_is t) (before_is t) (positions_is t)))
      ∙ sym (append_assoc (row from (from + length first) positions (positions + length (marks first))) (rows_of framing (from + length first + 1) (positions + length (marks first)) pieces)
      (row (from + (length first + 1 + bytes_of pieces)) (from + (length first + 1 + bytes_of pieces) + length piece) (positions + length (marks first ++ all_marks pieces)) (positions + length ((marks first ++ all_marks pieces) ++ marks piece))))

  -- the pieces have all bytes
  pub bytes_all : (text : List ℕ) → bytes_of (closed text) + length (last text) ≡ length text
  bytes_all = by_push (λ text. bytes_of (closed text) + length (last text) ≡ length text) refl push
    where
      push : (text : List ℕ) (byte : ℕ) → bytes_of (closed text) + length (last text) ≡ length text → bytes_of (closed (text ++ byte ∷ [])) + length (last (text ++ byte ∷ [])) ≡ length (text ++ byte ∷ [])
      push text byte all =
          ap₂ (λ (c : List (List ℕ)) (l : List ℕ). bytes_of c + length l) (closed-push (separator_of framing) text byte) (open-push (separator_of framing) text byte)
          ∙ go (is_end (Some framing) byte) ∙ sym (length-append text (byte ∷ []))
        where
          go : (b : Bool) → bytes_of (cond b (closed text ++ last text ∷ []) (closed text)) + length (cond b [] (last text ++ byte ∷ [])) ≡ length text + 1
          go true = let more_bytes = bytes_of-push (closed text) (last text) in omega arith
          go false = let longer = length-append (last text) (byte ∷ []) in omega arith

  -- one byte: it ends the line, or a mark is added, and any other leaves all
  abbrev pub add_byte : Bool → Bool → ℕ → Sink → Sink
  add_byte ends marked at sink = cond ends (close_at framing sink at) (cond marked (mark_at sink at) sink)

  -- what is stored of pieces
  abbrev shown : List (List ℕ) → List ℕ → Sink
  shown c l = record { rows = rows_of framing 0 0 c; positions = all_marks c ++ marks l; before = length (all_marks c); start = bytes_of c }

  pub sink_of-push : (text : List ℕ) (byte : ℕ) → sink_of framing (text ++ byte ∷ []) ≡ add_byte (is_end (Some framing) byte) (is_marked (known_after (Some framing) text) byte) (length text) (sink_of framing text)
  unfolding sink_of marks
  sink_of-push text byte =
      ap₂ shown (closed-push (separator_of framing) text byte) (open-push (separator_of framing) text byte)
      ∙ go (is_end (Some framing) byte) (is_marked (known_after (Some framing) (last text)) byte) (marks-push (Some framing) (last text) byte (open_clear framing text))
      ∙ ap (λ k. add_byte (is_end (Some framing) byte) (is_marked k byte) (length text) (sink_of framing text)) (sym (known_at_end framing text))
    where
      go : (ends marked : Bool) → marks (last text ++ byte ∷ []) ≡ marks (last text) ++ cond marked (length (last text) ∷ []) []
          → shown (cond ends (closed text ++ last text ∷ []) (closed text)) (cond ends [] (last text ++ byte ∷ [])) ≡ add_byte ends marked (length text) (sink_of framing text)
      go true marked longer =
          let all = bytes_all text in
          let from_is : 0 + bytes_of (closed text) ≡ bytes_of (closed text) = omega arith in
          let to_is : 0 + bytes_of (closed text) + length (last text) ≡ length text = omega arith in
          let before_is : 0 + length (all_marks (closed text)) ≡ length (all_marks (closed text)) = omega arith in
          let positions_is : 0 + length (all_marks (closed text) ++ marks (last text)) ≡ length (all_marks (closed text) ++ marks (last text)) = omega arith in
          let joined = append-nil (all_marks (closed text ++ last text ∷ [])) ∙ all_marks-push (closed text) (last text) in
          let next : bytes_of (closed text ++ last text ∷ []) ≡ length text + 1 = omega (arith, bytes_of-push (closed text) (last text)) in
          let rows_is = rows-push 0 0 (closed text) (last text) ∙ (λ t. rows_of framing 0 0 (closed text) ++ row (from_is t) (to_is t) (before_is t) (positions_is t)) in
          λ t. record { rows = rows_is t; positions = joined t; before = length (all_marks-push (closed text) (last text) t); start = next t }
      go false true longer =
          let all = bytes_all text in
          let position_is : length (last text) ≡ length text - bytes_of (closed text) = omega arith in
          let joined = ap (λ m. all_marks (closed text) ++ m) longer ∙ sym (append_assoc (all_marks (closed text)) (marks (last text)) (length (last text) ∷ []))
          ∙ ap (λ n. (all_marks (closed text) ++ marks (last text)) ++ n ∷ []) position_is in
          λ t. record { rows = rows_of framing 0 0 (closed text); positions = joined t; before = length (all_marks (closed text)); start = bytes_of (closed text) }
      go false false longer =
          let joined = ap (λ m. all_marks (closed text) ++ m) (longer ∙ append-nil (marks (last text))) in
          λ t. record { rows = rows_of framing 0 0 (closed text); positions = joined t; before = length (all_marks (closed text)); start = bytes_of (closed text) }

  -- ---- a block, or the first n bytes of one

  module _ (text block : List ℕ) (marked ends base n : ℕ) (long : length block ≡ 64) (within : n ≤ 64) (at_base : length text ≡ base)
      (at_marked : (i : ℕ) → i < n → bit marked i ≡ is_marked (before (Some framing) (known_after (Some framing) text) block i) (get_or block i 0))
      (at_ends : (i : ℕ) → i < n → bit ends i ≡ is_end (Some framing) (get_or block i 0)) where
    abbrev so_far : ℕ → List ℕ
    so_far i = text ++ take i block

    long_so_far : (i : ℕ) → i ≤ 64 → length (so_far i) ≡ base + i
    long_so_far i short = length-done (Some framing) text block long i short ∙ ap (λ b. b + i) at_base

    sink_next : (i : ℕ) → i < n → sink_of framing (so_far (suc i)) ≡ add_byte (bit ends i) (bit marked i) (base + i) (sink_of framing (so_far i))
    sink_next i short =
        ap (sink_of framing) (done-next (Some framing) text block long i (omega arith)) ∙ sink_of-push (so_far i) (get_or block i 0)
        ∙ (λ t. add_byte (sym (at_ends i short) t) ((ap (λ k. is_marked k (get_or block i 0)) (known_done (Some framing) text block long i (omega arith)) ∙ sym (at_marked i short)) t) (long_so_far i (omega arith) t) (sink_of framing (so_far i)))

    -- the step at a position, or none
    at_position : (end mark : Bool) (sink : Sink) (at : ℕ) → cond (mark || end) (cond end (close_at framing sink at) (mark_at sink at)) sink ≡ add_byte end mark at sink
    at_position true true sink at = refl
    at_position true false sink at = refl
    at_position false true sink at = refl
    at_position false false sink at = refl

    along : (m i : ℕ) → i + m ≤ n → add_positions framing ends base (sink_of framing (so_far i)) (filter (bit (bit_or marked ends)) (range_with_len i m)) ≡ sink_of framing (so_far (i + m))
    unfolding add_positions
    along zero i short = ap (λ j. sink_of framing (so_far j)) (omega arith)
    along (suc m) i short =
        let next : i + 1 + m ≡ i + suc m = omega arith in
        let one : i + 1 ≡ suc i = omega arith in
        go (bit (bit_or marked ends) i) (ap (λ b. cond b (add_position framing ends base (sink_of framing (so_far i)) i) (sink_of framing (so_far i))) (bit-or marked ends i) ∙ at_position (bit ends i) (bit marked i) (sink_of framing (so_far i)) (base + i) ∙ sym (sink_next i (omega arith)) ∙ ap (λ j. sink_of framing (so_far j)) (sym one))
        ∙ along m (i + 1) (omega arith) ∙ ap (λ j. sink_of framing (so_far j)) next
      where
        go : (b : Bool) → cond b (add_position framing ends base (sink_of framing (so_far i)) i) (sink_of framing (so_far i)) ≡ sink_of framing (so_far (i + 1))
            → add_positions framing ends base (sink_of framing (so_far i)) (cond b (i ∷ filter (bit (bit_or marked ends)) (range_with_len (i + 1) m)) (filter (bit (bit_or marked ends)) (range_with_len (i + 1) m)))
            ≡ add_positions framing ends base (sink_of framing (so_far (i + 1))) (filter (bit (bit_or marked ends)) (range_with_len (i + 1) m))
        go true step = ap (λ s. add_positions framing ends base s (filter (bit (bit_or marked ends)) (range_with_len (i + 1) m))) step
        go false step = ap (λ s. add_positions framing ends base s (filter (bit (bit_or marked ends)) (range_with_len (i + 1) m))) step

    -- the positions of the first n bytes, taken in one after another, give what is stored of the text with these bytes
    pub block_law : ((i : ℕ) → n ≤ i → i < 64 → bit (bit_or marked ends) i ≡ false) → add_positions framing ends base (sink_of framing text) (set_bits (bit_or marked ends)) ≡ sink_of framing (text ++ take n block)
    block_law none =
        ap (λ l. add_positions framing ends base (sink_of framing text) l) (set_bits_upto (bit_or marked ends) n within none)
        ∙ ap (λ l. add_positions framing ends base (sink_of framing l) (filter (bit (bit_or marked ends)) (range_with_len 0 n))) (sym (append-nil text))
        ∙ along n 0 (omega arith) ∙ ap (λ j. sink_of framing (so_far j)) (omega arith)
