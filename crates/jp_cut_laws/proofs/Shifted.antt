-- What comes after a piece is cut as it is alone.
use Rattle.std.proofs.Common.{◌≡◌, ℕ, ◌+◌, true, false, List, [], ◌∷◌, ◌++◌, refl, sym, ap, ap₂, ◌∙◌, arith, append_assoc, map}
use Rattle.std.specs.Prelude.{fold}
use Rattle.std.proofs.lemmas.List.{map_push}
use Rattle.std.proofs.lemmas.List.Sums.{fold-append}
use Rattle.jp_model.specs.Json.Faults.{has_open_end}
use Rattle.jp_model.specs.Json.Tree.{Tree, value_of}
use Rattle.jp_cut.specs.Cuts.{Piece, Cut, start, line_feeds_in, piece_of, keep, turned, take_in, cut_of}
use Rattle.jp_cut.specs.Machine.{ends_word, step}
use Rattle.jp_cut.specs.declared.machine.Pieces.{Pieces}
use Rattle.jp_cut.specs.declared.machine.Turn.{Turn}
use Rattle.jp_cut.specs.declared.machine.Turn.TheVariants.{Passed, Kept, Last, Ended, EndedBefore}
use Rattle.jp_cut_laws.specs.Values.{IsValue, is_split, later, after_piece, open_word}
use Rattle.jp_cut_laws.proofs.Taken.{with_known, between, begun_at, one_more, open_taken, shown_taken, word_ended}
use Rattle.jp_cut_laws.proofs.Whole.{value_written}

-- a cut after these pieces, and this number of line feeds
abbrev pub after : List Piece → ℕ → Cut → Cut
after front n cut = record { ended = front ++ map (later n) cut.ended; begun = cut.begun; line_feeds = n + cut.line_feeds; known = cut.known }

pushed : (front : List Piece) (n : ℕ) (ended : List Piece) (piece : Piece) → (front ++ map (later n) ended) ++ later n piece ∷ [] ≡ front ++ map (later n) (ended ++ piece ∷ [])
pushed front n ended piece = append_assoc front (map (later n) ended) (later n piece ∷ []) ∙ ap (λ xs. front ++ xs) (sym (map_push (later n) ended piece))

turned_after : (turn : Turn) (front : List Piece) (n : ℕ) (cut : Cut) (byte : ℕ) → turned turn (after front n cut) byte ≡ after front n (turned turn cut byte)
turned_after Passed front n cut byte = ap (λ k. begun_at (front ++ map (later n) cut.ended) k [] cut.known) (let e : n + cut.line_feeds + line_feeds_in (byte ∷ []) ≡ n + (cut.line_feeds + line_feeds_in (byte ∷ [])) = omega arith in e)
turned_after Kept front n cut byte = refl
turned_after Last front n cut byte =
    ap₂ (λ (xs : List Piece) (k : ℕ). begun_at xs k [] cut.known) (pushed front n cut.ended (piece_of true (keep cut byte)))
    (let e : n + cut.line_feeds + line_feeds_in (cut.begun ++ byte ∷ []) ≡ n + (cut.line_feeds + line_feeds_in (cut.begun ++ byte ∷ [])) = omega arith in e)
turned_after Ended front n cut byte =
    ap₂ (λ (xs : List Piece) (k : ℕ). begun_at xs k [] cut.known) (pushed front n cut.ended (piece_of true cut))
    (let e : n + cut.line_feeds + line_feeds_in cut.begun + line_feeds_in (byte ∷ []) ≡ n + (cut.line_feeds + line_feeds_in cut.begun + line_feeds_in (byte ∷ [])) = omega arith in e)
turned_after EndedBefore front n cut byte =
    ap₂ (λ (xs : List Piece) (k : ℕ). begun_at xs k (byte ∷ []) cut.known) (pushed front n cut.ended (piece_of true cut))
    (let e : n + cut.line_feeds + line_feeds_in cut.begun ≡ n + (cut.line_feeds + line_feeds_in cut.begun) = omega arith in e)

after_one : (pieces : Pieces) (front : List Piece) (n : ℕ) (cut : Cut) (byte : ℕ) → take_in pieces (after front n cut) byte ≡ after front n (take_in pieces cut byte)
unfolding take_in
after_one pieces front n cut byte = ap (λ (c : Cut). with_known c (step pieces cut.known byte).known) (turned_after (step pieces cut.known byte).turn front n cut byte)

pub after_all : (pieces : Pieces) (front : List Piece) (n : ℕ) (cut : Cut) (bytes : List ℕ) → fold (take_in pieces) (after front n cut) bytes ≡ after front n (fold (take_in pieces) cut bytes)
after_all pieces front n cut [] = refl
after_all pieces front n cut (byte ∷ rest) = ap (λ (c : Cut). fold (take_in pieces) c rest) (after_one pieces front n cut byte) ∙ after_all pieces front n (take_in pieces cut byte) rest

-- after the first piece of a stream
behind_first : (pieces : Pieces) (bytes rest : List ℕ) → fold (take_in pieces) (one_more [] 0 bytes) rest ≡ after_piece bytes (fold (take_in pieces) start rest)
behind_first pieces bytes rest =
    ap (λ k. fold (take_in pieces) (between (record { bytes = bytes; is_closed = true; line_feeds = 0 } ∷ []) k) rest) (let e : 0 + line_feeds_in bytes ≡ line_feeds_in bytes + 0 = omega arith in e)
    ∙ after_all pieces (record { bytes = bytes; is_closed = true; line_feeds = 0 } ∷ []) (line_feeds_in bytes) start rest

pub shown_is_one : (pieces : Pieces) (bytes more : List ℕ) (t : Tree) → IsValue bytes t → is_split pieces (value_of t) ≡ false → has_open_end (value_of t) ≡ false → cut_of pieces (bytes ++ more) ≡ after_piece bytes (cut_of pieces more)
unfolding cut_of
shown_is_one pieces bytes more t h whole e =
    fold-append (take_in pieces) start bytes more
    ∙ ap (λ (c : Cut). fold (take_in pieces) c more) (shown_taken pieces [] 0 t bytes (value_written bytes t h) e whole)
    ∙ behind_first pieces bytes more

pub word_is_open : (pieces : Pieces) (bytes : List ℕ) (t : Tree) → IsValue bytes t → has_open_end (value_of t) ≡ true → cut_of pieces bytes ≡ open_word bytes
unfolding cut_of
word_is_open pieces bytes t h e = open_taken pieces [] 0 t bytes (value_written bytes t h) e

pub word_is_one : (pieces : Pieces) (bytes : List ℕ) (byte : ℕ) (more : List ℕ) (t : Tree) → IsValue bytes t → has_open_end (value_of t) ≡ true → ends_word byte ≡ true → cut_of pieces (bytes ++ byte ∷ more) ≡ after_piece bytes (cut_of pieces (byte ∷ more))
unfolding cut_of
word_is_one pieces bytes byte more t h e ends =
    fold-append (take_in pieces) start bytes (byte ∷ more)
    ∙ ap (λ (c : Cut). fold (take_in pieces) c (byte ∷ more)) (open_taken pieces [] 0 t bytes (value_written bytes t h) e)
    ∙ word_ended pieces [] 0 bytes byte more ends
    ∙ behind_first pieces bytes (byte ∷ more)
