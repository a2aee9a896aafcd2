-- Each line of a collection stands in it, and is UTF-8 where the collection is.
use Rattle.std.proofs.Common.{◌≡◌, ℕ, ◌+◌, ◌<◌, ◌≤◌, Bool, true, false, cond, List, [], ◌∷◌, ◌++◌, length, drop, get_or, slice_range, refl, sym, ap, ap₂, ◌∙◌, arith, append_assoc, append-nil, subst, Some, eqb-true, All}
use Rattle.std.proofs.lemmas.List.{length-append}
use Rattle.std.proofs.lemmas.List.Elements.{All-append, All-cons}
use Rattle.std.proofs.lemmas.Option.{slice_get_within, get_or_from_slice_get}
use Rattle.std.specs.List.{slice_get}
use Rattle.std.proofs.Math.Seq.{drop-append_seam, take-append_seam, get_or-append_seam}
use Rattle.std.proofs.lemmas.Str.{IsUtf8-take, IsUtf8-drop, IsCharBoundary-before_ascii, IsCharBoundary-after_ascii}
use Rattle.std.specs.Str.{IsUtf8}
use Rattle.jp_model.specs.declared.Framing.{Framing}
use Rattle.jp_model.specs.declared.Framing.TheVariants.{Lines, Sequence}
use Rattle.jp_model.specs.Lines.{separator_of, is_separator, closed_pieces, open_piece}
use Rattle.jp_masks.specs.Found.{LineAt, one_if, is_line, is_last_line, lines_at, bytes_of, closed_at, last_at, all_at}
use Rattle.jp_model.specs.Json.Marks.{marks}
use Rattle.jp_masks.proofs.LineMore.{by_push}
use Rattle.jp_masks.proofs.Pieces.{closed-push, open-push}
use Rattle.jp_masks.proofs.FoundLaw.{middle}

-- pieces, each with the separator after it, and what comes then
unfoldable pub with_tail : ℕ → List (List ℕ) → List ℕ → List ℕ
with_tail separator [] tail = tail
with_tail separator (piece ∷ rest) tail = piece ++ separator ∷ with_tail separator rest tail

-- what holds of each piece
unfoldable pub OfEachPiece : (List ℕ → Type 0) → List (List ℕ) → Type 0
OfEachPiece Q [] = Unit {0}
OfEachPiece Q (piece ∷ rest) = Q piece × OfEachPiece Q rest

module _ (separator : ℕ) where
  with_tail-push : (pieces : List (List ℕ)) (piece tail : List ℕ) → with_tail separator (pieces ++ piece ∷ []) tail ≡ with_tail separator pieces (piece ++ separator ∷ tail)
  unfolding with_tail
  with_tail-push [] piece tail = refl
  with_tail-push (first ∷ pieces) piece tail = ap (λ l. first ++ separator ∷ l) (with_tail-push pieces piece tail)

  pub with_tail-more : (pieces : List (List ℕ)) (tail more : List ℕ) → with_tail separator pieces (tail ++ more) ≡ with_tail separator pieces tail ++ more
  unfolding with_tail
  with_tail-more [] tail more = refl
  with_tail-more (first ∷ pieces) tail more = ap (λ l. first ++ separator ∷ l) (with_tail-more pieces tail more) ∙ sym (append_assoc first (separator ∷ with_tail separator pieces tail) more)

  pub length-with_tail : (pieces : List (List ℕ)) (tail : List ℕ) → length (with_tail separator pieces tail) ≡ bytes_of pieces + length tail
  unfolding with_tail
  length-with_tail [] tail = omega arith
  length-with_tail (first ∷ pieces) tail = length-append first (separator ∷ with_tail separator pieces tail) ∙ (let below = length-with_tail pieces tail in omega arith)

  -- the pieces make up the text
  pub pieces_all : (text : List ℕ) → with_tail separator (closed_pieces separator text) (open_piece separator text) ≡ text
  unfolding with_tail
  pieces_all = by_push (λ text. with_tail separator (closed_pieces separator text) (open_piece separator text) ≡ text) refl push
    where
      push : (text : List ℕ) (byte : ℕ) → with_tail separator (closed_pieces separator text) (open_piece separator text) ≡ text
          → with_tail separator (closed_pieces separator (text ++ byte ∷ [])) (open_piece separator (text ++ byte ∷ [])) ≡ text ++ byte ∷ []
      push text byte all = ap₂ (with_tail separator) (closed-push separator text byte) (open-push separator text byte) ∙ go (is_separator separator byte) refl
        where
          go : (b : Bool) → is_separator separator byte ≡ b → with_tail separator (cond b (closed_pieces separator text ++ open_piece separator text ∷ []) (closed_pieces separator text)) (cond b [] (open_piece separator text ++ byte ∷ [])) ≡ text ++ byte ∷ []
          go true e =
              with_tail-push (closed_pieces separator text) (open_piece separator text) [] ∙ ap (λ b. with_tail separator (closed_pieces separator text) (open_piece separator text ++ b ∷ [])) (sym (eqb-true byte separator e))
              ∙ with_tail-more (closed_pieces separator text) (open_piece separator text) (byte ∷ []) ∙ ap (λ l. l ++ byte ∷ []) all
          go false e = with_tail-more (closed_pieces separator text) (open_piece separator text) (byte ∷ []) ∙ ap (λ l. l ++ byte ∷ []) all

  -- a text that is cut at an ASCII byte
  cut_utf8 : separator < 128 → (piece rest : List ℕ) → IsUtf8 (piece ++ separator ∷ rest) → IsUtf8 piece × IsUtf8 rest
  cut_utf8 small piece rest u =
      let all = piece ++ separator ∷ rest in
      let room : length piece < length all = omega (arith, length-append piece (separator ∷ rest)) in
      let there : get_or all (length piece) 0 ≡ separator = get_or-append_seam piece separator rest 0 in
      let low : get_or all (length piece) 0 < 128 = omega (arith, there) in
      let seam : drop (length piece + 1) all ≡ rest =
      ap₂ (λ n (l : List ℕ). drop n l) (sym (length-append piece (separator ∷ []))) (sym (append_assoc piece (separator ∷ []) rest)) ∙ drop-append_seam (piece ++ separator ∷ []) rest in (
        subst IsUtf8 (take-append_seam piece (separator ∷ rest)) (IsUtf8-take all (length piece) u (IsCharBoundary-before_ascii all (length piece) room low)),
        subst IsUtf8 seam (IsUtf8-drop all (length piece + 1) u (IsCharBoundary-after_ascii all (length piece) u room low)),
      )

  pub pieces_utf8 : separator < 128 → (pieces : List (List ℕ)) (tail : List ℕ) → IsUtf8 (with_tail separator pieces tail) → OfEachPiece IsUtf8 pieces × IsUtf8 tail
  unfolding with_tail OfEachPiece
  pieces_utf8 small [] tail u = (tt, u)
  pieces_utf8 small (piece ∷ rest) tail u =
      let parts = cut_utf8 small piece (with_tail separator rest tail) u in
      let later = pieces_utf8 small rest tail parts.1 in ((parts.0, later.0), later.1)

-- a line stands in the text, and this holds of its bytes
pub record IsLineWith (Q : List ℕ → Type 0) (text : List ℕ) (line : LineAt) : Type 0 where
  pub order : line.start ≤ line.end
  pub within : line.end ≤ length text
  pub holds : Q (slice_range text line.start line.end)

module _ (framing : Framing) (Q : List ℕ → Type 0) (text : List ℕ) where
  all_one_if : (is : Bool) (line : LineAt) → IsLineWith Q text line → All (IsLineWith Q text) (one_if is line)
  all_one_if true line s = All-cons (IsLineWith Q text) line [] s (λ k d l. absurd (omega arith))
  all_one_if false line s = λ k d l. absurd (omega arith)

  piece_stands : (front piece rest : List ℕ) (start : ℕ) → text ≡ front ++ (piece ++ rest) → length front ≡ start → Q piece → IsLineWith Q text (record { start = start; end = start + length piece; positions = marks piece })
  piece_stands front piece rest start e l q =
      let bytes : slice_range text start (start + length piece) ≡ piece =
      (λ t. slice_range (e t) (sym l t) (sym l t + length piece)) ∙ middle front piece rest in
      record {
        order = omega arith;
        within = omega (arith, ap length e, length-append front (piece ++ rest), length-append piece rest);
        holds = subst Q (sym bytes) q;
      }

  each_line : (front tail : List ℕ) (start : ℕ) (pieces : List (List ℕ)) → text ≡ front ++ with_tail (separator_of framing) pieces tail → length front ≡ start → OfEachPiece Q pieces → All (IsLineWith Q text) (lines_at framing start pieces)
  unfolding with_tail OfEachPiece
  each_line front tail start [] e l q = λ k d w. absurd (omega arith)
  each_line front tail start (piece ∷ rest) e l q =
      let sep = separator_of framing in
      let later : text ≡ (front ++ (piece ++ sep ∷ [])) ++ with_tail sep rest tail =
      e ∙ ap (λ l. front ++ l) (sym (append_assoc piece (sep ∷ []) (with_tail sep rest tail))) ∙ sym (append_assoc front (piece ++ sep ∷ []) (with_tail sep rest tail)) in
      All-append (IsLineWith Q text) (one_if (is_line framing start (start + length piece)) _) (lines_at framing (start + length piece + 1) rest)
      (all_one_if (is_line framing start (start + length piece)) _ (piece_stands front piece (sep ∷ with_tail sep rest tail) start e l q.0))
      (each_line (front ++ (piece ++ sep ∷ [])) tail (start + length piece + 1) rest later (omega (arith, l, length-append front (piece ++ sep ∷ []), length-append piece (sep ∷ []))) q.1)

  -- all lines stand in the text, and what holds of each piece holds of their bytes
  pub all_stand : OfEachPiece Q (closed_pieces (separator_of framing) text) → Q (open_piece (separator_of framing) text) → All (IsLineWith Q text) (all_at framing text)
  unfolding all_at closed_at with_tail
  all_stand each last =
      let sep = separator_of framing in
      let closed = closed_pieces sep text in
      let open_text = open_piece sep text in
      let whole : text ≡ [] ++ with_tail sep closed open_text = sym (pieces_all sep text) in
      let parts : text ≡ with_tail sep closed [] ++ (open_text ++ []) = sym (pieces_all sep text) ∙ with_tail-more sep closed [] open_text ∙ ap (λ l. with_tail sep closed [] ++ l) (sym (append-nil open_text)) in
      All-append (IsLineWith Q text) (lines_at framing 0 closed) (last_at framing (bytes_of closed) open_text)
      (each_line [] open_text 0 closed whole refl each)
      (all_one_if (is_last_line framing (bytes_of closed) (bytes_of closed + length open_text)) _ (piece_stands (with_tail sep closed []) open_text [] (bytes_of closed) parts (length-with_tail sep closed [] ∙ omega arith) last))

-- one of them
pub line_stands : (Q : List ℕ → Type 0) (text : List ℕ) (lines : List LineAt) (k : ℕ) (line : LineAt) → All (IsLineWith Q text) lines → slice_get lines k ≡ Some line → IsLineWith Q text line
line_stands Q text lines k line all e =
    subst (IsLineWith Q text) (get_or_from_slice_get lines k line line e) (all k line (slice_get_within lines k line e))

-- every list of pieces
pub each_any : (pieces : List (List ℕ)) → OfEachPiece (λ piece. Unit {0}) pieces
unfolding OfEachPiece
each_any [] = tt
each_any (piece ∷ rest) = (tt, each_any rest)

pub separator_small : (framing : Framing) → separator_of framing < 128
separator_small Lines = omega arith
separator_small Sequence = omega arith

pub lines_stand : (framing : Framing) (text : List ℕ) → All (IsLineWith (λ bytes. Unit {0}) text) (all_at framing text)
lines_stand framing text = all_stand framing (λ bytes. Unit {0}) text (each_any (closed_pieces (separator_of framing) text)) tt

pub lines_utf8 : (framing : Framing) (text : List ℕ) → IsUtf8 text → All (IsLineWith IsUtf8 text) (all_at framing text)
lines_utf8 framing text u =
    let sep = separator_of framing in
    let parts = pieces_utf8 sep (separator_small framing) (closed_pieces sep text) (open_piece sep text) (subst IsUtf8 (sym (pieces_all sep text)) u) in
    all_stand framing IsUtf8 text parts.0 parts.1
