-- A piece that is noted, as an item.
use Rattle.std.proofs.Common.{◌≡◌, ◌∙◌, ◌≤◌, ◌++◌, ◌∷◌, [], ℕ, List, Bool, All, length, map, min, refl, sym, ap, ap₂, arith, slice_range, subst, zip}
use Rattle.std.proofs.lemmas.List.{map-append}
use Rattle.std.proofs.lemmas.List.Elements.{All-append, All-cons, All-nil}
use Rattle.jp_cut.specs.Cuts.{Piece}
use Rattle.jp_cut.specs.Holding.{IsHeld, IsPieceAt}
use Rattle.jp_cut.specs.declared.cutter.Cutter.{Cutter}
use Rattle.jp_cut.specs.declared.cutter.PieceAt.{PieceAt}
use Rattle.jp_grep.specs.Items.{Item, item_with, line_after, piece_item}
use Rattle.jp_lines.specs.Batches.{text_at}
use Rattle.jp_grep.specs.Finding.{span_of}
use Rattle.jp_grep.specs.ReadItems.{held_item, piece_text, piece_with}

still_after : (at line_feeds : ℕ) → at ≡ min line_feeds 18446744073709551615 → line_after at ≡ line_after line_feeds
still_after at line_feeds e = omega (arith, e)

-- the line after line feeds that are counted up to 2^64 - 1 is the line after all
same_item : (text bytes : List ℕ) (closed is_closed : Bool) (at line_feeds : ℕ) → text ≡ bytes → closed ≡ is_closed → line_after at ≡ line_after line_feeds → item_with text closed at ≡ item_with bytes is_closed line_feeds
same_item text bytes closed is_closed at line_feeds e f g = cc

-- a piece by where it is held is the piece
pub item_held : (cutter : Cutter) (at : PieceAt) (piece : Piece) → IsPieceAt cutter at piece → held_item cutter.held.items at ≡ piece_item piece
item_held cutter at piece is = same_item (slice_range cutter.held.items at.start at.end) piece.bytes at.is_closed piece.is_closed at.line_feeds piece.line_feeds is.bytes is.is_closed (still_after at.line_feeds piece.line_feeds is.line_feeds)

-- one more is noted
pub noted_more : (cutter : Cutter) (before : List PieceAt) (at : PieceAt) (pieces : List Piece) (piece : Piece) → map (held_item cutter.held.items) before ≡ map piece_item pieces → IsPieceAt cutter at piece
    → map (held_item cutter.held.items) (before ++ at ∷ []) ≡ map piece_item (pieces ++ piece ∷ [])
noted_more cutter before at pieces piece so_far is =
    map-append (held_item cutter.held.items) before (at ∷ [])
    ∙ ap₂ (λ (xs : List Item) (x : Item). xs ++ x ∷ []) so_far (item_held cutter at piece is)
    ∙ sym (map-append piece_item pieces (piece ∷ []))

-- what is held stays held where the same bytes are
pub held_still : (a b : Cutter) (at : PieceAt) → b.held ≡ a.held → IsHeld a at → IsHeld b at
held_still a b at same is = record { order = is.order; within = subst (λ v. at.end ≤ length v.items) (sym same) is.within }

pub held_more : (a b : Cutter) (before : List PieceAt) (at : PieceAt) → b.held ≡ a.held → All (IsHeld a) before → IsHeld b at → All (IsHeld b) (before ++ at ∷ [])
held_more a b before at same all one =
    All-append (IsHeld b) before (at ∷ []) (λ k d l. held_still a b _ same (all k d l)) (All-cons (IsHeld b) at [] one (All-nil (IsHeld b)))

-- texts beside the pieces that they are
pub zipped : (text : PieceAt → List ℕ) (pieces : List PieceAt) → map piece_with (zip (map text pieces) pieces) ≡ map (λ at. piece_with (text at, at)) pieces
zipped text [] = refl
zipped text (at ∷ pieces) = ap (λ l. piece_with (text at, at) ∷ l) (zipped text pieces)

-- the texts at the spans of some pieces are those of the pieces
pub texts_at : (held : List ℕ) (pieces : List PieceAt) → map (text_at held) (map span_of pieces) ≡ map (piece_text held) pieces
texts_at held [] = refl
texts_at held (at ∷ pieces) = ap (λ l. piece_text held at ∷ l) (texts_at held pieces)
