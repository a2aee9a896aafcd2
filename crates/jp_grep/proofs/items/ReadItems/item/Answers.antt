-- A text beside what is known of its piece.
use Rattle.std.proofs.Common.{◌≡◌, ◌∙◌, ◌<◌, ℕ, List, length, map, ap, ap₂, arith, get_or, slice_get, zip, None, Some, sym, subst, false, Option}
use Rattle.std.specs.Prelude.{MatchOption, option_map}
use denote.Ref.{Bor}
use Rattle.std.proofs.lemmas.Option.{get_or_from_slice_get, slice_get-get_or, slice_get-map}
use Rattle.std.proofs.lemmas.Slice.Zip.{get_or-zip, length-zip}
use Rattle.jp_model.specs.declared.Framing.{Framing}
use Rattle.jp_cut.specs.declared.cutter.PieceAt.{PieceAt}
use Rattle.jp_lines.specs.Batches.{IsState, texts_of}
use Rattle.jp_lines.specs.declared.batch.LineState.{LineState}
use Rattle.jp_lines.specs.declared.batch.LineState.TheVariants as states
use Rattle.jp_model.specs.declared.Framing.TheVariants as framings
use Rattle.jp_model.specs.Json.Reader.{status_of}
use Rattle.jp_model.specs.Json.Status.{LineStatus}
use Rattle.jp_grep.specs.Items.{Item, line_after, piece_judged}
use Rattle.jp_grep.specs.ReadItems.{ArePieces, IsOpened, items_by, piece_with, status_by}
use Rattle.jp_grep.proofs.ReadLengths.{items_long, pieces_long}
use Rattle.jp_grep.proofs.items.ReadItems.item.Goals as goal

opened : (framing : Framing) (text : List ℕ) (state : LineState) → IsState framing text state → IsOpened state text
opened framing text states.Blank is = tt
opened framing text (states.Refused fault) is = tt
opened framing text (states.Tree view) is = is.1

said : (framing : Framing) (text : List ℕ) (state : LineState) → IsState framing text state → status_of framing text ≡ status_by state
said framing text states.Blank is = is
said framing text (states.Refused fault) is = is
said framing text (states.Tree view) is = is.0

-- a text and its piece at an index
pair_at : (texts : List (List ℕ)) (pieces : List PieceAt) (i : ℕ) (text : List ℕ) (other : PieceAt) → i < length texts → i < length pieces → slice_get texts i ≡ Some text
    → slice_get (map piece_with (zip texts pieces)) i ≡ Some (piece_with (text, get_or pieces i other))
pair_at texts pieces i text other within pieced is =
    let long : i < length (zip texts pieces) = omega (arith, length-zip texts pieces, within, pieced) in
    slice_get-map piece_with (zip texts pieces) i
    ∙ ap (option_map piece_with) (slice_get-get_or (zip texts pieces) i (text, other) long)
    ∙ ap (λ pair. Some (piece_with pair)) (get_or-zip texts pieces i (text, other) within pieced
    ∙ ap (λ (t : List ℕ). (t, get_or pieces i other)) (get_or_from_slice_get texts i text text is))

-- what is told of a piece
made : (framing : Framing) (text : List ℕ) (state judged : LineState) (at : PieceAt) (line : ℕ) → framing ≡ framings.Lines → status_of framing text ≡ status_by state
    → status_by judged ≡ piece_judged at.is_closed (status_by state) → line ≡ line_after at.line_feeds
    → piece_with (text, at) ≡ record { text = text; status = status_by judged; from_line = Some line; most = None; given_up = None }
made framing text state judged at line lines status is after =
    ap₂ (λ (s : LineStatus) (n : ℕ). let item : Item = record { text = text; status = s; from_line = Some n; most = None; given_up = None } in item)
    (ap (λ f. piece_judged at.is_closed (status_of f text)) (sym lines) ∙ ap (piece_judged at.is_closed) status ∙ sym is) (sym after)

pub line-line-requires-clause-within : goal.line-line-requires-clause-within
line-line-requires-clause-within c = omega (arith, c.requires.within, items_long c.args.self c.requires.read)

pub bounds-pieces-index : goal.bounds-pieces-index
bounds-pieces-index c = omega (arith, c.requires.within, items_long c.args.self c.requires.read, pieces_long c.args.self c.in-Some.pieces c.in-Some.is c.requires.read)

pub returns-in-Some-clause-item : goal.returns-in-Some-clause-item
returns-in-Some-clause-item c =
    let read = c.requires.read in
    let pieces = c.in-Some.pieces in
    let texts = texts_of c.args.self.batch in
    let within : c.args.index < length texts = omega (arith, c.requires.within, items_long c.args.self read) in
    let pieced : c.args.index < length pieces.now = omega (arith, within, pieces_long c.args.self pieces c.in-Some.is read) in
    let line = c.line-line.ensures in
    let text = c.line-line.result.text.now in
    let state = c.line-line.result.state in
    let framing = (subst (λ (some : Option (Bor (List PieceAt))). MatchOption some (Unit {0}) (λ of. ArePieces c.args.self.batch of.now)) c.in-Some.is read.pieces).framing in
    let other : PieceAt = record { start = 0; end = 0; is_closed = false; line_feeds = 0 } in
    ap (λ (some : Option (Bor (List PieceAt))). slice_get (items_by some c.args.self.batch) c.args.index) c.in-Some.is
    ∙ pair_at texts pieces.now c.args.index text other within pieced line.text
    ∙ ap Some (made c.args.self.batch.framing text state c.judge_piece.result (get_or pieces.now c.args.index other) c.saturating_add.result framing (said c.args.self.batch.framing text state line.line)
    c.judge_piece.ensures.judged c.saturating_add.ensures)

pub returns-in-Some-clause-read : goal.returns-in-Some-clause-read
returns-in-Some-clause-read c = c.judge_piece.ensures.opened c.line-line.result.text.now (opened c.args.self.batch.framing c.line-line.result.text.now c.line-line.result.state c.line-line.ensures.line)
