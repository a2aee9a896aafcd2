-- One more byte of a stream is cut.
use Rattle.std.proofs.Common.{◌≡◌, ℕ, suc, ◌+◌, ◌-◌, ◌<◌, ◌≤◌, ◌^◌, true, List, [], ◌∷◌, ◌++◌, length, take, drop, get_or, min, arith, sym, ap, ◌∙◌, append_assoc, add-one}
use Rattle.std.proofs.Math.Seq.{drop-cons}
use Rattle.std.proofs.lemmas.List.{take_more, length-drop, get_or-drop}
use Rattle.std.proofs.lemmas.List.Sums.{fold-append}
use Rattle.std.specs.Prelude.{slice_range}
use Rattle.jp_cut.specs.Cuts.{Piece, Cut, start, piece_of, close, keep, turned, take_in, cut_of, line_feeds_in}
use Rattle.jp_cut.specs.Holding.{HasCut, HandsOut, IsPieceAt}
use Rattle.jp_cut.specs.Machine.{step}
use Rattle.jp_cut.specs.declared.cutter.PieceAt.{PieceAt}
use Rattle.jp_cut.specs.declared.cutter.Cutter.{Cutter}
use Rattle.jp_cut.specs.declared.machine.Pieces.{Pieces}
use Rattle.jp_cut.specs.declared.machine.Known.{Known}
use Rattle.jp_cut.specs.declared.machine.Turn.{Turn}
use Rattle.jp_cut.specs.declared.machine.Turn.TheVariants.{Passed, Kept, Last, Ended, EndedBefore}
use Rattle.jp_cut.specs.declared.machine.Step.{Step}

-- one byte more
slice_range_more : (xs : List ℕ) (a b d : ℕ) → a ≤ b → b < length xs → slice_range xs a (b + 1) ≡ slice_range xs a b ++ get_or xs b d ∷ []
slice_range_more xs a b d order within =
    let n : b + 1 - a ≡ (b - a) + 1 = omega arith in
    let m : a + (b - a) ≡ b = omega arith in
    ap (λ k. take k (drop a xs)) n
    ∙ take_more (drop a xs) (b - a) d (omega (arith, length-drop a xs))
    ∙ ap (λ x. slice_range xs a b ++ x ∷ []) (get_or-drop a xs (b - a) d ∙ ap (λ k. get_or xs k d) m)

slice_range_none : (xs : List ℕ) (a : ℕ) → slice_range xs a a ≡ []
slice_range_none xs a = let n : a - a ≡ 0 = omega arith in ap (λ k. take k (drop a xs)) n

-- a bounded sum is bounded in its parts
pub bounded : (a b m : ℕ) → min (min a m + b) m ≡ min (a + b) m
bounded a b m = omega arith

-- what some bytes and one more are cut into
cut_of-more : (pieces : Pieces) (bytes : List ℕ) (byte : ℕ) → cut_of pieces (bytes ++ byte ∷ []) ≡ take_in pieces (cut_of pieces bytes) byte
unfolding cut_of
cut_of-more pieces bytes byte = fold-append (take_in pieces) start bytes (byte ∷ [])

-- what a byte does, where its turn is known
pub take_in-turned : (pieces : Pieces) (cut : Cut) (byte : ℕ) (turn : Turn) → (step pieces cut.known byte).turn ≡ turn
    → take_in pieces cut byte ≡ (let new = turned turn cut byte in record { ended = new.ended; begun = new.begun; line_feeds = new.line_feeds; known = (step pieces cut.known byte).known })
unfolding take_in
take_in-turned pieces cut byte turn e =
    ap (λ (t : Turn). let new = turned t cut byte in let made : Cut = record { ended = new.ended; begun = new.begun; line_feeds = new.line_feeds; known = (step pieces cut.known byte).known } in made) e

module _ (pieces : Pieces) (fed : List ℕ) (handed : List Piece) (s : Cutter) (h : HasCut pieces fed handed s) (below : s.cut < length s.held.items) (byte d : ℕ) (byte_is : byte ≡ get_or s.held.items s.cut d) (done : Step) (done_is : done ≡ step s.pieces s.known byte) where
  -- what the bytes before are cut into
  abbrev before : Cut
  before = record { ended = handed; begun = slice_range s.held.items s.start s.cut; line_feeds = h.line_feeds; known = s.known }

  done_as : done ≡ step pieces s.known byte
  done_as = done_is ∙ ap (λ p. step p s.known byte) h.are

  abbrev longer : List ℕ
  longer = slice_range s.held.items s.start (s.cut + 1)

  is_longer : slice_range s.held.items s.start s.cut ++ byte ∷ [] ≡ longer
  is_longer =
      ap (λ x. slice_range s.held.items s.start s.cut ++ x ∷ []) byte_is
      ∙ sym (slice_range_more s.held.items s.start s.cut d (omega (arith, s.order)) below)

  rest_is : drop s.cut s.held.items ≡ byte ∷ drop (s.cut + 1) s.held.items
  rest_is = drop-cons s.held.items s.cut d below ∙ ap (λ x. x ∷ drop (suc s.cut) s.held.items) (sym byte_is) ∙ ap (λ k. byte ∷ drop k s.held.items) (sym (add-one s.cut))

  -- the byte is cut, and this cutter knows it
  pub cut_on : (turn : Turn) → done.turn ≡ turn → (t : Cutter) → t.pieces ≡ s.pieces → t.held ≡ s.held → t.cut ≡ s.cut + 1 → t.known ≡ done.known
      → (turned turn before byte).begun ≡ slice_range s.held.items t.start (s.cut + 1) → t.line_feeds ≡ min (turned turn before byte).line_feeds (2 ^ 64 - 1)
      → HasCut pieces fed (turned turn before byte).ended t
  cut_on turn e t same_pieces same_held more same_known begun counted = record {
    cut = h.cut ++ byte ∷ [];
    line_feeds = (turned turn before byte).line_feeds;
    are = same_pieces ∙ h.are;
    joined = h.joined ∙ ap (λ x. h.cut ++ x) rest_is ∙ sym (append_assoc h.cut (byte ∷ []) (drop (s.cut + 1) s.held.items))
        ∙ ap (λ k. (h.cut ++ byte ∷ []) ++ drop k s.held.items) (sym more) ∙ ap (λ v. (h.cut ++ byte ∷ []) ++ drop t.cut v.items) (sym same_held);
    state = cut_of-more pieces h.cut byte
        ∙ ap (λ c. take_in pieces c byte) h.state
        ∙ take_in-turned pieces before byte turn (sym (ap (λ x. x.turn) done_as) ∙ e)
        ∙ ap (λ (k : Known). let made : Cut = record { ended = (turned turn before byte).ended; begun = (turned turn before byte).begun; line_feeds = (turned turn before byte).line_feeds; known = k } in made) (sym (ap (λ x. x.known) done_as) ∙ sym same_known)
        ∙ ap (λ (b : List ℕ). let made : Cut = record { ended = (turned turn before byte).ended; begun = b; line_feeds = (turned turn before byte).line_feeds; known = t.known } in made)
        (begun ∙ ap (λ k. slice_range s.held.items t.start k) (sym more) ∙ ap (λ v. slice_range v.items t.start t.cut) (sym same_held));
    counted = counted;
  }

  -- the open piece with the byte is a piece, where it ends
  last_at : (t : Cutter) → t.held ≡ s.held → (at : PieceAt) → at ≡ record { start = s.start; end = s.cut + 1; is_closed = true; line_feeds = s.line_feeds }
      → IsPieceAt t at (piece_of true (keep before byte))
  last_at t hd at e = record {
    bytes = ap (λ v. slice_range v.items at.start at.end) hd ∙ ap (λ x. slice_range s.held.items x.start x.end) e ∙ sym is_longer;
    is_closed = ap (λ x. x.is_closed) e;
    line_feeds = ap (λ x. x.line_feeds) e ∙ h.counted;
  }

  -- the open piece without it is one
  before_at : (t : Cutter) → t.held ≡ s.held → (at : PieceAt) → at ≡ record { start = s.start; end = s.cut; is_closed = true; line_feeds = s.line_feeds }
      → IsPieceAt t at (piece_of true before)
  before_at t hd at e = record {
    bytes = ap (λ v. slice_range v.items at.start at.end) hd ∙ ap (λ x. slice_range s.held.items x.start x.end) e;
    is_closed = ap (λ x. x.is_closed) e;
    line_feeds = ap (λ x. x.line_feeds) e ∙ h.counted;
  }

  pub on_kept : done.turn ≡ Kept → (t : Cutter) → t.pieces ≡ s.pieces → t.held ≡ s.held → t.cut ≡ s.cut + 1 → t.known ≡ done.known
      → t.start ≡ s.start → t.line_feeds ≡ s.line_feeds → HasCut pieces fed handed t
  on_kept e t p hd c k st n = cut_on Kept e t p hd c k (is_longer ∙ ap (λ a. slice_range s.held.items a (s.cut + 1)) (sym st)) (n ∙ h.counted)

  pub on_passed : done.turn ≡ Passed → (t : Cutter) → t.pieces ≡ s.pieces → t.held ≡ s.held → t.cut ≡ s.cut + 1 → t.known ≡ done.known
      → t.start ≡ s.cut + 1 → t.line_feeds ≡ min (s.line_feeds + line_feeds_in (byte ∷ [])) (2 ^ 64 - 1) → HasCut pieces fed handed t
  on_passed e t p hd c k st n =
      cut_on Passed e t p hd c k (sym (ap (λ a. slice_range s.held.items a (s.cut + 1)) st ∙ slice_range_none s.held.items (s.cut + 1)))
      (n ∙ ap (λ a. min (a + line_feeds_in (byte ∷ [])) (2 ^ 64 - 1)) h.counted ∙ bounded h.line_feeds (line_feeds_in (byte ∷ [])) (2 ^ 64 - 1))

  -- the count after the open piece
  pub closed_count : (t : Cutter) → t.line_feeds ≡ min (s.line_feeds + line_feeds_in (slice_range s.held.items s.start s.cut)) (2 ^ 64 - 1)
      → t.line_feeds ≡ min (close before).line_feeds (2 ^ 64 - 1)
  closed_count t n =
      n ∙ ap (λ a. min (a + line_feeds_in (slice_range s.held.items s.start s.cut)) (2 ^ 64 - 1)) h.counted
      ∙ bounded h.line_feeds (line_feeds_in (slice_range s.held.items s.start s.cut)) (2 ^ 64 - 1)

  pub on_last : done.turn ≡ Last → (t : Cutter) → t.pieces ≡ s.pieces → t.held ≡ s.held → t.cut ≡ s.cut + 1 → t.known ≡ done.known
      → t.start ≡ s.cut + 1 → t.line_feeds ≡ min (s.line_feeds + line_feeds_in longer) (2 ^ 64 - 1)
      → (at : PieceAt) → at ≡ record { start = s.start; end = s.cut + 1; is_closed = true; line_feeds = s.line_feeds }
      → HandsOut (λ now. HasCut pieces fed now t) handed t at
  on_last e t p hd c k st n at is = record {
    piece = piece_of true (keep before byte);
    is = last_at t hd at is;
    has = cut_on Last e t p hd c k (sym (ap (λ a. slice_range s.held.items a (s.cut + 1)) st ∙ slice_range_none s.held.items (s.cut + 1)))
        (n ∙ ap (λ a. min (a + line_feeds_in longer) (2 ^ 64 - 1)) h.counted ∙ bounded h.line_feeds (line_feeds_in longer) (2 ^ 64 - 1)
        ∙ ap (λ xs. min (h.line_feeds + line_feeds_in xs) (2 ^ 64 - 1)) (sym is_longer));
  }

  pub on_ended : done.turn ≡ Ended → (m t : Cutter) → t.pieces ≡ s.pieces → t.held ≡ s.held → t.cut ≡ s.cut + 1 → t.known ≡ done.known
      → t.start ≡ s.cut + 1 → m.line_feeds ≡ min (s.line_feeds + line_feeds_in (slice_range s.held.items s.start s.cut)) (2 ^ 64 - 1)
      → t.line_feeds ≡ min (m.line_feeds + line_feeds_in (byte ∷ [])) (2 ^ 64 - 1)
      → (at : PieceAt) → at ≡ record { start = s.start; end = s.cut; is_closed = true; line_feeds = s.line_feeds }
      → HandsOut (λ now. HasCut pieces fed now t) handed t at
  on_ended e m t p hd c k st n more at is = record {
    piece = piece_of true before;
    is = before_at t hd at is;
    has = cut_on Ended e t p hd c k (sym (ap (λ a. slice_range s.held.items a (s.cut + 1)) st ∙ slice_range_none s.held.items (s.cut + 1)))
        (more ∙ ap (λ a. min (a + line_feeds_in (byte ∷ [])) (2 ^ 64 - 1)) (closed_count m n) ∙ bounded (close before).line_feeds (line_feeds_in (byte ∷ [])) (2 ^ 64 - 1));
  }

  pub on_ended_before : done.turn ≡ EndedBefore → (t : Cutter) → t.pieces ≡ s.pieces → t.held ≡ s.held → t.cut ≡ s.cut + 1 → t.known ≡ done.known
      → t.start ≡ s.cut → t.line_feeds ≡ min (s.line_feeds + line_feeds_in (slice_range s.held.items s.start s.cut)) (2 ^ 64 - 1)
      → (at : PieceAt) → at ≡ record { start = s.start; end = s.cut; is_closed = true; line_feeds = s.line_feeds }
      → HandsOut (λ now. HasCut pieces fed now t) handed t at
  on_ended_before e t p hd c k st n at is = record {
    piece = piece_of true before;
    is = before_at t hd at is;
    has = cut_on EndedBefore e t p hd c k
        (ap (λ x. x ∷ []) byte_is ∙ ap (λ xs. xs ++ get_or s.held.items s.cut d ∷ []) (sym (slice_range_none s.held.items s.cut))
        ∙ sym (slice_range_more s.held.items s.cut s.cut d (omega arith) below) ∙ ap (λ a. slice_range s.held.items a (s.cut + 1)) (sym st))
        (closed_count t n);
  }
