-- What was read of a stream, with a byte order mark at its front or without.
use Rattle.std.proofs.Common.{◌≡◌, ◌≢◌, ℕ, ◌-◌, Bool, true, false, List, [], ◌∷◌, ◌++◌, length, take, drop, arith, refl, sym, ap, subst, ◌∙◌, append_assoc, inl, inr, ◌⊎◌}
use Rattle.std.proofs.lemmas.List.{append-nil}
use Rattle.std.proofs.Math.Seq.{take-length}
use Rattle.std.specs.Prelude.{slice_range}
use Rattle.jp_model.specs.Lines.{without_byte_order_mark}
use Rattle.jp_cut.specs.Cuts.{Piece, Cut, piece_of, last_at, all_of, cut_of, pieces_of, AreFirst, pieces_come}
use Rattle.jp_cut.specs.Front.{may_become_mark}
use Rattle.jp_cut.specs.Holding.{HasCut, HasRead, HandsOut}
use Rattle.jp_cut.specs.Machine.{nothing_open}
use Rattle.jp_cut.specs.declared.cutter.PieceAt.{PieceAt}
use Rattle.jp_cut.specs.declared.cutter.Cutter.{Cutter}
use Rattle.jp_cut.specs.declared.machine.Pieces.{Pieces}
use Rattle.jp_cut.specs.declared.machine.Place.{Place}
use Rattle.jp_cut.specs.declared.machine.Place.TheVariants.{Between, Word}
use Rattle.jp_cut.proofs.Holding.{from_here, all_cut, behind_more, last_of_word, last_of_other}
use Rattle.jp_cut.proofs.TextsLaw.{ended_stays}
use Rattle.jp_cut.proofs.MarkLaw.{settled, mark_dropped, part_ended, part_none, part_one}

pub not_both : {P : Type 0} (is : Bool) → is ≡ true → is ≡ false → P
not_both is one other = absurd (cc)

-- at the front
pub read_front : (pieces : Pieces) (t : Cutter) → t.pieces ≡ pieces → t.held.items ≡ [] → t.start ≡ 0 → t.cut ≡ 0 → t.known ≡ nothing_open Between → t.line_feeds ≡ 0 → t.is_front ≡ true → HasRead pieces [] [] t
read_front pieces t p held start cut known none front = record {
  at_front = λ e. record { are = p; held = held; none = refl; start = start; cut = cut; known = known; line_feeds = none };
  behind_front = λ e. not_both t.is_front front e;
}

-- after more bytes
pub read_more : (pieces : Pieces) (stream more : List ℕ) (handed : List Piece) (s l t : Cutter) → HasRead pieces stream handed s
    → (l.is_front ≡ s.is_front) → (s.start ≡ 0 → l ≡ s) → ((fed : List ℕ) → HasCut pieces fed handed s → HasCut pieces fed handed l)
    → t.held.items ≡ l.held.items ++ more → t.pieces ≡ l.pieces → t.known ≡ l.known → t.start ≡ l.start → t.cut ≡ l.cut → t.line_feeds ≡ l.line_feeds → t.is_front ≡ l.is_front
    → HasRead pieces (stream ++ more) handed t
read_more pieces stream more handed s l t h front same let_go held p known start cut lines still = record {
  at_front = λ e.
      let f = h.at_front (sym front ∙ sym still ∙ e) in
      let l_is = same f.start in
      record {
        are = p ∙ ap (λ x. x.pieces) l_is ∙ f.are;
        held = held ∙ ap (λ x. x.held.items ++ more) l_is ∙ ap (λ xs. xs ++ more) f.held;
        none = f.none;
        start = start ∙ ap (λ x. x.start) l_is ∙ f.start;
        cut = cut ∙ ap (λ x. x.cut) l_is ∙ f.cut;
        known = known ∙ ap (λ x. x.known) l_is ∙ f.known;
        line_feeds = lines ∙ ap (λ x. x.line_feeds) l_is ∙ f.line_feeds;
      };
  behind_front = λ e.
      let b = h.behind_front (sym front ∙ sym still ∙ e) in
      record {
        bytes = b.bytes ++ more;
        dropped = λ m. ap without_byte_order_mark (append_assoc stream more m) ∙ b.dropped (more ++ m) ∙ sym (append_assoc b.bytes more m);
        cut = behind_more pieces b.bytes more handed l t (let_go b.bytes b.cut) held p known start cut lines;
      };
}

-- where nothing more came
pub read_none : (pieces : Pieces) (stream : List ℕ) (handed : List Piece) (s l t : Cutter) → HasRead pieces stream handed s
    → (l.is_front ≡ s.is_front) → (s.start ≡ 0 → l ≡ s) → ((fed : List ℕ) → HasCut pieces fed handed s → HasCut pieces fed handed l)
    → t.held.items ≡ l.held.items → t.pieces ≡ l.pieces → t.known ≡ l.known → t.start ≡ l.start → t.cut ≡ l.cut → t.line_feeds ≡ l.line_feeds → t.is_front ≡ l.is_front
    → HasRead pieces stream handed t
read_none pieces stream handed s l t h front same let_go held p known start cut lines still =
    subst (λ (xs : List ℕ). HasRead pieces xs handed t) (append-nil stream)
    (read_more pieces stream [] handed s l t h front same let_go (held ∙ sym (append-nil l.held.items)) p known start cut lines still)

-- after the front, what is cut of the bytes is cut of the stream
pub read_on : (pieces : Pieces) (stream : List ℕ) (handed : List Piece) (s t : Cutter) → HasRead pieces stream handed s → s.is_front ≡ false → t.is_front ≡ false
    → ((bytes : List ℕ) → HasCut pieces bytes handed s → HasCut pieces bytes handed t) → HasRead pieces stream handed t
read_on pieces stream handed s t h was is on = record {
  at_front = λ e. not_both t.is_front e is;
  behind_front = λ e. let b = h.behind_front was in record { bytes = b.bytes; dropped = b.dropped; cut = on b.bytes b.cut };
}

-- and so is a piece that is handed out
pub hands_on : (pieces : Pieces) (stream : List ℕ) (handed : List Piece) (s t : Cutter) (at : PieceAt) → HasRead pieces stream handed s → s.is_front ≡ false → t.is_front ≡ false
    → ((bytes : List ℕ) → HasCut pieces bytes handed s → HandsOut (λ now. HasCut pieces bytes now t) handed t at) → HandsOut (λ now. HasRead pieces stream now t) handed t at
hands_on pieces stream handed s t at h was is on =
    let b = h.behind_front was in
    let out = on b.bytes b.cut in
    record {
      piece = out.piece;
      is = out.is;
      has = record { at_front = λ e. not_both t.is_front e is; behind_front = λ e. record { bytes = b.bytes; dropped = b.dropped; cut = out.has } };
    }

-- after a byte order mark, or where none is there
pub read_mark : (pieces : Pieces) (stream : List ℕ) (handed : List Piece) (s t : Cutter) (kept : List ℕ) → HasRead pieces stream handed s → s.is_front ≡ true → may_become_mark s.held.items ≡ false
    → kept ≡ without_byte_order_mark s.held.items → t.held ≡ s.held → t.pieces ≡ s.pieces → t.known ≡ nothing_open Between → t.line_feeds ≡ s.line_feeds → t.cut ≡ length s.held.items - length kept → t.start ≡ t.cut → t.is_front ≡ false
    → HasRead pieces stream handed t
read_mark pieces stream handed s t kept h was told is_kept held p known lines cut start is =
    let f = h.at_front was in
    let rest : drop t.cut t.held.items ≡ without_byte_order_mark stream =
    ap (λ n. drop n t.held.items) (cut ∙ ap (λ xs. length s.held.items - length xs) is_kept) ∙ ap (λ v. drop (length s.held.items - length (without_byte_order_mark s.held.items)) v.items) held
    ∙ mark_dropped s.held.items ∙ ap without_byte_order_mark f.held in
    record {
      at_front = λ e. not_both t.is_front e is;
      behind_front = λ e. record {
        bytes = without_byte_order_mark stream;
        dropped = λ more. settled stream more (ap may_become_mark (sym f.held) ∙ told);
        cut = subst (λ (xs : List ℕ). HasCut pieces xs handed t) rest
            (subst (λ (now : List Piece). HasCut pieces (drop t.cut t.held.items) now t) (sym f.none)
            (from_here pieces t (p ∙ f.are) start known (lines ∙ f.line_feeds)));
      };
    }

-- ---- what ended

-- the bytes without a mark
bytes_are : (pieces : Pieces) (stream bytes : List ℕ) → ((more : List ℕ) → without_byte_order_mark (stream ++ more) ≡ bytes ++ more) → without_byte_order_mark stream ≡ bytes
bytes_are pieces stream bytes dropped = ap without_byte_order_mark (sym (append-nil stream)) ∙ dropped [] ∙ append-nil bytes

pub ended_behind : (pieces : Pieces) (stream : List ℕ) (handed : List Piece) (s : Cutter) → HasRead pieces stream handed s → s.is_front ≡ false → s.cut ≡ length s.held.items
    → (cut_of pieces (without_byte_order_mark stream)).ended ≡ handed
ended_behind pieces stream handed s h was spent =
    let b = h.behind_front was in
    ap (λ xs. (cut_of pieces xs).ended) (bytes_are pieces stream b.bytes b.dropped) ∙ ap (λ c. c.ended) (all_cut pieces b.bytes handed s b.cut spent)

pub ended_front : (pieces : Pieces) (stream : List ℕ) (handed : List Piece) (s : Cutter) → HasRead pieces stream handed s → s.is_front ≡ true → may_become_mark s.held.items ≡ true
    → (cut_of pieces (without_byte_order_mark stream)).ended ≡ handed
ended_front pieces stream handed s h was part =
    let f = h.at_front was in
    part_ended pieces stream (ap may_become_mark (sym f.held) ∙ part) ∙ sym f.none

-- ---- the end of the stream

pub no_part : (pieces : Pieces) (stream : List ℕ) (handed : List Piece) (s : Cutter) → HasRead pieces stream handed s → s.is_front ≡ true → length s.held.items ≡ 0 → pieces_of pieces stream ≡ handed
no_part pieces stream handed s h was none =
    let f = h.at_front was in
    part_none pieces stream (sym f.held ∙ empty s.held.items none) ∙ sym f.none
  where
    empty : (xs : List ℕ) → length xs ≡ 0 → xs ≡ []
    empty [] e = refl
    empty (x ∷ xs) e = absurd (omega arith)

pub a_part : (pieces : Pieces) (stream : List ℕ) (handed : List Piece) (s : Cutter) → HasRead pieces stream handed s → s.is_front ≡ true → may_become_mark s.held.items ≡ true → length s.held.items ≢ 0
    → HandsOut (λ now. pieces_of pieces stream ≡ now) handed s (record { start = 0; end = length s.held.items; is_closed = true; line_feeds = 0 })
a_part pieces stream handed s h was part some =
    let f = h.at_front was in
    let is : Piece = record { bytes = stream; is_closed = true; line_feeds = 0 } in
    let one = part_one pieces stream (ap may_become_mark (sym f.held) ∙ part) (λ e. some (ap length f.held ∙ e)) in
    record {
      piece = is;
      is = record { bytes = whole s.held.items ∙ f.held; is_closed = refl; line_feeds = refl };
      has = one ∙ ap (λ xs. xs ++ is ∷ []) (sym f.none);
    }
  where
    whole : (xs : List ℕ) → slice_range xs 0 (length xs) ≡ xs
    whole xs = let n : length xs - 0 ≡ length xs = omega arith in ap (λ k. take k xs) n ∙ take-length xs

module _ (pieces : Pieces) (stream : List ℕ) (handed : List Piece) (s : Cutter) (h : HasRead pieces stream handed s) (was : s.is_front ≡ false) (spent : s.cut ≡ length s.held.items) where
  all_are : pieces_of pieces stream ≡ handed ++ last_at s.known.place (record { ended = handed; begun = slice_range s.held.items s.start s.cut; line_feeds = (h.behind_front was).cut.line_feeds; known = s.known })
  all_are =
      let b = h.behind_front was in
      ap (λ xs. all_of (cut_of pieces xs)) (bytes_are pieces stream b.bytes b.dropped) ∙ ap all_of (all_cut pieces b.bytes handed s b.cut spent)

  pub no_last : s.known.place ≡ Between → pieces_of pieces stream ≡ handed
  no_last e =
      all_are
      ∙ ap (λ (p : Place). handed ++ last_at p (record { ended = handed; begun = slice_range s.held.items s.start s.cut; line_feeds = (h.behind_front was).cut.line_feeds; known = s.known })) e
      ∙ append-nil handed

  is_last : (is_closed : Bool) (at : PieceAt) → at ≡ record { start = s.start; end = s.cut; is_closed = is_closed; line_feeds = s.line_feeds }
      → ((cut : Cut) → last_at s.known.place cut ≡ piece_of is_closed cut ∷ []) → HandsOut (λ now. pieces_of pieces stream ≡ now) handed s at
  is_last is_closed at e last =
      let whole : Cut = record { ended = handed; begun = slice_range s.held.items s.start s.cut; line_feeds = (h.behind_front was).cut.line_feeds; known = s.known } in
      record {
        piece = piece_of is_closed whole;
        is = record {
          bytes = ap (λ x. slice_range s.held.items x.start x.end) e;
          is_closed = ap (λ x. x.is_closed) e;
          line_feeds = ap (λ x. x.line_feeds) e ∙ (h.behind_front was).cut.counted;
        };
        has = all_are ∙ ap (λ xs. handed ++ xs) (last whole);
      }

  pub last_word : (at : PieceAt) → at ≡ record { start = s.start; end = s.cut; is_closed = true; line_feeds = s.line_feeds } → s.known.place ≡ Word
      → HandsOut (λ now. pieces_of pieces stream ≡ now) handed s at
  last_word at e place = is_last true at e (λ cut. last_of_word s.known.place cut place)

  pub last_other : (at : PieceAt) → at ≡ record { start = s.start; end = s.cut; is_closed = false; line_feeds = s.line_feeds } → (s.known.place ≡ Between → ⊥) → (s.known.place ≡ Word → ⊥)
      → HandsOut (λ now. pieces_of pieces stream ≡ now) handed s at
  last_other at e between word = is_last false at e (λ cut. last_of_other s.known.place cut between word)

-- ---- what was handed out comes first

either : (b : Bool) → (b ≡ true) ⊎ (b ≡ false)
either true = inl refl
either false = inr refl

-- the pieces after some that ended, where more bytes came
module _ (pieces : Pieces) (bytes front rest : List ℕ) (handed : List Piece) (joined : bytes ≡ front ++ rest) (ended : (cut_of pieces front).ended ≡ handed) where
  more_ended : List Piece
  more_ended = (ended_stays pieces front rest).0

  ended_are : (cut_of pieces bytes).ended ≡ handed ++ more_ended
  unfolding more_ended
  ended_are = ap (λ xs. (cut_of pieces xs).ended) joined ∙ (ended_stays pieces front rest).1 ∙ ap (λ xs. xs ++ more_ended) ended

  more_of : Bool → List Piece
  more_of true = more_ended ++ last_at (cut_of pieces bytes).known.place (cut_of pieces bytes)
  more_of false = more_ended

  come_are : (stream : List ℕ) → without_byte_order_mark stream ≡ bytes → (ends : Bool) → pieces_come pieces ends stream ≡ handed ++ more_of ends
  unfolding more_of
  come_are stream is true =
      ap (λ xs. all_of (cut_of pieces xs)) is ∙ ap (λ xs. xs ++ last_at (cut_of pieces bytes).known.place (cut_of pieces bytes)) ended_are
      ∙ append_assoc handed more_ended (last_at (cut_of pieces bytes).known.place (cut_of pieces bytes))
  come_are stream is false = ap (λ xs. (cut_of pieces xs).ended) is ∙ ended_are

pub stays_first : (pieces : Pieces) (stream more : List ℕ) (handed : List Piece) (s : Cutter) → HasRead pieces stream handed s → AreFirst pieces (stream ++ more) handed
stays_first pieces stream more handed s h = elim (either s.is_front) [
  | inl front ↦ (let f = h.at_front front in record {
    others = λ ends. pieces_come pieces ends (stream ++ more);
    joined = λ ends. ap (λ xs. xs ++ pieces_come pieces ends (stream ++ more)) (sym f.none);
  })
  | inr behind ↦ (let b = h.behind_front behind in
      let c = b.cut in
      let rest = drop s.cut s.held.items ++ more in
      let joined = ap (λ xs. xs ++ more) c.joined ∙ append_assoc c.cut (drop s.cut s.held.items) more in record {
        others = more_of pieces (b.bytes ++ more) c.cut rest handed joined (ap (λ x. x.ended) c.state);
        joined = come_are pieces (b.bytes ++ more) c.cut rest handed joined (ap (λ x. x.ended) c.state) (stream ++ more) (b.dropped more);
      })
]
