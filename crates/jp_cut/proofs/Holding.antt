-- What a cutter holds, at the front of a stream, after more bytes and at the end.
use Rattle.std.proofs.Common.{◌≡◌, ℕ, ◌-◌, ◌≤◌, true, false, List, [], ◌∷◌, ◌++◌, length, take, drop, arith, refl, sym, ap, ◌∙◌, append_assoc}
use Rattle.std.proofs.lemmas.List.{append-nil, drop-append-le, take-append-le, length-drop}
use Rattle.std.proofs.Math.Seq.{drop-length}
use Rattle.std.specs.Prelude.{slice_range}
use Rattle.jp_cut.specs.Cuts.{Piece, Cut, start, piece_of, last_at, cut_of}
use Rattle.jp_cut.specs.Holding.{HasCut}
use Rattle.jp_cut.specs.Machine.{nothing_open}
use Rattle.jp_cut.specs.declared.cutter.Cutter.{Cutter}
use Rattle.jp_cut.specs.declared.machine.Pieces.{Pieces}
use Rattle.jp_cut.specs.declared.machine.Known.{Known}
use Rattle.jp_cut.specs.declared.machine.Place.{Place}
use Rattle.jp_cut.specs.declared.machine.Place.TheVariants.{Between, Word, Text, ArrayStart, NextElement, Element}

-- no byte is cut into nothing
pub cut_of-nil : (pieces : Pieces) → cut_of pieces [] ≡ start
unfolding cut_of
cut_of-nil pieces = refl

-- no piece has ended
abbrev none_ended : List ℕ → Known → Cut
none_ended bytes known = record { ended = []; begun = bytes; line_feeds = 0; known = known }

-- where no byte is cut yet of those that are held from a place on
pub from_here : (pieces : Pieces) (t : Cutter) → t.pieces ≡ pieces → t.start ≡ t.cut → t.known ≡ nothing_open Between → t.line_feeds ≡ 0 → HasCut pieces (drop t.cut t.held.items) [] t
from_here pieces t p here known none = record {
  cut = [];
  line_feeds = 0;
  are = p;
  joined = refl;
  state = cut_of-nil pieces ∙ ap (λ (b : List ℕ). none_ended b (nothing_open Between)) no_bytes ∙ ap (λ (k : Known). none_ended (slice_range t.held.items t.start t.cut) k) (sym known);
  counted = none;
}
  where
    none_there : t.cut - t.start ≡ 0
    none_there = omega arith

    no_bytes : [] ≡ slice_range t.held.items t.start t.cut
    no_bytes = ap (λ n. take n (drop t.start t.held.items)) (sym none_there)

-- after more bytes
pub behind_more : (pieces : Pieces) (fed more : List ℕ) (handed : List Piece) (s t : Cutter) → HasCut pieces fed handed s → t.held.items ≡ s.held.items ++ more
    → t.pieces ≡ s.pieces → t.known ≡ s.known → t.start ≡ s.start → t.cut ≡ s.cut → t.line_feeds ≡ s.line_feeds → HasCut pieces (fed ++ more) handed t
behind_more pieces fed more handed s t h held p known start cut lines = record {
  cut = h.cut;
  line_feeds = h.line_feeds;
  are = p ∙ h.are;
  joined = ap (λ xs. xs ++ more) h.joined ∙ append_assoc h.cut (drop s.cut s.held.items) more
      ∙ ap (λ xs. h.cut ++ xs) (sym (drop-append-le s.cut s.held.items more s.within)) ∙ ap (λ k. h.cut ++ drop k (s.held.items ++ more)) (sym cut)
      ∙ ap (λ xs. h.cut ++ drop t.cut xs) (sym held);
  state = h.state
      ∙ ap (λ (b : List ℕ). let made : Cut = record { ended = handed; begun = b; line_feeds = h.line_feeds; known = s.known } in made) same
      ∙ ap (λ (k : Known). let made : Cut = record { ended = handed; begun = slice_range t.held.items t.start t.cut; line_feeds = h.line_feeds; known = k } in made) (sym known);
  counted = lines ∙ h.counted;
}
  where
    within : s.start ≤ length s.held.items
    within = omega (arith, s.order, s.within)

    same : slice_range s.held.items s.start s.cut ≡ slice_range t.held.items t.start t.cut
    same =
        sym (take-append-le (s.cut - s.start) (drop s.start s.held.items) more (omega (arith, s.within, length-drop s.start s.held.items)))
        ∙ ap (λ xs. take (s.cut - s.start) xs) (sym (drop-append-le s.start s.held.items more within))
        ∙ ap (λ a. slice_range (s.held.items ++ more) a s.cut) (sym start) ∙ ap (λ b. slice_range (s.held.items ++ more) t.start b) (sym cut) ∙ ap (λ xs. slice_range xs t.start t.cut) (sym held)

-- all that was fed is cut
pub all_cut : (pieces : Pieces) (fed : List ℕ) (handed : List Piece) (s : Cutter) (h : HasCut pieces fed handed s) → s.cut ≡ length s.held.items
    → cut_of pieces fed ≡ record { ended = handed; begun = slice_range s.held.items s.start s.cut; line_feeds = h.line_feeds; known = s.known }
all_cut pieces fed handed s h spent =
    ap (cut_of pieces) (h.joined ∙ ap (λ k. h.cut ++ drop k s.held.items) spent ∙ ap (λ xs. h.cut ++ xs) (drop-length s.held.items) ∙ append-nil h.cut) ∙ h.state

-- a word is closed by the end
pub last_of_word : (place : Place) (cut : Cut) → place ≡ Word → last_at place cut ≡ piece_of true cut ∷ []
last_of_word place cut e = ap (λ (p : Place). last_at p cut) e

-- and nothing else is
pub last_of_other : (place : Place) (cut : Cut) → (place ≡ Between → ⊥) → (place ≡ Word → ⊥) → last_at place cut ≡ piece_of false cut ∷ []
last_of_other Between cut between word = absurd (between refl)
last_of_other Word cut between word = absurd (word refl)
last_of_other Text cut between word = refl
last_of_other ArrayStart cut between word = refl
last_of_other NextElement cut between word = refl
last_of_other Element cut between word = refl
