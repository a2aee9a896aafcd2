-- Where each piece of a stream is closed and accepted, the stream is values with white space between them.
use Rattle.std.proofs.Common.{◌≡◌, ℕ, true, false, List, [], ◌∷◌, ◌++◌, refl, sym, ap, subst}
use Rattle.std.specs.List.{AllByRecursion}
use Rattle.std.proofs.lemmas.List.{append-nil}
use Rattle.jp_cut.specs.Cuts.{Piece, Cut, piece_of, last_at, cut_of, all_of}
use Rattle.jp_cut.specs.Passing.{behind_all}
use Rattle.jp_cut.specs.declared.machine.Pieces.{Pieces}
use Rattle.jp_cut.specs.declared.machine.Place.TheVariants.{ArrayStart, NextElement}
use Rattle.jp_cut_laws.specs.Values.{IsTaken, AreValues, no_value, bytes_of}
use Rattle.jp_cut_laws.proofs.AcceptedElements.{place_kept, start_more, element_more}
use Rattle.jp_cut_laws.proofs.AcceptedTexts.{between_more, word_more, text_more}
use Rattle.jp_cut_laws.proofs.Arrays.{resting}
use Rattle.jp_cut_laws.proofs.Coming.{Runs, InArray, InElement, RunsBetween, RunsWord, RunsText, RunsStart, RunsElement}
use Rattle.jp_cut_laws.proofs.Elements.{whole}
use Rattle.jp_cut_laws.proofs.Taken.{begun_at}

module _ (pieces : Pieces) where
  between_none : RunsBetween pieces []
  between_none ended n = record { new = []; are = refl; come = λ h. no_value }

  word_none : RunsWord pieces []
  word_none ended n bytes front last stops no_white =
      let piece : Piece = record { bytes = bytes; is_closed = true; line_feeds = n } in
      record {
        new = piece ∷ [];
        are = refl;
        come = λ h. record { tail = []; after = []; piece = piece; more = []; joined = refl; parts = refl; full = sym (append-nil bytes); front = front; last = last; stops = stops; no_white = no_white; ends = λ is. refl; values = no_value };
      }

  -- a text that stays open is no piece that was closed
  text_none : RunsText pieces []
  text_none ended n bytes known place unfinished =
      let piece : Piece = record { bytes = bytes; is_closed = false; line_feeds = n } in
      record {
        new = piece ∷ [];
        are = ap (λ p. ended ++ last_at p (begun_at ended n bytes known)) place;
        come = λ h. (let e : false ≡ true = h.0.closed in absurd (cc));
      }

  -- nor is an element, or an array that stays open in front of one
  not_closed : (cut : Cut) (rest : List Piece) (Come : List Piece → Type 0) → all_of cut ≡ cut.ended ++ piece_of false cut ∷ [] → Runs pieces cut [] Come
  not_closed cut rest Come e = record { new = piece_of false cut ∷ []; are = e; come = λ h. (let e : false ≡ true = h.0.closed in absurd (cc)) }

  start_none : RunsStart pieces []
  start_none true ended n = not_closed (resting ArrayStart ended n) [] (InArray pieces true []) refl
  start_none false ended n = not_closed (resting NextElement ended n) [] (InArray pieces false []) refl

  element_none : RunsElement pieces []
  element_none ended n bytes tail first begins no_white =
      let here : Cut = begun_at ended n bytes (behind_all whole bytes) in
      not_closed here [] (InElement pieces bytes []) (ap (λ p. ended ++ last_at p here) (place_kept whole bytes))

  runs : (rest : List ℕ) → RunsBetween pieces rest × RunsWord pieces rest × RunsText pieces rest × RunsStart pieces rest × RunsElement pieces rest
  runs [] = (between_none, word_none, text_none, start_none, element_none)
  runs (byte ∷ rest) =
      let r = runs rest in
      (between_more pieces byte rest r.0 r.1 r.2 r.3, word_more pieces byte rest r.0 r.1 r.2 r.3, text_more pieces byte rest r.0 r.1 r.2 r.3, start_more pieces byte rest r.0 r.3 r.4, element_more pieces byte rest r.0 r.3 r.4)

  pub accepted_are_values : (bytes : List ℕ) → AllByRecursion IsTaken (all_of (cut_of pieces bytes)) → AreValues pieces bytes (bytes_of (all_of (cut_of pieces bytes)))
  unfolding cut_of
  accepted_are_values bytes h =
      let r = (runs bytes).0 [] 0 in
      subst (λ (ps : List Piece). AreValues pieces bytes (bytes_of ps)) (sym r.are) (r.come (subst (AllByRecursion IsTaken) r.are h))
