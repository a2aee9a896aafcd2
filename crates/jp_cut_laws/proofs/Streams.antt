-- Values with white space between them are the pieces of their stream.
use Rattle.std.proofs.Common.{◌≡◌, ℕ, ◌+◌, inl, inr, Bool, true, false, not, ◌||◌, List, [], ◌∷◌, ◌++◌, refl, sym, ap, ◌∙◌, append_assoc, map}
use Rattle.std.specs.Prelude.{fold, if◌then◌else◌}
use Rattle.std.proofs.lemmas.Bool.{cases_Bool}
use Rattle.std.proofs.lemmas.List.{append-nil, map-append}
use Rattle.std.proofs.lemmas.List.Sums.{fold-append}
use Rattle.jp_model.specs.Characters.{is_white}
use Rattle.jp_model.specs.Json.Faults.{has_open_end}
use Rattle.jp_model.specs.Json.Tree.{Tree, value_of}
use Rattle.jp_cut.specs.Cuts.{Piece, Cut, line_feeds_in, take_in, cut_of, all_of}
use Rattle.jp_cut.specs.Machine.{nothing_open, does, step}
use Rattle.jp_cut.specs.Worked.{Cutting, closed, bytes_and_ends}
use Rattle.jp_cut.specs.declared.machine.Pieces.{Pieces}
use Rattle.jp_cut.specs.declared.machine.Pieces.TheVariants.{Elements}
use Rattle.jp_cut.specs.declared.machine.Place.TheVariants.{Between, Word}
use Rattle.jp_cut.specs.declared.machine.Turn.TheVariants.{Passed}
use Rattle.jp_cut.specs.declared.machine.Step.{Step}
use Rattle.jp_cut_laws.specs.Values.{may_end_word, may_follow, is_split, AreValues, no_value, white, value, split}
use Rattle.jp_cut_laws.proofs.Written.{Writes}
use Rattle.jp_cut_laws.proofs.Taken.{between, begun_at, one_more, taken, open_taken, shown_taken, word_ended}
use Rattle.jp_cut_laws.proofs.Arrays.{of_array}
use Rattle.jp_cut_laws.proofs.Whole.{value_written}

-- ---- white space

passes : (isWhite : Bool) (other : Step) → isWhite ≡ true → (if isWhite then does Passed (nothing_open Between) else other) ≡ does Passed (nothing_open Between)
passes true other e = refl
passes false other e = absurd (cc)

white_step : (pieces : Pieces) (byte : ℕ) → is_white byte ≡ true → step pieces (nothing_open Between) byte ≡ does Passed (nothing_open Between)
unfolding step
white_step pieces byte e = passes (is_white byte) _ e

pub white_taken : (pieces : Pieces) (ended : List Piece) (n byte : ℕ) → is_white byte ≡ true → take_in pieces (between ended n) byte ≡ between ended (n + line_feeds_in (byte ∷ []))
white_taken pieces ended n byte e = taken pieces (between ended n) byte Passed (nothing_open Between) (white_step pieces byte e)

-- ---- streams

follows : (isOpen : Bool) (rest : List ℕ) → (not isOpen || may_end_word rest) ≡ true → isOpen ≡ true → may_end_word rest ≡ true
follows true rest e is = e
follows false rest e is = absurd (cc)

-- the pieces of some values, after others
pushed : (ended more : List Piece) (here others : List (List ℕ)) → bytes_and_ends more ≡ map closed here → bytes_and_ends (ended ++ more) ++ map closed others ≡ bytes_and_ends ended ++ map closed (here ++ others)
pushed ended more here others e =
    ap (λ (xs : List Cutting). xs ++ map closed others) (map-append (λ (p : Piece). let made : Cutting = record { bytes = p.bytes; is_closed = p.is_closed } in made) ended more)
    ∙ append_assoc (bytes_and_ends ended) (bytes_and_ends more) (map closed others)
    ∙ ap (λ (xs : List Cutting). bytes_and_ends ended ++ xs) (ap (λ (xs : List Cutting). xs ++ map closed others) e ∙ sym (map-append closed here others))

module _ (pieces : Pieces) where
  -- a number or a word ends at the end of the stream, or before what may come after it
  word_over : (ended : List Piece) (n : ℕ) (bytes rest : List ℕ) → may_end_word rest ≡ true → all_of (fold (take_in pieces) (begun_at ended n bytes (nothing_open Word)) rest) ≡ all_of (fold (take_in pieces) (one_more ended n bytes) rest)
  word_over ended n bytes [] e = sym (append-nil (ended ++ record { bytes = bytes; is_closed = true; line_feeds = n } ∷ []))
  word_over ended n bytes (byte ∷ rest) e = ap all_of (word_ended pieces ended n bytes byte rest e)

  -- a value in front of others
  value_over : (ended : List Piece) (n : ℕ) (bytes : List ℕ) (t : Tree) (rest : List ℕ) → Writes bytes t → is_split pieces (value_of t) ≡ false → may_follow t rest ≡ true
      → all_of (fold (take_in pieces) (between ended n) (bytes ++ rest)) ≡ all_of (fold (take_in pieces) (one_more ended n bytes) rest)
  value_over ended n bytes t rest h whole e =
      ap all_of (fold-append (take_in pieces) (between ended n) bytes rest)
      ∙ elim (cases_Bool (has_open_end (value_of t))) [
        | inl is ↦ ap (λ (c : Cut). all_of (fold (take_in pieces) c rest)) (open_taken pieces ended n t bytes h is) ∙ word_over ended n bytes rest (follows (has_open_end (value_of t)) rest e is)
        | inr shows ↦ ap (λ (c : Cut). all_of (fold (take_in pieces) c rest)) (shown_taken pieces ended n t bytes h shows whole)
      ]

  -- an array in front of others
  array_over : (ended more : List Piece) (n m : ℕ) (bytes rest : List ℕ) → pieces ≡ Elements → fold (take_in Elements) (between ended n) bytes ≡ between (ended ++ more) m
      → fold (take_in pieces) (between ended n) (bytes ++ rest) ≡ fold (take_in pieces) (between (ended ++ more) m) rest
  array_over ended more n m bytes rest is e =
      fold-append (take_in pieces) (between ended n) bytes rest ∙ ap (λ (c : Cut). fold (take_in pieces) c rest) (ap (λ p. fold (take_in p) (between ended n) bytes) is ∙ e)

  values_cut : {stream : List ℕ} {values : List (List ℕ)} → AreValues pieces stream values → (ended : List Piece) (n : ℕ) → bytes_and_ends (all_of (fold (take_in pieces) (between ended n) stream)) ≡ bytes_and_ends ended ++ map closed values
  values_cut no_value ended n = ap bytes_and_ends (append-nil ended) ∙ sym (append-nil (bytes_and_ends ended))
  values_cut (white byte rest values is h) ended n =
      ap (λ (c : Cut). bytes_and_ends (all_of (fold (take_in pieces) c rest))) (white_taken pieces ended n byte is) ∙ values_cut h ended (n + line_feeds_in (byte ∷ []))
  values_cut (value bytes t rest values is whole follow h) ended n =
      let piece : Piece = record { bytes = bytes; is_closed = true; line_feeds = n } in
      ap bytes_and_ends (value_over ended n bytes t rest (value_written bytes t is) whole follow)
      ∙ values_cut h (ended ++ piece ∷ []) (n + line_feeds_in bytes)
      ∙ pushed ended (piece ∷ []) (bytes ∷ []) values refl
  values_cut (split bytes elements rest others is array h) ended n =
      let r = of_array bytes elements array ended n in
      ap (λ (c : Cut). bytes_and_ends (all_of c)) (array_over ended r.pieces n (n + line_feeds_in bytes) bytes rest is r.are)
      ∙ values_cut h (ended ++ r.pieces) (n + line_feeds_in bytes)
      ∙ pushed ended r.pieces elements others r.same

pub values_are_pieces_of : (pieces : Pieces) (bytes : List ℕ) (values : List (List ℕ)) → AreValues pieces bytes values → bytes_and_ends (all_of (cut_of pieces bytes)) ≡ map closed values
unfolding cut_of
values_are_pieces_of pieces bytes values h = values_cut pieces h [] 0
