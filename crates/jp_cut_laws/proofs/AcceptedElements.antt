-- Pieces that are elements and are accepted are elements of an array.
use Rattle.std.proofs.Common.{◌≡◌, ℕ, ◌+◌, Bool, true, false, ◌&&◌, List, [], ◌∷◌, ◌++◌, refl, sym, ap, subst, ◌∙◌, append_assoc}
use Rattle.std.specs.Prelude.{◌==◌, fold, if◌then◌else◌}
use Rattle.std.proofs.lemmas.Bool.{and_from, eqb-true}
use Rattle.std.proofs.lemmas.List.Sums.{fold-append}
use Rattle.jp_model.specs.declared.Framing.TheVariants.{Lines}
use Rattle.jp_model.specs.Characters.{is_white}
use Rattle.jp_model.specs.Lines.{is_blank}
use Rattle.jp_model.specs.Json.Reader.{status_of}
use Rattle.jp_model.specs.Json.Status.{blank, parsed}
use Rattle.jp_model.specs.Json.Tree.{Tree}
use Rattle.jp_cut.specs.Cuts.{Piece, Cut, line_feeds_in, take_in, all_of}
use Rattle.jp_cut.specs.Machine.{is_whole, behind, nothing_open, does, element, step}
use Rattle.jp_cut.specs.Passing.{behind_all}
use Rattle.jp_cut.specs.declared.machine.Pieces.{Pieces}
use Rattle.jp_cut.specs.declared.machine.Place.{Place}
use Rattle.jp_cut.specs.declared.machine.Place.TheVariants.{Between, ArrayStart, NextElement}
use Rattle.jp_cut.specs.declared.machine.Known.{Known}
use Rattle.jp_cut.specs.declared.machine.Turn.{Turn}
use Rattle.jp_cut.specs.declared.machine.Turn.TheVariants.{Passed, Kept, Last, Ended}
use Rattle.jp_cut.specs.declared.machine.Step.{Step}
use Rattle.jp_cut_laws.specs.Elements.{IsElement, AreElements, last, next, IsInside, empty, filled}
use Rattle.jp_cut_laws.specs.Values.{IsTaken, AreValues, bytes_of}
use Rattle.jp_cut_laws.proofs.AcceptedTexts.{starts}
use Rattle.jp_cut_laws.proofs.Arrays.{resting, start_place, white_step, first_step, empty_step, element_step}
use Rattle.jp_cut_laws.proofs.Children.{in_front}
use Rattle.jp_cut_laws.proofs.Coming.{Runs, IsBehind, InArray, InElement, RunsBetween, RunsStart, RunsElement, runs_on}
use Rattle.jp_cut_laws.proofs.Elements.{KeepEach, whole, element_begins}
use Rattle.jp_cut_laws.proofs.Taken.{between, begun_at, taken}

-- ---- what is no element

-- no bytes at all are no line that is accepted
not_empty : (t : Tree) → status_of Lines [] ≡ parsed t → ⊥
not_empty t e = let b : status_of Lines [] ≡ blank = refl in absurd (cc)

-- bytes that are accepted and do not begin with white space are an element
is_element : (bytes : List ℕ) (t : Tree) (first : ℕ) (tail : List ℕ) → bytes ≡ first ∷ tail → is_white first ≡ false → status_of Lines bytes ≡ parsed t → IsElement bytes t
is_element bytes t first tail begins w e = record { accepted = e; start = starts bytes t first tail begins w e }

last_kept : (known : Known) (bytes : List ℕ) (byte : ℕ) → KeepEach known (bytes ++ byte ∷ []) → element (behind_all known bytes) byte ≡ does Kept (behind (behind_all known bytes) byte)
last_kept known [] byte h = h.0
last_kept known (b ∷ rest) byte h = last_kept (behind known b) rest byte h.1

-- what ends with a bracket that closes no other of it is not accepted
no_other_bracket : (bytes : List ℕ) (byte : ℕ) (t : Tree) (known : Known) → element (behind_all whole bytes) byte ≡ does Last known → IsElement (bytes ++ byte ∷ []) t → ⊥
no_other_bracket bytes byte t known e is =
    let kept = last_kept whole bytes byte (element_begins (bytes ++ byte ∷ []) t is).1.each in
    let turns : Last ≡ Kept = ap (λ (s : Step). s.turn) (sym e ∙ kept) in
    absurd (cc)

-- ---- what a byte does in an element

abbrev done : Bool → Bool → Bool → Bool → Known → Step
done w comma bracket brace known =
    if w && comma then does Ended (nothing_open NextElement) else (if w && bracket then does Ended (nothing_open Between) else (if w && brace then does Last (nothing_open Between) else does Kept known))

does_done : (known : Known) (byte : ℕ) (w comma bracket brace : Bool) → is_whole known ≡ w → (byte == 0x2C) ≡ comma → (byte == 0x5D) ≡ bracket → (byte == 0x7D) ≡ brace → element known byte ≡ done w comma bracket brace (behind known byte)
does_done known byte w comma bracket brace p q r s =
    ap (λ b. done b (byte == 0x2C) (byte == 0x5D) (byte == 0x7D) (behind known byte)) p
    ∙ ap (λ b. done w b (byte == 0x5D) (byte == 0x7D) (behind known byte)) q
    ∙ ap (λ b. done w comma b (byte == 0x7D) (behind known byte)) r
    ∙ ap (λ b. done w comma bracket b (behind known byte)) s

pub place_kept : (known : Known) (bytes : List ℕ) → (behind_all known bytes).place ≡ known.place
place_kept known [] = refl
place_kept known (byte ∷ rest) = place_kept (behind known byte) rest

-- a piece that ends, and what follows
ends_with : (pieces : Pieces) (cut after : Cut) (piece : Piece) (byte : ℕ) (rest : List ℕ) (Come Now : List Piece → Type 0) → take_in pieces cut byte ≡ after → after.ended ≡ cut.ended ++ piece ∷ [] → Runs pieces after rest Come
    → ((new : List Piece) → IsTaken piece → Come new → Now (piece ∷ new)) → Runs pieces cut (byte ∷ rest) Now
ends_with pieces cut after piece byte rest Come Now e ended r goes = record {
  new = piece ∷ r.new;
  are = ap (λ (c : Cut). all_of (fold (take_in pieces) c rest)) e ∙ r.are ∙ ap (λ xs. xs ++ r.new) ended ∙ append_assoc cut.ended (piece ∷ []) r.new;
  come = λ h. goes r.new h.0 (r.come h.1);
}

module _ (pieces : Pieces) (byte : ℕ) (rest : List ℕ) (between_rest : RunsBetween pieces rest) (start_rest : RunsStart pieces rest) (element_rest : RunsElement pieces rest) where
  -- an element goes on
  element_longer : (bytes : List ℕ) (new : List Piece) → InElement pieces (bytes ++ byte ∷ []) rest new → InElement pieces bytes (byte ∷ rest) new
  element_longer bytes new f = record {
    inside = byte ∷ f.inside;
    after = f.after;
    elements = f.elements;
    more = f.more;
    joined = ap (λ xs. byte ∷ xs) f.joined;
    are = subst (λ xs. AreElements xs f.elements) (append_assoc bytes (byte ∷ []) f.inside) f.are;
    parts = f.parts;
    values = f.values;
  }

  -- it ends with its comma
  before_comma : (n : ℕ) (bytes tail : List ℕ) (first : ℕ) → bytes ≡ first ∷ tail → is_white first ≡ false → byte ≡ 0x2C → (new : List Piece) → IsTaken (record { bytes = bytes; is_closed = true; line_feeds = n }) → InArray pieces false rest new
      → InElement pieces bytes (byte ∷ rest) (record { bytes = bytes; is_closed = true; line_feeds = n } ∷ new)
  before_comma n bytes tail first begins w comma new is f = record {
    inside = byte ∷ f.inside;
    after = f.after;
    elements = bytes ∷ f.elements;
    more = f.more;
    joined = ap (λ xs. byte ∷ xs) f.joined;
    are = subst (λ b. AreElements (bytes ++ b ∷ f.inside) (bytes ∷ f.elements)) (sym comma) (next [] bytes f.inside is.tree f.elements refl (is_element bytes is.tree first tail begins w is.accepted) f.are);
    parts = ap (λ (xs : List (List ℕ)). bytes ∷ xs) f.parts;
    values = f.values;
  }

  -- or with the bracket of its array
  before_bracket : (n : ℕ) (bytes tail : List ℕ) (first : ℕ) → bytes ≡ first ∷ tail → is_white first ≡ false → byte ≡ 0x5D → (new : List Piece) → IsTaken (record { bytes = bytes; is_closed = true; line_feeds = n }) → AreValues pieces rest (bytes_of new)
      → InElement pieces bytes (byte ∷ rest) (record { bytes = bytes; is_closed = true; line_feeds = n } ∷ new)
  before_bracket n bytes tail first begins w bracket new is values = record {
    inside = byte ∷ [];
    after = rest;
    elements = bytes ∷ [];
    more = new;
    joined = refl;
    are = subst (λ b. AreElements (bytes ++ b ∷ []) (bytes ∷ [])) (sym bracket) (last [] bytes is.tree refl (is_element bytes is.tree first tail begins w is.accepted));
    parts = refl;
    values = values;
  }

  module _ (ended : List Piece) (n : ℕ) (bytes tail : List ℕ) (first : ℕ) (begins : bytes ≡ first ∷ tail) (no_white : is_white first ≡ false) where
    abbrev known : Known
    known = behind_all whole bytes

    abbrev here : Cut
    here = begun_at ended n bytes known

    abbrev piece : List ℕ → Piece
    piece xs = record { bytes = xs; is_closed = true; line_feeds = n }

    -- the step is known
    steps : (turn : Turn) (behind_it : Known) → element known byte ≡ does turn behind_it → step pieces known byte ≡ does turn behind_it
    steps turn behind_it e = element_step pieces known byte (place_kept whole bytes) ∙ e

    goes_on : element known byte ≡ does Kept (behind known byte) → Runs pieces here (byte ∷ rest) (InElement pieces bytes (byte ∷ rest))
    goes_on e =
        runs_on pieces here (begun_at ended n (bytes ++ byte ∷ []) (behind_all whole (bytes ++ byte ∷ []))) byte rest (InElement pieces (bytes ++ byte ∷ []) rest) (InElement pieces bytes (byte ∷ rest))
        (taken pieces here byte Kept (behind known byte) (steps Kept (behind known byte) e) ∙ ap (begun_at ended n (bytes ++ byte ∷ [])) (sym (fold-append behind whole bytes (byte ∷ [])))) refl
        (element_rest ended n (bytes ++ byte ∷ []) (tail ++ byte ∷ []) first (ap (λ xs. xs ++ byte ∷ []) begins) no_white) (λ new h f. element_longer bytes new f)

    -- a comma ends the element
    at_comma : element known byte ≡ does Ended (nothing_open NextElement) → byte ≡ 0x2C → Runs pieces here (byte ∷ rest) (InElement pieces bytes (byte ∷ rest))
    at_comma e comma =
        ends_with pieces here (resting NextElement (ended ++ piece bytes ∷ []) (n + line_feeds_in bytes + line_feeds_in (byte ∷ []))) (piece bytes) byte rest (InArray pieces false rest) (InElement pieces bytes (byte ∷ rest))
        (taken pieces here byte Ended (nothing_open NextElement) (steps Ended (nothing_open NextElement) e)) refl
        (start_rest false (ended ++ piece bytes ∷ []) (n + line_feeds_in bytes + line_feeds_in (byte ∷ []))) (λ new is f. before_comma n bytes tail first begins no_white comma new is f)

    -- and so does the bracket of the array
    at_bracket : element known byte ≡ does Ended (nothing_open Between) → byte ≡ 0x5D → Runs pieces here (byte ∷ rest) (InElement pieces bytes (byte ∷ rest))
    at_bracket e bracket =
        ends_with pieces here (between (ended ++ piece bytes ∷ []) (n + line_feeds_in bytes + line_feeds_in (byte ∷ []))) (piece bytes) byte rest (λ new. AreValues pieces rest (bytes_of new)) (InElement pieces bytes (byte ∷ rest))
        (taken pieces here byte Ended (nothing_open Between) (steps Ended (nothing_open Between) e)) refl
        (between_rest (ended ++ piece bytes ∷ []) (n + line_feeds_in bytes + line_feeds_in (byte ∷ []))) (λ new is values. before_bracket n bytes tail first begins no_white bracket new is values)

    -- a brace there is the end of no element that is accepted
    at_brace : element known byte ≡ does Last (nothing_open Between) → Runs pieces here (byte ∷ rest) (InElement pieces bytes (byte ∷ rest))
    at_brace e =
        let all : List ℕ = bytes ++ byte ∷ [] in
        ends_with pieces here (between (ended ++ piece all ∷ []) (n + line_feeds_in all)) (piece all) byte rest (λ new. AreValues pieces rest (bytes_of new)) (InElement pieces bytes (byte ∷ rest))
        (taken pieces here byte Last (nothing_open Between) (steps Last (nothing_open Between) e)) refl
        (between_rest (ended ++ piece all ∷ []) (n + line_feeds_in all))
        (λ new is values. absurd (no_other_bracket bytes byte is.tree (nothing_open Between) e (is_element all is.tree first (tail ++ byte ∷ []) (ap (λ xs. xs ++ byte ∷ []) begins) no_white is.accepted)))

    element_by : (w comma bracket brace : Bool) → is_whole known ≡ w → (byte == 0x2C) ≡ comma → (byte == 0x5D) ≡ bracket → (byte == 0x7D) ≡ brace → Runs pieces here (byte ∷ rest) (InElement pieces bytes (byte ∷ rest))
    element_by false comma bracket brace p q r s = goes_on (does_done known byte false comma bracket brace p q r s)
    element_by true true bracket brace p q r s = at_comma (does_done known byte true true bracket brace p q r s) (eqb-true byte 0x2C q)
    element_by true false true brace p q r s = at_bracket (does_done known byte true false true brace p q r s) (eqb-true byte 0x5D r)
    element_by true false false true p q r s = at_brace (does_done known byte true false false true p q r s)
    element_by true false false false p q r s = goes_on (does_done known byte true false false false p q r s)

  pub element_more : RunsElement pieces (byte ∷ rest)
  element_more ended n bytes tail first begins no_white = element_by ended n bytes tail first begins no_white (is_whole (behind_all whole bytes)) (byte == 0x2C) (byte == 0x5D) (byte == 0x7D) refl refl refl refl

  -- ---- in front of an element

  -- white space there is of no element
  white_behind : (isFirst : Bool) (inside : List ℕ) (elements : List (List ℕ)) → is_white byte ≡ true → IsBehind isFirst inside elements → IsBehind isFirst (byte ∷ inside) elements
  white_behind true inside elements w h = white_inside w h
    where
      white_inside : {inside : List ℕ} {elements : List (List ℕ)} → is_white byte ≡ true → IsInside inside elements → IsInside (byte ∷ inside) elements
      white_inside w (empty white blank_is) = empty (byte ∷ white) (and_from (is_white byte) (is_blank white) w blank_is)
      white_inside w (filled inside elements h) = filled (byte ∷ inside) elements (in_front h (byte ∷ []) (w, tt))
  white_behind false inside elements w h = in_front h (byte ∷ []) (w, tt)

  white_more : (isFirst : Bool) (new : List Piece) → is_white byte ≡ true → InArray pieces isFirst rest new → InArray pieces isFirst (byte ∷ rest) new
  white_more isFirst new w f = record {
    inside = byte ∷ f.inside;
    after = f.after;
    elements = f.elements;
    more = f.more;
    joined = ap (λ xs. byte ∷ xs) f.joined;
    are = white_behind isFirst f.inside f.elements w f.are;
    parts = f.parts;
    values = f.values;
  }

  filled_behind : (isFirst : Bool) (inside : List ℕ) (elements : List (List ℕ)) → AreElements inside elements → IsBehind isFirst inside elements
  filled_behind true inside elements h = filled inside elements h
  filled_behind false inside elements h = h

  -- the first byte of an element
  element_first : (isFirst : Bool) (new : List Piece) → InElement pieces (byte ∷ []) rest new → InArray pieces isFirst (byte ∷ rest) new
  element_first isFirst new f = record {
    inside = byte ∷ f.inside;
    after = f.after;
    elements = f.elements;
    more = f.more;
    joined = ap (λ xs. byte ∷ xs) f.joined;
    are = filled_behind isFirst (byte ∷ f.inside) f.elements f.are;
    parts = f.parts;
    values = f.values;
  }

  module _ (isFirst : Bool) (ended : List Piece) (n : ℕ) where
    abbrev front : Cut
    front = resting (start_place isFirst) ended n

    abbrev part : List ℕ → Piece
    part xs = record { bytes = xs; is_closed = true; line_feeds = n }

    start_white : is_white byte ≡ true → Runs pieces front (byte ∷ rest) (InArray pieces isFirst (byte ∷ rest))
    start_white w =
        runs_on pieces front (resting (start_place isFirst) ended (n + line_feeds_in (byte ∷ []))) byte rest (InArray pieces isFirst rest) (InArray pieces isFirst (byte ∷ rest))
        (taken pieces front byte Passed (nothing_open (start_place isFirst)) (white_step pieces isFirst byte w)) refl
        (start_rest isFirst ended (n + line_feeds_in (byte ∷ []))) (λ new h f. white_more isFirst new w f)

    -- nothing stands there
    start_empty : (place : Place) (Come : List Piece → Type 0) → step pieces (nothing_open (start_place isFirst)) byte ≡ does Ended (nothing_open place)
        → Runs pieces (resting place (ended ++ part [] ∷ []) (n + line_feeds_in [] + line_feeds_in (byte ∷ []))) rest Come → Runs pieces front (byte ∷ rest) (InArray pieces isFirst (byte ∷ rest))
    start_empty place Come e r =
        ends_with pieces front (resting place (ended ++ part [] ∷ []) (n + line_feeds_in [] + line_feeds_in (byte ∷ []))) (part []) byte rest Come (InArray pieces isFirst (byte ∷ rest))
        (taken pieces front byte Ended (nothing_open place) e) refl r (λ new is f. absurd (not_empty is.tree is.accepted))

    start_brace : is_white byte ≡ false → (e : element whole byte ≡ does Last (nothing_open Between)) → step pieces (nothing_open (start_place isFirst)) byte ≡ does Last (nothing_open Between) → Runs pieces front (byte ∷ rest) (InArray pieces isFirst (byte ∷ rest))
    start_brace w e t =
        ends_with pieces front (between (ended ++ part (byte ∷ []) ∷ []) (n + line_feeds_in (byte ∷ []))) (part (byte ∷ [])) byte rest (λ new. AreValues pieces rest (bytes_of new)) (InArray pieces isFirst (byte ∷ rest))
        (taken pieces front byte Last (nothing_open Between) t) refl
        (between_rest (ended ++ part (byte ∷ []) ∷ []) (n + line_feeds_in (byte ∷ [])))
        (λ new is values. absurd (no_other_bracket [] byte is.tree (nothing_open Between) e (is_element (byte ∷ []) is.tree byte [] refl w is.accepted)))

    start_element : is_white byte ≡ false → step pieces (nothing_open (start_place isFirst)) byte ≡ does Kept (behind whole byte) → Runs pieces front (byte ∷ rest) (InArray pieces isFirst (byte ∷ rest))
    start_element w t =
        runs_on pieces front (begun_at ended n (byte ∷ []) (behind whole byte)) byte rest (InElement pieces (byte ∷ []) rest) (InArray pieces isFirst (byte ∷ rest))
        (taken pieces front byte Kept (behind whole byte) t) refl
        (element_rest ended n (byte ∷ []) [] byte refl w) (λ new h f. element_first isFirst new f)

    -- outside white space, and where the byte is not the bracket of an array that may be empty
    start_by : (comma bracket brace : Bool) → is_white byte ≡ false → (isFirst ≡ true → (byte == 0x5D) ≡ false) → (byte == 0x2C) ≡ comma → (byte == 0x5D) ≡ bracket → (byte == 0x7D) ≡ brace → Runs pieces front (byte ∷ rest) (InArray pieces isFirst (byte ∷ rest))
    start_by true bracket brace w none q r s =
        start_empty NextElement (InArray pieces false rest) (first_step pieces isFirst byte w none ∙ does_done whole byte true true bracket brace refl q r s) (start_rest false (ended ++ part [] ∷ []) (n + line_feeds_in [] + line_feeds_in (byte ∷ [])))
    start_by false true brace w none q r s =
        start_empty Between (λ new. AreValues pieces rest (bytes_of new)) (first_step pieces isFirst byte w none ∙ does_done whole byte true false true brace refl q r s) (between_rest (ended ++ part [] ∷ []) (n + line_feeds_in [] + line_feeds_in (byte ∷ [])))
    start_by false false true w none q r s =
        start_brace w (does_done whole byte true false false true refl q r s) (first_step pieces isFirst byte w none ∙ does_done whole byte true false false true refl q r s)
    start_by false false false w none q r s =
        start_element w (first_step pieces isFirst byte w none ∙ does_done whole byte true false false false refl q r s)

  -- an empty array
  first_bracket : (ended : List Piece) (n : ℕ) → is_white byte ≡ false → (byte == 0x5D) ≡ true → Runs pieces (resting ArrayStart ended n) (byte ∷ rest) (InArray pieces true (byte ∷ rest))
  first_bracket ended n w b =
      runs_on pieces (resting ArrayStart ended n) (between ended (n + line_feeds_in (byte ∷ []))) byte rest (λ new. AreValues pieces rest (bytes_of new)) (InArray pieces true (byte ∷ rest))
      (taken pieces (resting ArrayStart ended n) byte Passed (nothing_open Between) (empty_step pieces byte w b)) refl
      (between_rest ended (n + line_feeds_in (byte ∷ [])))
      (λ new h values. record { inside = byte ∷ []; after = rest; elements = []; more = new; joined = refl; are = subst (λ x. IsInside (x ∷ []) []) (sym (eqb-true byte 0x5D b)) (empty [] refl); parts = refl; values = values })

  start_at : (isFirst isWhite bracket : Bool) → is_white byte ≡ isWhite → (byte == 0x5D) ≡ bracket → (ended : List Piece) (n : ℕ) → Runs pieces (resting (start_place isFirst) ended n) (byte ∷ rest) (InArray pieces isFirst (byte ∷ rest))
  start_at isFirst true bracket w b ended n = start_white isFirst ended n w
  start_at true false true w b ended n = first_bracket ended n w b
  start_at true false false w b ended n = start_by true ended n (byte == 0x2C) (byte == 0x5D) (byte == 0x7D) w (λ is. b) refl refl refl
  start_at false false bracket w b ended n = start_by false ended n (byte == 0x2C) (byte == 0x5D) (byte == 0x7D) w (λ is. absurd (cc)) refl refl refl

  pub start_more : RunsStart pieces (byte ∷ rest)
  start_more isFirst ended n = start_at isFirst (is_white byte) (byte == 0x5D) refl refl ended n
