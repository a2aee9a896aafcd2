-- The elements of an array are its pieces.
use Rattle.std.proofs.Common.{◌≡◌, ℕ, ◌+◌, Bool, true, false, cond, eqb, List, [], ◌∷◌, ◌++◌, refl, sym, ap, ap₂, subst, ◌∙◌, arith, append_assoc, map}
use Rattle.std.specs.Prelude.{◌==◌, fold, if◌then◌else◌}
use Rattle.std.proofs.lemmas.Bool.{and_parts}
use Rattle.std.proofs.lemmas.List.{append-nil}
use Rattle.std.proofs.lemmas.List.Sums.{fold-append, sum_by-append}
use Rattle.jp_model.specs.Characters.{is_white}
use Rattle.jp_model.specs.Lines.{is_blank}
use Rattle.jp_model.specs.Json.Tree.{Tree}
use Rattle.jp_cut.specs.Cuts.{Piece, Cut, start, line_feeds_in, take_in, cut_of}
use Rattle.jp_cut.specs.Machine.{behind, nothing_open, does, element, step_at, step}
use Rattle.jp_cut.specs.Passing.{behind_all}
use Rattle.jp_cut.specs.Worked.{Cutting, closed, bytes_and_ends}
use Rattle.jp_cut.specs.declared.machine.Pieces.{Pieces}
use Rattle.jp_cut.specs.declared.machine.Pieces.TheVariants.{Elements}
use Rattle.jp_cut.specs.declared.machine.Place.{Place}
use Rattle.jp_cut.specs.declared.machine.Place.TheVariants.{Between, ArrayStart, NextElement, Element}
use Rattle.jp_cut.specs.declared.machine.Known.{Known}
use Rattle.jp_cut.specs.declared.machine.Turn.TheVariants.{Passed, Kept}
use Rattle.jp_cut.specs.declared.machine.Step.{Step}
use Rattle.jp_cut_laws.specs.Elements.{IsElement, AreElements, last, next, IsInside, empty, filled, IsArray}
use Rattle.jp_cut_laws.specs.Values.{after_pieces}
use Rattle.jp_cut_laws.proofs.Elements.{KeepEach, Keep, whole, element_begins}
use Rattle.jp_cut_laws.proofs.Shifted.{after_all}
use Rattle.jp_cut_laws.proofs.Taken.{between, begun_at, taken}
use Rattle.jp_cut_laws.proofs.Written.{IsWhite}

-- in front of the first element, or of a later one
abbrev pub start_place : Bool → Place
start_place true = ArrayStart
start_place false = NextElement

-- pieces have ended, and none is open
abbrev pub resting : Place → List Piece → ℕ → Cut
resting place ended n = record { ended = ended; begun = []; line_feeds = n; known = nothing_open place }

line_feeds_append : (a b : List ℕ) → line_feeds_in (a ++ b) ≡ line_feeds_in a + line_feeds_in b
line_feeds_append a b = sum_by-append (λ (x : ℕ). cond (eqb x 0x0A) 1 0) a b

pub blank_white : (bytes : List ℕ) → is_blank bytes ≡ true → IsWhite bytes
blank_white [] h = tt
blank_white (byte ∷ rest) h = let p = and_parts (is_white byte) (is_blank rest) h in (p.0, blank_white rest p.1)

-- ---- in front of an element

passes : (isWhite : Bool) (place : Place) (other : Step) → isWhite ≡ true → (if isWhite then does Passed (nothing_open place) else other) ≡ does Passed (nothing_open place)
passes true place other e = refl
passes false place other e = absurd (cc)

goes_by : (isWhite : Bool) (first other : Step) → isWhite ≡ false → (if isWhite then first else other) ≡ other
goes_by true first other e = absurd (cc)
goes_by false first other e = refl

pub white_step : (pieces : Pieces) (isFirst : Bool) (byte : ℕ) → is_white byte ≡ true → step pieces (nothing_open (start_place isFirst)) byte ≡ does Passed (nothing_open (start_place isFirst))
unfolding step
white_step pieces true byte e = passes (is_white byte) ArrayStart _ e
white_step pieces false byte e = passes (is_white byte) NextElement _ e

pub first_step : (pieces : Pieces) (isFirst : Bool) (byte : ℕ) → is_white byte ≡ false → (isFirst ≡ true → (byte == 0x5D) ≡ false) → step pieces (nothing_open (start_place isFirst)) byte ≡ element whole byte
unfolding step
first_step pieces true byte e b = goes_by (is_white byte) _ _ e ∙ goes_by (byte == 0x5D) _ _ (b refl)
first_step pieces false byte e b = goes_by (is_white byte) _ _ e

pub empty_step : (pieces : Pieces) (byte : ℕ) → is_white byte ≡ false → (byte == 0x5D) ≡ true → step pieces (nothing_open ArrayStart) byte ≡ does Passed (nothing_open Between)
unfolding step
empty_step pieces byte e b = goes_by (is_white byte) _ _ e ∙ passes (byte == 0x5D) Between _ b

white_passed : (isFirst : Bool) (ended : List Piece) (n : ℕ) (bytes : List ℕ) → IsWhite bytes → fold (take_in Elements) (resting (start_place isFirst) ended n) bytes ≡ resting (start_place isFirst) ended (n + line_feeds_in bytes)
white_passed isFirst ended n [] h = ap (resting (start_place isFirst) ended) (let e : n ≡ n + line_feeds_in [] = omega arith in e)
white_passed isFirst ended n (byte ∷ rest) h =
    ap (λ (c : Cut). fold (take_in Elements) c rest) (taken Elements (resting (start_place isFirst) ended n) byte Passed (nothing_open (start_place isFirst)) (white_step Elements isFirst byte h.0))
    ∙ white_passed isFirst ended (n + line_feeds_in (byte ∷ [])) rest h.1
    ∙ ap (resting (start_place isFirst) ended) (let l = line_feeds_append (byte ∷ []) rest in let e : n + line_feeds_in (byte ∷ []) + line_feeds_in rest ≡ n + line_feeds_in (byte ∷ rest) = omega (arith, l) in e)

-- ---- in an element

pub element_step : (pieces : Pieces) (known : Known) (byte : ℕ) → known.place ≡ Element → step pieces known byte ≡ element known byte
unfolding step
element_step pieces known byte e = ap (λ p. step_at p pieces known byte) e

kept_on : (cut : Cut) (bytes : List ℕ) (behind_it : Known) → cut.known.place ≡ Element → KeepEach cut.known bytes → behind_all cut.known bytes ≡ behind_it
    → fold (take_in Elements) cut bytes ≡ begun_at cut.ended cut.line_feeds (cut.begun ++ bytes) behind_it
kept_on cut [] behind_it place h same = ap₂ (begun_at cut.ended cut.line_feeds) (sym (append-nil cut.begun)) same
kept_on cut (byte ∷ rest) behind_it place h same =
    ap (λ (c : Cut). fold (take_in Elements) c rest) (taken Elements cut byte Kept (behind cut.known byte) (element_step Elements cut.known byte place ∙ h.0))
    ∙ kept_on (begun_at cut.ended cut.line_feeds (cut.begun ++ byte ∷ []) (behind cut.known byte)) rest behind_it place h.1 same
    ∙ ap (λ xs. begun_at cut.ended cut.line_feeds xs behind_it) (append_assoc cut.begun (byte ∷ []) rest)

begun : (isFirst : Bool) (ended : List Piece) (n : ℕ) (byte : ℕ) (rest : List ℕ) → is_white byte ≡ false → (byte == 0x5D) ≡ false → Keep whole (byte ∷ rest) whole
    → fold (take_in Elements) (resting (start_place isFirst) ended n) (byte ∷ rest) ≡ begun_at ended n (byte ∷ rest) whole
begun isFirst ended n byte rest w b h =
    ap (λ (c : Cut). fold (take_in Elements) c rest) (taken Elements (resting (start_place isFirst) ended n) byte Kept (behind whole byte) (first_step Elements isFirst byte w (λ is. b) ∙ h.each.0))
    ∙ kept_on (begun_at ended n (byte ∷ []) (behind whole byte)) rest whole refl h.each.1 h.same

element_begun : (isFirst : Bool) (ended : List Piece) (n : ℕ) (bytes : List ℕ) (t : Tree) → IsElement bytes t → fold (take_in Elements) (resting (start_place isFirst) ended n) bytes ≡ begun_at ended n bytes whole
element_begun isFirst ended n bytes t h =
    let is = element_begins bytes t h in
    subst (λ xs. fold (take_in Elements) (resting (start_place isFirst) ended n) xs ≡ begun_at ended n xs whole) (sym is.0.joined)
    (begun isFirst ended n is.0.byte is.0.rest is.0.no_white is.0.no_bracket (subst (λ xs. Keep whole xs whole) is.0.joined is.1))

-- white space, an element and what follows
element_open : (isFirst : Bool) (ended : List Piece) (n : ℕ) (white bytes rest : List ℕ) (t : Tree) → is_blank white ≡ true → IsElement bytes t
    → fold (take_in Elements) (resting (start_place isFirst) ended n) (white ++ (bytes ++ rest)) ≡ fold (take_in Elements) (begun_at ended (n + line_feeds_in white) bytes whole) rest
element_open isFirst ended n white bytes rest t blank h =
    fold-append (take_in Elements) (resting (start_place isFirst) ended n) white (bytes ++ rest)
    ∙ ap (λ (c : Cut). fold (take_in Elements) c (bytes ++ rest)) (white_passed isFirst ended n white (blank_white white blank))
    ∙ fold-append (take_in Elements) (resting (start_place isFirst) ended (n + line_feeds_in white)) bytes rest
    ∙ ap (λ (c : Cut). fold (take_in Elements) c rest) (element_begun isFirst ended (n + line_feeds_in white) bytes t h)

piece : ℕ → List ℕ → Piece
piece n bytes = record { bytes = bytes; is_closed = true; line_feeds = n }

comma_ends : (ended : List Piece) (n : ℕ) (bytes : List ℕ) → take_in Elements (begun_at ended n bytes whole) 0x2C ≡ resting NextElement (ended ++ piece n bytes ∷ []) (n + line_feeds_in bytes + line_feeds_in (0x2C ∷ []))
unfolding take_in step piece
comma_ends ended n bytes = refl

bracket_ends : (ended : List Piece) (n : ℕ) (bytes : List ℕ) → take_in Elements (begun_at ended n bytes whole) 0x5D ≡ resting Between (ended ++ piece n bytes ∷ []) (n + line_feeds_in bytes + line_feeds_in (0x5D ∷ []))
unfolding take_in step piece
bracket_ends ended n bytes = refl

-- ---- arrays

-- the pieces of these elements have ended
record Ended (isFirst : Bool) (ended : List Piece) (n : ℕ) (bytes : List ℕ) (elements : List (List ℕ)) : Type 0 where
  pieces : List Piece
  are : fold (take_in Elements) (resting (start_place isFirst) ended n) bytes ≡ resting Between (ended ++ pieces) (n + line_feeds_in bytes)
  same : bytes_and_ends pieces ≡ map closed elements

closed_piece : (n : ℕ) (bytes : List ℕ) (pieces : List Piece) (elements : List (List ℕ)) → bytes_and_ends pieces ≡ map closed elements → bytes_and_ends (piece n bytes ∷ pieces) ≡ map closed (bytes ∷ elements)
unfolding piece
closed_piece n bytes pieces elements e = ap (λ (xs : List Cutting). closed bytes ∷ xs) e

elements_end : {inside : List ℕ} {elements : List (List ℕ)} → AreElements inside elements → (isFirst : Bool) (ended : List Piece) (n : ℕ) → Ended isFirst ended n inside elements
elements_end (last white bytes t blank is) isFirst ended n =
    let m : ℕ = n + line_feeds_in white in
    let l = line_feeds_append white (bytes ++ 0x5D ∷ []) in
    let k = line_feeds_append bytes (0x5D ∷ []) in
    record {
      pieces = piece m bytes ∷ [];
      are = element_open isFirst ended n white bytes (0x5D ∷ []) t blank is ∙ bracket_ends ended m bytes
          ∙ ap (resting Between (ended ++ piece m bytes ∷ [])) (let e : m + line_feeds_in bytes + line_feeds_in (0x5D ∷ []) ≡ n + line_feeds_in (white ++ (bytes ++ 0x5D ∷ [])) = omega (arith, l, k) in e);
      same = closed_piece m bytes [] [] refl;
    }
elements_end (next white bytes rest t others blank is more) isFirst ended n =
    let m : ℕ = n + line_feeds_in white in
    let l = line_feeds_append white (bytes ++ 0x2C ∷ rest) in
    let k = line_feeds_append bytes (0x2C ∷ rest) in
    let j = line_feeds_append (0x2C ∷ []) rest in
    let r = elements_end more false (ended ++ piece m bytes ∷ []) (m + line_feeds_in bytes + line_feeds_in (0x2C ∷ [])) in
    record {
      pieces = piece m bytes ∷ r.pieces;
      are = element_open isFirst ended n white bytes (0x2C ∷ rest) t blank is
          ∙ ap (λ (c : Cut). fold (take_in Elements) c rest) (comma_ends ended m bytes)
          ∙ r.are
          ∙ ap₂ (resting Between) (append_assoc ended (piece m bytes ∷ []) r.pieces)
          (let e : m + line_feeds_in bytes + line_feeds_in (0x2C ∷ []) + line_feeds_in rest ≡ n + line_feeds_in (white ++ (bytes ++ 0x2C ∷ rest)) = omega (arith, l, k, j) in e);
      same = closed_piece m bytes r.pieces others r.same;
    }

-- the pieces of an array
pub record OfArray (ended : List Piece) (n : ℕ) (bytes : List ℕ) (elements : List (List ℕ)) : Type 0 where
  pub pieces : List Piece
  pub are : fold (take_in Elements) (between ended n) bytes ≡ between (ended ++ pieces) (n + line_feeds_in bytes)
  pub same : bytes_and_ends pieces ≡ map closed elements

bracket_begins : (ended : List Piece) (n : ℕ) → take_in Elements (between ended n) 0x5B ≡ resting ArrayStart ended (n + line_feeds_in (0x5B ∷ []))
unfolding take_in step
bracket_begins ended n = refl

empty_ends : (ended : List Piece) (n : ℕ) → take_in Elements (resting ArrayStart ended n) 0x5D ≡ between ended (n + line_feeds_in (0x5D ∷ []))
unfolding take_in step
empty_ends ended n = refl

of_inside : {inside : List ℕ} {elements : List (List ℕ)} → IsInside inside elements → (ended : List Piece) (n : ℕ) → OfArray ended n (0x5B ∷ inside) elements
of_inside (empty white blank) ended n =
    let m : ℕ = n + line_feeds_in (0x5B ∷ []) in
    let l = line_feeds_append white (0x5D ∷ []) in
    let k = line_feeds_append (0x5B ∷ []) (white ++ 0x5D ∷ []) in
    record {
      pieces = [];
      are = ap (λ (c : Cut). fold (take_in Elements) c (white ++ 0x5D ∷ [])) (bracket_begins ended n)
          ∙ fold-append (take_in Elements) (resting ArrayStart ended m) white (0x5D ∷ [])
          ∙ ap (λ (c : Cut). take_in Elements c 0x5D) (white_passed true ended m white (blank_white white blank))
          ∙ empty_ends ended (m + line_feeds_in white)
          ∙ ap₂ between (sym (append-nil ended)) (let e : m + line_feeds_in white + line_feeds_in (0x5D ∷ []) ≡ n + line_feeds_in (0x5B ∷ (white ++ 0x5D ∷ [])) = omega (arith, l, k) in e);
      same = refl;
    }
of_inside (filled inside elements h) ended n =
    let m : ℕ = n + line_feeds_in (0x5B ∷ []) in
    let r = elements_end h true ended m in
    let k = line_feeds_append (0x5B ∷ []) inside in
    record {
      pieces = r.pieces;
      are = ap (λ (c : Cut). fold (take_in Elements) c inside) (bracket_begins ended n) ∙ r.are ∙ ap (between (ended ++ r.pieces)) (let e : m + line_feeds_in inside ≡ n + line_feeds_in (0x5B ∷ inside) = omega (arith, k) in e);
      same = r.same;
    }

pub of_array : (bytes : List ℕ) (elements : List (List ℕ)) → IsArray bytes elements → (ended : List Piece) (n : ℕ) → OfArray ended n bytes elements
of_array bytes elements h ended n = subst (λ xs. OfArray ended n xs elements) (sym h.opened) (of_inside h.are ended n)

pub elements_are_pieces_of : (bytes more : List ℕ) (elements : List (List ℕ)) → IsArray bytes elements → (pieces : List Piece)
    × (bytes_and_ends pieces ≡ map closed elements)
    × (cut_of Elements (bytes ++ more) ≡ after_pieces pieces bytes (cut_of Elements more))
unfolding cut_of
elements_are_pieces_of bytes more elements h =
    let r = of_array bytes elements h [] 0 in
    let n = line_feeds_in bytes in (
      r.pieces,
      r.same,
      fold-append (take_in Elements) start bytes more
          ∙ ap (λ (c : Cut). fold (take_in Elements) c more) (r.are ∙ ap₂ between (sym (append-nil r.pieces)) (let e : 0 + n ≡ n + 0 = omega arith in e))
          ∙ after_all Elements r.pieces n start more,
    )
