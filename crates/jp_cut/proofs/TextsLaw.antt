-- What ended stays, and the texts of a stream are all of it.
use Rattle.std.proofs.Common.{◌≡◌, ℕ, Bool, true, false, ◌||◌, List, [], ◌∷◌, ◌++◌, refl, sym, ap, subst, ◌∙◌, append_assoc}
use Rattle.std.proofs.lemmas.List.{append-nil}
use Rattle.std.proofs.lemmas.List.Sums.{fold-append}
use Rattle.std.specs.Prelude.{fold, if◌then◌else◌}
use Rattle.jp_model.specs.Characters.{is_white, is_quote}
use Rattle.jp_model.specs.Lines.{without_byte_order_mark}
use Rattle.jp_cut.specs.Cuts.{Piece, Cut, start, piece_of, last_at, turned, take_in, cut_of, pieces_of}
use Rattle.jp_cut.specs.TextLayout.{IsLaidOut, nothing, white, text}
use Rattle.jp_cut.specs.Machine.{is_opening, ends_word, nothing_open, is_whole, behind, does, begin, behind_word, step_at, step}
use Rattle.jp_cut.specs.declared.machine.Pieces.{Pieces}
use Rattle.jp_cut.specs.declared.machine.Pieces.TheVariants.{Texts}
use Rattle.jp_cut.specs.declared.machine.Place.{Place}
use Rattle.jp_cut.specs.declared.machine.Place.TheVariants.{Between, Word, Text, ArrayStart, NextElement, Element}
use Rattle.jp_cut.specs.declared.machine.Known.{Known}
use Rattle.jp_cut.specs.declared.machine.Turn.{Turn}
use Rattle.jp_cut.specs.declared.machine.Turn.TheVariants.{Passed, Kept, Last, Ended, EndedBefore}
use Rattle.jp_cut.specs.declared.machine.Step.{Step}

-- ---- what ended stays

abbrev Grown : Cut → Cut → Type 0
Grown old new = (more : List Piece) × (new.ended ≡ old.ended ++ more)

grown_turned : (turn : Turn) (cut : Cut) (byte : ℕ) → Grown cut (turned turn cut byte)
grown_turned Passed cut byte = ([], sym (append-nil cut.ended))
grown_turned Kept cut byte = ([], sym (append-nil cut.ended))
grown_turned Last cut byte = (_, refl)
grown_turned Ended cut byte = (_, refl)
grown_turned EndedBefore cut byte = (_, refl)

grown_one : (pieces : Pieces) (cut : Cut) (byte : ℕ) → Grown cut (take_in pieces cut byte)
unfolding take_in
grown_one pieces cut byte = grown_turned (step pieces cut.known byte).turn cut byte

grown_all : (pieces : Pieces) (cut : Cut) (bytes : List ℕ) → Grown cut (fold (take_in pieces) cut bytes)
grown_all pieces cut [] = ([], sym (append-nil cut.ended))
grown_all pieces cut (byte ∷ rest) =
    let one = grown_one pieces cut byte in
    let all = grown_all pieces (take_in pieces cut byte) rest in
    (one.0 ++ all.0, all.1 ∙ ap (λ xs. xs ++ all.0) one.1 ∙ append_assoc cut.ended one.0 all.0)

pub ended_stays : (pieces : Pieces) (front back : List ℕ) → (more : List Piece) × ((cut_of pieces (front ++ back)).ended ≡ (cut_of pieces front).ended ++ more)
unfolding cut_of
ended_stays pieces front back =
    let all = grown_all pieces (fold (take_in pieces) start front) back in
    (all.0, ap (λ (c : Cut). c.ended) (fold-append (take_in pieces) start front back) ∙ all.1)

-- ---- texts

-- a text is open
abbrev is_open : Place → Bool
is_open Between = false
is_open Word = true
is_open Text = true
is_open ArrayStart = false
is_open NextElement = false
is_open Element = false

-- where the machine is in a stream of texts
abbrev is_of_texts : Place → Bool
is_of_texts Between = true
is_of_texts Word = true
is_of_texts Text = true
is_of_texts ArrayStart = false
is_of_texts NextElement = false
is_of_texts Element = false

-- what a byte may do there
abbrev Goes : Place → ℕ → Turn → Known → Type 0
Goes place byte Passed known = (place ≡ Between) × (is_white byte ≡ true) × (known.place ≡ Between)
Goes place byte Kept known = is_open known.place ≡ true
Goes place byte Last known = known.place ≡ Between
Goes place byte Ended known = (is_white byte ≡ true) × (known.place ≡ Between)
Goes place byte EndedBefore known = is_open known.place ≡ true

abbrev StepGoes : Place → ℕ → Step → Type 0
StepGoes place byte done = Goes place byte done.turn done.known

begin_goes : (isWhite opens : Bool) (byte : ℕ) → is_white byte ≡ isWhite
    → StepGoes Between byte (if isWhite then does Passed (nothing_open Between) else (if false then does Passed (nothing_open ArrayStart) else (if opens then does Kept (behind (nothing_open Text) byte) else does Kept (nothing_open Word))))
begin_goes true opens byte e = (refl, e, refl)
begin_goes false true byte e = refl
begin_goes false false byte e = refl

at_begin : (byte : ℕ) → StepGoes Between byte (begin Texts byte)
at_begin byte = begin_goes (is_white byte) (is_opening byte || is_quote byte) byte refl

ended_goes : (turn : Turn) (byte : ℕ) (known : Known) → Goes Between byte turn known → Goes Word byte (behind_word turn) known
ended_goes Passed byte known h = (h.1, h.2)
ended_goes Kept byte known h = h
ended_goes Last byte known h = h
ended_goes Ended byte known h = h
ended_goes EndedBefore byte known h = h

word_goes : (ends : Bool) (byte : ℕ) (known : Known) → known.place ≡ Word → StepGoes Word byte (if ends then does (behind_word (begin Texts byte).turn) (begin Texts byte).known else does Kept known)
word_goes true byte known e = ended_goes (begin Texts byte).turn byte (begin Texts byte).known (at_begin byte)
word_goes false byte known e = ap is_open e

text_goes : (whole : Bool) (byte : ℕ) (known : Known) → known.place ≡ Text → StepGoes Text byte (if whole then does Last (nothing_open Between) else does Kept known)
text_goes true byte known e = refl
text_goes false byte known e = ap is_open e

goes_at : (place : Place) (known : Known) (byte : ℕ) → known.place ≡ place → is_of_texts place ≡ true → StepGoes place byte (step_at place Texts known byte)
goes_at Between known byte e is = at_begin byte
goes_at Word known byte e is = word_goes (ends_word byte) byte known e
goes_at Text known byte e is = text_goes (is_whole (behind known byte)) byte (behind known byte) e
goes_at ArrayStart known byte e is = absurd (cc)
goes_at NextElement known byte e is = absurd (cc)
goes_at Element known byte e is = absurd (cc)

goes : (known : Known) (byte : ℕ) → is_of_texts known.place ≡ true → StepGoes known.place byte (step Texts known byte)
unfolding step
goes known byte is = goes_at known.place known byte refl is

-- these bytes are cut so far, and they are laid out
record LaysOut (bytes : List ℕ) (cut : Cut) : Type 0 where
  front : List ℕ
  laid : IsLaidOut front cut.ended
  joined : bytes ≡ front ++ cut.begun
  place : is_of_texts cut.known.place ≡ true
  between : cut.known.place ≡ Between → cut.begun ≡ []

open_of_texts : (place : Place) → is_open place ≡ true → is_of_texts place ≡ true
open_of_texts Between e = absurd (cc)
open_of_texts Word e = refl
open_of_texts Text e = refl
open_of_texts ArrayStart e = absurd (cc)
open_of_texts NextElement e = absurd (cc)
open_of_texts Element e = absurd (cc)

open_not_between : (place : Place) (bytes : List ℕ) → is_open place ≡ true → place ≡ Between → bytes ≡ []
open_not_between Between bytes e is = absurd (cc)
open_not_between Word bytes e is = absurd (cc)
open_not_between Text bytes e is = absurd (cc)
open_not_between ArrayStart bytes e is = absurd (cc)
open_not_between NextElement bytes e is = absurd (cc)
open_not_between Element bytes e is = absurd (cc)

-- the cut after a byte
abbrev with_known : Cut → Known → Cut
with_known cut known = record { ended = cut.ended; begun = cut.begun; line_feeds = cut.line_feeds; known = known }

lays_turned : (turn : Turn) (bytes : List ℕ) (cut : Cut) (byte : ℕ) (known : Known) → LaysOut bytes cut → Goes cut.known.place byte turn known → LaysOut (bytes ++ byte ∷ []) (with_known (turned turn cut byte) known)
lays_turned Passed bytes cut byte known l g = record {
  front = l.front ++ byte ∷ [];
  laid = white l.front cut.ended byte g.1 l.laid;
  joined = ap (λ xs. xs ++ byte ∷ []) (l.joined ∙ ap (λ xs. l.front ++ xs) (l.between g.0) ∙ append-nil l.front) ∙ sym (append-nil (l.front ++ byte ∷ []));
  place = ap is_of_texts g.2;
  between = λ e. refl;
}
lays_turned Kept bytes cut byte known l g = record {
  front = l.front;
  laid = l.laid;
  joined = ap (λ xs. xs ++ byte ∷ []) l.joined ∙ append_assoc l.front cut.begun (byte ∷ []);
  place = open_of_texts known.place g;
  between = λ e. open_not_between known.place (cut.begun ++ byte ∷ []) g e;
}
lays_turned Last bytes cut byte known l g = record {
  front = l.front ++ (cut.begun ++ byte ∷ []);
  laid = text l.front cut.ended (record { bytes = cut.begun ++ byte ∷ []; is_closed = true; line_feeds = cut.line_feeds }) l.laid;
  joined = ap (λ xs. xs ++ byte ∷ []) l.joined ∙ append_assoc l.front cut.begun (byte ∷ []) ∙ sym (append-nil (l.front ++ (cut.begun ++ byte ∷ [])));
  place = ap is_of_texts g;
  between = λ e. refl;
}
lays_turned Ended bytes cut byte known l g = record {
  front = (l.front ++ cut.begun) ++ byte ∷ [];
  laid = white (l.front ++ cut.begun) (cut.ended ++ piece_of true cut ∷ []) byte g.0 (text l.front cut.ended (piece_of true cut) l.laid);
  joined = ap (λ xs. xs ++ byte ∷ []) l.joined ∙ sym (append-nil ((l.front ++ cut.begun) ++ byte ∷ []));
  place = ap is_of_texts g.1;
  between = λ e. refl;
}
lays_turned EndedBefore bytes cut byte known l g = record {
  front = l.front ++ cut.begun;
  laid = text l.front cut.ended (piece_of true cut) l.laid;
  joined = ap (λ xs. xs ++ byte ∷ []) l.joined;
  place = open_of_texts known.place g;
  between = λ e. open_not_between known.place ([] ++ byte ∷ []) g e;
}

lays_one : (bytes : List ℕ) (cut : Cut) (byte : ℕ) → LaysOut bytes cut → LaysOut (bytes ++ byte ∷ []) (take_in Texts cut byte)
unfolding take_in
lays_one bytes cut byte l =
    let done = step Texts cut.known byte in
    lays_turned done.turn bytes cut byte done.known l (goes cut.known byte l.place)

lays_all : (bytes : List ℕ) (cut : Cut) (rest : List ℕ) → LaysOut bytes cut → LaysOut (bytes ++ rest) (fold (take_in Texts) cut rest)
lays_all bytes cut [] l = subst (λ (xs : List ℕ). LaysOut xs cut) (sym (append-nil bytes)) l
lays_all bytes cut (byte ∷ rest) l =
    subst (λ (xs : List ℕ). LaysOut xs (fold (take_in Texts) (take_in Texts cut byte) rest)) (append_assoc bytes (byte ∷ []) rest)
    (lays_all (bytes ++ byte ∷ []) (take_in Texts cut byte) rest (lays_one bytes cut byte l))

lays_start : LaysOut [] start
lays_start = record { front = []; laid = nothing; joined = refl; place = refl; between = λ e. refl }

lays_out : (bytes : List ℕ) → LaysOut bytes (cut_of Texts bytes)
unfolding cut_of
lays_out bytes = lays_all [] start bytes lays_start

-- the end
lays_last : (place : Place) (bytes : List ℕ) (cut : Cut) → cut.known.place ≡ place → is_of_texts place ≡ true → LaysOut bytes cut → IsLaidOut bytes (cut.ended ++ last_at place cut)
lays_last Between bytes cut e is l =
    subst (λ (xs : List ℕ). IsLaidOut xs (cut.ended ++ [])) (sym (l.joined ∙ ap (λ xs. l.front ++ xs) (l.between e) ∙ append-nil l.front))
    (subst (λ (ps : List Piece). IsLaidOut l.front ps) (sym (append-nil cut.ended)) l.laid)
lays_last Word bytes cut e is l = subst (λ (xs : List ℕ). IsLaidOut xs (cut.ended ++ piece_of true cut ∷ [])) (sym l.joined) (text l.front cut.ended (piece_of true cut) l.laid)
lays_last Text bytes cut e is l = subst (λ (xs : List ℕ). IsLaidOut xs (cut.ended ++ piece_of false cut ∷ [])) (sym l.joined) (text l.front cut.ended (piece_of false cut) l.laid)
lays_last ArrayStart bytes cut e is l = absurd (cc)
lays_last NextElement bytes cut e is l = absurd (cc)
lays_last Element bytes cut e is l = absurd (cc)

pub texts_laid_out : (stream : List ℕ) → IsLaidOut (without_byte_order_mark stream) (pieces_of Texts stream)
texts_laid_out stream =
    let bytes = without_byte_order_mark stream in
    let l = lays_out bytes in
    lays_last (cut_of Texts bytes).known.place bytes (cut_of Texts bytes) refl l.place l
