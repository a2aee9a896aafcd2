-- What comes of the rest of a stream, where each piece of it is accepted.
use Rattle.std.proofs.Common.{◌≡◌, ℕ, Bool, true, false, List, [], ◌∷◌, ◌++◌, ap, ◌∙◌, append_assoc}
use Rattle.std.specs.Prelude.{fold}
use Rattle.std.specs.List.{AllByRecursion}
use Rattle.jp_model.specs.Characters.{is_white}
use Rattle.jp_cut.specs.Cuts.{Piece, Cut, take_in, all_of}
use Rattle.jp_cut.specs.Machine.{nothing_open}
use Rattle.jp_cut.specs.Passing.{behind_all}
use Rattle.jp_cut.specs.declared.machine.Pieces.{Pieces}
use Rattle.jp_cut.specs.declared.machine.Place.TheVariants.{Word, Text}
use Rattle.jp_cut.specs.declared.machine.Known.{Known}
use Rattle.jp_cut_laws.specs.Elements.{AreElements, IsInside}
use Rattle.jp_cut_laws.specs.Values.{IsTaken, may_end_word, AreValues, bytes_of}
use Rattle.jp_cut_laws.proofs.Arrays.{resting, start_place}
use Rattle.jp_cut_laws.proofs.Crossing.{IsUnfinished}
use Rattle.jp_cut_laws.proofs.Elements.{whole}
use Rattle.jp_cut_laws.proofs.Taken.{between, begun_at}

-- its other bytes and what follows, where the piece and the others are accepted
pub record Rest (pieces : Pieces) (isWord : Bool) (bytes rest : List ℕ) (new : List Piece) : Type 0 where
  pub tail : List ℕ
  pub after : List ℕ
  pub piece : Piece
  pub more : List Piece
  pub joined : rest ≡ tail ++ after
  pub parts : new ≡ piece ∷ more
  pub full : piece.bytes ≡ bytes ++ tail
  pub front : List ℕ
  pub last : ℕ
  pub stops : piece.bytes ≡ front ++ last ∷ []
  pub no_white : is_white last ≡ false
  pub ends : isWord ≡ true → may_end_word after ≡ true
  pub values : AreValues pieces after (bytes_of more)

-- the pieces that come of a cut and the rest of a stream, and what they are where each is accepted
pub record Runs (pieces : Pieces) (cut : Cut) (rest : List ℕ) (Come : List Piece → Type 0) : Type 0 where
  pub new : List Piece
  pub are : all_of (fold (take_in pieces) cut rest) ≡ cut.ended ++ new
  pub come : AllByRecursion IsTaken new → Come new

-- between texts
abbrev pub RunsBetween : Pieces → List ℕ → Type 0
RunsBetween pieces rest = (ended : List Piece) (n : ℕ) → Runs pieces (between ended n) rest (λ new. AreValues pieces rest (bytes_of new))

-- in a number or a word
abbrev pub RunsWord : Pieces → List ℕ → Type 0
RunsWord pieces rest = (ended : List Piece) (n : ℕ) (bytes front : List ℕ) (last : ℕ) → bytes ≡ front ++ last ∷ [] → is_white last ≡ false → Runs pieces (begun_at ended n bytes (nothing_open Word)) rest (Rest pieces true bytes rest)

-- in a text that shows its end
abbrev pub RunsText : Pieces → List ℕ → Type 0
RunsText pieces rest = (ended : List Piece) (n : ℕ) (bytes : List ℕ) (known : Known) → known.place ≡ Text → IsUnfinished known → Runs pieces (begun_at ended n bytes known) rest (Rest pieces false bytes rest)

-- what stands after a bracket, or after a comma
abbrev pub IsBehind : Bool → List ℕ → List (List ℕ) → Type 0
IsBehind true inside elements = IsInside inside elements
IsBehind false inside elements = AreElements inside elements

-- the rest of an array and what follows, where its other elements and the others are accepted
pub record InArray (pieces : Pieces) (isFirst : Bool) (rest : List ℕ) (new : List Piece) : Type 0 where
  pub inside : List ℕ
  pub after : List ℕ
  pub elements : List (List ℕ)
  pub more : List Piece
  pub joined : rest ≡ inside ++ after
  pub are : IsBehind isFirst inside elements
  pub parts : bytes_of new ≡ elements ++ bytes_of more
  pub values : AreValues pieces after (bytes_of more)

-- the same where the first bytes of an element are open
pub record InElement (pieces : Pieces) (bytes rest : List ℕ) (new : List Piece) : Type 0 where
  pub inside : List ℕ
  pub after : List ℕ
  pub elements : List (List ℕ)
  pub more : List Piece
  pub joined : rest ≡ inside ++ after
  pub are : AreElements (bytes ++ inside) elements
  pub parts : bytes_of new ≡ elements ++ bytes_of more
  pub values : AreValues pieces after (bytes_of more)

-- in front of an element
abbrev pub RunsStart : Pieces → List ℕ → Type 0
RunsStart pieces rest = (isFirst : Bool) (ended : List Piece) (n : ℕ) → Runs pieces (resting (start_place isFirst) ended n) rest (InArray pieces isFirst rest)

-- in one
abbrev pub RunsElement : Pieces → List ℕ → Type 0
RunsElement pieces rest = (ended : List Piece) (n : ℕ) (bytes tail : List ℕ) (first : ℕ) → bytes ≡ first ∷ tail → is_white first ≡ false → Runs pieces (begun_at ended n bytes (behind_all whole bytes)) rest (InElement pieces bytes rest)

-- one byte more of the piece
pub longer : (pieces : Pieces) (isWord : Bool) (bytes : List ℕ) (byte : ℕ) (rest : List ℕ) (new : List Piece) → Rest pieces isWord (bytes ++ byte ∷ []) rest new → Rest pieces isWord bytes (byte ∷ rest) new
longer pieces isWord bytes byte rest new f = record {
  tail = byte ∷ f.tail;
  after = f.after;
  piece = f.piece;
  more = f.more;
  joined = ap (λ xs. byte ∷ xs) f.joined;
  parts = f.parts;
  full = f.full ∙ append_assoc bytes (byte ∷ []) f.tail;
  front = f.front;
  last = f.last;
  stops = f.stops;
  no_white = f.no_white;
  ends = f.ends;
  values = f.values;
}

-- a cut that begins with another, and what comes of it
pub runs_on : (pieces : Pieces) (cut next : Cut) (byte : ℕ) (rest : List ℕ) (Come Now : List Piece → Type 0) → take_in pieces cut byte ≡ next → next.ended ≡ cut.ended → Runs pieces next rest Come → ((new : List Piece) → AllByRecursion IsTaken new → Come new → Now new) → Runs pieces cut (byte ∷ rest) Now
runs_on pieces cut next byte rest Come Now e same r goes = record {
  new = r.new;
  are = ap (λ (c : Cut). all_of (fold (take_in pieces) c rest)) e ∙ r.are ∙ ap (λ xs. xs ++ r.new) same;
  come = λ h. goes r.new h (r.come h);
}
