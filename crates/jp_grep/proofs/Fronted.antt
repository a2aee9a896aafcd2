-- Whether more bytes may frame the first of a stream.
use Rattle.std.proofs.Common.{◌≡◌, ◌∙◌, ◌<◌, ◌&&◌, ℕ, suc, List, [], ◌∷◌, ◌++◌, length, Bool, true, false, eqb, refl, sym, ap, ap₂, arith, append-nil, inl, inr}
use Rattle.std.specs.List.{onto_first, starts_with}
use Rattle.std.proofs.lemmas.Bool.{eqb-true}
use Rattle.std.proofs.lemmas.List.Folds.{list_all-append}
use Rattle.std.proofs.lemmas.List.Splits.{slice_split-cons_no, slice_split-cons_yes}
use Rattle.jp_model.specs.Characters.{is_white}
use Rattle.jp_model.specs.declared.Framing.{Framing}
use Rattle.jp_model.specs.declared.Framing.TheVariants as framings
use Rattle.jp_model.specs.Lines.{HasNoSeparator, first_piece, is_blank, is_framed, is_separator, pieces, without_byte_order_mark}
use Rattle.jp_model.proofs.Pieces.{pieces_some}
use Rattle.jp_grep.specs.Cuts.{HasNoEnd}
use Rattle.jp_grep.specs.Fronts.{IsUnframed, MayBeFramed, MayGoOn}
use Rattle.jp_grep.specs.Positions.{GoesOn}
use Rattle.jp_grep.proofs.Formatted.{long_begins_none}
use Rattle.jp_grep.proofs.Marked.{Mark, settled_mark, still_clear, three}

both : (a b : Bool) → (a && b) ≡ true → (a ≡ true) × (b ≡ true)
both true b h = (refl, h)
both false b h = absurd (cc)

-- only white space stands before the first RS
abbrev is_open : List ℕ → Bool
is_open text = is_blank (first_piece (pieces 30 text))

open_cons : (byte : ℕ) (bytes : List ℕ) → eqb byte 30 ≡ false → is_open (byte ∷ bytes) ≡ (is_white byte && is_open bytes)
open_cons byte bytes e =
    let some = pieces_some 30 bytes in
    ap (λ ps. is_blank (first_piece ps)) (slice_split-cons_no (is_separator 30) byte bytes e ∙ ap (onto_first byte) some.2)
    ∙ ap (λ ps. is_white byte && is_blank (first_piece ps)) (sym some.2)

open_separator : (byte : ℕ) (bytes : List ℕ) → eqb byte 30 ≡ true → is_open (byte ∷ bytes) ≡ true
open_separator byte bytes e = ap (λ ps. is_blank (first_piece ps)) (slice_split-cons_yes (is_separator 30) byte bytes e)

and_more : (a b c : Bool) → (b ≡ false → c ≡ false) → (a && b) ≡ false → (a && c) ≡ false
and_more true b c h e = h e
and_more false b c h e = refl

-- what stands there stays there
stays_shut : (text more : List ℕ) → is_open text ≡ false → is_open (text ++ more) ≡ false
stays_shut [] more e = absurd (cc)
stays_shut (byte ∷ bytes) more e = elim (eqb byte 30) as (λ v. eqb byte 30 ≡ v → is_open (byte ∷ (bytes ++ more)) ≡ false) [
  | true ↦ λ is. absurd (apart (sym (open_separator byte bytes is) ∙ e))
  | false ↦ λ is. open_cons byte (bytes ++ more) is
      ∙ and_more (is_white byte) (is_open bytes) (is_open (bytes ++ more)) (stays_shut bytes more) (sym (open_cons byte bytes is) ∙ e)
] refl
  where
    apart : true ≡ false → ⊥
    apart h = cc

-- where no mark may come any more, what is not framed stays so
pub stays_unframed : (framing : Framing) (bytes : List ℕ) → starts_with eqb Mark bytes ≡ false → is_framed framing bytes ≡ false → IsUnframed framing bytes
stays_unframed framings.Lines bytes s e = absurd (cc)
stays_unframed framings.Sequence bytes s e = λ more. ap is_open (settled_mark bytes more s) ∙ stays_shut (without_byte_order_mark bytes) more e

-- the beginning of a mark may go on as one
pub mark_may : (framing : Framing) (bytes : List ℕ) → starts_with eqb Mark bytes ≡ true → MayBeFramed framing bytes
mark_may framing bytes s =
    let whole = rest_of Mark bytes s in
    (whole.0, ap (is_framed framing) whole.1 ∙ marked framing)
  where
    marked : (framing : Framing) → is_framed framing Mark ≡ true
    marked framings.Lines = refl
    marked framings.Sequence = refl

    rest_of : (mark bytes : List ℕ) → starts_with eqb mark bytes ≡ true → (more : List ℕ) × (bytes ++ more ≡ mark)
    rest_of mark [] s = (mark, refl)
    rest_of [] (b ∷ bytes) s = absurd (cc)
    rest_of (m ∷ mark) (b ∷ bytes) s =
        let same = both (eqb b m) (starts_with eqb mark bytes) s in
        let later = rest_of mark bytes same.1 in
        (later.0, ap₂ (λ (x : ℕ) (l : List ℕ). x ∷ l) (eqb-true b m same.0) later.1)

pub framed_may : (framing : Framing) (bytes : List ℕ) → is_framed framing bytes ≡ true → MayBeFramed framing bytes
framed_may framing bytes e = ([], ap (is_framed framing) (append-nil bytes) ∙ e)

-- white space that nothing ends
blank_open : (text : List ℕ) → is_blank text ≡ true → is_open text ≡ true
blank_open [] e = refl
blank_open (byte ∷ bytes) e = elim (eqb byte 30) as (λ v. eqb byte 30 ≡ v → is_open (byte ∷ bytes) ≡ true) [
  | true ↦ λ is. open_separator byte bytes is
  | false ↦ λ is. open_cons byte bytes is ∙ ap₂ (λ (a b : Bool). a && b) (both (is_white byte) (is_blank bytes) e).0 (blank_open bytes (both (is_white byte) (is_blank bytes) e).1)
] refl

open_blank : (text more : List ℕ) → HasNoSeparator 30 text → is_open (text ++ more) ≡ true → is_blank text ≡ true
open_blank [] more clear e = refl
open_blank (byte ∷ bytes) more clear e =
    let here : eqb byte 30 ≡ false = clear 0 0 (omega arith) in
    let later = both (is_white byte) (is_open (bytes ++ more)) (sym (open_cons byte (bytes ++ more) here) ∙ e) in
    ap₂ (λ (a b : Bool). a && b) later.0 (open_blank bytes more (λ k d l. clear (suc k) d (omega (arith, l))) later.1)

-- with three bytes it shows whether a mark is there
long_goes_on : (bytes more : List ℕ) → 2 < length bytes → GoesOn bytes more
long_goes_on [] more l = absurd (omega (arith, l))
long_goes_on (a ∷ []) more l = absurd (omega (arith, l))
long_goes_on (a ∷ b ∷ []) more l = absurd (omega (arith, l))
long_goes_on (a ∷ b ∷ c ∷ bytes) more l = three a b c bytes more

-- white space after more bytes than the longest mark has leaves it open whether they are framed
pub blank_may : (framing : Framing) (bytes piece : List ℕ) → 10 < length bytes → HasNoEnd framing bytes → MayGoOn framing bytes → is_blank piece ≡ true → MayBeFramed framing (bytes ++ piece)
blank_may framings.Lines bytes piece l clear may blank = ([], refl)
blank_may framings.Sequence bytes piece l clear may blank = elim may.framed [
  | inl begun ↦ absurd (apart (sym begun ∙ long_begins_none bytes l))
  | inr framed ↦
      let text = without_byte_order_mark bytes in
      let some : 2 < length bytes = omega (arith, l) in
      let white = open_blank text framed.0 (still_clear 30 bytes clear) (sym (ap is_open (long_goes_on bytes framed.0 some)) ∙ framed.1) in
      framed_may framings.Sequence (bytes ++ piece)
      (ap is_open (long_goes_on bytes piece some) ∙ blank_open (text ++ piece) (list_all-append is_white text piece ∙ ap₂ (λ (a b : Bool). a && b) white blank))
]
  where
    apart : true ≡ false → ⊥
    apart h = cc
