-- What one more byte at the end of a line or of a collection changes.
use Rattle.std.proofs.Common.{◌≡◌, ℕ, zero, suc, ◌+◌, ◌<◌, ◌≤◌, Bool, true, false, cond, List, [], ◌∷◌, ◌++◌, length, refl, sym, ap, ap₂, ◌∙◌, arith, subst, append_assoc, zero-add, Option, Some, eqb-true}
use Rattle.std.specs.List.{filter, range_with_len}
use Rattle.std.proofs.lemmas.List.{get_or_append_left, get_or-append-add, length-append, append-nil}
use Rattle.std.proofs.lemmas.List.Elements.{filter-append}
use Rattle.std.proofs.Math.Seq.{get_or-append_seam}
use Rattle.jp_model.specs.declared.Framing.{Framing}
use Rattle.jp_model.specs.declared.Framing.TheVariants.{Lines, Sequence}
use Rattle.jp_model.specs.Lines.{separator_of, open_piece}
use Rattle.jp_model.specs.Json.Marks.{marks, is_mark}
use Rattle.jp_model.proofs.Pieces.{pieces_clear}
use Rattle.jp_masks.specs.Ends.{is_end}
use Rattle.jp_masks.specs.Machine.{start, after, is_marked, before}
use Rattle.jp_masks.specs.declared.block.Carry.{Carry}
use Rattle.jp_masks.proofs.Positions.{filter_same}
use Rattle.jp_masks.proofs.LineLaw.{NoEnd, mark_law}
use Rattle.jp_masks.proofs.Pieces.{open-push}

-- induction on a list from its end
pub by_push : (P : List ℕ → Type 0) → P [] → ((text : List ℕ) (byte : ℕ) → P text → P (text ++ byte ∷ [])) → (text : List ℕ) → P text
by_push P none push text = go [] text none
  where
    go : (done rest : List ℕ) → P done → P (done ++ rest)
    go done [] p = subst P (sym (append-nil done)) p
    go done (byte ∷ rest) p = subst P (append_assoc done (byte ∷ []) rest) (go (done ++ byte ∷ []) rest (push done byte p))

pub range-push : (a n : ℕ) → range_with_len a (suc n) ≡ range_with_len a n ++ (a + n) ∷ []
range-push a zero = ap (λ x. x ∷ []) (omega arith)
range-push a (suc n) =
    let next : a + 1 + n ≡ a + suc n = omega arith in
    ap (λ l. a ∷ l) (range-push (a + 1) n ∙ ap (λ x. range_with_len (a + 1) n ++ x ∷ []) next)

module _ (framing : Option Framing) where
  -- what is known before byte i depends on the bytes before it
  pub before-append : (first : Carry) (text rest : List ℕ) (i : ℕ) → i ≤ length text → before framing first (text ++ rest) i ≡ before framing first text i
  unfolding before
  before-append first text rest zero within = refl
  before-append first text rest (suc i) within = ap₂ (after framing) (before-append first text rest i (omega arith)) (get_or_append_left text rest 0 i (omega arith))

  pub before-push : (first : Carry) (text : List ℕ) (byte : ℕ) → before framing first (text ++ byte ∷ []) (length (text ++ byte ∷ [])) ≡ after framing (before framing first text (length text)) byte
  unfolding before
  before-push first text byte =
      let long : length (text ++ byte ∷ []) ≡ suc (length text) = length-append text (byte ∷ []) ∙ omega arith in
      ap (before framing first (text ++ byte ∷ [])) long ∙ ap₂ (after framing) (before-append first text (byte ∷ []) (length text) (omega arith)) (get_or-append_seam text byte [] 0)

  -- what is known in a part, from what is known where it begins
  pub before-part : (first : Carry) (text rest : List ℕ) (i : ℕ) → before framing first (text ++ rest) (length text + i) ≡ before framing (before framing first text (length text)) rest i
  unfolding before
  before-part first text rest zero = ap (before framing first (text ++ rest)) (omega arith) ∙ before-append first text rest (length text) (omega arith)
  before-part first text rest (suc i) =
      let next : length text + suc i ≡ suc (length text + i) = omega arith in
      ap (before framing first (text ++ rest)) next ∙ ap₂ (after framing) (before-part first text rest i) (get_or-append-add text rest i 0)

  -- what is known at the end
  abbrev pub known_after : List ℕ → Carry
  known_after text = before framing start text (length text)

  -- the marks of a line with one more byte
  pub marks-push : (line : List ℕ) (byte : ℕ) → NoEnd framing line (length line)
      → marks (line ++ byte ∷ []) ≡ marks line ++ cond (is_marked (known_after line) byte) (length line ∷ []) []
  unfolding marks
  marks-push line byte clear =
      ap (λ n. filter (is_mark longer) (range_with_len 0 n)) long ∙ ap (filter (is_mark longer)) (range-push 0 (length line))
      ∙ filter-append (is_mark longer) (range_with_len 0 (length line)) ((0 + length line) ∷ [])
      ∙ ap₂ (λ x y. x ++ y) (filter_same (is_mark longer) (is_mark line) 0 (length line) below) (ap (λ n. filter (is_mark longer) (n ∷ [])) (zero-add (length line)) ∙ ap (λ b. cond b (length line ∷ []) []) at_end)
    where
      longer : List ℕ
      longer = line ++ byte ∷ []

      long : length (line ++ byte ∷ []) ≡ suc (length line)
      long = length-append line (byte ∷ []) ∙ omega arith

      clear_longer : (n : ℕ) → n ≤ length line → NoEnd framing (line ++ byte ∷ []) n
      clear_longer n short i within = ap (is_end framing) (get_or_append_left line (byte ∷ []) 0 i (omega arith)) ∙ clear i (omega arith)

      below : (i : ℕ) → 0 ≤ i → i < 0 + length line → is_mark (line ++ byte ∷ []) i ≡ is_mark line i
      below i low within =
          let short : i < length line = omega arith in
          sym (mark_law framing (line ++ byte ∷ []) i (clear_longer i (omega arith)))
          ∙ ap₂ is_marked (before-append start line (byte ∷ []) i (omega arith)) (get_or_append_left line (byte ∷ []) 0 i short)
          ∙ mark_law framing line i (λ j h. clear j (omega arith))

      at_end : is_mark (line ++ byte ∷ []) (length line) ≡ is_marked (known_after line) byte
      at_end =
          sym (mark_law framing (line ++ byte ∷ []) (length line) (clear_longer (length line) (omega arith)))
          ∙ ap₂ is_marked (before-append start line (byte ∷ []) (length line) (omega arith)) (get_or-append_seam line byte [] 0)

-- after a byte that ends a line all is as at the start
pub after_end : (framing : Framing) (known : Carry) (byte : ℕ) → is_end (Some framing) byte ≡ true → after (Some framing) known byte ≡ start
after_end Lines known byte ends = let is : byte ≡ 0x0A = eqb-true byte 0x0A ends in ap (after (Some Lines) known) is
after_end Sequence known byte ends = let is : byte ≡ 0x1E = eqb-true byte 0x1E ends in ap (after (Some Sequence) known) is

module _ (framing : Framing) where
  abbrev open_of : List ℕ → List ℕ
  open_of text = open_piece (separator_of framing) text

  -- what is open has no byte that ends it
  pub open_clear : (text : List ℕ) → NoEnd (Some framing) (open_of text) (length (open_of text))
  open_clear text i within = pieces_clear (separator_of framing) text i 0 within

  -- what is known at the end is what the open piece alone tells
  pub known_at_end : (text : List ℕ) → known_after (Some framing) text ≡ known_after (Some framing) (open_of text)
  unfolding before
  known_at_end = by_push (λ text. known_after (Some framing) text ≡ known_after (Some framing) (open_of text)) refl push
    where
      push : (text : List ℕ) (byte : ℕ) → known_after (Some framing) text ≡ known_after (Some framing) (open_of text) → known_after (Some framing) (text ++ byte ∷ []) ≡ known_after (Some framing) (open_of (text ++ byte ∷ []))
      push text byte same = before-push (Some framing) start text byte ∙ ap (λ k. after (Some framing) k byte) same ∙ go (is_end (Some framing) byte) refl ∙ ap (known_after (Some framing)) (sym (open-push (separator_of framing) text byte))
        where
          go : (b : Bool) → is_end (Some framing) byte ≡ b → after (Some framing) (known_after (Some framing) (open_of text)) byte ≡ known_after (Some framing) (cond b [] (open_of text ++ byte ∷ []))
          go true e = after_end framing (known_after (Some framing) (open_of text)) byte e
          go false e = sym (before-push (Some framing) start (open_of text) byte)
