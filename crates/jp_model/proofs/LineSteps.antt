-- The first piece of a text, and the first line, by the place of the first separator.
use Rattle.std.proofs.Common.{◌≡◌, ◌∙◌, ◌+◌, ◌<◌, ℕ, List, [], ◌∷◌, ◌++◌, length, take, drop, get_or, sym, ap, subst, refl, arith, true, false, Bor}
use Rattle.std.specs.Prelude.{◌==◌, suc, Bool, Some, None, slice_range}
use Rattle.std.proofs.Math.Seq.{split_at}
use Rattle.std.proofs.lemmas.List.{get_or-take, length-take, take_rest}
use Rattle.std.proofs.lemmas.List.Splits.{slice_split_none, slice_split_at}
use Rattle.std.proofs.lemmas.Grind.{get_or_default_zero}
use Rattle.std.proofs.lemmas.Bool.{eqb-true, eqb-false, eq-eqb, ne_eqb}
use Rattle.std.specs.Iterator.{MakesProgress, item_count}
use Rattle.memchr.specs.Find.{IsFirstByte, is_byte}
use Rattle.jp_model.specs.Lines.{is_separator, HasNoSeparator, pieces, text_lines}
use Rattle.jp_model.proofs.Pieces.{lines-first, lines-last}

module _ (separator : ℕ) where
  no_separator : (byte : ℕ) → ((byte == separator) ≡ true → ⊥) → is_separator separator byte ≡ false
  no_separator byte h = ne_eqb byte separator (λ e. h (eq-eqb byte separator e))

  -- before its first separator no separator stands
  clear_front : (text : List ℕ) (at : ℕ) → IsFirstByte (is_byte separator) text (Some at) → HasNoSeparator separator (take at text)
  clear_front text at h = λ k d l.
      let within : at < length text = h.0.high in
      let below : k < at = omega (arith, length-take at text) in
      let same : get_or (take at text) k d ≡ get_or text k 0 = get_or-take at text k d below ∙ get_or_default_zero text k d (omega arith) in
      subst (λ b. is_separator separator b ≡ false) (sym same) (no_separator (get_or text k 0) (h.0.before k (omega arith) below))

  clear_all : (text : List ℕ) → IsFirstByte (is_byte separator) text None → HasNoSeparator separator text
  clear_all text h = λ k d l. subst (λ b. is_separator separator b ≡ false) (sym (get_or_default_zero text k d l)) (no_separator (get_or text k 0) (h k (omega arith) l))

  -- the text, cut at its first separator
  cut_at : (text : List ℕ) (at : ℕ) → IsFirstByte (is_byte separator) text (Some at) → text ≡ take at text ++ separator ∷ slice_range text (at + 1) (length text)
  cut_at text at h =
      let is : get_or text at 0 ≡ separator = eqb-true (get_or text at 0) separator h.1 in
      let next : suc at ≡ at + 1 = omega arith in
      split_at text at 0 h.0.high ∙ ap (λ b. take at text ++ b ∷ drop (suc at) text) is ∙ ap (λ n. take at text ++ separator ∷ drop n text) next
      ∙ ap (λ rest. take at text ++ separator ∷ rest) (sym (take_rest text (at + 1)))

  -- the first piece of a text ends at its first separator
  pub first_cut : (text : List ℕ) (at : ℕ) → IsFirstByte (is_byte separator) text (Some at) → pieces separator text ≡ take at text ∷ pieces separator (slice_range text (at + 1) (length text))
  first_cut text at h =
      ap (pieces separator) (cut_at text at h)
      ∙ slice_split_at (is_separator separator) (take at text) separator (slice_range text (at + 1) (length text)) (clear_front text at h) (eq-eqb separator separator refl)

  -- a text without a separator is one piece
  pub only_cut : (text : List ℕ) → IsFirstByte (is_byte separator) text None → pieces separator text ≡ text ∷ []
  only_cut text h = slice_split_none (is_separator separator) text (clear_all text h)

-- the text up to its first line feed is a line, and the others are those after it
pub first_line : (text : List ℕ) (at : ℕ) → IsFirstByte (is_byte 10) text (Some at) → text_lines text ≡ take at text ∷ text_lines (slice_range text (at + 1) (length text))
first_line text at h = ap text_lines (cut_at 10 text at h) ∙ lines-first (take at text) (slice_range text (at + 1) (length text)) (clear_front 10 text at h)

-- a text without a line feed is one line, where it is not empty
pub only_line : (text : List ℕ) → (length text ≡ 0 → ⊥) → IsFirstByte (is_byte 10) text None → text_lines text ≡ text ∷ []
only_line [] some h = absurd (some refl)
only_line (byte ∷ bytes) some h = lines-last (byte ∷ bytes) (clear_all 10 (byte ∷ bytes) h)

-- a call that gave the first of what is left goes on
pub first_goes : (can : List (List ℕ) → Type 0) → ((left : List (List ℕ)) → can left) → (left after : List (List ℕ)) (given : Bor (List ℕ))
    → left ≡ given.now ∷ after → MakesProgress can (item_count (λ rest. rest)) left (Some given) after
first_goes can always left after given is = record {
  on = λ _. (always after, tt, subst (λ l. length after < length l) (sym is) (omega arith));
  keeps = always after;
  rests = λ _. tt;
}

pub not_empty : (n : ℕ) (is_empty : Bool) → is_empty ≡ (n == 0) → is_empty ≡ false → n ≡ 0 → ⊥
not_empty n is_empty test no_test none = eqb-false n 0 (sym test ∙ no_test) none
