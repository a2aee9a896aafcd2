-- Where a search for the last separator says that the last line ends.
use Rattle.std.proofs.Common.{◌≡◌, ◌∙◌, ◌+◌, ◌<◌, ℕ, List, [], ◌∷◌, ◌++◌, length, take, drop, get_or, sym, ap, subst, arith, true, false}
use Rattle.std.specs.Prelude.{◌==◌, Some, None}
use Rattle.std.proofs.lemmas.List.{drop_more, get_or-drop, length-drop, take_more}
use Rattle.std.proofs.lemmas.Grind.{get_or_default_zero}
use Rattle.std.proofs.lemmas.Bool.{eqb-true, eq-eqb, ne_eqb}
use Rattle.memchr.specs.Find.{IsLastByte, is_byte}
use Rattle.jp_model.specs.declared.Framing.TheVariants as framings
use Rattle.jp_model.specs.Lines.{HasNoSeparator, is_separator}
use Rattle.jp_grep.specs.Cuts.{EndsBetween}

no_separator : (separator byte : ℕ) → ((byte == separator) ≡ true → ⊥) → is_separator separator byte ≡ false
no_separator separator byte h = ne_eqb byte separator (λ e. h (eq-eqb byte separator e))

-- none was found
pub none_ends : (separator : ℕ) (text : List ℕ) → IsLastByte (is_byte separator) text None → HasNoSeparator separator text
none_ends separator text h = λ k d l. subst (λ b. is_separator separator b ≡ false) (sym (get_or_default_zero text k d l)) (no_separator separator (get_or text k 0) (h k (omega arith) l))

module _ (separator : ℕ) (text : List ℕ) (at : ℕ) (h : IsLastByte (is_byte separator) text (Some at)) where
  there : get_or text at 0 ≡ separator
  there = eqb-true (get_or text at 0) separator h.1

  clear_behind : HasNoSeparator separator (drop (at + 1) text)
  clear_behind = λ k d l.
      let within : at + 1 + k < length text = omega (arith, l, length-drop (at + 1) text) in
      let same : get_or (drop (at + 1) text) k d ≡ get_or text (at + 1 + k) 0 = get_or-drop (at + 1) text k d ∙ get_or_default_zero text (at + 1 + k) d within in
      subst (λ b. is_separator separator b ≡ false) (sym same) (no_separator separator (get_or text (at + 1 + k) 0) (h.0.after (at + 1 + k) (omega arith) within))

  pub ends_behind_line : separator ≡ 10 → EndsBetween framings.Lines (take (at + 1) text) (drop (at + 1) text)
  ends_behind_line e = (
    take at text,
    take_more text at 0 h.0.high ∙ ap (λ b. take at text ++ b ∷ []) (there ∙ e),
    subst (λ b. HasNoSeparator b (drop (at + 1) text)) e clear_behind,
  )

  pub ends_before_text : separator ≡ 30 → EndsBetween framings.Sequence (take at text) (drop at text)
  ends_before_text e = (
    drop (at + 1) text,
    drop_more text at 0 h.0.high ∙ ap (λ b. b ∷ drop (at + 1) text) (there ∙ e),
    subst (λ b. HasNoSeparator b (drop (at + 1) text)) e clear_behind,
  )
