-- Pieces, joined again.
use Rattle.std.proofs.Common.{◌≡◌, ℕ, List, [], ◌∷◌, ◌++◌, drop, take, flat_map, All, Bool, true, false, cond, ◌⊎◌, inl, inr, Some, None, bytes_eq, if◌then◌else◌, eqb, eq-eqb, refl, sym, ap, subst, ◌∙◌, append_assoc, append-nil, take-append-drop, nat_lt}
use Rattle.std.specs.List.{join_with_byte, onto_first}
use Rattle.std.proofs.lemmas.Bool.{and_right}
use Rattle.std.proofs.lemmas.List.Elements.{All-cons, All-head, All-tail, All-nil}
use Rattle.std.proofs.lemmas.List.Splits.{slice_split-cons_yes, slice_split-cons_no, slice_split_at, join_with_byte-slice_split}
use Rattle.std.proofs.lemmas.Slice.Eq.{bytes_eq-Decides}
use Rattle.jp_model.specs.declared.Framing.TheVariants.{Lines as in_lines}
use Rattle.jp_model.specs.declared.LineFault.TheVariants.{Truncated, Depth, Surrogate, Number, Duplicate}
use Rattle.jp_model.specs.Json.Faults.{depth, has_surrogate, has_long_exponent, has_duplicate}
use Rattle.jp_model.specs.Json.Status.{refused, HasStatus}
use Rattle.jp_model.specs.Lines.{is_separator, pieces, before_last_piece, last_piece, closed_lines, open_line, first_piece, HasNoSeparator, line_unless_empty, text_lines, lines, without_byte_order_mark}
use Rattle.jp_model.proofs.Pieces.{pieces_some}
use Rattle.jp_laws.specs.Scripts.{with_line_feeds, begins_with_mark}

pub joined_again : (separator : ℕ) (text : List ℕ) → join_with_byte separator (pieces separator text) ≡ text
joined_again separator text = join_with_byte-slice_split separator text

onto_clear : (separator byte : ℕ) → is_separator separator byte ≡ false → (parts : List (List ℕ)) → All (HasNoSeparator separator) parts → All (HasNoSeparator separator) (onto_first byte parts)
onto_clear separator byte e [] h = All-cons (HasNoSeparator separator) (byte ∷ []) [] (All-cons (λ b. is_separator separator b ≡ false) byte [] e (All-nil (λ b. is_separator separator b ≡ false))) (All-nil (HasNoSeparator separator))
onto_clear separator byte e (part ∷ parts) h =
    All-cons (HasNoSeparator separator) (byte ∷ part) parts (All-cons (λ b. is_separator separator b ≡ false) byte part e (All-head (HasNoSeparator separator) part parts h)) (All-tail (HasNoSeparator separator) part parts h)

pub all_clear : (separator : ℕ) (text : List ℕ) → All (HasNoSeparator separator) (pieces separator text)
all_clear separator [] = All-cons (HasNoSeparator separator) [] [] (All-nil (λ b. is_separator separator b ≡ false)) (All-nil (HasNoSeparator separator))
all_clear separator (byte ∷ bytes) = step (is_separator separator byte) refl (all_clear separator bytes)
  where
    step : (t : Bool) → is_separator separator byte ≡ t → All (HasNoSeparator separator) (pieces separator bytes) → All (HasNoSeparator separator) (pieces separator (byte ∷ bytes))
    step true e again = subst (All (HasNoSeparator separator)) (sym (slice_split-cons_yes (is_separator separator) byte bytes e)) (All-cons (HasNoSeparator separator) [] (pieces separator bytes) (All-nil (λ b. is_separator separator b ≡ false)) again)
    step false e again = subst (All (HasNoSeparator separator)) (sym (slice_split-cons_no (is_separator separator) byte bytes e)) (onto_clear separator byte e (pieces separator bytes) again)

ends : (separator : ℕ) (part : List ℕ) (parts : List (List ℕ)) → flat_map (λ p. p ++ separator ∷ []) (before_last_piece (part ∷ parts)) ++ last_piece (part ∷ parts) ≡ join_with_byte separator (part ∷ parts)
ends separator part [] = refl
ends separator part (next ∷ parts) =
    append_assoc (part ++ separator ∷ []) (flat_map (λ p. p ++ separator ∷ []) (before_last_piece (next ∷ parts))) (last_piece (next ∷ parts))
    ∙ (append_assoc part (separator ∷ []) _ ∙ ap (λ l. part ++ separator ∷ l) (ends separator next parts))

pub lines_again : (text : List ℕ) → with_line_feeds (closed_lines text) ++ open_line text ≡ text
lines_again text =
    let some = pieces_some 0x0A text in
    ap (λ parts. flat_map (λ p. p ++ 0x0A ∷ []) (before_last_piece parts) ++ last_piece parts) some.2 ∙ (ends 0x0A some.0 some.1 ∙ (sym (ap (join_with_byte 0x0A) some.2) ∙ joined_again 0x0A text))

begun : (separator : ℕ) (part : List ℕ) (parts : List (List ℕ)) → part ++ flat_map (λ p. separator ∷ p) parts ≡ join_with_byte separator (part ∷ parts)
begun separator part [] = append-nil part
begun separator part (next ∷ parts) = ap (λ l. part ++ separator ∷ l) (begun separator next parts)

pub sequence_again : (text : List ℕ) → first_piece (pieces 0x1E text) ++ flat_map (λ piece. 0x1E ∷ piece) (drop 1 (pieces 0x1E text)) ≡ text
sequence_again text =
    let some = pieces_some 0x1E text in
    ap (λ parts. first_piece parts ++ flat_map (λ piece. 0x1E ∷ piece) (drop 1 parts)) some.2 ∙ (begun 0x1E some.0 some.1 ∙ (sym (ap (join_with_byte 0x1E) some.2) ∙ joined_again 0x1E text))

pub mark_dropped : (bytes : List ℕ) → (bytes ≡ without_byte_order_mark bytes) ⊎ (bytes ≡ 0xEF ∷ 0xBB ∷ 0xBF ∷ without_byte_order_mark bytes)
mark_dropped bytes = pick (bytes_eq (take 3 bytes) (0xEF ∷ 0xBB ∷ 0xBF ∷ [])) refl
  where
    pick : (b : Bool) → bytes_eq (take 3 bytes) (0xEF ∷ 0xBB ∷ 0xBF ∷ []) ≡ b → (bytes ≡ (if b then drop 3 bytes else bytes)) ⊎ (bytes ≡ 0xEF ∷ 0xBB ∷ 0xBF ∷ (if b then drop 3 bytes else bytes))
    pick true e = inr (sym (take-append-drop 3 bytes) ∙ ap (λ front. front ++ drop 3 bytes) ((bytes_eq-Decides (take 3 bytes) (0xEF ∷ 0xBB ∷ 0xBF ∷ [])).0 e))
    pick false e = inl refl

-- ---- the fault of truncation

no_truncation : (a b c d : Bool) → cond a (Some Depth) (cond b (Some Surrogate) (cond c (Some Number) (cond d (Some Duplicate) None))) ≡ Some Truncated → ⊥
no_truncation true b c d h = absurd (cc)
no_truncation false true c d h = absurd (cc)
no_truncation false false true d h = absurd (cc)
no_truncation false false false true h = absurd (cc)
no_truncation false false false false h = absurd (cc)

pub never_truncated : (line : List ℕ) → HasStatus in_lines line (refused Truncated) → ⊥
never_truncated line h = no_truncation (nat_lt 512 (depth ((h.1).1))) (has_surrogate ((h.1).1)) (has_long_exponent line ((h.1).1)) (has_duplicate ((h.1).1)) (h.1).3

-- ---- lines with a line feed after each

pieces_of_lines : (texts : List (List ℕ)) → All (HasNoSeparator 0x0A) texts → pieces 0x0A (with_line_feeds texts) ≡ texts ++ [] ∷ []
pieces_of_lines [] h = refl
pieces_of_lines (text ∷ texts) h =
    ap (pieces 0x0A) (append_assoc text (0x0A ∷ []) (with_line_feeds texts))
    ∙ (slice_split_at (is_separator 0x0A) text 0x0A (with_line_feeds texts) (All-head (HasNoSeparator 0x0A) text texts h) (eq-eqb 0x0A 0x0A refl)
    ∙ ap (λ l. text ∷ l) (pieces_of_lines texts (All-tail (HasNoSeparator 0x0A) text texts h)))

before_empty : (texts : List (List ℕ)) → before_last_piece (texts ++ [] ∷ []) ≡ texts
before_empty [] = refl
before_empty (text ∷ []) = refl
before_empty (text ∷ next ∷ texts) = ap (λ l. text ∷ l) (before_empty (next ∷ texts))

last_empty : (texts : List (List ℕ)) → last_piece (texts ++ [] ∷ []) ≡ []
last_empty [] = refl
last_empty (text ∷ []) = refl
last_empty (text ∷ next ∷ texts) = last_empty (next ∷ texts)

pub text_lines_of : (texts : List (List ℕ)) → All (HasNoSeparator 0x0A) texts → text_lines (with_line_feeds texts) ≡ texts
text_lines_of texts h =
    ap (λ parts. before_last_piece parts ++ line_unless_empty (last_piece parts)) (pieces_of_lines texts h) ∙ (ap (λ l. before_last_piece (texts ++ [] ∷ []) ++ line_unless_empty l) (last_empty texts) ∙ (append-nil _ ∙ before_empty texts))

no_mark : (texts : List (List ℕ)) → begins_with_mark (first_piece texts) ≡ false → bytes_eq (take 3 (with_line_feeds texts)) (0xEF ∷ 0xBB ∷ 0xBF ∷ []) ≡ false
no_mark [] h = refl
no_mark ([] ∷ texts) h = refl
no_mark ((a ∷ []) ∷ texts) h = and_right (eqb a 0xEF) _ refl
no_mark ((a ∷ b ∷ []) ∷ texts) h = and_right (eqb a 0xEF) _ (and_right (eqb b 0xBB) _ refl)
no_mark ((a ∷ b ∷ c ∷ text) ∷ texts) h = h

pub lines_of : (texts : List (List ℕ)) → All (HasNoSeparator 0x0A) texts → begins_with_mark (first_piece texts) ≡ false → lines in_lines (with_line_feeds texts) ≡ texts
lines_of texts h g = rw (no_mark texts g) (text_lines_of texts h)
