-- A line with a line feed after it has in a sequence the status that it has as a line.
use Rattle.std.proofs.Common.{◌≡◌, ℕ, ◌+◌, ◌<◌, ◌≤◌, inl, inr, Bool, true, false, not, ◌&&◌, List, [], ◌∷◌, ◌++◌, length, take, drop, Option, Some, IsUtf8, refl, sym, ap, subst, ◌∙◌, arith, ◌⊎◌}
use Rattle.std.specs.List.{list_any, list_all}
use Rattle.std.proofs.lemmas.Bool.{and_right, cases_lt, or_right}
use Rattle.std.proofs.lemmas.List.{length-append, take_all, take_at, drop-append-le, get_or_at}
use Rattle.std.proofs.lemmas.List.Folds.{list_any-append, list_all-append}
use Rattle.std.proofs.lemmas.Str.{IsUtf8-append, IsUtf8-from_ascii, IsUtf8-take, IsCharBoundary-before_ascii}
use Rattle.jp_model.proofs.Reader.Lexical.{clash}
use Rattle.jp_model.specs.declared.Framing.TheVariants.{Lines as in_lines, Sequence as in_sequence}
use Rattle.jp_model.specs.declared.LineFault.{LineFault}
use Rattle.jp_model.specs.declared.LineFault.TheVariants.{Utf8, Grammar, Truncated, Depth, Surrogate, Number, Duplicate}
use Rattle.jp_model.specs.Characters.{is_white}
use Rattle.jp_model.specs.Json.Faults.{has_open_end, is_truncated}
use Rattle.jp_model.specs.Json.Places.{byte_at, White}
use Rattle.jp_model.specs.Json.Spelling.{Text}
use Rattle.jp_model.specs.Json.Status.{LineStatus, blank, refused, parsed, fault_of_tree, TreeHasFault, Refuses, HasStatus}
use Rattle.jp_model.specs.Json.Tree.{Tree, node, span}
use Rattle.jp_model.specs.Lines.{is_blank}
use Rattle.jp_laws.proofs.LastBytes.{tree_stopped}
use Rattle.jp_laws.proofs.Locations.{tree_sized}
use Rattle.jp_laws.proofs.SameFront.{white_same, tree_same, exponents_same}
use Rattle.jp_laws.proofs.Utf8Lines.{ascii_one}

module _ (line : List ℕ) where
  abbrev ended : List ℕ
  ended = line ++ 0x0A ∷ []

  longer : length ended ≡ length line + 1
  longer = let l = length-append line (0x0A ∷ []) in omega arith

  front : take (length line) line ≡ take (length line) ended
  front = take_all (length line) line (omega arith) ∙ sym (take_at line (0x0A ∷ []) (length line) refl)

  feed : byte_at ended (length line) ≡ 0x0A
  feed = get_or_at line 0x0A [] 0 (length line) refl

  -- ---- trees

  white_on : (i : ℕ) → White line i (length line) → White ended i (length ended)
  white_on i w =
      let l = longer in
      let o = w.order in
      let v = white_same line ended (length line) front (omega arith) i (length line) (omega arith) w in
      record { order = omega arith; within = omega arith; white = λ k p q. step k p q (cases_lt k (length line)) v }
    where
      step : (k : ℕ) → i ≤ k → k < length ended → (k < length line) ⊎ (length line ≤ k) → White ended i (length line) → is_white (byte_at ended k) ≡ true
      step k p q (inl a) v = v.white k p a
      step k p q (inr a) v = ap (λ n. is_white (byte_at ended n)) (let l = longer in let e : k ≡ length line = omega arith in e) ∙ ap is_white feed

  text_on : (t : Tree) → Text line t → Text ended t
  text_on t h =
      let l = longer in
      let z = (tree_sized line t h.value).0 in
      let o = h.after.order in
      record {
        before = white_same line ended (length line) front (omega arith) 0 (span t).start (omega arith) h.before;
        value = tree_same line ended (length line) front (omega arith) t (omega arith) h.value;
        after = white_on (span t).end h.after;
      }

  -- a tree ends before the line feed
  within_line : (t : Tree) → Text ended t → (span t).end ≤ length line
  within_line t h =
      elim (cases_lt (length line) (span t).end) [
        | inr le ↦ le
        | inl lt ↦ (let l = longer in let o = h.after.order in absurd (clash (is_white (byte_at ended (length line))) (ap is_white feed) (tree_stopped ended t h.value (length line) (omega arith))))
      ]

  text_back : (t : Tree) → Text ended t → Text line t
  text_back t h =
      let l = longer in
      let w = within_line t h in
      let z = (tree_sized ended t h.value).0 in
      let a : White ended (span t).end (length line) = record { order = w; within = omega arith; white = λ k p q. h.after.white k p (omega arith) } in
      record {
        before = white_same ended line (length line) (sym front) (omega arith) 0 (span t).start (omega arith) h.before;
        value = tree_same ended line (length line) (sym front) (omega arith) t w h.value;
        after = white_same ended line (length line) (sym front) (omega arith) (span t).end (length line) (omega arith) a;
      }

  -- ---- faults

  feed_utf8 : IsUtf8 (0x0A ∷ [])
  feed_utf8 = IsUtf8-from_ascii (0x0A ∷ []) (ascii_one 0x0A (omega arith))

  utf8_on : IsUtf8 line → IsUtf8 ended
  utf8_on u = IsUtf8-append line (0x0A ∷ []) u feed_utf8

  utf8_back : IsUtf8 ended → IsUtf8 line
  utf8_back u = let l = longer in let f = feed in subst IsUtf8 (take_at line (0x0A ∷ []) (length line) refl) (IsUtf8-take ended (length line) u (IsCharBoundary-before_ascii ended (length line) (omega arith) (omega arith)))

  not_truncated : (t : Tree) → (span t).end ≤ length line → is_truncated in_sequence ended t ≡ false
  not_truncated (node s v) l =
      and_right (has_open_end v) _ (ap not (ap (list_any is_white) (drop-append-le s.end line (0x0A ∷ []) l) ∙ (list_any-append is_white (drop s.end line) (0x0A ∷ []) ∙ or_right (list_any is_white (drop s.end line)) true refl)))

  fault_on : (t : Tree) → Text line t → fault_of_tree in_sequence ended t ≡ fault_of_tree in_lines line t
  fault_on t h =
      let l = longer in
      let o = h.after.order in
      rw (not_truncated t o, exponents_same line ended (length line) front (omega arith) t o h.value) refl

  tree_fault_on : (fault : Option LineFault) → TreeHasFault in_lines line fault → TreeHasFault in_sequence ended fault
  tree_fault_on fault h = (utf8_on h.0, h.1, text_on h.1 h.2, fault_on h.1 h.2 ∙ h.3)

  blank_on : is_blank ended ≡ is_blank line
  blank_on = list_all-append is_white line (0x0A ∷ []) ∙ and_true (list_all is_white line)
    where
      and_true : (b : Bool) → (b && true) ≡ b
      and_true true = refl
      and_true false = refl

  refuses_on : (fault : LineFault) → Refuses in_lines line fault → Refuses in_sequence ended fault
  refuses_on Utf8 h = λ u. h (utf8_back u)
  refuses_on Grammar h = (utf8_on h.0, λ t x. h.1 t (text_back t x))
  refuses_on Truncated h = tree_fault_on (Some Truncated) h
  refuses_on Depth h = tree_fault_on (Some Depth) h
  refuses_on Surrogate h = tree_fault_on (Some Surrogate) h
  refuses_on Number h = tree_fault_on (Some Number) h
  refuses_on Duplicate h = tree_fault_on (Some Duplicate) h

  pub status_on : (x : LineStatus) → HasStatus in_lines line x → HasStatus in_sequence (line ++ 0x0A ∷ []) x
  status_on blank h = blank_on ∙ h
  status_on (refused fault) h = (blank_on ∙ h.0, refuses_on fault h.1)
  status_on (parsed t) h = (utf8_on h.0, text_on t h.1, fault_on t h.1 ∙ h.2)
