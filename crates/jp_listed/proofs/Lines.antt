-- Lines of bytes, one by one.
use Rattle.std.proofs.Common.{◌≡◌, ◌∙◌, ℕ, suc, ◌+◌, ◌-◌, ◌<◌, ◌≤◌, List, [], ◌∷◌, ◌++◌, length, take, drop, false, refl, sym, ap, ap₂, arith, All, slice_index, append_assoc}
use Rattle.std.proofs.Math.Seq.{drop-cons}
use Rattle.std.proofs.lemmas.Bool.{false_from_ne_true, le-leb}
use Rattle.std.proofs.lemmas.List.{take-append-drop, get_or-take, get_or_default, length-take, length-drop, take_all, drop-drop, map-append}
use Rattle.std.proofs.lemmas.List.Elements.{All-append, All-cons, All-nil}
use Rattle.std.proofs.lemmas.List.Splits.{slice_split_at, slice_split_none}
use Rattle.memchr.specs.Find.{NoneBefore, Nowhere, Passes, is_byte}
use Rattle.jp_model.specs.Lines.{is_separator, before_last_piece, closed_lines}
use Rattle.jp_model.proofs.Pieces.{pieces_some}
use Rattle.jp_listed.specs.Hashes.{hash_of}
use Rattle.jp_listed.specs.Slots.{text_at, texts_at, IsHashed}
use Rattle.jp_listed.specs.declared.slot.Slot.{Slot}

clear : (bytes : List ℕ) (n : ℕ) → n ≤ length bytes → Nowhere (Passes (is_byte 10) bytes) 0 n → All (λ byte. is_separator 0x0A byte ≡ false) (take n bytes)
clear bytes n within none k d l =
    let low : k < n = omega (arith, length-take n bytes, l) in
    ap (is_separator 0x0A) (get_or-take n bytes k d low ∙ get_or_default bytes k d 0 (omega (arith, low, within)))
    ∙ false_from_ne_true _ (none k (omega arith) low)

-- the first line, where its line feed is there
pub first_line : (bytes : List ℕ) (n : ℕ) → NoneBefore (Passes (is_byte 10) bytes) 0 (length bytes) n → Passes (is_byte 10) bytes n
    → closed_lines bytes ≡ take n bytes ∷ closed_lines (drop (n + 1) bytes)
first_line bytes n before there =
    let some = pieces_some 0x0A (drop (n + 1) bytes) in
    let rest : drop n bytes ≡ slice_index bytes n ∷ drop (n + 1) bytes = drop-cons bytes n 0 before.high ∙ ap (λ k. slice_index bytes n ∷ drop k bytes) (let e : suc n ≡ n + 1 = omega arith in e) in
    ap closed_lines (sym (take-append-drop n bytes) ∙ ap (λ l. take n bytes ++ l) rest)
    ∙ ap before_last_piece (slice_split_at (is_separator 0x0A) (take n bytes) (slice_index bytes n) (drop (n + 1) bytes) (clear bytes n (omega (arith, before.high)) before.before) there)
    ∙ (ap (λ parts. before_last_piece (take n bytes ∷ parts)) some.2 ∙ ap (λ parts. take n bytes ∷ before_last_piece parts) (sym some.2))

-- no line has its line feed
pub no_line : (bytes : List ℕ) → Nowhere (Passes (is_byte 10) bytes) 0 (length bytes) → closed_lines bytes ≡ []
no_line bytes none =
    ap before_last_piece (slice_split_none (is_separator 0x0A) bytes (λ k d l. ap (is_separator 0x0A) (get_or_default bytes k d 0 l) ∙ false_from_ne_true _ (none k (omega arith) l)))

-- the rest of some bytes, as it is cut off
pub rest_of : (bytes : List ℕ) (start : ℕ) → take (length bytes - start) (drop start bytes) ≡ drop start bytes
rest_of bytes start = take_all (length bytes - start) (drop start bytes) (omega (arith, length-drop start bytes))

-- a slot's text, where it is there
pub text_is : (bytes : List ℕ) (hash start end : ℕ) → start ≤ end → end ≤ length bytes → text_at bytes (record { hash = hash; start = start; end = end }) ≡ take (end - start) (drop start bytes)
text_is bytes hash start end low high = rw (le-leb start end low, le-leb end (length bytes) high) refl

-- one line more was found
pub one_more : (bytes rest : List ℕ) (slots : List Slot) (start n hash : ℕ) → start ≤ length bytes → rest ≡ drop start bytes
    → NoneBefore (Passes (is_byte 10) rest) 0 (length rest) n → Passes (is_byte 10) rest n → hash ≡ hash_of (take ((start + n) - start) (drop start bytes))
    → texts_at bytes slots ++ closed_lines rest ≡ closed_lines bytes → All (IsHashed bytes) slots
    → (texts_at bytes (slots ++ record { hash = hash; start = start; end = start + n } ∷ []) ++ closed_lines (drop (start + n + 1) bytes) ≡ closed_lines bytes)
    × All (IsHashed bytes) (slots ++ record { hash = hash; start = start; end = start + n } ∷ []) × (start + n + 1 ≤ length bytes)
one_more bytes rest slots start n hash within is before there hashed came all =
    let slot : Slot = record { hash = hash; start = start; end = start + n } in
    let long : length rest + start ≡ length bytes = ap (λ (l : List ℕ). length l + start) is ∙ (let e : length (drop start bytes) + start ≡ length bytes = omega (arith, length-drop start bytes, within) in e) in
    let size : (start + n) - start ≡ n = omega arith in
    let same : text_at bytes slot ≡ take ((start + n) - start) (drop start bytes) = text_is bytes hash start (start + n) (omega arith) (omega (arith, before.high, long)) in
    let text : text_at bytes slot ≡ take n rest = same ∙ ap₂ (λ m l. take m l) size (sym is) in
    let behind : drop (n + 1) rest ≡ drop (start + n + 1) bytes = ap (drop (n + 1)) is ∙ drop-drop (n + 1) start bytes ∙ ap (λ k. drop k bytes) (let e : start + (n + 1) ≡ start + n + 1 = omega arith in e) in (
      ap (λ l. l ++ closed_lines (drop (start + n + 1) bytes)) (map-append (text_at bytes) slots (slot ∷ []))
          ∙ append_assoc (texts_at bytes slots) (text_at bytes slot ∷ []) (closed_lines (drop (start + n + 1) bytes))
          ∙ ap₂ (λ t l. texts_at bytes slots ++ t ∷ l) text (ap closed_lines (sym behind))
          ∙ ap (λ l. texts_at bytes slots ++ l) (sym (first_line rest n before there))
          ∙ came,
      All-append (IsHashed bytes) slots (slot ∷ []) all (All-cons (IsHashed bytes) slot [] (hashed ∙ ap hash_of (sym same)) (All-nil (IsHashed bytes))),
      omega (arith, before.high, long),
    )
