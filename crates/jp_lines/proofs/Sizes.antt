-- The lines of a collection are no more than its bytes, and hold no more than these and one.
use Rattle.std.proofs.Common.{◌≡◌, ◌∙◌, ◌+◌, ◌-◌, ◌≤◌, ℕ, List, [], ◌∷◌, ◌++◌, length, take, drop, sym, ap, subst, refl, arith, true, false, Bool, length-drop, if◌then◌else◌}
use Rattle.std.specs.List.{onto_first}
use Rattle.std.proofs.lemmas.List.Sums.{sum_by-cons}
use Rattle.std.proofs.lemmas.List.Splits.{slice_split-cons_yes, slice_split-cons_no}
use Rattle.jp_model.specs.declared.Framing.{Framing}
use Rattle.jp_model.specs.declared.Framing.TheVariants as framings
use Rattle.jp_model.specs.Characters.{text_equal}
use Rattle.jp_model.specs.Lines.{is_separator, pieces, before_last_piece, last_piece, line_unless_empty, without_empty, lines, without_byte_order_mark}
use Rattle.jp_model.specs.Script.Machine.{bytes_held}
use Rattle.jp_model.proofs.Pieces.{pieces_some}

-- one line more
held-cons : (line : List ℕ) (rest : List (List ℕ)) → bytes_held (line ∷ rest) ≡ length line + 1 + bytes_held rest
held-cons line rest = sum_by-cons (λ l. length l + 1) line rest

pieces_held : (separator : ℕ) (text : List ℕ) → bytes_held (pieces separator text) ≡ length text + 1
pieces_held separator [] = refl
pieces_held separator (byte ∷ bytes) =
    let some = pieces_some separator bytes in
    let later = pieces_held separator bytes in
    let first : bytes_held (pieces separator bytes) ≡ length some.0 + 1 + bytes_held some.1 = ap bytes_held some.2 ∙ held-cons some.0 some.1 in
    elim (is_separator separator byte) as (λ v. is_separator separator byte ≡ v → bytes_held (pieces separator (byte ∷ bytes)) ≡ length (byte ∷ bytes) + 1) [
      | true ↦ λ e. ap bytes_held (slice_split-cons_yes (is_separator separator) byte bytes e) ∙ held-cons [] (pieces separator bytes) ∙ omega (arith, later)
      | false ↦ λ e.
          ap bytes_held (slice_split-cons_no (is_separator separator) byte bytes e) ∙ ap (λ ps. bytes_held (onto_first byte ps)) some.2
          ∙ held-cons (byte ∷ some.0) some.1 ∙ omega (arith, later, first)
    ] refl

-- some lines are few among some pieces
IsFewOf : List (List ℕ) → List (List ℕ) → Type 0
IsFewOf ls ps = (length ls + 1 ≤ bytes_held ps) × (bytes_held ls ≤ bytes_held ps)

-- the lines that some pieces make
abbrev lines_of : List (List ℕ) → List (List ℕ)
lines_of ps = before_last_piece ps ++ line_unless_empty (last_piece ps)

lines_few_of : (first : List ℕ) (rest : List (List ℕ)) → IsFewOf (lines_of (first ∷ rest)) (first ∷ rest)
unfolding IsFewOf
lines_few_of [] [] = (omega arith, omega arith)
lines_few_of (byte ∷ bytes) [] = let one = held-cons (byte ∷ bytes) [] in (omega (arith, one), omega (arith, one))
lines_few_of first (next ∷ rest) =
    let later = lines_few_of next rest in
    let one = held-cons first (next ∷ rest) in
    let other = held-cons first (lines_of (next ∷ rest)) in
    (omega (arith, later.0, one), omega (arith, later.1, one, other))

-- the pieces that are not empty
texts_few : (ps : List (List ℕ)) → (length (without_empty ps) ≤ bytes_held ps) × (bytes_held (without_empty ps) ≤ bytes_held ps)
texts_few [] = (omega arith, omega arith)
texts_few ([] ∷ ps) = let later = texts_few ps in let one = held-cons [] ps in (omega (arith, later.0, one), omega (arith, later.1, one))
texts_few ((byte ∷ bytes) ∷ ps) =
    let later = texts_few ps in
    let one = held-cons (byte ∷ bytes) ps in
    let other = held-cons (byte ∷ bytes) (without_empty ps) in
    (omega (arith, later.0, one), omega (arith, later.1, one, other))

sequence_few_of : (first : List ℕ) (rest : List (List ℕ)) → IsFewOf (without_empty (drop 1 (first ∷ rest))) (first ∷ rest)
unfolding IsFewOf
sequence_few_of first rest =
    let later = texts_few rest in
    let one = held-cons first rest in (omega (arith, later.0, one), omega (arith, later.1, one))

pub mark_shorter : (bytes : List ℕ) → length (without_byte_order_mark bytes) ≤ length bytes
mark_shorter bytes = by_test (text_equal (take 3 bytes) (0xEF ∷ 0xBB ∷ 0xBF ∷ []))
  where
    by_test : (b : Bool) → length (if b then drop 3 bytes else bytes) ≤ length bytes
    by_test true = omega (arith, length-drop 3 bytes)
    by_test false = omega arith

-- where what follows a mark begins
pub behind_mark : (bytes : List ℕ) → drop (length bytes - length (without_byte_order_mark bytes)) bytes ≡ without_byte_order_mark bytes
behind_mark bytes = by_test (text_equal (take 3 bytes) (0xEF ∷ 0xBB ∷ 0xBF ∷ []))
  where
    dropped : (bs : List ℕ) → drop (length bs - (length bs - 3)) bs ≡ drop 3 bs
    dropped [] = refl
    dropped (a ∷ []) = refl
    dropped (a ∷ b ∷ []) = refl
    dropped (a ∷ b ∷ c ∷ bs) = let three : length (a ∷ b ∷ c ∷ bs) - (length (a ∷ b ∷ c ∷ bs) - 3) ≡ 3 = omega arith in ap (λ n. drop n (a ∷ b ∷ c ∷ bs)) three

    by_test : (b : Bool) → drop (length bytes - length (if b then drop 3 bytes else bytes)) bytes ≡ (if b then drop 3 bytes else bytes)
    by_test true = ap (λ n. drop (length bytes - n) bytes) (length-drop 3 bytes) ∙ dropped bytes
    by_test false = let none : length bytes - length bytes ≡ 0 = omega arith in ap (λ n. drop n bytes) none

few_pieces : (framing : Framing) (bytes : List ℕ) (separator : ℕ) → IsFewOf (lines framing bytes) (pieces separator (without_byte_order_mark bytes))
    → (length (lines framing bytes) ≤ length bytes) × (bytes_held (lines framing bytes) ≤ length bytes + 1)
unfolding IsFewOf
few_pieces framing bytes separator few =
    let size = pieces_held separator (without_byte_order_mark bytes) in
    let short = mark_shorter bytes in (omega (arith, few.0, size, short), omega (arith, few.1, size, short))

pub lines_few : (framing : Framing) (bytes : List ℕ) → (length (lines framing bytes) ≤ length bytes) × (bytes_held (lines framing bytes) ≤ length bytes + 1)
lines_few framings.Lines bytes =
    let some = pieces_some 10 (without_byte_order_mark bytes) in
    few_pieces framings.Lines bytes 10 (subst (λ ps. IsFewOf (lines_of ps) ps) (sym some.2) (lines_few_of some.0 some.1))
lines_few framings.Sequence bytes =
    let some = pieces_some 30 (without_byte_order_mark bytes) in
    few_pieces framings.Sequence bytes 30 (subst (λ ps. IsFewOf (without_empty (drop 1 ps)) ps) (sym some.2) (sequence_few_of some.0 some.1))
