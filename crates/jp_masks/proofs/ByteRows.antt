-- A table of the set bits of each byte, and the positions that are written by it.
use Rattle.std.proofs.Common.{◌≡◌, ℕ, zero, suc, ◌+◌, ◌<◌, ◌≤◌, ◌%◌, ◌^◌, ◌==◌, ◌&&◌, Bool, true, false, List, [], ◌∷◌, ◌++◌, length, take, drop, get_or, map, replicate, refl, sym, ap, ap₂, subst, ◌∙◌, arith}
use Rattle.std.proofs.lemmas.Bool.{and_parts, eqb-true, false≢true}
use Rattle.std.proofs.lemmas.List.{take-append-le, length-take, length-take-le}
use Rattle.std.proofs.lemmas.Simd.{put_chunk_is}
use Rattle.std.proofs.Math.Seq.{take-append-add}
use lib.Count.{ones, ones_in}
use lib.Lanes.{put_chunk, zip2}
use Rattle.jp_lanes.specs.Word.{bit}
use Rattle.jp_masks.specs.Positions.{byte_bits, HasByteBits}

-- ---- the rows of a table

abbrev same : List ℕ → List ℕ → Bool
same [] [] = true
same [] (y ∷ ys) = false
same (x ∷ xs) [] = false
same (x ∷ xs) (y ∷ ys) = (x == y) && same xs ys

same_is : (xs ys : List ℕ) → same xs ys ≡ true → xs ≡ ys
same_is [] [] h = refl
same_is [] (y ∷ ys) h = absurd (false≢true h)
same_is (x ∷ xs) [] h = absurd (false≢true h)
same_is (x ∷ xs) (y ∷ ys) h = let p = and_parts (x == y) (same xs ys) h in ap₂ (λ a rest. a ∷ rest) (eqb-true x y p.0) (same_is xs ys p.1)

-- a row begins with the numbers of its byte's set bits
abbrev pub row_is : ℕ → List ℕ → Bool
row_is byte row = same (take (ones byte) row) (byte_bits byte)

-- the same of the rows from a byte on
unfoldable pub rows_are : ℕ → List (List ℕ) → Bool
rows_are byte [] = true
rows_are byte (row ∷ rows) = row_is byte row && rows_are (suc byte) rows

row_at : (byte : ℕ) (rows : List (List ℕ)) (i k : ℕ) (d : List ℕ) → k ≡ byte + i → rows_are byte rows ≡ true → i < length rows → row_is k (get_or rows i d) ≡ true
unfolding rows_are
row_at byte [] i k d e h l = absurd (omega (arith, l))
row_at byte (row ∷ rows) zero k d e h l =
    let here : k ≡ byte = omega (arith, e) in
    ap (λ n. row_is n row) here ∙ (and_parts (row_is byte row) (rows_are (suc byte) rows) h).0
row_at byte (row ∷ rows) (suc i) k d e h l = row_at (suc byte) rows i k d (omega (arith, e)) (and_parts (row_is byte row) (rows_are (suc byte) rows) h).1 (omega (arith, l))

-- ---- how many bits a byte has

abbrev counts : ℕ → ℕ → Bool
counts byte zero = true
counts byte (suc n) = (ones byte == length (byte_bits byte)) && counts (suc byte) n

count_at : (byte n i k : ℕ) → k ≡ byte + i → counts byte n ≡ true → i < n → ones k ≡ length (byte_bits k)
count_at byte zero i k e h l = absurd (omega (arith, l))
count_at byte (suc n) zero k e h l =
    let here : byte ≡ k = omega (arith, e) in
    subst (λ b. ones b ≡ length (byte_bits b)) here (eqb-true (ones byte) (length (byte_bits byte)) (and_parts (ones byte == length (byte_bits byte)) (counts (suc byte) n) h).0)
count_at byte (suc n) (suc i) k e h l = count_at (suc byte) n i k (omega (arith, e)) (and_parts (ones byte == length (byte_bits byte)) (counts (suc byte) n) h).1 (omega (arith, l))

all_counts : counts 0 256 ≡ true
unfolding ones ones_in byte_bits bit
all_counts = refl

pub count_of : (byte : ℕ) → byte < 256 → ones byte ≡ length (byte_bits byte)
count_of byte l = count_at 0 256 byte byte (omega arith) all_counts l

-- the rows are told by a test that computes
pub table_of : (rows : List (List ℕ)) → length rows ≡ 256 → rows_are 0 rows ≡ true → HasByteBits rows
unfolding HasByteBits
table_of rows n h byte l = ap (λ k. take k (get_or rows byte [])) (sym (count_of byte l)) ∙ same_is _ _ (row_at 0 rows byte byte [] (omega arith) h (omega (arith, l, n)))

-- ---- what is written by a row

-- the first of pairs with one number
zip_front : (g : ℕ → ℕ → ℕ) (h : ℕ → ℕ) (base n m : ℕ) (row : List ℕ) → length row ≡ m → take n (zip2 g (map h row) (replicate m base)) ≡ map (λ i. g (h i) base) (take n row)
zip_front g h base zero m [] e = refl
zip_front g h base zero m (x ∷ xs) e = refl
zip_front g h base (suc n) zero [] e = refl
zip_front g h base (suc n) zero (x ∷ xs) e = absurd (omega (arith, e))
zip_front g h base (suc n) (suc m) [] e = absurd (omega (arith, e))
zip_front g h base (suc n) (suc m) (x ∷ xs) e = ap (λ rest. g (h x) base ∷ rest) (zip_front g h base n m xs (omega (arith, e)))

zip_long : (g : ℕ → ℕ → ℕ) (h : ℕ → ℕ) (base m : ℕ) (row : List ℕ) → length row ≡ m → length (zip2 g (map h row) (replicate m base)) ≡ m
zip_long g h base zero [] e = refl
zip_long g h base zero (x ∷ xs) e = absurd (omega (arith, e))
zip_long g h base (suc m) [] e = absurd (omega (arith, e))
zip_long g h base (suc m) (x ∷ xs) e = ap suc (zip_long g h base m xs (omega (arith, e)))

pub row_written : (g : ℕ → ℕ → ℕ) (h : ℕ → ℕ) (at base byte : ℕ) (positions row : List ℕ) → byte < 256 → length row ≡ 8 → take (length (byte_bits byte)) row ≡ byte_bits byte → at + 8 ≤ length positions → ((i : ℕ) → g (h i) base ≡ (base + i) % 2 ^ 32)
    → take (at + ones byte) (put_chunk at positions (zip2 g (map h row) (replicate 8 base))) ≡ take at positions ++ map (λ i. (base + i) % 2 ^ 32) (byte_bits byte)
row_written g h at base byte positions row b wide bits room same_lane =
    let ys = zip2 g (map h row) (replicate 8 base) in
    let front = take at positions in
    let rest = drop (length ys) (drop at positions) in
    let n = ones byte in
    let long : length ys ≡ 8 = zip_long g h base 8 row wide in
    let count = count_of byte b in
    let numbers : take (ones byte) row ≡ byte_bits byte = ap (λ k. take k row) count ∙ bits in
    let taken = ap length bits in
    let cut = length-take (length (byte_bits byte)) row in
    let few : ones byte ≤ 8 = omega (arith, taken, cut, count, wide) in
    let size : length front ≡ at = length-take-le at positions (omega (arith, room)) in
    ap (take (at + n)) (put_chunk_is at positions ys (omega (arith, long, room)))
    ∙ ap (λ k. take (k + n) (front ++ (ys ++ rest))) (sym size)
    ∙ take-append-add front (ys ++ rest) n
    ∙ ap (λ x. front ++ x) (take-append-le n ys rest (omega (arith, long, few)) ∙ zip_front g h base n 8 row wide ∙ ap (map (λ i. g (h i) base)) numbers ∙ (λ t. map (λ i. same_lane i t) (byte_bits byte)))
