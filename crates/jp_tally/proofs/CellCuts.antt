-- A row around its tabs.
use Rattle.std.proofs.Common.{◌≡◌, ◌∙◌, ℕ, zero, List, [], ◌∷◌, ◌++◌, append_assoc, append-nil, take, drop, sym, ap, refl, arith, true, false, Bool, if◌then◌else◌}
use Rattle.std.specs.Prelude.{◌==◌, suc, Some, None}
use Rattle.memchr.specs.Find.{IsFirstByte, is_byte}
use Rattle.jp_tally.specs.Texts.{cells_behind, cells_of}

not_true : (b : Bool) → (b ≡ true → ⊥) → b ≡ false
not_true true h = absurd (h refl)
not_true false h = refl

passed : (front : List ℕ) (b : ℕ) (rest : List ℕ) → (b == 0x09) ≡ false → cells_behind front (b ∷ rest) ≡ cells_behind (front ++ b ∷ []) rest
passed front b rest e = ap (λ t. if t then front ∷ cells_behind [] rest else cells_behind (front ++ b ∷ []) rest) e

-- with no tab there is one cell
pub one_cell : (front row : List ℕ) → IsFirstByte (is_byte 9) row None → cells_behind front row ≡ (front ++ row) ∷ []
one_cell front [] h = ap (λ l. l ∷ []) (sym (append-nil front))
one_cell front (b ∷ rest) h =
    passed front b rest (not_true (b == 0x09) (h 0 (omega arith) (omega arith)))
    ∙ (one_cell (front ++ b ∷ []) rest (λ k l m t. h (suc k) (omega arith) (omega arith) t) ∙ ap (λ l. l ∷ []) (append_assoc front (b ∷ []) rest))

-- the first tab ends the first cell
pub cell_cut : (front row : List ℕ) (at : ℕ) → IsFirstByte (is_byte 9) row (Some at) → cells_behind front row ≡ (front ++ take at row) ∷ cells_of (drop (suc at) row)
cell_cut front [] at h = absurd (let l = h.0.high in omega arith)
cell_cut front (b ∷ rest) zero h =
    ap (λ t. if t then front ∷ cells_behind [] rest else cells_behind (front ++ b ∷ []) rest) h.1 ∙ ap (λ l. l ∷ cells_of rest) (sym (append-nil front))
cell_cut front (b ∷ rest) (suc at) h =
    passed front b rest (not_true (b == 0x09) (h.0.before 0 (omega arith) (omega arith)))
    ∙ (cell_cut (front ++ b ∷ []) rest at (record { low = omega arith; high = let l = h.0.high in omega arith; before = λ k l m t. h.0.before (suc k) (omega arith) (omega arith) t }, h.1)
    ∙ ap (λ l. l ∷ cells_of (drop (suc at) rest)) (append_assoc front (b ∷ []) (take at rest)))
