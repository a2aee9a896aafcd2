-- The pieces of a summary.
use Rattle.std.proofs.Common.{◌≡◌, ℕ, List, ◌++◌, append_assoc, decimal, codes}
use Rattle.jp_model.specs.Rows.{line_feed}
use Rattle.jp_model.specs.Script.Machine.{said}

abbrev pub counted : List ℕ → ℕ → List ℕ
counted words n = words ++ decimal n

regroup : (x a y b z c w l : List ℕ) → (x ++ a ++ y ++ b ++ z ++ c ++ w) ++ l ≡ (x ++ a) ++ ((y ++ b) ++ ((z ++ c) ++ (w ++ l)))
regroup x a y b z c w l = simp append_assoc

-- the whole summary, piece by piece
pub summary_is : (l r b : ℕ) → said (codes "= " ++ decimal l ++ codes " lines, " ++ decimal r ++ codes " refused, " ++ decimal b ++ codes " blank")
    ≡ counted (codes "= ") l ++ (counted (codes " lines, ") r ++ (counted (codes " refused, ") b ++ codes " blank\n"))
summary_is l r b = regroup (codes "= ") (decimal l) (codes " lines, ") (decimal r) (codes " refused, ") (decimal b) (codes " blank") line_feed
