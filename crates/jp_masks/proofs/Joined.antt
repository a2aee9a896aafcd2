-- Pieces that are joined.
use Rattle.std.proofs.Common.{◌≡◌, ℕ, List, ◌++◌, sym, ap, ap₂, ◌∙◌, append_assoc}

-- held bytes, those that make the block whole, whole blocks, and the rest
pub joined : (text piece whole held first blocks rest : List ℕ) → text ≡ whole ++ held → first ++ (blocks ++ rest) ≡ piece → text ++ piece ≡ ((whole ++ (held ++ first)) ++ blocks) ++ rest
joined text piece whole held first blocks rest e f =
    ap₂ (λ (x y : List ℕ). x ++ y) e (sym f) ∙ append_assoc whole held (first ++ (blocks ++ rest))
    ∙ ap (λ l. whole ++ l) (sym (append_assoc held first (blocks ++ rest)))
    ∙ sym (append_assoc whole (held ++ first) (blocks ++ rest)) ∙ sym (append_assoc (whole ++ (held ++ first)) blocks rest)
