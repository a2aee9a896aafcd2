-- Entries that are listed.
use Rattle.std.proofs.Common.{◌≡◌, ◌∙◌, List, [], ◌∷◌, ◌++◌, append_assoc, ap, sym}

-- one more is listed of those that are left
pub listed_more : {E : Type 0} (was now : List E) (first : E) (left rest all : List E) → was ++ left ≡ all → left ≡ first ∷ rest → now ≡ was ++ first ∷ [] → now ++ rest ≡ all
listed_more was now first left rest all before is more = ap (λ l. l ++ rest) more ∙ (append_assoc was (first ∷ []) rest ∙ (ap (λ l. was ++ l) (sym is) ∙ before))
