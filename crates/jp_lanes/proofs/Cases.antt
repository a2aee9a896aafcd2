-- What holds of each three truth values.
use Rattle.std.proofs.Common.{Bool, true, false}

-- it is enough to show it of the eight
pub of_three : (P : Bool → Bool → Bool → Type 0) → P true true true → P true true false → P true false true → P true false false → P false true true → P false true false → P false false true → P false false false
    → (a b c : Bool) → P a b c
of_three P p q r s t u v w true true true = p
of_three P p q r s t u v w true true false = q
of_three P p q r s t u v w true false true = r
of_three P p q r s t u v w true false false = s
of_three P p q r s t u v w false true true = t
of_three P p q r s t u v w false true false = u
of_three P p q r s t u v w false false true = v
of_three P p q r s t u v w false false false = w
