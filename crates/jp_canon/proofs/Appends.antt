-- Texts appended one after another.
use Rattle.std.proofs.Common.{◌≡◌, ℕ, List, ◌++◌, ◌∙◌, ap, cond, append_assoc, Result, Ok, Err}
use Rattle.std.specs.Result.{OnOk, is_ok}

pub both_appended : (a b old mid new : List ℕ) → mid ≡ old ++ a → new ≡ mid ++ b → new ≡ old ++ (a ++ b)
both_appended a b old mid new e f = f ∙ (ap (λ t. t ++ b) e ∙ append_assoc old a b)

-- the second by a call that may have failed
pub last_appended : {X E : Type 0} (r : Result X E) (a b old mid new : List ℕ) → mid ≡ old ++ a → OnOk r (new ≡ mid ++ b) → OnOk r (new ≡ old ++ (a ++ b))
last_appended (Ok x) a b old mid new e f = both_appended a b old mid new e f
last_appended (Err x) a b old mid new e f = tt

-- what a vector contains that was given bytes
pub bytes_appended : {X E : Type 0} (r : Result X E) (bytes all old new : List ℕ) → new ≡ cond (is_ok r) (old ++ bytes) old → bytes ≡ all → OnOk r (new ≡ old ++ all)
bytes_appended (Ok x) bytes all old new e f = e ∙ ap (λ t. old ++ t) f
bytes_appended (Err x) bytes all old new e f = tt

-- the same text by another name
pub text_is : {X E : Type 0} (r : Result X E) (text all old new : List ℕ) → text ≡ all → OnOk r (new ≡ old ++ text) → OnOk r (new ≡ old ++ all)
text_is (Ok x) text all old new e f = f ∙ ap (λ t. old ++ t) e
text_is (Err x) text all old new e f = tt
