-- What an append that did not fail left.
use Rattle.std.proofs.Common.{◌≡◌, ◌∙◌, ◌++◌, List, ℕ, ap, Result, Ok, Err, is_ok, OnOk}
use Rattle.std.specs.Prelude.{if◌then◌else◌}

-- what an `extend_from_slice` that did not fail appended
pub ok_items : {A E : Type 0} (r : Result A E) (was now xs ys : List ℕ) → now ≡ (if is_ok r then was ++ xs else was) → xs ≡ ys → OnOk r (now ≡ was ++ ys)
ok_items (Ok x) was now xs ys e is = e ∙ ap (λ l. was ++ l) is
ok_items (Err f) was now xs ys e is = tt

-- the same where that and what was appended before is known
pub ok_items_from : {A E : Type 0} (r : Result A E) (was now xs all : List ℕ) → now ≡ (if is_ok r then was ++ xs else was) → was ++ xs ≡ all → OnOk r (now ≡ all)
ok_items_from (Ok x) was now xs all e is = e ∙ is
ok_items_from (Err f) was now xs all e is = tt
