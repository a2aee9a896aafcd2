-- What one write after another receives.
use Rattle.std.proofs.Common.{◌≡◌, ℕ, ◌+◌, ◌-◌, ◌≤◌, List, ◌++◌, length, take, drop, Bool, false, ◌||◌, ◌&&◌, eqb, ltb, arith, length-drop}
use Rattle.std.proofs.Math.Seq.{take-append_seam, take-add}
use Rattle.std.proofs.lemmas.List.{take_rest}
use Rattle.std.proofs.lemmas.Bool.{ne_eqb}
use Rattle.jp_devices.specs.Devices.{Begins}

-- the first bytes of a list begin it
pub begins_front : (xs ys : List ℕ) → Begins xs (xs ++ ys)
begins_front xs ys = take-append_seam xs ys

-- a write that took something left the device working
pub still_working : (old new : Bool) (taken size : ℕ) → new ≡ (old || (eqb taken 0 && ltb 0 size)) → old ≡ false → (taken ≡ 0 → ⊥) → new ≡ false
still_working old new taken size e working some = rw (e, working, ne_eqb taken 0 some)

-- one more piece of the text is taken
pub first_taken : (at taken : ℕ) (text : List ℕ) → take (at + taken) text ≡ take at text ++ take taken (take (length text - at) (drop at text))
first_taken at taken text = rw (take_rest text at) (take-add at taken text)

pub taken_within : (at taken : ℕ) (text : List ℕ) → at ≤ length text → taken ≤ length (take (length text - at) (drop at text)) → at + taken ≤ length text
taken_within at taken text within bound =
    let e : taken ≤ length (drop at text) = rw (take_rest text at) at bound in
    omega (arith, length-drop at text)
