-- What the status of a line says of its tree.
use Rattle.std.proofs.Common.{◌≡◌, ℕ, List, refl, true, false, Bool, Option, Some, None}
use Rattle.std.specs.Prelude.{cond, nat_lt}
use Rattle.jp_model.specs.declared.Framing.{Framing}
use Rattle.jp_model.specs.declared.LineFault.{LineFault}
use Rattle.jp_model.specs.declared.LineFault.TheVariants as faults
use Rattle.jp_model.specs.Json.Tree.{Tree}
use Rattle.jp_model.specs.Json.Faults.{depth, has_surrogate, has_long_exponent, has_duplicate, is_truncated}
use Rattle.jp_model.specs.Json.Status.{fault_of_tree}

-- where the test is told by a fault, and there is none, it fails, and so the others tell
unless_told : (b : Bool) (fault : LineFault) (rest : Option LineFault) → cond b (Some fault) rest ≡ None → (b ≡ false) × (rest ≡ None)
unless_told true fault rest h = absurd (cc)
unless_told false fault rest h = (refl, h)

-- a tree without a fault has no lone surrogate, no equal names and no long exponent
pub without_fault : (framing : Framing) (line : List ℕ) (t : Tree) → fault_of_tree framing line t ≡ None → (has_surrogate t ≡ false) × (has_duplicate t ≡ false) × (has_long_exponent line t ≡ false)
without_fault framing line t h =
    let truncated = unless_told (is_truncated framing line t) faults.Truncated _ h in
    let deep = unless_told (nat_lt 512 (depth t)) faults.Depth _ truncated.1 in
    let halves = unless_told (has_surrogate t) faults.Surrogate _ deep.1 in
    let long = unless_told (has_long_exponent line t) faults.Number _ halves.1 in
    let twice = unless_told (has_duplicate t) faults.Duplicate _ long.1 in
    (halves.0, twice.0, long.0)
