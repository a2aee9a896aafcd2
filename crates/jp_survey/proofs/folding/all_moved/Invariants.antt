-- The places so far are those that have moved.
use Rattle.std.proofs.Common.{◌≡◌, ℕ, Some, map, take}
use Rattle.jp_survey.proofs.folding.all_moved.Given as goal

abbrev pub invariant-loop-place : goal.invariant-loop-place
invariant-loop-place l = map (λ (p : ℕ). Some p) l.all.items ≡ take l.place-index l.places
