-- All places but the root are left.
use Rattle.std.proofs.Common.{◌≡◌, ℕ, ◌<◌, None, Some, length}
use Rattle.jp_survey.specs.Movings.{moved_to}
use Rattle.jp_survey.proofs.folding.Moving.new.Given as goal

abbrev pub invariant-loop-place : goal.invariant-loop-place
invariant-loop-place l = record {
  many : length l.places.items ≡ l._place;
  root : moved_to l.places.items 0 ≡ Some 0;
  rest : (k : ℕ) → 0 < k → moved_to l.places.items k ≡ None;
}
