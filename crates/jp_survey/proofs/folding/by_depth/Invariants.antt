-- The places so far are listed, each at its number.
use Rattle.std.proofs.Common.{◌≡◌, ℕ, ◌<◌, List, get_or, length}
use Rattle.jp_survey.specs.Movings.{AreDeep}
use Rattle.jp_survey.specs.Places.{ArePlaces}
use Rattle.jp_survey.specs.declared.folding.Deep.{Deep}
use Rattle.jp_survey.proofs.folding.by_depth.Given as goal

abbrev pub invariant-loop-place : goal.invariant-loop-place
invariant-loop-place l = record {
  many : length l.places.items ≡ l.place;
  numbered : (i : ℕ) (d : Deep) → i < length l.places.items → (get_or l.places.items i d).place ≡ i;
  each : (names : List (List ℕ)) → ArePlaces names l.links.links.keys → AreDeep names l.links.links.keys l.places.items;
}
