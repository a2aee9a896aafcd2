-- The places so far are listed, each by its number.
use Rattle.std.proofs.Common.{◌≡◌, ℕ, ◌+◌, ◌<◌, length, get_or}
use Rattle.std.specs.Prelude.{All}
use Rattle.jp_survey.specs.Places.{names_in}
use Rattle.jp_survey.specs.Walked.{IsBelow}
use Rattle.jp_survey.specs.declared.order.Below.{Below}
use Rattle.jp_survey.proofs.order.list_below.Given as goal

abbrev pub invariant-loop-place : goal.invariant-loop-place
invariant-loop-place l = record {
  many : length l.list.items + 1 ≡ l.place;
  each : All (IsBelow (names_in l.names.keys) l.links.links.keys) l.list.items;
  numbered : (i : ℕ) (d : Below) → i < length l.list.items → (get_or l.list.items i d).place ≡ i + 1;
}
