-- The rows so far are those of the first places, after the old ones.
use Rattle.std.proofs.Common.{◌≡◌, ◌++◌, ℕ, List, map, take}
use Rattle.std.specs.Prelude.{All}
use Rattle.jp_plan.specs.ByLine.{at_place, found_row, IsOfItsLine}
use Rattle.jp_plan.specs.Found.{rows_view, AreOnTheirLines}
use Rattle.jp_plan.proofs.rows.push_nodes.Given as goal

abbrev pub invariant-loop-place : goal.invariant-loop-place
invariant-loop-place l = record {
  rows : rows_view l.rows.items ≡ rows_view l.initial.rows.items ++ map found_row (map (at_place l.line l.view) (take l.place-index l.places));
  lines : (lines : List (List ℕ)) → All (λ place. IsOfItsLine lines (at_place l.line l.view place)) l.places → AreOnTheirLines lines l.initial.rows.items → AreOnTheirLines lines l.rows.items;
}
