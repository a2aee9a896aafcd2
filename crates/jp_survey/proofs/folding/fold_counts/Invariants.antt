-- New places have no node, and then those of the places so far.
use Rattle.std.proofs.Common.{◌≡◌, length, replicate}
use Rattle.jp_survey.specs.Counts.{Joined, no_counts}
use Rattle.jp_survey.proofs.folding.fold_counts.Given as goal

abbrev pub invariant-loop-place : goal.invariant-loop-place
invariant-loop-place l = l.folded.places.items ≡ replicate l._place no_counts

abbrev pub invariant-loop-place-2 : goal.invariant-loop-place-2
invariant-loop-place-2 l = record {
  joined : Joined l.counts.places.items l.folded.places.items l.places l.place;
  many : length l.folded.places.items ≡ l.most;
}
