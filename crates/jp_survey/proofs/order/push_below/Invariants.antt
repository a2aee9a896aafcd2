-- So many places were added, and those that wait do so in their order.
use Rattle.std.proofs.Common.{ℕ, ◌<◌, List, length}
use Rattle.jp_survey.specs.Places.{ArePlaces, path_at, paths_of}
use Rattle.jp_survey.specs.Walked.{AreBelow, AreWaiting, IsLeftOf, OfLast}
use Rattle.jp_survey.specs.declared.links.Link.{Link}
use Rattle.jp_survey.proofs.Waiting.{AreAdded}
use Rattle.jp_survey.proofs.order.push_below.Given as goal

abbrev pub invariant-loop-turn : goal.invariant-loop-turn
invariant-loop-turn l = record {
  added : AreAdded l.list l.place l.initial.waiting.items l.waiting.items l.end l.turn;
  waiting : (names : List (List ℕ)) (links : List Link) → ArePlaces names links → AreBelow names links l.list → l.place < length links
      → AreWaiting (paths_of names links) l.initial.waiting.items → OfLast (IsLeftOf (path_at (paths_of names links) l.place)) (paths_of names links) l.initial.waiting.items
      → AreWaiting (paths_of names links) l.waiting.items;
}
