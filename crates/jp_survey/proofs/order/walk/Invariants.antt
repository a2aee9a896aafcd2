-- The places so far are in order, and those that wait follow them.
use Rattle.std.proofs.Common.{◌≡◌, ℕ, ◌+◌, List, length, get_or}
use Rattle.jp_survey.specs.Places.{ArePlaces, path_at, paths_of}
use Rattle.jp_survey.specs.Walked.{AreBelow, AreNext, AreWaiting, IsOrdered}
use Rattle.jp_survey.specs.declared.links.Link.{Link}
use Rattle.jp_survey.proofs.order.walk.Given as goal

abbrev pub invariant-loop-turn : goal.invariant-loop-turn
invariant-loop-turn l = record {
  many : length l.order.items ≡ l._turn;
  ordered : (names : List (List ℕ)) (links : List Link) → ArePlaces names links → AreBelow names links l.list → length l.ends ≡ length links → IsOrdered (paths_of names links) l.order.items;
  waiting : (names : List (List ℕ)) (links : List Link) → ArePlaces names links → AreBelow names links l.list → length l.ends ≡ length links → AreWaiting (paths_of names links) l.waiting.items;
  next : (names : List (List ℕ)) (links : List Link) → ArePlaces names links → AreBelow names links l.list → length l.ends ≡ length links
      → (i : ℕ) → i + 1 ≡ length l.order.items → AreNext (paths_of names links) (path_at (paths_of names links) (get_or l.order.items i 0)) l.waiting.items;
}
