-- The way is a way still, and shorter by a step each turn.
use Rattle.std.proofs.Common.{◌≡◌, ◌+◌, List, length}
use Rattle.jp_survey.specs.Paths.{Path}
use Rattle.jp_survey.specs.Walked.{IsWay}
use Rattle.jp_survey.proofs.listing.Way.go_back.Given as goal

abbrev pub invariant-loop-turn : goal.invariant-loop-turn
invariant-loop-turn l = record {
  long : length l.self.path.items + l._turn ≡ length l.initial.self.path.items;
  way : (paths : List Path) → IsWay paths l.initial.self → IsWay paths l.self;
}
