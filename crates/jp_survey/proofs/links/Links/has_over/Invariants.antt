-- No place so far is over.
use Rattle.std.proofs.Common.{◌≡◌, ℕ, ◌<◌, false}
use Rattle.jp_survey.specs.Foldings.{is_over}
use Rattle.jp_survey.proofs.links.Links.has_over.Given as goal

abbrev pub invariant-loop-place : goal.invariant-loop-place
invariant-loop-place l = (k : ℕ) → k < l.place → is_over l.fold l.self.links.keys k ≡ false
