-- The root is the only place on it.
use Rattle.std.proofs.Common.{◌∙◌, ℕ, List, [], ◌∷◌, ◌++◌, ap, subst, sym}
use Rattle.jp_survey.specs.Entries.{path_of_listed}
use Rattle.jp_survey.specs.Paths.{Path}
use Rattle.jp_survey.specs.Places.{paths_of}
use Rattle.jp_survey.specs.Walked.{IsWayOf}
use Rattle.jp_survey.proofs.Ways.{way_root}
use Rattle.jp_survey.proofs.listing.Way.new.Goals as goal

pub returns : goal.returns
returns c names links h =
    subst (λ (places : List ℕ). IsWayOf (paths_of names links) places (path_of_listed c.new.result.items)) (sym (c.in_ok-push.ensures.items ∙ ap (λ (l : List ℕ). l ++ 0 ∷ []) c.new-places.ensures.items))
    (subst (λ (path : Path). IsWayOf (paths_of names links) (0 ∷ []) path) (sym (ap path_of_listed c.new.ensures.items)) (way_root names links h))
