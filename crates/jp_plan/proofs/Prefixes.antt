-- A seek begins the query.
use Rattle.std.proofs.Common.{◌≡◌, List, true, Option, Some, None, is_some, sym, subst, ◌∙◌}
use Rattle.jp_model.proofs.Opened.{seek_is_prefix}
use Rattle.jp_model.specs.Plans.{leading_steps, seek_of}
use Rattle.jp_model.specs.Query.Syntax.{Segments}
use Rattle.jp_model.specs.Steps.{Step}
use Rattle.jp_plan.specs.Behind.{segments_behind}
use Rattle.jp_plan.proofs.Steps.{behind_is_prefix}

-- there is a rest after it
pub rest_there : (paths : List (List Step)) (q : Segments) (p : List Step) → seek_of paths (leading_steps q) ≡ Some p → None ≡ segments_behind p q → ⊥
rest_there paths q p e h =
    let some : is_some (segments_behind p q) ≡ true = behind_is_prefix p q ∙ seek_is_prefix paths (leading_steps q) p e in
    let none = subst (λ (o : Option Segments). is_some o ≡ true) (sym h) some in
    absurd (cc)
