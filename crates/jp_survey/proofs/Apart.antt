-- Each path is that of one place.
use Rattle.std.proofs.Common.{◌∙◌, ℕ, ◌<◌, List, [], length, ap, sym, arith}
use Rattle.std.specs.List.{IsDistinct}
use Rattle.std.proofs.lemmas.List.{get_or_default}
use Rattle.std.proofs.lemmas.Map.Made.{IsDistinct-from_AllPairs}
use Rattle.jp_survey.specs.Paths.{path_equal}
use Rattle.jp_survey.specs.Places.{ArePlaces, paths_of}
use Rattle.jp_survey.specs.declared.links.Link.{Link}
use Rattle.jp_survey.proofs.Equalities.{path_itself, path_same}
use Rattle.jp_survey.proofs.Places.{many_paths}

pub paths_apart : (names : List (List ℕ)) (links : List Link) → ArePlaces names links → IsDistinct path_equal (paths_of names links)
paths_apart names links h =
    let paths = paths_of names links in
    let many = many_paths names links h in
    IsDistinct-from_AllPairs (λ a b. (path_same a b, λ e. ap (path_equal a) (sym e) ∙ path_itself a)) paths
    (λ i j d low l e.
    let first : i < length paths = omega (arith, low, l) in
    let one = h.distinct_paths i j (omega (arith, low, l, many)) (omega (arith, l, many)) (get_or_default paths i [] d first ∙ e ∙ get_or_default paths j d [] l) in
    omega (arith, one, low))
