-- The lines that list paths.
use Rattle.std.specs.Prelude.{ℕ, List, flat_map}
use Rattle.jp_model.specs.Steps.{Step}
use Rattle.jp_model.specs.Meaning.Paths.{path_text}
use Rattle.jp_model.specs.Script.Machine.{said}

-- each path as a line
abbrev pub listed : List (List Step) → List ℕ
listed paths = flat_map (λ p. said (path_text p)) paths
