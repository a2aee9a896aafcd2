-- The kinds of nodes.
use Rattle.std.proofs.Common.{◌≡◌, refl, true, false}
use Rattle.jp_model.specs.Json.Tree.{Value, null, boolean, number, string, container, array, object}
use Rattle.jp_nodes.specs.Kinds as tape
use Rattle.jp_survey.specs.Paths.{kind_of, sort_of}

-- the kinds that a tape tells apart are those of values
pub sorts_are : (v : Value) → sort_of (tape.kind_of v) ≡ kind_of v
sorts_are null = refl
sorts_are (boolean true) = refl
sorts_are (boolean false) = refl
sorts_are (number m e) = refl
sorts_are (string points) = refl
sorts_are (container array children) = refl
sorts_are (container object children) = refl
