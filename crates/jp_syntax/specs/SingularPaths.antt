-- Steps of singular queries, as the program has them.
use Rattle.std.specs.Prelude.{List, map, chars, string_bytes}
use Rattle.jp_model.specs.Steps as model
use Rattle.jp_syntax.specs.declared.paths.SingularPath.{SingularPath}
use Rattle.jp_syntax.specs.declared.paths.Step.{Step}
use Rattle.jp_syntax.specs.declared.paths.Step.TheVariants as steps

-- a name as its scalars, or an index (RFC 9535, section 2.3.5.1)
abbrev pub step_view : Step → model.Step
step_view (steps.Name x) = model.name_step (chars (string_bytes x))
step_view (steps.Index i) = model.index_step i

-- the steps, in order
abbrev pub path_steps : SingularPath → List model.Step
path_steps p = map step_view p.steps.items
