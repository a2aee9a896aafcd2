-- A builder that has read nothing.
use Rattle.std.specs.Prelude.{◌≡◌, [], None}
use Rattle.jp_tape.specs.declared.builder.Builder.{Builder}

-- the builder has read nothing of a line
pub record IsFresh (b : Builder) : Type 0 where
  pub words : b.nodes.words.items ≡ []
  pub opened : (b.stack.items ≡ []) × (b.nodes.container ≡ 0)
  pub names : b.nodes.names.items ≡ []
  pub later : b.nodes.later ≡ None
