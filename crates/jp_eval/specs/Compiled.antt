-- What a compiled query and a compiled expression mean.
use Rattle.jp_model.specs.Query.Syntax.{Logical, Segments}
use Rattle.jp_eval.specs.Programs.{table_of, condition_view, steps_view}
use Rattle.jp_eval.specs.declared.evaluate.Program.{Program}
use Rattle.jp_eval.specs.declared.predicate.Predicate.{Predicate}

-- the segments that it was compiled from
abbrev pub program_view : Program → Segments
program_view p = steps_view (table_of p.slots.items) p.steps.items

-- the expression that it was compiled from
abbrev pub predicate_view : Predicate → Logical
predicate_view p = condition_view (table_of p.slots.items) p.condition
