-- A condition that was checked.
use Rattle.jp_model.specs.Query.Syntax.{Logical}
use Rattle.jp_syntax.specs.Queries.{condition_view}
use Rattle.jp_types.specs.declared.condition.CheckedCondition.{CheckedCondition}

-- its expression
abbrev pub checked_condition_view : CheckedCondition → Logical
checked_condition_view c = condition_view c.condition
