-- Expressions of several parts.
use Rattle.jp_model.specs.Query.Spelling.{or_of, and_of}
use Rattle.jp_model.specs.Query.Syntax.{Logical, Logicals}
use Rattle.jp_query.specs.declared.parser.expression.Connective.{Connective}
use Rattle.jp_query.specs.declared.parser.expression.Connective.TheVariants as connectives

-- the parts put together: one part stands for itself
abbrev pub joined_by : Connective → Logical → Logicals → Logical
joined_by connectives.And = and_of
joined_by connectives.Or = or_of
