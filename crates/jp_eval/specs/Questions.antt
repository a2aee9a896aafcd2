-- What a filter asks of the nodes of a query, beside what it spells.
use Rattle.std.specs.Prelude.{◌==◌, ℕ, List, length, Bool, true, false, not, Some, codes}
use Rattle.jp_model.specs.Meaning.Compare.{compared}
use Rattle.jp_model.specs.Meaning.Functions.{in_pattern, literal_value, single_value}
use Rattle.jp_model.specs.Meaning.Nodes.{Node}
use Rattle.jp_model.specs.Query.Syntax as syntax
use Rattle.jp_syntax.specs.View.{literal_view, op_view}
use Rattle.jp_eval.specs.Functions.{passing}
use Rattle.jp_eval.specs.declared.question.Question.{Question}
use Rattle.jp_eval.specs.declared.question.Question.TheVariants as questions

-- the name of the function that takes all of a text, or a part of it (RFC 9535, sections 2.4.6 and 2.4.7)
abbrev pub passing_name : Bool → List ℕ
passing_name true = codes "match"
passing_name false = codes "search"

-- the expression that asks so of a query
abbrev pub question_view : Question → syntax.Path → syntax.Logical
question_view questions.Exists p = syntax.exists p
question_view (questions.Compares op constant) p = syntax.compare (syntax.single p) (op_view op) (syntax.constant (literal_view constant.value.literal))
question_view (questions.Passes whole pattern) p = syntax.test (syntax.call (passing_name whole) (syntax.argument (syntax.nodes_argument p) (syntax.argument (syntax.constant_argument (literal_view pattern.value.constant.literal)) syntax.no_arguments)))

-- the answer of the nodes that the query selects
abbrev pub answered : Question → List Node → Bool
answered questions.Exists found = not (length found == 0)
answered (questions.Compares op constant) found = compared (op_view op) (single_value found) (Some (literal_value (literal_view constant.value.literal)))
answered (questions.Passes whole pattern) found = in_pattern (passing whole) (single_value found) (Some (literal_value (literal_view pattern.value.constant.literal)))
