-- The calls of functions whose answer is a value (RFC 9535, sections 2.4.4, 2.4.5 and 2.4.8).
use Rattle.std.specs.Prelude.{codes}
use Rattle.jp_model.specs.Query.Syntax.{Argument, Call, call, argument, no_arguments, nodes_argument, Path}
use Rattle.jp_syntax.specs.View.{argument_view, path_view}
use Rattle.jp_eval.specs.declared.calls.ValueCall.{ValueCall}
use Rattle.jp_eval.specs.declared.calls.ValueCall.TheVariants as calls

-- how long a value is, how many nodes there are, and the value of the only one
abbrev pub length_call : Argument → Call
length_call a = call (codes "length") (argument a no_arguments)

abbrev pub count_call : Path → Call
count_call p = call (codes "count") (argument (nodes_argument p) no_arguments)

abbrev pub value_call : Path → Call
value_call p = call (codes "value") (argument (nodes_argument p) no_arguments)

-- the call that was told apart
abbrev pub called : ValueCall → Call
called (calls.Length a) = length_call (argument_view a.now)
called (calls.Count p) = count_call (path_view p.now)
called (calls.Value p) = value_call (path_view p.now)
