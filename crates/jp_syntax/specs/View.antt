-- The syntax tree that a value of the program stands for (RFC 9535, sections 2.1 to 2.4).
use Rattle.std.specs.Prelude.{List, [], ◌∷◌, map, chars, string_bytes}
use Rattle.jp_model.specs.Query.Syntax as syntax
use Rattle.jp_syntax.specs.declared.tree.Segment.{Segment, fold-Segment}
use Rattle.jp_syntax.specs.declared.tree.Logical.{Logical, fold-Logical}
use Rattle.jp_syntax.specs.declared.tree.Selector.{Selector, fold-Selector}
use Rattle.jp_syntax.specs.declared.tree.Comparable.{Comparable, fold-Comparable}
use Rattle.jp_syntax.specs.declared.tree.Argument.{Argument, fold-Argument}
use Rattle.jp_syntax.specs.declared.tree.Call.{Call, fold-Call}
use Rattle.jp_syntax.specs.declared.tree.Path.{Path, fold-Path}
use Rattle.jp_syntax.specs.declared.tree.Argument.TheOpen.{Argument-F, Comparable-F, Logical-F, Segment-F, Selector-F, Call-F, Path-F}
use Rattle.jp_syntax.specs.declared.tree.Literal.{Literal}
use Rattle.jp_syntax.specs.declared.tree.Literal.TheVariants as literals
use Rattle.jp_syntax.specs.declared.tree.Origin.{Origin}
use Rattle.jp_syntax.specs.declared.tree.Origin.TheVariants as origins
use Rattle.jp_syntax.specs.declared.tree.CompareOp.{CompareOp}
use Rattle.jp_syntax.specs.declared.tree.CompareOp.TheVariants as ops

-- ---- the definition's lists

-- segments
abbrev pub segments_of : List syntax.Segment → syntax.Segments
segments_of [] = syntax.no_segments
segments_of (s ∷ ss) = syntax.segment s (segments_of ss)

-- selectors
abbrev pub selectors_of : List syntax.Selector → syntax.Selectors
selectors_of [] = syntax.no_selectors
selectors_of (s ∷ ss) = syntax.selector s (selectors_of ss)

-- parts of a logical expression
abbrev pub logicals_of : List syntax.Logical → syntax.Logicals
logicals_of [] = syntax.no_logicals
logicals_of (l ∷ ls) = syntax.logical l (logicals_of ls)

-- arguments
abbrev pub arguments_of : List syntax.Argument → syntax.Arguments
arguments_of [] = syntax.no_arguments
arguments_of (a ∷ rest) = syntax.argument a (arguments_of rest)

-- ---- the leaves

-- where a query begins
abbrev pub origin_view : Origin → syntax.Origin
origin_view origins.Root = syntax.root
origin_view origins.Current = syntax.current

-- an operator
abbrev pub op_view : CompareOp → syntax.CompareOp
op_view ops.Equal = syntax.equal
op_view ops.NotEqual = syntax.not_equal
op_view ops.Less = syntax.less
op_view ops.LessEqual = syntax.less_equal
op_view ops.Greater = syntax.greater
op_view ops.GreaterEqual = syntax.greater_equal

-- a literal
abbrev pub literal_view : Literal → syntax.Literal
literal_view literals.Null = syntax.null_literal
literal_view literals.False = syntax.false_literal
literal_view literals.True = syntax.true_literal
literal_view (literals.Number x) = syntax.number_literal x.items
literal_view (literals.Text x) = syntax.string_literal (chars (string_bytes x))

-- ---- one level, with what is inside already seen

-- an argument
abbrev pub argument_step : Argument-F syntax.Argument syntax.Comparable syntax.Logical syntax.Segment syntax.Selector syntax.Call syntax.Path → syntax.Argument
argument_step (Argument-F.Argument::Constant c) = syntax.constant_argument (literal_view c)
argument_step (Argument-F.Nodes p) = syntax.nodes_argument p
argument_step (Argument-F.Condition l) = syntax.condition l.value
argument_step (Argument-F.Argument::Result c) = syntax.result_argument c

-- a side of a comparison
abbrev pub comparable_step : Comparable-F syntax.Argument syntax.Comparable syntax.Logical syntax.Segment syntax.Selector syntax.Call syntax.Path → syntax.Comparable
comparable_step (Comparable-F.Comparable::Constant c) = syntax.constant (literal_view c)
comparable_step (Comparable-F.Single p) = syntax.single p
comparable_step (Comparable-F.Comparable::Result c) = syntax.result c

-- a logical expression
abbrev pub logical_step : Logical-F syntax.Argument syntax.Comparable syntax.Logical syntax.Segment syntax.Selector syntax.Call syntax.Path → syntax.Logical
logical_step (Logical-F.Or ls) = syntax.or_all (logicals_of ls.items)
logical_step (Logical-F.And ls) = syntax.and_all (logicals_of ls.items)
logical_step (Logical-F.Not l) = syntax.negated l.value
logical_step (Logical-F.Compare a op b) = syntax.compare a (op_view op) b
logical_step (Logical-F.Exists p) = syntax.exists p
logical_step (Logical-F.Test c) = syntax.test c

-- a segment
abbrev pub segment_step : Segment-F syntax.Argument syntax.Comparable syntax.Logical syntax.Segment syntax.Selector syntax.Call syntax.Path → syntax.Segment
segment_step (Segment-F.Child ss) = syntax.child_segment (selectors_of ss.items)
segment_step (Segment-F.Descendant ss) = syntax.descendant_segment (selectors_of ss.items)

-- a selector
abbrev pub selector_step : Selector-F syntax.Argument syntax.Comparable syntax.Logical syntax.Segment syntax.Selector syntax.Call syntax.Path → syntax.Selector
selector_step (Selector-F.Name x) = syntax.name_selector (chars (string_bytes x))
selector_step Selector-F.Wildcard = syntax.wildcard_selector
selector_step (Selector-F.Index i) = syntax.index_selector i
selector_step (Selector-F.Slice first last step) = syntax.slice_selector first last step
selector_step (Selector-F.Filter l) = syntax.filter_selector l.value

-- a call of a function
abbrev pub call_step : Call-F syntax.Argument syntax.Comparable syntax.Logical syntax.Segment syntax.Selector syntax.Call syntax.Path → syntax.Call
call_step c = syntax.call (chars (string_bytes c.name)) (arguments_of c.arguments.items)

-- a query within a filter
abbrev pub path_step : Path-F syntax.Argument syntax.Comparable syntax.Logical syntax.Segment syntax.Selector syntax.Call syntax.Path → syntax.Path
path_step p = syntax.path (origin_view p.origin) (segments_of p.segments.items)

-- ---- a value of each type

-- an argument
abbrev pub argument_view : Argument → syntax.Argument
argument_view = fold-Argument syntax.Argument syntax.Comparable syntax.Logical syntax.Segment syntax.Selector syntax.Call syntax.Path argument_step comparable_step logical_step segment_step selector_step call_step path_step

-- a side of a comparison
abbrev pub comparable_view : Comparable → syntax.Comparable
comparable_view = fold-Comparable syntax.Argument syntax.Comparable syntax.Logical syntax.Segment syntax.Selector syntax.Call syntax.Path argument_step comparable_step logical_step segment_step selector_step call_step path_step

-- a logical expression
abbrev pub logical_view : Logical → syntax.Logical
logical_view = fold-Logical syntax.Argument syntax.Comparable syntax.Logical syntax.Segment syntax.Selector syntax.Call syntax.Path argument_step comparable_step logical_step segment_step selector_step call_step path_step

-- a segment
abbrev pub segment_view : Segment → syntax.Segment
segment_view = fold-Segment syntax.Argument syntax.Comparable syntax.Logical syntax.Segment syntax.Selector syntax.Call syntax.Path argument_step comparable_step logical_step segment_step selector_step call_step path_step

-- a selector
abbrev pub selector_view : Selector → syntax.Selector
selector_view = fold-Selector syntax.Argument syntax.Comparable syntax.Logical syntax.Segment syntax.Selector syntax.Call syntax.Path argument_step comparable_step logical_step segment_step selector_step call_step path_step

-- a call of a function
abbrev pub call_view : Call → syntax.Call
call_view = fold-Call syntax.Argument syntax.Comparable syntax.Logical syntax.Segment syntax.Selector syntax.Call syntax.Path argument_step comparable_step logical_step segment_step selector_step call_step path_step

-- a query within a filter
abbrev pub path_view : Path → syntax.Path
path_view = fold-Path syntax.Argument syntax.Comparable syntax.Logical syntax.Segment syntax.Selector syntax.Call syntax.Path argument_step comparable_step logical_step segment_step selector_step call_step path_step

-- segments, in order
abbrev pub segments_view : List Segment → syntax.Segments
segments_view ss = segments_of (map segment_view ss)

-- selectors
abbrev pub selectors_view : List Selector → syntax.Selectors
selectors_view ss = selectors_of (map selector_view ss)

-- parts of a logical expression
abbrev pub logicals_view : List Logical → syntax.Logicals
logicals_view ls = logicals_of (map logical_view ls)

-- arguments
abbrev pub arguments_view : List Argument → syntax.Arguments
arguments_view args = arguments_of (map argument_view args)
