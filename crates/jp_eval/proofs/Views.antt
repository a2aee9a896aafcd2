-- What values of the program stand for, one level deep.
use Rattle.std.proofs.Common.{◌≡◌, ◌∙◌, sym, ap, Box, Global}
use Rattle.std.specs.Prelude.{string_bytes}
use Rattle.std.specs.Str.{chars}
use Rattle.jp_model.specs.Query.Syntax as syntax
use Rattle.jp_syntax.specs.View.{call_view, path_view, arguments_view, argument_view, segments_view, origin_view, logical_view, comparable_view, op_view, literal_view, argument_step, comparable_step, logical_step, segment_step, selector_step, call_step, path_step}
use Rattle.jp_syntax.specs.declared.tree.Call.{Call, fold_out-Call}
use Rattle.jp_syntax.specs.declared.tree.Path.{Path, fold_out-Path}
use Rattle.jp_syntax.specs.declared.tree.CompareOp.{CompareOp}
use Rattle.jp_syntax.specs.declared.tree.Comparable.{Comparable}
use Rattle.jp_syntax.specs.declared.tree.Argument.{fold-roll-Argument}
use Rattle.jp_syntax.specs.declared.tree.Argument.TheVariants as arguments
use Rattle.jp_syntax.specs.declared.tree.Literal.{Literal}
use Rattle.jp_syntax.specs.declared.tree.Logical.{Logical, fold-roll-Logical}
use Rattle.jp_syntax.specs.declared.tree.Logical.TheVariants as logicals
use Rattle.jp_syntax.specs.declared.tree.Argument.TheOpen.{Argument-F, Logical-F}

pub path_viewed : (p : Path) → path_view p ≡ syntax.path (origin_view p.origin) (segments_view p.segments.items)
path_viewed p = fold_out-Path syntax.Argument syntax.Comparable syntax.Logical syntax.Segment syntax.Selector syntax.Call syntax.Path argument_step comparable_step logical_step segment_step selector_step call_step path_step p

pub call_viewed : (c : Call) → call_view c ≡ syntax.call (chars (string_bytes c.name)) (arguments_view c.arguments.items)
call_viewed c = fold_out-Call syntax.Argument syntax.Comparable syntax.Logical syntax.Segment syntax.Selector syntax.Call syntax.Path argument_step comparable_step logical_step segment_step selector_step call_step path_step c

pub constant_viewed : (l : Literal) → argument_view (arguments.Constant l) ≡ syntax.constant_argument (literal_view l)
constant_viewed l = ap argument_view (sym (arguments.rolls-Constant l)) ∙ fold-roll-Argument syntax.Argument syntax.Comparable syntax.Logical syntax.Segment syntax.Selector syntax.Call syntax.Path argument_step comparable_step logical_step segment_step selector_step call_step path_step (Argument-F.Argument::Constant l)

pub nodes_viewed : (p : Path) → argument_view (arguments.Nodes p) ≡ syntax.nodes_argument (path_view p)
nodes_viewed p = ap argument_view (sym (arguments.rolls-Nodes p)) ∙ fold-roll-Argument syntax.Argument syntax.Comparable syntax.Logical syntax.Segment syntax.Selector syntax.Call syntax.Path argument_step comparable_step logical_step segment_step selector_step call_step path_step (Argument-F.Nodes p)

pub condition_viewed : (l : Box Logical Global) → argument_view (arguments.Condition l) ≡ syntax.condition (logical_view l.value)
condition_viewed l = ap argument_view (sym (arguments.rolls-Condition l)) ∙ fold-roll-Argument syntax.Argument syntax.Comparable syntax.Logical syntax.Segment syntax.Selector syntax.Call syntax.Path argument_step comparable_step logical_step segment_step selector_step call_step path_step (Argument-F.Condition l)

pub result_viewed : (c : Call) → argument_view (arguments.Result c) ≡ syntax.result_argument (call_view c)
result_viewed c = ap argument_view (sym (arguments.rolls-Result c)) ∙ fold-roll-Argument syntax.Argument syntax.Comparable syntax.Logical syntax.Segment syntax.Selector syntax.Call syntax.Path argument_step comparable_step logical_step segment_step selector_step call_step path_step (Argument-F.Argument::Result c)

pub compare_viewed : (a : Comparable) (op : CompareOp) (b : Comparable) → logical_view (logicals.Compare a op b) ≡ syntax.compare (comparable_view a) (op_view op) (comparable_view b)
compare_viewed a op b = ap logical_view (sym (logicals.rolls-Compare a op b)) ∙ fold-roll-Logical syntax.Argument syntax.Comparable syntax.Logical syntax.Segment syntax.Selector syntax.Call syntax.Path argument_step comparable_step logical_step segment_step selector_step call_step path_step (Logical-F.Compare a op b)
