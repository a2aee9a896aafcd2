-- What the parts of a compiled query mean, and those of the query that they are made of, one level deep.
use Rattle.std.proofs.Common.{◌≡◌, ◌∙◌, ℕ, ℤ, Bool, sym, ap, Vec, Global, Box, Option}
use Rattle.jp_model.specs.Query.Syntax as syntax
use Rattle.jp_syntax.specs.View.{segment_view, selectors_view, selector_view, logicals_view, logical_view, comparable_view, call_view, path_view, op_view, literal_view, argument_step, comparable_step, logical_step, segment_step, selector_step, call_step, path_step}
use Rattle.jp_syntax.specs.declared.tree.Call.{Call}
use Rattle.jp_syntax.specs.declared.tree.Path.{Path}
use Rattle.jp_syntax.specs.declared.tree.CompareOp.{CompareOp}
use Rattle.jp_syntax.specs.declared.tree.Comparable.{fold-roll-Comparable}
use Rattle.jp_syntax.specs.declared.tree.Comparable.TheVariants as comparables
use Rattle.jp_syntax.specs.declared.tree.Literal.{Literal}
use Rattle.jp_syntax.specs.declared.tree.Selector.{Selector, fold-roll-Selector}
use Rattle.jp_syntax.specs.declared.tree.Selector.TheVariants as selectors
use Rattle.jp_syntax.specs.declared.tree.Segment.{fold-roll-Segment}
use Rattle.jp_syntax.specs.declared.tree.Segment.TheVariants as segments
use Rattle.jp_syntax.specs.declared.tree.Logical.{Logical, fold-roll-Logical}
use Rattle.jp_syntax.specs.declared.tree.Logical.TheVariants as logicals
use Rattle.jp_syntax.specs.declared.tree.Argument.TheOpen.{Logical-F, Selector-F, Segment-F, Comparable-F}
use Rattle.jp_eval.specs.Calls.{length_call, count_call, value_call}
use Rattle.jp_eval.specs.Roots.{logical_from_root, side_from_root}
use Rattle.jp_eval.specs.Programs.{Onward, Table, argument_of, here, tail_at, logical_at, side_at, choice_step, condition_step, test_step, operand_step, spelled_step, sought_step, found_step, step_step, choice_view, condition_view, test_view, operand_view, spelled_view, sought_view, found_view, step_view, steps_view, choices_view, conditions_view}
use Rattle.jp_eval.specs.declared.leaves.LiteralPattern.{LiteralPattern}
use Rattle.jp_eval.specs.declared.question.Key.{Key}
use Rattle.jp_eval.specs.declared.question.Question.{Question}
use Rattle.jp_eval.specs.Keys.{keys_view}
use Rattle.jp_eval.specs.Questions.{passing_name, question_view}
use Rattle.jp_eval.specs.declared.program.Step.{Step, fold-roll-Step}
use Rattle.jp_eval.specs.declared.program.Step.TheVariants as steps
use Rattle.jp_eval.specs.declared.program.Choice.{Choice, fold-roll-Choice}
use Rattle.jp_eval.specs.declared.program.Choice.TheVariants as choices
use Rattle.jp_eval.specs.declared.program.Condition.{Condition, fold-roll-Condition}
use Rattle.jp_eval.specs.declared.program.Condition.TheVariants as conditions
use Rattle.jp_eval.specs.declared.program.Test.{Test, fold-roll-Test}
use Rattle.jp_eval.specs.declared.program.Test.TheVariants as tests
use Rattle.jp_eval.specs.declared.program.Operand.{Operand, fold-roll-Operand}
use Rattle.jp_eval.specs.declared.program.Operand.TheVariants as operands
use Rattle.jp_eval.specs.declared.program.Spelled.{Spelled, fold-roll-Spelled}
use Rattle.jp_eval.specs.declared.program.Spelled.TheVariants as spellings
use Rattle.jp_eval.specs.declared.program.Sought.{Sought, fold-roll-Sought}
use Rattle.jp_eval.specs.declared.program.Sought.TheVariants as things
use Rattle.jp_eval.specs.declared.program.Found.{Found, fold-roll-Found}
use Rattle.jp_eval.specs.declared.program.Found.TheVariants as finds
use Rattle.jp_eval.specs.declared.program.Choice.TheOpen.{Choice-F, Condition-F, Found-F, Operand-F, Sought-F, Spelled-F, Step-F, Test-F}

pub child_seen : (x : Vec Selector Global) → segment_view (segments.Child x) ≡ syntax.child_segment (selectors_view x.items)
child_seen x = ap segment_view (sym (segments.rolls-Child x)) ∙ fold-roll-Segment syntax.Argument syntax.Comparable syntax.Logical syntax.Segment syntax.Selector syntax.Call syntax.Path argument_step comparable_step logical_step segment_step selector_step call_step path_step (Segment-F.Child x)

pub descendant_seen : (x : Vec Selector Global) → segment_view (segments.Descendant x) ≡ syntax.descendant_segment (selectors_view x.items)
descendant_seen x = ap segment_view (sym (segments.rolls-Descendant x)) ∙ fold-roll-Segment syntax.Argument syntax.Comparable syntax.Logical syntax.Segment syntax.Selector syntax.Call syntax.Path argument_step comparable_step logical_step segment_step selector_step call_step path_step (Segment-F.Descendant x)

pub filter_seen : (x : Box Logical Global) → selector_view (selectors.Filter x) ≡ syntax.filter_selector (logical_view x.value)
filter_seen x = ap selector_view (sym (selectors.rolls-Filter x)) ∙ fold-roll-Selector syntax.Argument syntax.Comparable syntax.Logical syntax.Segment syntax.Selector syntax.Call syntax.Path argument_step comparable_step logical_step segment_step selector_step call_step path_step (Selector-F.Filter x)

pub or_seen : (x : Vec Logical Global) → logical_view (logicals.Or x) ≡ syntax.or_all (logicals_view x.items)
or_seen x = ap logical_view (sym (logicals.rolls-Or x)) ∙ fold-roll-Logical syntax.Argument syntax.Comparable syntax.Logical syntax.Segment syntax.Selector syntax.Call syntax.Path argument_step comparable_step logical_step segment_step selector_step call_step path_step (Logical-F.Or x)

pub and_seen : (x : Vec Logical Global) → logical_view (logicals.And x) ≡ syntax.and_all (logicals_view x.items)
and_seen x = ap logical_view (sym (logicals.rolls-And x)) ∙ fold-roll-Logical syntax.Argument syntax.Comparable syntax.Logical syntax.Segment syntax.Selector syntax.Call syntax.Path argument_step comparable_step logical_step segment_step selector_step call_step path_step (Logical-F.And x)

pub not_seen : (x : Box Logical Global) → logical_view (logicals.Not x) ≡ syntax.negated (logical_view x.value)
not_seen x = ap logical_view (sym (logicals.rolls-Not x)) ∙ fold-roll-Logical syntax.Argument syntax.Comparable syntax.Logical syntax.Segment syntax.Selector syntax.Call syntax.Path argument_step comparable_step logical_step segment_step selector_step call_step path_step (Logical-F.Not x)

pub exists_seen : (x : Path) → logical_view (logicals.Exists x) ≡ syntax.exists (path_view x)
exists_seen x = ap logical_view (sym (logicals.rolls-Exists x)) ∙ fold-roll-Logical syntax.Argument syntax.Comparable syntax.Logical syntax.Segment syntax.Selector syntax.Call syntax.Path argument_step comparable_step logical_step segment_step selector_step call_step path_step (Logical-F.Exists x)

pub test_seen : (x : Call) → logical_view (logicals.Test x) ≡ syntax.test (call_view x)
test_seen x = ap logical_view (sym (logicals.rolls-Test x)) ∙ fold-roll-Logical syntax.Argument syntax.Comparable syntax.Logical syntax.Segment syntax.Selector syntax.Call syntax.Path argument_step comparable_step logical_step segment_step selector_step call_step path_step (Logical-F.Test x)

pub constant_seen : (x : Literal) → comparable_view (comparables.Constant x) ≡ syntax.constant (literal_view x)
constant_seen x = ap comparable_view (sym (comparables.rolls-Constant x)) ∙ fold-roll-Comparable syntax.Argument syntax.Comparable syntax.Logical syntax.Segment syntax.Selector syntax.Call syntax.Path argument_step comparable_step logical_step segment_step selector_step call_step path_step (Comparable-F.Comparable::Constant x)

pub single_seen : (x : Path) → comparable_view (comparables.Single x) ≡ syntax.single (path_view x)
single_seen x = ap comparable_view (sym (comparables.rolls-Single x)) ∙ fold-roll-Comparable syntax.Argument syntax.Comparable syntax.Logical syntax.Segment syntax.Selector syntax.Call syntax.Path argument_step comparable_step logical_step segment_step selector_step call_step path_step (Comparable-F.Single x)

pub result_seen : (x : Call) → comparable_view (comparables.Result x) ≡ syntax.result (call_view x)
result_seen x = ap comparable_view (sym (comparables.rolls-Result x)) ∙ fold-roll-Comparable syntax.Argument syntax.Comparable syntax.Logical syntax.Segment syntax.Selector syntax.Call syntax.Path argument_step comparable_step logical_step segment_step selector_step call_step path_step (Comparable-F.Comparable::Result x)

pub child_is : (table : Table) (x : Vec Choice Global) → step_view table (steps.Child x) ≡ syntax.segment (syntax.child_segment (choices_view table x.items))
child_is table x = ap (step_view table) (sym (steps.rolls-Child x)) ∙ fold-roll-Step syntax.Selector syntax.Logical syntax.Comparable syntax.Comparable syntax.Comparable syntax.Argument Onward syntax.Logical choice_step (condition_step table) found_step operand_step (sought_step table) spelled_step (step_step table) test_step (Step-F.Child x)

pub descendant_is : (table : Table) (x : Vec Choice Global) → step_view table (steps.Descendant x) ≡ syntax.segment (syntax.descendant_segment (choices_view table x.items))
descendant_is table x = ap (step_view table) (sym (steps.rolls-Descendant x)) ∙ fold-roll-Step syntax.Selector syntax.Logical syntax.Comparable syntax.Comparable syntax.Comparable syntax.Argument Onward syntax.Logical choice_step (condition_step table) found_step operand_step (sought_step table) spelled_step (step_step table) test_step (Step-F.Descendant x)

pub slice_is : (table : Table) (first last step : Option ℤ) → choice_view table (choices.Slice first last step) ≡ syntax.slice_selector first last step
slice_is table first last step = ap (choice_view table) (sym (choices.rolls-Slice first last step)) ∙ fold-roll-Choice syntax.Selector syntax.Logical syntax.Comparable syntax.Comparable syntax.Comparable syntax.Argument Onward syntax.Logical choice_step (condition_step table) found_step operand_step (sought_step table) spelled_step (step_step table) test_step (Choice-F.Slice first last step)

pub filter_is : (table : Table) (x : Condition) → choice_view table (choices.Filter x) ≡ syntax.filter_selector (condition_view table x)
filter_is table x = ap (choice_view table) (sym (choices.rolls-Filter x)) ∙ fold-roll-Choice syntax.Selector syntax.Logical syntax.Comparable syntax.Comparable syntax.Comparable syntax.Argument Onward syntax.Logical choice_step (condition_step table) found_step operand_step (sought_step table) spelled_step (step_step table) test_step (Choice-F.Filter x)

pub tests_is : (table : Table) (x : Box Test Global) → condition_view table (conditions.Test x) ≡ test_view table x.value
tests_is table x = ap (condition_view table) (sym (conditions.rolls-Test x)) ∙ fold-roll-Condition syntax.Selector syntax.Logical syntax.Comparable syntax.Comparable syntax.Comparable syntax.Argument Onward syntax.Logical choice_step (condition_step table) found_step operand_step (sought_step table) spelled_step (step_step table) test_step (Condition-F.Test x)

pub once_is : (table : Table) (position : ℕ) → condition_view table (conditions.Once position) ≡ logical_from_root (logical_at table position)
once_is table position = ap (condition_view table) (sym (conditions.rolls-Once position)) ∙ fold-roll-Condition syntax.Selector syntax.Logical syntax.Comparable syntax.Comparable syntax.Comparable syntax.Argument Onward syntax.Logical choice_step (condition_step table) found_step operand_step (sought_step table) spelled_step (step_step table) test_step (Condition-F.Condition::Once position)

pub known_is : (table : Table) (position : ℕ) → step_view table (steps.Known position) ≡ (λ (more : syntax.Segments). tail_at table position)
known_is table position = ap (step_view table) (sym (steps.rolls-Known position)) ∙ fold-roll-Step syntax.Selector syntax.Logical syntax.Comparable syntax.Comparable syntax.Comparable syntax.Argument Onward syntax.Logical choice_step (condition_step table) found_step operand_step (sought_step table) spelled_step (step_step table) test_step (Step-F.Known position)

pub single_is : (table : Table) (keys : Vec Key Global) (q : Question) → test_view table (tests.Single keys q) ≡ question_view q (here (keys_view keys.items))
single_is table keys q = ap (test_view table) (sym (tests.rolls-Single keys q)) ∙ fold-roll-Test syntax.Selector syntax.Logical syntax.Comparable syntax.Comparable syntax.Comparable syntax.Argument Onward syntax.Logical choice_step (condition_step table) found_step operand_step (sought_step table) spelled_step (step_step table) test_step (Test-F.Test::Single keys q)

pub or_is : (table : Table) (x : Vec Condition Global) → test_view table (tests.Or x) ≡ syntax.or_all (conditions_view table x.items)
or_is table x = ap (test_view table) (sym (tests.rolls-Or x)) ∙ fold-roll-Test syntax.Selector syntax.Logical syntax.Comparable syntax.Comparable syntax.Comparable syntax.Argument Onward syntax.Logical choice_step (condition_step table) found_step operand_step (sought_step table) spelled_step (step_step table) test_step (Test-F.Or x)

pub and_is : (table : Table) (x : Vec Condition Global) → test_view table (tests.And x) ≡ syntax.and_all (conditions_view table x.items)
and_is table x = ap (test_view table) (sym (tests.rolls-And x)) ∙ fold-roll-Test syntax.Selector syntax.Logical syntax.Comparable syntax.Comparable syntax.Comparable syntax.Argument Onward syntax.Logical choice_step (condition_step table) found_step operand_step (sought_step table) spelled_step (step_step table) test_step (Test-F.And x)

pub exists_is : (table : Table) (x : Vec Step Global) → test_view table (tests.Exists x) ≡ syntax.exists (here (steps_view table x.items))
exists_is table x = ap (test_view table) (sym (tests.rolls-Exists x)) ∙ fold-roll-Test syntax.Selector syntax.Logical syntax.Comparable syntax.Comparable syntax.Comparable syntax.Argument Onward syntax.Logical choice_step (condition_step table) found_step operand_step (sought_step table) spelled_step (step_step table) test_step (Test-F.Exists x)

pub compare_is : (table : Table) (a : Operand) (op : CompareOp) (b : Operand) → test_view table (tests.Compare a op b) ≡ syntax.compare (operand_view table a) (op_view op) (operand_view table b)
compare_is table a op b = ap (test_view table) (sym (tests.rolls-Compare a op b)) ∙ fold-roll-Test syntax.Selector syntax.Logical syntax.Comparable syntax.Comparable syntax.Comparable syntax.Argument Onward syntax.Logical choice_step (condition_step table) found_step operand_step (sought_step table) spelled_step (step_step table) test_step (Test-F.Compare a op b)

pub passes_is : (table : Table) (whole : Bool) (text : Operand) (pattern : Spelled) → test_view table (tests.Passes whole text pattern) ≡ syntax.test (syntax.call (passing_name whole) (syntax.argument (argument_of (operand_view table text)) (syntax.argument (spelled_view table pattern) syntax.no_arguments)))
passes_is table whole text pattern = ap (test_view table) (sym (tests.rolls-Passes whole text pattern)) ∙ fold-roll-Test syntax.Selector syntax.Logical syntax.Comparable syntax.Comparable syntax.Comparable syntax.Argument Onward syntax.Logical choice_step (condition_step table) found_step operand_step (sought_step table) spelled_step (step_step table) test_step (Test-F.Passes whole text pattern)

pub operand_is : (table : Table) (x : Box Sought Global) → operand_view table (operands.Sought x) ≡ sought_view table x.value
operand_is table x = ap (operand_view table) (sym (operands.rolls-Sought x)) ∙ fold-roll-Operand syntax.Selector syntax.Logical syntax.Comparable syntax.Comparable syntax.Comparable syntax.Argument Onward syntax.Logical choice_step (condition_step table) found_step operand_step (sought_step table) spelled_step (step_step table) test_step (Operand-F.Operand::Sought x)

pub literal_is : (table : Table) (x : Box LiteralPattern Global) → spelled_view table (spellings.Literal x) ≡ syntax.constant_argument (literal_view x.value.constant.literal)
literal_is table x = ap (spelled_view table) (sym (spellings.rolls-Literal x)) ∙ fold-roll-Spelled syntax.Selector syntax.Logical syntax.Comparable syntax.Comparable syntax.Comparable syntax.Argument Onward syntax.Logical choice_step (condition_step table) found_step operand_step (sought_step table) spelled_step (step_step table) test_step (Spelled-F.Literal x)

pub spelled_is : (table : Table) (x : Box Sought Global) → spelled_view table (spellings.Sought x) ≡ argument_of (sought_view table x.value)
spelled_is table x = ap (spelled_view table) (sym (spellings.rolls-Sought x)) ∙ fold-roll-Spelled syntax.Selector syntax.Logical syntax.Comparable syntax.Comparable syntax.Comparable syntax.Argument Onward syntax.Logical choice_step (condition_step table) found_step operand_step (sought_step table) spelled_step (step_step table) test_step (Spelled-F.Spelled::Sought x)

pub found_is : (table : Table) (x : Found) → sought_view table (things.Found x) ≡ found_view table x
found_is table x = ap (sought_view table) (sym (things.rolls-Found x)) ∙ fold-roll-Sought syntax.Selector syntax.Logical syntax.Comparable syntax.Comparable syntax.Comparable syntax.Argument Onward syntax.Logical choice_step (condition_step table) found_step operand_step (sought_step table) spelled_step (step_step table) test_step (Sought-F.Found x)

pub sought_once : (table : Table) (position : ℕ) → sought_view table (things.Once position) ≡ side_from_root (side_at table position)
sought_once table position = ap (sought_view table) (sym (things.rolls-Once position)) ∙ fold-roll-Sought syntax.Selector syntax.Logical syntax.Comparable syntax.Comparable syntax.Comparable syntax.Argument Onward syntax.Logical choice_step (condition_step table) found_step operand_step (sought_step table) spelled_step (step_step table) test_step (Sought-F.Sought::Once position)

pub only_found : (table : Table) (x : Vec Step Global) → found_view table (finds.Only x) ≡ syntax.single (here (steps_view table x.items))
only_found table x = ap (found_view table) (sym (finds.rolls-Only x)) ∙ fold-roll-Found syntax.Selector syntax.Logical syntax.Comparable syntax.Comparable syntax.Comparable syntax.Argument Onward syntax.Logical choice_step (condition_step table) found_step operand_step (sought_step table) spelled_step (step_step table) test_step (Found-F.Only x)

pub length_found : (table : Table) (x : Box Operand Global) → found_view table (finds.Length x) ≡ syntax.result (length_call (argument_of (operand_view table x.value)))
length_found table x = ap (found_view table) (sym (finds.rolls-Length x)) ∙ fold-roll-Found syntax.Selector syntax.Logical syntax.Comparable syntax.Comparable syntax.Comparable syntax.Argument Onward syntax.Logical choice_step (condition_step table) found_step operand_step (sought_step table) spelled_step (step_step table) test_step (Found-F.Length x)

pub count_found : (table : Table) (x : Vec Step Global) → found_view table (finds.Count x) ≡ syntax.result (count_call (here (steps_view table x.items)))
count_found table x = ap (found_view table) (sym (finds.rolls-Count x)) ∙ fold-roll-Found syntax.Selector syntax.Logical syntax.Comparable syntax.Comparable syntax.Comparable syntax.Argument Onward syntax.Logical choice_step (condition_step table) found_step operand_step (sought_step table) spelled_step (step_step table) test_step (Found-F.Count x)

pub value_found : (table : Table) (x : Vec Step Global) → found_view table (finds.Value x) ≡ syntax.result (value_call (here (steps_view table x.items)))
value_found table x = ap (found_view table) (sym (finds.rolls-Value x)) ∙ fold-roll-Found syntax.Selector syntax.Logical syntax.Comparable syntax.Comparable syntax.Comparable syntax.Argument Onward syntax.Logical choice_step (condition_step table) found_step operand_step (sought_step table) spelled_step (step_step table) test_step (Found-F.Value x)
