-- What a compiled query means: the segments that it was made of. The meaning of slots is given by a table.
use Rattle.std.specs.Prelude.{◌≡◌, ℕ, List, [], ◌∷◌, ◌++◌, flat_map, map, Option, Some, None, slice_get}
use Rattle.jp_model.specs.Query.Syntax as syntax
use Rattle.jp_syntax.specs.View.{selectors_of, logicals_of, literal_view, op_view}
use Rattle.jp_model.specs.Query.Singular.{step_selector}
use Rattle.jp_eval.specs.Calls.{length_call, count_call, value_call}
use Rattle.jp_eval.specs.Keys.{key_view, key_segment, keys_view}
use Rattle.jp_eval.specs.Questions.{passing_name, question_view}
use Rattle.jp_eval.specs.Roots.{logical_from_root, side_from_root}
use Rattle.jp_eval.specs.declared.program.Step.{Step, fold-Step}
use Rattle.jp_eval.specs.declared.program.Choice.{Choice, fold-Choice}
use Rattle.jp_eval.specs.declared.program.Condition.{Condition, fold-Condition}
use Rattle.jp_eval.specs.declared.program.Test.{Test, fold-Test}
use Rattle.jp_eval.specs.declared.program.Operand.{Operand, fold-Operand}
use Rattle.jp_eval.specs.declared.program.Spelled.{Spelled, fold-Spelled}
use Rattle.jp_eval.specs.declared.program.Sought.{Sought, fold-Sought}
use Rattle.jp_eval.specs.declared.program.Found.{Found, fold-Found}
use Rattle.jp_eval.specs.declared.program.Slot.{Slot}
use Rattle.jp_eval.specs.declared.ways.Parts.{Parts}
use Rattle.jp_eval.specs.declared.program.Slot.TheVariants as slots
use Rattle.jp_eval.specs.declared.program.Choice.TheOpen.{Choice-F, Condition-F, Found-F, Operand-F, Sought-F, Spelled-F, Step-F, Test-F}

-- what is asked once: whether an expression holds, the value of a side of a comparison, or what segments select
pub data Meant : Type 0 where
  expression : syntax.Logical → Meant
  side : syntax.Comparable → Meant
  tail : syntax.Segments → Meant

-- what each slot asks
abbrev pub Table : Type 0
Table = List Meant

-- no part of an expression, a side without a value, and segments that select nothing
abbrev pub no_logical : syntax.Logical
no_logical = syntax.or_all syntax.no_logicals

abbrev pub no_side : syntax.Comparable
no_side = syntax.result (syntax.call [] syntax.no_arguments)

abbrev pub no_tail : syntax.Segments
no_tail = syntax.segment (syntax.child_segment syntax.no_selectors) syntax.no_segments

-- those where there is none
abbrev pub logical_or_none : Option Meant → syntax.Logical
logical_or_none (Some (expression l)) = l
logical_or_none (Some (side a)) = no_logical
logical_or_none (Some (tail ss)) = no_logical
logical_or_none None = no_logical

abbrev pub side_or_none : Option Meant → syntax.Comparable
side_or_none (Some (expression l)) = no_side
side_or_none (Some (side a)) = a
side_or_none (Some (tail ss)) = no_side
side_or_none None = no_side

abbrev pub tail_or_none : Option Meant → syntax.Segments
tail_or_none (Some (expression l)) = no_tail
tail_or_none (Some (side a)) = no_tail
tail_or_none (Some (tail ss)) = ss
tail_or_none None = no_tail

-- what the slot at a position asks
abbrev pub logical_at : Table → ℕ → syntax.Logical
logical_at table position = logical_or_none (slice_get table position)

abbrev pub side_at : Table → ℕ → syntax.Comparable
side_at table position = side_or_none (slice_get table position)

abbrev pub tail_at : Table → ℕ → syntax.Segments
tail_at table position = tail_or_none (slice_get table position)

-- a step is seen as a query by the segments after it
abbrev pub Onward : Type 0
Onward = syntax.Segments → syntax.Segments

-- the query of some steps, each of them seen
abbrev pub onward : List Onward → syntax.Segments
onward [] = syntax.no_segments
onward (step ∷ steps) = step (onward steps)

-- a value as the argument of a function (RFC 9535, section 2.4)
abbrev pub argument_of : syntax.Comparable → syntax.Argument
argument_of (syntax.constant c) = syntax.constant_argument c
argument_of (syntax.single p) = syntax.nodes_argument p
argument_of (syntax.result c) = syntax.result_argument c

-- a query from the node that is asked about
abbrev pub here : syntax.Segments → syntax.Path
here ss = syntax.path syntax.current ss

-- ---- one level, with what is inside already seen

-- a selector
abbrev pub choice_step : Choice-F syntax.Selector syntax.Logical syntax.Comparable syntax.Comparable syntax.Comparable syntax.Argument Onward syntax.Logical → syntax.Selector
choice_step (Choice-F.Choice::One key) = step_selector (key_view key)
choice_step Choice-F.Wildcard = syntax.wildcard_selector
choice_step (Choice-F.Slice first last step) = syntax.slice_selector first last step
choice_step (Choice-F.Filter l) = syntax.filter_selector l

-- a logical expression; what is asked of the root says `$` where it said `@`
abbrev pub condition_step : Table → Condition-F syntax.Selector syntax.Logical syntax.Comparable syntax.Comparable syntax.Comparable syntax.Argument Onward syntax.Logical → syntax.Logical
condition_step table (Condition-F.Test l) = l.value
condition_step table (Condition-F.Condition::Once position) = logical_from_root (logical_at table position)

-- the same of what is asked of a node
abbrev pub test_step : Test-F syntax.Selector syntax.Logical syntax.Comparable syntax.Comparable syntax.Comparable syntax.Argument Onward syntax.Logical → syntax.Logical
test_step (Test-F.Test::Single keys question) = question_view question (here (keys_view keys.items))
test_step (Test-F.Or ls) = syntax.or_all (logicals_of ls.items)
test_step (Test-F.And ls) = syntax.and_all (logicals_of ls.items)
test_step (Test-F.Not l) = syntax.negated l.value
test_step (Test-F.Exists ss) = syntax.exists (here (onward ss.items))
test_step (Test-F.Compare a op b) = syntax.compare a (op_view op) b
test_step (Test-F.Passes whole text pattern) = syntax.test (syntax.call (passing_name whole) (syntax.argument (argument_of text) (syntax.argument pattern syntax.no_arguments)))

-- a side of a comparison
abbrev pub operand_step : Operand-F syntax.Selector syntax.Logical syntax.Comparable syntax.Comparable syntax.Comparable syntax.Argument Onward syntax.Logical → syntax.Comparable
operand_step (Operand-F.Constant c) = syntax.constant (literal_view c.value.literal)
operand_step (Operand-F.Operand::Sought a) = a.value

-- an argument that gives a pattern
abbrev pub spelled_step : Spelled-F syntax.Selector syntax.Logical syntax.Comparable syntax.Comparable syntax.Comparable syntax.Argument Onward syntax.Logical → syntax.Argument
spelled_step (Spelled-F.Literal p) = syntax.constant_argument (literal_view p.value.constant.literal)
spelled_step (Spelled-F.Spelled::Sought a) = argument_of a.value

-- a query or a call whose answer is a value; what is asked of the root says `$` where it said `@`
abbrev pub sought_step : Table → Sought-F syntax.Selector syntax.Logical syntax.Comparable syntax.Comparable syntax.Comparable syntax.Argument Onward syntax.Logical → syntax.Comparable
sought_step table (Sought-F.Found a) = a
sought_step table (Sought-F.Sought::Once position) = side_from_root (side_at table position)

-- the same of what is found at a node
abbrev pub found_step : Found-F syntax.Selector syntax.Logical syntax.Comparable syntax.Comparable syntax.Comparable syntax.Argument Onward syntax.Logical → syntax.Comparable
found_step (Found-F.Found::Single keys) = syntax.single (here (keys_view keys.items))
found_step (Found-F.Only ss) = syntax.single (here (onward ss.items))
found_step (Found-F.Length a) = syntax.result (length_call (argument_of a.value))
found_step (Found-F.Count ss) = syntax.result (count_call (here (onward ss.items)))
found_step (Found-F.Value ss) = syntax.result (value_call (here (onward ss.items)))

-- a segment, and those after it; the steps of a slot end the query
abbrev pub step_step : Table → Step-F syntax.Selector syntax.Logical syntax.Comparable syntax.Comparable syntax.Comparable syntax.Argument Onward syntax.Logical → Onward
step_step table (Step-F.Step::One key) = syntax.segment (key_segment key)
step_step table (Step-F.Child ss) = syntax.segment (syntax.child_segment (selectors_of ss.items))
step_step table (Step-F.Descendant ss) = syntax.segment (syntax.descendant_segment (selectors_of ss.items))
step_step table (Step-F.Known position) = λ more. tail_at table position

-- ---- a value of each type

-- the selector that a choice was made of
abbrev pub choice_view : Table → Choice → syntax.Selector
choice_view table = fold-Choice syntax.Selector syntax.Logical syntax.Comparable syntax.Comparable syntax.Comparable syntax.Argument Onward syntax.Logical choice_step (condition_step table) found_step operand_step (sought_step table) spelled_step (step_step table) test_step

-- the logical expression of a condition
abbrev pub condition_view : Table → Condition → syntax.Logical
condition_view table = fold-Condition syntax.Selector syntax.Logical syntax.Comparable syntax.Comparable syntax.Comparable syntax.Argument Onward syntax.Logical choice_step (condition_step table) found_step operand_step (sought_step table) spelled_step (step_step table) test_step

-- that of a test
abbrev pub test_view : Table → Test → syntax.Logical
test_view table = fold-Test syntax.Selector syntax.Logical syntax.Comparable syntax.Comparable syntax.Comparable syntax.Argument Onward syntax.Logical choice_step (condition_step table) found_step operand_step (sought_step table) spelled_step (step_step table) test_step

-- the side of a comparison
abbrev pub operand_view : Table → Operand → syntax.Comparable
operand_view table = fold-Operand syntax.Selector syntax.Logical syntax.Comparable syntax.Comparable syntax.Comparable syntax.Argument Onward syntax.Logical choice_step (condition_step table) found_step operand_step (sought_step table) spelled_step (step_step table) test_step

-- the argument that gives a pattern
abbrev pub spelled_view : Table → Spelled → syntax.Argument
spelled_view table = fold-Spelled syntax.Selector syntax.Logical syntax.Comparable syntax.Comparable syntax.Comparable syntax.Argument Onward syntax.Logical choice_step (condition_step table) found_step operand_step (sought_step table) spelled_step (step_step table) test_step

-- the query, or the call, whose answer is a value
abbrev pub sought_view : Table → Sought → syntax.Comparable
sought_view table = fold-Sought syntax.Selector syntax.Logical syntax.Comparable syntax.Comparable syntax.Comparable syntax.Argument Onward syntax.Logical choice_step (condition_step table) found_step operand_step (sought_step table) spelled_step (step_step table) test_step

-- that of what is found at a node
abbrev pub found_view : Table → Found → syntax.Comparable
found_view table = fold-Found syntax.Selector syntax.Logical syntax.Comparable syntax.Comparable syntax.Comparable syntax.Argument Onward syntax.Logical choice_step (condition_step table) found_step operand_step (sought_step table) spelled_step (step_step table) test_step

-- the segment of a step, and those after it
abbrev pub step_view : Table → Step → Onward
step_view table = fold-Step syntax.Selector syntax.Logical syntax.Comparable syntax.Comparable syntax.Comparable syntax.Argument Onward syntax.Logical choice_step (condition_step table) found_step operand_step (sought_step table) spelled_step (step_step table) test_step

-- the segments of some steps, in order
abbrev pub steps_view : Table → List Step → syntax.Segments
steps_view table ss = onward (map (step_view table) ss)

-- the steps of a query that has parts
abbrev pub steps_in : Parts → List Step
steps_in parts = flat_map (λ part. part.items) parts.before.items ++ parts.last.items

-- the selectors of a segment
abbrev pub choices_view : Table → List Choice → syntax.Selectors
choices_view table ss = selectors_of (map (choice_view table) ss)

-- the parts of a conjunction or a disjunction
abbrev pub conditions_view : Table → List Condition → syntax.Logicals
conditions_view table ls = logicals_of (map (condition_view table) ls)

-- ---- slots

-- what a slot asks, where what those before it ask is seen already
abbrev pub slot_view : Table → Slot → Meant
slot_view table (slots.Test test) = expression (test_view table test.value)
slot_view table (slots.Value found) = side (found_view table found)
slot_view table (slots.Steps steps) = tail (steps_view table steps.items)

-- the table that some slots make after those of another one
abbrev pub table_behind : Table → List Slot → Table
table_behind table [] = table
table_behind table (slot ∷ more) = table_behind (table ++ slot_view table slot ∷ []) more

-- what each slot asks: it refers to those before it
abbrev pub table_of : List Slot → Table
table_of = table_behind []

-- from the old slots it came to these
abbrev pub Grows : List Slot → List Slot → Type 0
Grows old new = (more : Table) × (table_of new ≡ table_of old ++ more)

-- From the old slots it came to these, and what was compiled means this, whatever slots come after them.
pub record Means {A : Type 0} (old new : List Slot) (view : Table → A) (meaning : A) : Type 0 where
  pub grows : Grows old new
  pub is : (more : Table) → view (table_of new ++ more) ≡ meaning
