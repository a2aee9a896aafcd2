-- The parts that are left, and the steps after them, mean the query.
use Rattle.std.proofs.Common.{◌++◌, List, length, map}
use Rattle.jp_eval.specs.Programs.{Means, Onward, Table, step_view, steps_in}
use Rattle.jp_eval.specs.declared.program.Slot.{Slot}
use Rattle.jp_eval.proofs.Linking.{Links, steps_of}
use Rattle.jp_eval.proofs.compile.Compiler.link.Given as goal

abbrev pub invariant-loop-part : goal.invariant-loop-part
invariant-loop-part l = (old : List Slot) (seen : List Onward) → Means old l.fn.self.slots.items (λ (table : Table). map (step_view table) (steps_in l.fn.parts)) seen → Links old l.self.slots.items (steps_of l.before.items ++ l.steps.items) seen

abbrev pub decreases-loop-part : goal.decreases-loop-part
decreases-loop-part l = length l.before.items
