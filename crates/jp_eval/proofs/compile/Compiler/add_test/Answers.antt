-- The slot after the others asks the test of the root.
use Rattle.std.proofs.Common.{refl}
use Rattle.jp_model.specs.Query.Syntax.{Logical}
use Rattle.jp_eval.specs.Programs.{Meant, expression, Table, condition_view, logical_or_none, table_of, test_view}
use Rattle.jp_eval.specs.Roots.{logical_from_root}
use Rattle.jp_eval.specs.declared.program.Condition.TheVariants as conditions
use Rattle.jp_eval.proofs.Compiled.{once_is}
use Rattle.jp_eval.proofs.Meanings.{slot_means}
use Rattle.std.specs.Prelude.{Option}
use Rattle.jp_eval.proofs.compile.Compiler.add_test.Goals as goal

pub returns : goal.returns
returns c =
    let made : Logical = test_view (table_of c.args.self.now.slots.items) c.args.test.value in
    let position = c.in_ok-position.position in
    slot_means c.args.self.now.slots.items c.add_slot.new.self.slots.items (expression made) (λ (table : Table). condition_view table (conditions.Once position)) (λ (o : Option Meant). logical_from_root (logical_or_none o)) position (logical_from_root made)
    (λ table. once_is table position) refl c.in_ok-position.ensures.added c.in_ok-position.ensures.position
