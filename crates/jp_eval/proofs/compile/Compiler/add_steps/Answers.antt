-- The slot after the others has the steps.
use Rattle.std.proofs.Common.{refl}
use Rattle.std.specs.Prelude.{Option}
use Rattle.jp_model.specs.Query.Syntax.{Segments}
use Rattle.jp_eval.specs.Programs.{Meant, tail, Table, step_view, steps_view, table_of, tail_or_none}
use Rattle.jp_eval.specs.declared.program.Step.TheVariants as steps
use Rattle.jp_eval.proofs.Compiled.{known_is}
use Rattle.jp_eval.proofs.Meanings.{slot_means}
use Rattle.jp_eval.proofs.compile.Compiler.add_steps.Goals as goal

pub returns : goal.returns
returns c =
    let made : Segments = steps_view (table_of c.args.self.now.slots.items) c.args.steps.items in
    let position = c.in_ok-position.position in
    slot_means c.args.self.now.slots.items c.add_slot.new.self.slots.items (tail made) (λ (table : Table). step_view table (steps.Known position)) (λ (o : Option Meant) (more : Segments). tail_or_none o) position (λ (more : Segments). made)
    (λ table. known_is table position) refl c.in_ok-position.ensures.added c.in_ok-position.ensures.position
