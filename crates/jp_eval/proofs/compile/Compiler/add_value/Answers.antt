-- The slot after the others finds the value at the root.
use Rattle.std.proofs.Common.{refl}
use Rattle.jp_model.specs.Query.Syntax.{Comparable}
use Rattle.jp_eval.specs.Programs.{Meant, side, Table, found_view, side_or_none, sought_view, table_of}
use Rattle.jp_eval.specs.Roots.{side_from_root}
use Rattle.jp_eval.specs.declared.program.Sought.TheVariants as things
use Rattle.jp_eval.proofs.Compiled.{sought_once}
use Rattle.jp_eval.proofs.Meanings.{slot_means}
use Rattle.std.specs.Prelude.{Option}
use Rattle.jp_eval.proofs.compile.Compiler.add_value.Goals as goal

pub returns : goal.returns
returns c =
    let made : Comparable = found_view (table_of c.args.self.now.slots.items) c.args.found in
    let position = c.in_ok-position.position in
    slot_means c.args.self.now.slots.items c.add_slot.new.self.slots.items (side made) (λ (table : Table). sought_view table (things.Once position)) (λ (o : Option Meant). side_from_root (side_or_none o)) position (side_from_root made)
    (λ table. sought_once table position) refl c.in_ok-position.ensures.added c.in_ok-position.ensures.position
