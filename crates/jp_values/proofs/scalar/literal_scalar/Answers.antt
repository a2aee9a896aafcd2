use Rattle.std.proofs.Common.{ap}
use Rattle.jp_syntax.specs.View.{literal_view}
use Rattle.jp_values.proofs.Leaves.{spelling_is_read, spelling_short}
use Rattle.jp_values.proofs.scalar.literal_scalar.Goals as goal

pub read-requires : goal.read-requires
read-requires c = spelling_short _ _ _ (ap literal_view c.in-Number.is) c.requires c.deref.ensures.value

pub returns-in-Err : goal.returns-in-Err
returns-in-Err c = absurd (spelling_is_read _ _ _ c.in-Err.field-0 (ap literal_view c.in-Number.is) c.requires c.deref.ensures.value c.in-Err.ensures)
