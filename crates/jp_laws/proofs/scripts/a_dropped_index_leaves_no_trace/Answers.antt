use Rattle.jp_laws.proofs.DroppedIndex.{leaves_no_trace}
use Rattle.jp_laws.proofs.scripts.a_dropped_index_leaves_no_trace.Goals as goal

pub returns : goal.returns
returns c = leaves_no_trace
