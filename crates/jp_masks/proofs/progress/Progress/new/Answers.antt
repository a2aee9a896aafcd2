use Rattle.std.proofs.Common.{refl}
use Rattle.jp_model.specs.Json.Marks.{marks}
use Rattle.jp_masks.specs.Machine.{before}
use Rattle.jp_masks.specs.Sinks.{sink_of}
use Rattle.jp_masks.proofs.progress.Progress.new.Goals as goal

pub returns-clause-start : goal.returns-clause-start
unfolding sink_of marks before
returns-clause-start c sink empty = record {
  framed = refl;
  scanned = refl;
  in_blocks = refl;
  stored = λ t. record { rows = empty.rows t; positions = empty.positions t; before = empty.positions_before t; start = 0 };
  known = refl;
  tested = c.new.ensures;
}
