use Rattle.jp_masks.proofs.Windows.{odd_runs_lem}
use Rattle.jp_masks.proofs.block.odd_runs.Goals as goal

pub returns : goal.returns
returns c = odd_runs_lem c.args.word
