use Rattle.jp_laws.proofs.CutPieces.{never_truncated}
use Rattle.jp_laws.proofs.cutting.lines_are_never_truncated.Goals as goal

pub returns : goal.returns
returns c = never_truncated
