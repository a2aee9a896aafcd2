use Rattle.jp_masks.proofs.Scans.{marks_are}
use Rattle.jp_masks.proofs.TokenLaw.{marks_are_its_tokens}
use Rattle.jp_masks.proofs.laws.marks_are_tokens.Goals as goal

pub returns : goal.returns
returns c line t text = marks_are line _ (marks_are_its_tokens line t text).scans
