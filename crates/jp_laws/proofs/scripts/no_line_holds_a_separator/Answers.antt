use Rattle.jp_laws.proofs.Runs.{stays_clean}
use Rattle.jp_laws.proofs.scripts.no_line_holds_a_separator.Goals as goal

pub returns : goal.returns
returns c = λ q a s. stays_clean q a s
